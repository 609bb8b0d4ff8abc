-- Lists of bytes (specs/Bytes).
--     bytes-nil, bytes-cons, bytes-append, bytes_take, bytes_drop, bytes-set
--                  lists made of lists of bytes are such lists
use mathlib.Core.List.{List, [], ◌∷◌, ◌++◌}
use Prim.Native.Nat.{ℕ, zero, suc, ◌<◌}
use native.Mathlib.Omega.{arith}
use lib.ListN.{take, drop, set}
use Rattle.ground.specs.Bytes.{Bytes}

pub bytes-nil : Bytes []
bytes-nil j = omega arith

pub bytes-cons : (x : ℕ) (s : List ℕ) → x < 256 → Bytes s → Bytes (x ∷ s)
bytes-cons x s h b zero = h
bytes-cons x s h b (suc j) = b j

pub bytes-append : (s t : List ℕ) → Bytes s → Bytes t → Bytes (s ++ t)
bytes-append [] t b c = c
bytes-append (x ∷ s) t b c = bytes-cons x (s ++ t) (b 0) (bytes-append s t (λ j. b (suc j)) c)

pub bytes_take : (n : ℕ) (s : List ℕ) → Bytes s → Bytes (take n s)
bytes_take zero s b = bytes-nil
bytes_take (suc n) [] b = bytes-nil
bytes_take (suc n) (x ∷ s) b = bytes-cons x (take n s) (b 0) (bytes_take n s (λ j. b (suc j)))

pub bytes_drop : (n : ℕ) (s : List ℕ) → Bytes s → Bytes (drop n s)
bytes_drop zero s b = b
bytes_drop (suc n) [] b = bytes-nil
bytes_drop (suc n) (x ∷ s) b = bytes_drop n s (λ j. b (suc j))

pub bytes-set : (s : List ℕ) (i x : ℕ) → Bytes s → x < 256 → Bytes (set s i x)
bytes-set [] i x b h = b
bytes-set (y ∷ s) zero x b h = bytes-cons x s h (λ j. b (suc j))
bytes-set (y ∷ s) (suc i) x b h = bytes-cons y (set s i x) (b 0) (bytes-set s i x (λ j. b (suc j)) h)
