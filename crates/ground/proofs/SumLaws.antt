-- Sums of lists (specs/Sums), place by place: the laws of `bit_xor` once more, and those of lists.
--     cons                         equal heads and equal tails are equal lists
--     length-xors                  a sum of two lists of one length has it too
--     xors_comm, xors_assoc        neither order nor brackets matter, whatever the lengths
--     xors_swap                    the middle two of four change places
--     xors_self                    a list added to itself is zeros
--     xors_zeros, zeros-xors       zeros change nothing
--     xors_cancel                  a list added twice is gone
--     xors_equal                   two lists of one length whose sum is zeros are one
--     xors-append                  fronts of one length are added by themselves
--     bytes-xors                   a sum of bytes is bytes
--     get_or-xors                    one element of a sum
-- Assumes nothing.
use mathlib.Core.Path.{◌≡◌, refl, sym, ap, ap₂, ◌∙◌}
use mathlib.Core.List.{List, [], ◌∷◌, ◌++◌}
use Prim.Native.Nat.{ℕ, zero, suc}
use native.Mathlib.Omega.{arith}
use lib.Bits.{bit_xor, xor_comm, xor_self, xor_zero_r, xor_lt}
use lib.ListN.{length, get_or, replicate}
use Rattle.ground.specs.Bytes.{Bytes}
use Rattle.ground.specs.Sums.{xors}
use Rattle.ground.proofs.ByteLaws.{bytes-nil, bytes-cons}
use Rattle.ground.proofs.XorLaws.{xor_assoc, xor_cancel}

-- equal heads and equal tails
pub cons : {x y : ℕ} {u v : List ℕ} → x ≡ y → u ≡ v → x ∷ u ≡ y ∷ v
cons p q = ap₂ {C = List ℕ} (λ (x : ℕ) (u : List ℕ). x ∷ u) p q

pub length-xors : (u v : List ℕ) → length u ≡ length v → length (xors u v) ≡ length u
unfolding xors
length-xors [] v e = refl
length-xors (x ∷ u) [] e = absurd (omega arith)
length-xors (x ∷ u) (y ∷ v) e = ap suc (length-xors u v (omega arith))

pub xors_comm : (u v : List ℕ) → xors u v ≡ xors v u
unfolding xors
xors_comm [] [] = refl
xors_comm [] (y ∷ v) = refl
xors_comm (x ∷ u) [] = refl
xors_comm (x ∷ u) (y ∷ v) = cons (xor_comm x y) (xors_comm u v)

pub xors_assoc : (u v w : List ℕ) → xors (xors u v) w ≡ xors u (xors v w)
unfolding xors
xors_assoc [] v w = refl
xors_assoc (x ∷ u) [] w = refl
xors_assoc (x ∷ u) (y ∷ v) [] = refl
xors_assoc (x ∷ u) (y ∷ v) (z ∷ w) = cons (xor_assoc x y z) (xors_assoc u v w)

xors_last : (u v w : List ℕ) → xors (xors u v) w ≡ xors (xors u w) v
xors_last u v w = xors_assoc u v w ∙ ap (xors u) (xors_comm v w) ∙ sym (xors_assoc u w v)

pub xors_swap : (s t u v : List ℕ) → xors (xors s t) (xors u v) ≡ xors (xors s u) (xors t v)
xors_swap s t u v =
    sym (xors_assoc (xors s t) u v) ∙ ap (λ (w : List ℕ). xors w v) (xors_last s t u) ∙ xors_assoc (xors s u) t v

pub xors_self : (u : List ℕ) → xors u u ≡ replicate (length u) 0
unfolding xors
xors_self [] = refl
xors_self (x ∷ u) = cons (xor_self x) (xors_self u)

pub xors_zeros : (u : List ℕ) → xors u (replicate (length u) 0) ≡ u
unfolding xors
xors_zeros [] = refl
xors_zeros (x ∷ u) = cons (xor_zero_r x) (xors_zeros u)

pub zeros-xors : (u : List ℕ) → xors (replicate (length u) 0) u ≡ u
zeros-xors u = xors_comm (replicate (length u) 0) u ∙ xors_zeros u

pub xors_cancel : (u v : List ℕ) → length u ≡ length v → xors u (xors u v) ≡ v
unfolding xors
xors_cancel [] [] e = refl
xors_cancel [] (y ∷ v) e = absurd (omega arith)
xors_cancel (x ∷ u) [] e = absurd (omega arith)
xors_cancel (x ∷ u) (y ∷ v) e = cons (xor_cancel x y) (xors_cancel u v (omega arith))

pub xors_equal : (u v : List ℕ) → length u ≡ length v → xors u v ≡ replicate (length u) 0 → u ≡ v
xors_equal u v e z = sym (xors_zeros u) ∙ ap (xors u) (sym z) ∙ xors_cancel u v e

pub xors-append :
    (s t u v : List ℕ) → length s ≡ length u → xors (s ++ t) (u ++ v) ≡ xors s u ++ xors t v
unfolding xors
xors-append [] t [] v e = refl
xors-append [] t (y ∷ u) v e = absurd (omega arith)
xors-append (x ∷ s) t [] v e = absurd (omega arith)
xors-append (x ∷ s) t (y ∷ u) v e = cons refl (xors-append s t u v (omega arith))

pub bytes-xors : (u v : List ℕ) → Bytes u → Bytes v → Bytes (xors u v)
unfolding xors
bytes-xors [] v b c = bytes-nil
bytes-xors (x ∷ u) [] b c = bytes-nil
bytes-xors (x ∷ u) (y ∷ v) b c =
    bytes-cons (bit_xor x y) (xors u v) (xor_lt 8 x y (b 0) (c 0)) (bytes-xors u v (λ j. b (suc j)) (λ j. c (suc j)))

pub get_or-xors : (u v : List ℕ) (j : ℕ) → length u ≡ length v
    → get_or (xors u v) j 0 ≡ bit_xor (get_or u j 0) (get_or v j 0)
unfolding xors
get_or-xors [] [] j e = refl
get_or-xors [] (y ∷ v) j e = absurd (omega arith)
get_or-xors (x ∷ u) [] j e = absurd (omega arith)
get_or-xors (x ∷ u) (y ∷ v) zero e = refl
get_or-xors (x ∷ u) (y ∷ v) (suc j) e = get_or-xors u v j (omega arith)
