-- Names of meters, sent and read back, and compared.
--     two_at-two_bytes        a number from its two bytes
--     two_at-mod, two_at-div  the two bytes of a number that was read
--     name_at_append         the name that is read where it was sent
--     bytes_from n s k, take-drop    n bytes of s from place k on, one by one
--     name_bytes_name_at      the bytes of a name that was read are those that stood there
--     length_name_of, get_or_name_of    M and A of a content are eight bytes, from its byte 1 on
--     same_bytes_self, same_bytes_equal    the same bytes are those that are equal
--     bytes_eq-same_bytes    the same bytes are those that Rust's comparison finds equal
use mathlib.Core.List.{List, [], ◌∷◌, ◌++◌}
use mathlib.Core.Path.{◌≡◌, refl, ◌∙◌, ap}
use mathlib.Core.Bool.{true, false≢true, ◌&&◌}
use Rattle.std.specs.Str.{bytes_eq}
use Prim.Native.Nat.{ℕ, zero, suc, ◌+◌, ◌*◌, ◌/◌, ◌%◌, ◌<◌, ◌≤◌}
use native.Mathlib.Numerals.{add-one, add-two, add-three, add-four, add_five, add_six, add_seven}
use native.Mathlib.Omega.{arith}
use borrow.Author.Tests.{eqb-true, eq-eqb}
use lib.Dec.{eqb}
use lib.ListN.{length, get_or, take, drop, length-take, length-drop}
use lib.Seq.{drop-cons, get_or-take, get_or-drop, get_or-append_seam, get_or-append-add}
use Rattle.ground.specs.Bytes.{Bytes}
use Rattle.ground.proofs.CaseLaws.{and_left, and_right}
use Rattle.address.specs.Names.{two_at, name_bytes, name_at, name_of, same_bytes}
use Rattle.address.specs.declared.Name.{Name}

pub two_at-two_bytes : (x : ℕ) → x % 256 + 256 * (x / 256) ≡ x
two_at-two_bytes x = omega arith

module _ (s : List ℕ) (bytes : Bytes s) (k : ℕ) where
  pub two_at-mod : two_at s k % 256 ≡ get_or s k 0
  two_at-mod = omega (arith, bytes k)

  pub two_at-div : two_at s k / 256 ≡ get_or s (k + 1) 0
  two_at-div = omega (arith, bytes k)

pub name_at_append : (xs : List ℕ) (n : Name) (t : List ℕ) → name_at (xs ++ (name_bytes n ++ t)) (length xs) ≡ n
name_at_append xs n t = simp (get_or-append_seam, get_or-append-add, two_at-two_bytes)

-- n bytes from place k on, one by one
abbrev pub bytes_from : ℕ → List ℕ → ℕ → List ℕ
bytes_from zero s k = []
bytes_from (suc n) s k = get_or s k 0 ∷ bytes_from n s (suc k)

pub take-drop : (n : ℕ) (s : List ℕ) (k : ℕ) → k + n ≤ length s → take n (drop k s) ≡ bytes_from n s k
take-drop zero s k h = refl
take-drop (suc n) s k h = rw (drop-cons s k 0 (omega arith), take-drop n s (suc k) (omega arith))

pub name_bytes_name_at :
    (s : List ℕ) (bytes : Bytes s) (k : ℕ) → k + 8 ≤ length s → name_bytes (name_at s k) ≡ take 8 (drop k s)
name_bytes_name_at s bytes k h =
    rw (two_at-mod s bytes k, two_at-div s bytes k, take-drop 8 s k h)
    (simp (add-one, add-two, add-three, add-four, add_five, add_six, add_seven))

pub length_name_of : (s : List ℕ) → 8 < length s → length (name_of s) ≡ 8
length_name_of s h = simp (length-take, length-drop) (omega arith)

pub get_or_name_of : (s : List ℕ) (i : ℕ) → i < 8 → get_or (name_of s) i 0 ≡ get_or s (i + 1) 0
get_or_name_of s i h =
    let e : 1 + i ≡ i + 1 = omega arith in
    get_or-take 8 (drop 1 s) i 0 h ∙ get_or-drop 1 s i 0 ∙ ap (λ (k : ℕ). get_or s k 0) e

pub same_bytes_self : (a : List ℕ) → same_bytes a a ≡ true
unfolding same_bytes
same_bytes_self [] = refl
same_bytes_self (x ∷ a) = rw (eq-eqb x x refl) (same_bytes_self a)

pub same_bytes_equal : (a b : List ℕ) → same_bytes a b ≡ true → a ≡ b
unfolding same_bytes
same_bytes_equal [] [] e = refl
same_bytes_equal [] (y ∷ b) e = absurd (false≢true e)
same_bytes_equal (x ∷ a) [] e = absurd (false≢true e)
same_bytes_equal (x ∷ a) (y ∷ b) e =
    let head : x ≡ y = eqb-true x y (and_left _ _ e) in
    let tail : a ≡ b = same_bytes_equal a b (and_right (eqb x y) _ e) in
    cc

pub bytes_eq-same_bytes : (a b : List ℕ) → bytes_eq a b ≡ same_bytes a b
unfolding same_bytes
bytes_eq-same_bytes [] [] = refl
bytes_eq-same_bytes [] (y ∷ b) = refl
bytes_eq-same_bytes (x ∷ a) [] = refl
bytes_eq-same_bytes (x ∷ a) (y ∷ b) = ap (λ t. eqb x y && t) (bytes_eq-same_bytes a b)
