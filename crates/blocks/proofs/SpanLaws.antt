-- Spans with their checks, for every list of lengths: writing and reading undo each other, and all checks are right
-- exactly when the bytes are what writing gives.
--     total ks                               the number of payload bytes
--     payload_sealed .. framed-append        one block off the front of what is read, one span off what is written
--     length_framed, length-payload          how long what is written and what is read is
--     payload_framed, first_wrong_framed      reading what was written gives it back, and all its checks are right
--     first_wrong-cons, framed-payload        where all checks are right, writing what is read gives the bytes back
use mathlib.Core.Bool.{Bool, true, false, cond}
use mathlib.Core.List.{List, [], ◌∷◌, ◌++◌, append_assoc}
use mathlib.Core.Path.{◌≡◌, refl, ap, ap₂, sym, ◌∙◌}
use Prim.Native.Nat.{ℕ, ◌+◌, ◌≤◌}
use native.Mathlib.Omega.{arith}
use lib.ListN.{length, take, drop, length-append, length-drop, drop_of_length-le, take-append-drop}
use lib.Seq.{take_at, drop_at, take-add, length-take-le}
use Rattle.std.specs.Prelude.{Option, Some, None}
use Rattle.blocks.specs.Spans.{sealed, framed, payload, block_ok, first_wrong, size_of}
use Rattle.blocks.proofs.SealLaws.{length_sealed, take_sealed, drop_sealed, block_ok_sealed, sealed-take}

unfoldable pub total : List ℕ → ℕ
total [] = 0
total (k ∷ ks) = k + total ks

module _ (ks q t : List ℕ) {k : ℕ} (e : length q ≡ k) where
  payload_sealed : payload (k ∷ ks) (sealed q ++ t) ≡ q ++ payload ks t
  unfolding payload
  payload_sealed = rw (take_sealed q t e, drop_sealed q t e)

  first_wrong_sealed : (b : ℕ) → first_wrong b (k ∷ ks) (sealed q ++ t) ≡ first_wrong (b + 1) ks t
  unfolding first_wrong
  first_wrong_sealed b = rw (block_ok_sealed q t e, drop_sealed q t e)

  framed-append : framed (k ∷ ks) (q ++ t) ≡ sealed q ++ framed ks t
  unfolding framed
  framed-append = rw (take_at q t k e, drop_at q t k e)

pub length_framed : (ks p : List ℕ) → total ks ≤ length p → length (framed ks p) ≡ size_of ks
unfolding framed size_of total
length_framed [] p h = refl
length_framed (k ∷ ks) p h =
    let rest = length_framed ks (drop k p) (simp length-drop (omega arith)) in
    rw (length-append, rest, length_sealed, length-take-le k p (omega arith))

pub length-payload : (ks s : List ℕ) → size_of ks ≤ length s → length (payload ks s) ≡ total ks
unfolding payload size_of total
length-payload [] s h = refl
length-payload (k ∷ ks) s h =
    let rest = length-payload ks (drop (k + 2) s) (simp length-drop (omega arith)) in
    rw (length-append, rest, length-take-le k s (omega arith))

pub payload_framed : (ks p t : List ℕ) → length p ≡ total ks → payload ks (framed ks p ++ t) ≡ p
unfolding framed payload total
payload_framed [] p t h = sym (drop_of_length-le p {i = 0} (omega arith))
payload_framed (k ∷ ks) p t h =
    let rest = payload_framed ks (drop k p) t (simp length-drop (omega arith)) in
    rw append_assoc
    (payload_sealed ks (take k p) (framed ks (drop k p) ++ t) (length-take-le k p (omega arith))
    ∙ ap (λ (x : List ℕ). take k p ++ x) rest ∙ take-append-drop k p)

pub first_wrong_framed : (b : ℕ) (ks p t : List ℕ) → total ks ≤ length p → first_wrong b ks (framed ks p ++ t) ≡ None
unfolding framed first_wrong total
first_wrong_framed b [] p t h = refl
first_wrong_framed b (k ∷ ks) p t h =
    rw append_assoc
    (first_wrong_sealed ks (take k p) (framed ks (drop k p) ++ t) (length-take-le k p (omega arith)) b
    ∙ first_wrong_framed (b + 1) ks (drop k p) t (simp length-drop (omega arith)))

cond_right : (t : Bool) (b : ℕ) (r : Option ℕ) → cond t r (Some b) ≡ None → (t ≡ true) × (r ≡ None)
cond_right true b r h = (refl, h)
cond_right false b r h = (cc, cc)

-- a walk that finds no wrong check found the first one right, and goes on
pub first_wrong-cons :
    (b k : ℕ) (ks s : List ℕ) → first_wrong b (k ∷ ks) s ≡ None
    → (block_ok k s ≡ true) × (first_wrong (b + 1) ks (drop (k + 2) s) ≡ None)
unfolding first_wrong
first_wrong-cons b k ks s h = cond_right (block_ok k s) b (first_wrong (b + 1) ks (drop (k + 2) s)) h

pub framed-payload :
    (b : ℕ) (ks s : List ℕ) → size_of ks ≤ length s → first_wrong b ks s ≡ None
    → framed ks (payload ks s) ≡ take (size_of ks) s
unfolding framed payload size_of
framed-payload b [] s fits right = refl
framed-payload b (k ∷ ks) s fits right =
    let r = first_wrong-cons b k ks s right in
    let rest = framed-payload (b + 1) ks (drop (k + 2) s) (simp length-drop (omega arith)) r.1 in
    framed-append ks (take k s) (payload ks (drop (k + 2) s)) (length-take-le k s (omega arith))
    ∙ ap₂ (λ (x y : List ℕ). x ++ y) (sealed-take k s r.0 (omega arith)) rest
    ∙ sym (take-add (k + 2) (size_of ks) s)
