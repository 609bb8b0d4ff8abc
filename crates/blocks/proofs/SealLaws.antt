-- One span and its check, a block: what stands where, and that a right check is what sealing writes.
--     length_sealed .. block_ok_sealed    a list that begins with a sealed span, taken apart
--     sealed_stores                      the check stored over whatever two bytes stood behind its span
--     block_ok_high, block_ok_low          what a right check says of its two bytes
--     sealed-take                        a right check stands as sealing would write it
--     block_ok_check                      the test of a check, as the code makes it: on both bytes at once
use mathlib.Core.Bool.{Bool, true, false, ◌&&◌}
use mathlib.Core.List.{List, [], ◌∷◌, ◌++◌, append_assoc}
use mathlib.Core.Path.{◌≡◌, refl, ap, sym, ◌∙◌}
use Prim.Native.Nat.{ℕ, suc, ◌+◌, ◌*◌, ◌≤◌, ◌<◌, ◌/◌, ◌%◌}
use native.Mathlib.Numerals.{add-one}
use native.Mathlib.Omega.{arith}
use borrow.Author.Tests.{eq-eqb, ne_eqb, eqb-true, eqb-false}
use lib.Dec.{eqb}
use lib.ListN.{length, take, drop, get_or, set, length-append}
use lib.Seq.{take_at, drop_at, get_or_at, get_or-drop, take-suc, set-append_seam}
use Rattle.ground.proofs.BehindLaws.{set-append-add}
use Rattle.ground.proofs.CaseLaws.{and_left, and_right}
use Rattle.crc.specs.Check.{check_of}
use Rattle.blocks.specs.Places.{check_at}
use Rattle.blocks.specs.Spans.{sealed, block_ok}

pub length_sealed : (q : List ℕ) → length (sealed q) ≡ length q + 2
unfolding sealed
length_sealed q = length-append q (check_of q / 256 ∷ check_of q % 256 ∷ [])

-- the whole list that begins with a sealed span, taken apart
pub sealed-append : (q t : List ℕ) → sealed q ++ t ≡ q ++ check_of q / 256 ∷ check_of q % 256 ∷ t
unfolding sealed
sealed-append q t = append_assoc q (check_of q / 256 ∷ check_of q % 256 ∷ []) t

pub sealed_stores :
    (q t : List ℕ) (high low : ℕ)
    → set (set (q ++ high ∷ low ∷ t) (length q) (check_of q / 256)) (length q + 1) (check_of q % 256) ≡ sealed q ++ t
sealed_stores q t high low =
    rw (
      set-append_seam q high (low ∷ t) (check_of q / 256),
      set-append-add q (check_of q / 256 ∷ low ∷ t) 1 (check_of q % 256),
    ) (sym (sealed-append q t))

module _ (q t : List ℕ) {k : ℕ} (e : length q ≡ k) where
  pub take_sealed : take k (sealed q ++ t) ≡ q
  take_sealed = rw (sealed-append q t) (take_at q (check_of q / 256 ∷ check_of q % 256 ∷ t) k e)

  pub drop_sealed : drop (k + 2) (sealed q ++ t) ≡ t
  drop_sealed = drop_at (sealed q) t (k + 2) (length_sealed q ∙ ap (λ (n : ℕ). n + 2) e)

  pub get_or_sealed_high : get_or (sealed q ++ t) k 0 ≡ check_of q / 256
  get_or_sealed_high = rw (sealed-append q t) (get_or_at q (check_of q / 256) (check_of q % 256 ∷ t) 0 k e)

  pub get_or_sealed_low : get_or (sealed q ++ t) (k + 1) 0 ≡ check_of q % 256
  get_or_sealed_low =
      rw (sealed-append q t, ← append_assoc q (check_of q / 256 ∷ []) (check_of q % 256 ∷ t))
      (get_or_at (q ++ check_of q / 256 ∷ []) (check_of q % 256) t 0 (k + 1)
      (length-append q (check_of q / 256 ∷ []) ∙ ap (λ (n : ℕ). n + 1) e))

  pub block_ok_sealed : block_ok k (sealed q ++ t) ≡ true
  unfolding block_ok
  block_ok_sealed =
      let high = check_of q / 256 in
      let low = check_of q % 256 in
      rw (take_sealed, get_or_sealed_high, get_or_sealed_low, eq-eqb high high refl, eq-eqb low low refl)

module _ (k : ℕ) (s : List ℕ) (ok : block_ok k s ≡ true) where
  pub block_ok_high : get_or s k 0 ≡ check_of (take k s) / 256
  unfolding block_ok
  block_ok_high =
      let c = check_of (take k s) in
      eqb-true _ _ (and_left (eqb (get_or s k 0) (c / 256)) (eqb (get_or s (k + 1) 0) (c % 256)) ok)

  pub block_ok_low : get_or s (k + 1) 0 ≡ check_of (take k s) % 256
  unfolding block_ok
  block_ok_low =
      let c = check_of (take k s) in
      eqb-true _ _ (and_right (eqb (get_or s k 0) (c / 256)) (eqb (get_or s (k + 1) 0) (c % 256)) ok)

  pub sealed-take : k + 2 ≤ length s → sealed (take k s) ≡ take (k + 2) s
  unfolding sealed
  sealed-take fits =
      let e : k + 2 ≡ suc (suc k) = omega arith in
      let one = take-suc s k 0 (omega arith) in
      let two = take-suc s (suc k) 0 (omega arith) in
      rw (← block_ok_high, ← block_ok_low, add-one k, e, two, one, append_assoc)

-- two bytes are equal where the number that they make is
two_eqb : (high low c : ℕ) → low < 256 → (a b : Bool) → eqb high (c / 256) ≡ a → eqb low (c % 256) ≡ b
    → (a && b) ≡ eqb (high * 256 + low) c
two_eqb high low c byte true true h l =
    sym (eq-eqb (high * 256 + low) c (omega (arith, eqb-true high (c / 256) h, eqb-true low (c % 256) l)))
two_eqb high low c byte false b h l =
    sym (ne_eqb (high * 256 + low) c (λ e. eqb-false high (c / 256) h (omega arith)))
two_eqb high low c byte true false h l =
    sym (ne_eqb (high * 256 + low) c (λ e. eqb-false low (c % 256) l (omega arith)))

pub block_ok_check : (s : List ℕ) (at k : ℕ) → get_or s (at + k + 1) 0 < 256
    → block_ok k (drop at s) ≡ eqb (check_at s (at + k)) (check_of (take k (drop at s)))
unfolding block_ok
block_ok_check s at k byte =
    let next : at + (k + 1) ≡ at + k + 1 = omega arith in
    rw (get_or-drop at s k 0, get_or-drop at s (k + 1) 0, next)
    (two_eqb (get_or s (at + k) 0) (get_or s (at + k + 1) 0) (check_of (take k (drop at s))) byte _ _ refl refl)
