-- A word by its remainder: how the scan begins, and what comes out.
--     scan_start    the state in which the scan begins, from a locator for the values of the word
--     zeros_told    whether all values are 0, by comparing them with zeros
--     repaired      what it leaves is the code word near, if its values are all 0; else none is near
-- Assumes nothing.
use Rattle.std.proofs.Common.{Bool, true, false, cond, List, ◌⊎◌, inl, inr, ⊎_elim, ◌≡◌, refl, sym, ap, ap₂, subst, ◌∙◌}
use Rattle.std.proofs.Common.{ℕ, suc, ◌+◌, ◌-◌, ◌≤◌, ◌<◌, arith, eqb, length, get_or, take, drop, replicate}
use Rattle.std.proofs.Common.{length-drop, take_all, get_or-drop, ext_get_or}
use Rattle.std.specs.Prelude.{◌↔◌}
use mathlib.Core.Bool.{false≢true}
use lib.ListN.{get_or-replicate}
use Rattle.std.specs.Cmp.Lexicographic.{pointwise}
use Rattle.std.proofs.lemmas.Bool.Decides.{Decides-eqb}
use Rattle.std.proofs.lemmas.Slice.Eq.{slice_eq-Decides}
use Rattle.ground.specs.Bytes.{Bytes}
use Rattle.ground.proofs.ApartLaws.{apart_self}
use Rattle.ground.proofs.ByteLaws.{bytes_take, bytes_drop}
use Rattle.ground.proofs.XorLaws.{xor_equal}
use Rattle.field.specs.Polynomials.{value_at}
use Rattle.field.proofs.StepLaws.{step_to}
use Rattle.field.proofs.DistanceLaws.{weight_apart}
use Rattle.locators.proofs.LocatorLaws.{located}
use Rattle.locating.specs.Locates.{Locates}
use Rattle.locating.proofs.ReduceLaws.{combined_part}
use Rattle.codewords.specs.CodeBlocks.{CodeBlock}
use Rattle.proposals.specs.Near.{Near, nearest_of}
use Rattle.proposals.proofs.NearestLaws.{near, nearest_is, nearest_near}
use Rattle.repairing.specs.Inner.{Held, Word, Coefficients, Going, Ended}
use Rattle.repairing.specs.Remains.{Remains}
use Rattle.repairing.proofs.ErrorLaws.{errors, errors_count, errors_bytes, error_at, errors_values}
use Rattle.repairing.proofs.GoingLaws.{word_of, going_of}

-- r tells whether all of the values s are 0
abbrev pub AllZero : List ℕ → Bool → Type 0
AllZero s r = (r ≡ true) ↔ ((k : ℕ) → k < 32 → get_or s k 0 ≡ 0)

-- ---- the beginning

module _ {s v : List ℕ} {d : ℕ} (found : Locates s v d) where
  abbrev low : ℕ
  low = 16 - d

  -- what of the locator's coefficients the scan is lent
  abbrev part : List ℕ
  part = take (17 - low) (drop low v)

  part_is : part ≡ drop low v
  part_is = take_all (17 - low) (drop low v) (omega (arith, length-drop low v, found.poly.count))

  pub length_part : length part ≡ suc d
  length_part =
      let e : length (drop low v) ≡ suc d = omega (arith, length-drop low v, found.poly.count, found.degree) in
      ap length part_is ∙ e

  part_lead : get_or part 0 0 ≡ 1
  part_lead =
      let e : low + 0 ≡ low = omega arith in
      ap (λ (l : List ℕ). get_or l 0 0) part_is ∙ get_or-drop low v 0 0 ∙ ap (λ (k : ℕ). get_or v k 0) e
      ∙ found.poly.lead

  part_bytes : Bytes part
  part_bytes = bytes_take (17 - low) (drop low v) (bytes_drop low v found.poly.bytes)

  part-coefficients : Coefficients part (length part - 1)
  part-coefficients =
      record {
        room = omega (arith, length_part);
        short = omega (arith, length_part, found.degree);
        bytes = part_bytes;
        lead = omega (arith, part_lead);
      }

  module _ {w : List ℕ} (word : Word w w s) where
    module _ (c : List ℕ) (n : Near 16 w c) (i : ℕ) (here : i < length w) where
      abbrev es : List ℕ
      es = errors word c n

      wrong_or-zero : (get_or es i 0 ≡ 0) ⊎ (value_at (step_to (length es - suc i)) part ≡ 0)
      wrong_or-zero =
          located 112 es s (errors_bytes word c n) (errors_values word c n) part part_bytes
          (omega (arith, errors_count word c n, word.most)) (omega (arith, weight_apart w c, n.few))
          (omega (arith, length_part, found.degree)) (λ k h. combined_part s k found.poly ∙ found.all k h) i
          (omega (arith, errors_count word c n))

      zero_there : value_at (step_to (length es - suc i)) part ≡ 0
          → value_at (step_to (length w - suc i)) (take (suc (length part - 1)) part) ≡ 0
      zero_there z =
          let whole = take_all (suc (length part - 1)) part (omega arith) in
          ap₂ (λ (k : ℕ) (l : List ℕ). value_at (step_to (k - suc i)) l) (sym (errors_count word c n)) whole ∙ z

      settled_start : (get_or w i 0 ≡ get_or c i 0)
          ⊎ ((i + 0 < length w) × (value_at (step_to (length w - suc i)) (take (suc (length part - 1)) part) ≡ 0))
      settled_start =
          ⊎_elim (λ z. inl (xor_equal (get_or w i 0) (get_or c i 0) (sym (error_at word c n i) ∙ z)))
          (λ z. inr (omega arith, zero_there z)) wrong_or-zero

    pub scan_start : Going w w s part (length part - 1) 0
    scan_start =
        going_of word (omega (arith, apart_self w, length_part, found.degree)) part-coefficients word.some
        settled_start

pub word_start : {w rest s : List ℕ} → 0 < length w → length w ≤ 255 → Bytes w → Remains w rest → Held rest s
    → Word w w s
word_start some most bytes remains held =
    word_of some most refl bytes refl
    (record { count = held.count; values = λ k h. held.values k h ∙ remains k h })

-- ---- the outcome

pub zeros_told : (s : List ℕ) {r : Bool} → length s ≡ 32 → r ≡ pointwise eqb s (replicate 32 0) → AllZero s r
zeros_told s {r} count told =
    let same = slice_eq-Decides Decides-eqb s (replicate 32 0) r told in (
      λ t k h. ap (λ (l : List ℕ). get_or l k 0) (same.0 t) ∙ get_or-replicate 32 k 0 0 h,
      λ z. same.1
          (ext_get_or 0 s (replicate 32 0) count
          (λ k h. z k (omega arith) ∙ sym (get_or-replicate 32 k 0 0 (omega arith)))),
    )

module _ {u w s : List ℕ} (bytes : Bytes u) (end : Ended u w s) where
  code : ((k : ℕ) → k < 32 → get_or s k 0 ≡ 0) → CodeBlock w
  code z k h = sym (end.word.held.values k h) ∙ z k h

  none_near : AllZero s false → Near 16 u (nearest_of 16 u) → ⊥
  none_near told n =
      let e = end.right (nearest_of 16 u) n in
      false≢true (told.1 (λ k h. end.word.held.values k h ∙ subst CodeBlock (sym e) n.code_word k h))

  pub repaired : (r : Bool) → AllZero s r → cond r w u ≡ nearest_of 16 u
  repaired true told =
      let k = end.word in
      sym (nearest_near 16 u (omega arith) k.most bytes w
      (near k.bytes (code (told.0 refl)) k.count k.first end.few))
  repaired false told = ⊎_elim (λ n. absurd (none_near told n)) (λ p. sym p.1) (nearest_is 16 u bytes)
