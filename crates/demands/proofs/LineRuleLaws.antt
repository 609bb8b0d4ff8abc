-- Decoding, encoding, one word and the chip reader are judged as document 01 says (specs/Ladders).
use mathlib.Core.Bool.{Bool, true, false, cond, false≢true}
use mathlib.Core.List.{List}
use mathlib.Core.Logic.{inl, inr, ⊎_elim}
use mathlib.Core.Path.{◌≡◌, refl, sym, ◌∙◌, ap, subst}
use Prim.Native.Nat.{ℕ, ◌+◌, ◌≤◌, ◌<◌, ◌^◌}
use native.Mathlib.Omega.{arith}
use borrow.Author.Tests.{ltb-true, ltb-false, eqb-true}
use lib.Dec.{ltb}
use lib.ListN.{length}
use Rattle.std.specs.Prelude.{Result, Ok, Err, Option, Some, None}
use Rattle.answers.specs.declared.Refusal.{Refusal}
use Rattle.answers.specs.Outcome.{leaving}
use Rattle.answers.specs.Refusals.{number_of}
use Rattle.ground.proofs.CaseLaws.{zero_not_one}
use Rattle.chipreader.specs.declared.Place.{Place}
use Rattle.chipreader.specs.Steps.{start_of, place_after, is_closed, step_of}
use Rattle.chips.specs.Chips.{chip_count, in_range, word_at}
use Rattle.line.specs.Codes.{LineCode, word_value, words_in, chips_in}
use Rattle.line.specs.Decoding.{value_at, good_run, decoded}
use Rattle.line.specs.Encoding.{encoded_size, encoded}
use Rattle.line.specs.OneWord.{word_for, word_read}
use Rattle.line.proofs.CodeLaws.{word_value_is}
use Rattle.line.proofs.GoodRunLaws.{good_run-le}
use Rattle.demands.specs.Rules.{Rule, ◌when◌else◌, ◌showing◌else◌, accept, Judged, JudgedLent}
use Rattle.demands.specs.Cases.{ChipsEnd, CodeWord, FirstNoWord}
use Rattle.demands.specs.Ladders.{decode_rule, encode_rule, word_steps, word_rule, reader_rule, step_rule}
use Rattle.demands.proofs.RuleLaws.{Follows, judged, judged_err, tells-lt, follows-lt, follows_unless, follows_showing, taken_bare, passed_bare, never_refused, unchanged}
use Rattle.demands.proofs.CaseLaws.{range_kept, range_left, first_no_word, no_first_word, first_word_same, no_word}

-- the words of n bytes from chip `at` on: 1, 6, then what comes next
pub words_follow :
    {B : Type 0} {refused : Refusal → B} {rest : Rule B} {next : B} (κ : LineCode) (s : List ℕ) (at n : ℕ)
    → let m = words_in κ n in
    let g = good_run (value_at κ s at) m in
    (at + chips_in κ n ≤ chip_count s → g ≡ m → Follows refused rest next)
    → Follows refused (1 when ChipsEnd s (at + chips_in κ n) else 6 showing FirstNoWord κ s at m else rest)
    (cond (ltb (chip_count s) (at + chips_in κ n)) (refused Refusal.Short)
    (cond (ltb g m) (refused (Refusal.BadWord g)) next))
words_follow κ s at n go =
    let m = words_in κ n in
    let g = good_run (value_at κ s at) m in
    follows-lt (chip_count s) (at + chips_in κ n) Refusal.Short refl refl
    (λ there. follows_showing (ltb g m) (Refusal.BadWord g) (λ e. first_no_word κ s at m (ltb-true g m e))
    (λ e w p. first_word_same κ s at m w g p (first_no_word κ s at m (ltb-true g m e)))
    (λ e w. no_first_word κ s at m w (ltb-false g m e)) refl
    (λ words.
    go there (omega (arith, ltb-false g m words, good_run-le (value_at κ s at) m))))

module _ (κ : LineCode) (s : List ℕ) where
  decode_follows :
      (start n : ℕ) (d : List ℕ)
      → Follows (unchanged d) (decode_rule κ s start n d) (decoded κ s start n d)
  unfolding decoded
  decode_follows start n d =
      follows_unless (in_range s start) Refusal.OutOfRange (range_kept s start) (range_left s start) refl refl
      (λ inside. words_follow κ s start n
      (λ there words. follows-lt (length d) n Refusal.NoRoom refl refl (λ room. Follows.ended refl)))

  pub decode_judged :
      (start n : ℕ) (d : List ℕ) → JudgedLent Err d (decode_rule κ s start n d) (decoded κ s start n d)
  decode_judged start n d =
      judged_err never_refused (decode_follows start n d)

  pub encode_judged : (d : List ℕ) → JudgedLent Err d (encode_rule κ s d) (encoded κ s d)
  unfolding encoded
  encode_judged d =
      judged_err never_refused
      (follows-lt (length d) (encoded_size κ (length s)) Refusal.NoRoom refl refl (λ room. Follows.ended refl))

-- one word, of which `told` makes what the call answers
module _ {B : Type 0} {refused : Refusal → B} (told : Result ℕ Refusal → B)
    (passes : (r : Refusal) → told (Err r) ≡ refused r) (κ : LineCode) (s : List ℕ) (at : ℕ)
    (read : ℕ → B → Type 0) (reads : (x : ℕ) → read x (told (Ok x))) where
  abbrev y : ℕ
  y = word_at s at κ.chips

  abbrev code_steps : Rule B
  code_steps =
      6 when (CodeWord κ y → ⊥)
      else accept (λ o. (x : ℕ) × ((x < 2 ^ κ.bits) × ((κ.word_of x ≡ y) × read x o)))

  code_follows : (v : Option ℕ) → word_value κ y ≡ v → Follows refused code_steps (told (word_for v))
  code_follows (Some x) e =
      let is = word_value_is κ y x e in
      passed_bare (λ none. none (x, is)) (Follows.ended (x, (is.0, (is.1, reads x))))
  code_follows None e =
      subst (Follows refused code_steps) (sym (passes (Refusal.BadWord 0)))
      (taken_bare (Refusal.BadWord 0) (no_word κ y None e refl) refl refl)

  word_follows : (u : Bool) → ltb (chip_count s) (at + κ.chips) ≡ u
      → Follows refused (word_steps κ s at read)
      (told (cond u (Err Refusal.Short) (word_for (word_value κ y))))
  word_follows true e =
      subst (Follows refused (word_steps κ s at read)) (sym (passes Refusal.Short))
      (taken_bare Refusal.Short (ltb-true (chip_count s) (at + κ.chips) e) refl refl)
  word_follows false e =
      passed_bare ((tells-lt (chip_count s) (at + κ.chips)).not e) (code_follows (word_value κ y) refl)

pub word_judged : (κ : LineCode) (s : List ℕ) (at : ℕ) → Judged Err (word_rule κ s at) (word_read κ s at)
unfolding word_read
word_judged κ s at =
    judged (λ p q e. cc) (λ r a. zero_not_one (let e = a.1.1.1 in cc))
    (follows_unless (in_range s at) Refusal.OutOfRange (range_kept s at) (range_left s at) refl refl
    (λ inside. word_follows (λ x. x) (λ r. refl) κ s at (λ x r. r ≡ Ok x) (λ x. refl)
    (ltb (chip_count s) (at + κ.chips)) refl))

-- a refusal with number 10 is the one that closes a reader
ten : (r : Refusal) → number_of r ≡ 10 → r ≡ Refusal.OutOfRange
ten Refusal.OutOfRange e = refl
ten Refusal.Short e = absurd (omega arith)
ten Refusal.BadLength e = absurd (omega arith)
ten (Refusal.WrongCheck v) e = absurd (omega arith)
ten Refusal.NoRoom e = absurd (omega arith)
ten Refusal.BadContent e = absurd (omega arith)
ten (Refusal.BadWord v) e = absurd (omega arith)
ten (Refusal.NoSync v) e = absurd (omega arith)
ten (Refusal.UnknownTail v) e = absurd (omega arith)
ten Refusal.BadPlace e = absurd (omega arith)
ten Refusal.UnknownCi e = absurd (omega arith)
ten Refusal.ShortBody e = absurd (omega arith)
ten Refusal.NoSuchChannel e = absurd (omega arith)
ten (Refusal.UsedUp v) e = absurd (omega arith)
-- nor is one of the store
ten Refusal.BadStore e = absurd (omega arith)
ten Refusal.UnknownVersion e = absurd (omega arith)
ten Refusal.NotHeld e = absurd (omega arith)
ten Refusal.Unsure e = absurd (omega arith)
ten Refusal.NumbersUsedUp e = absurd (omega arith)
ten Refusal.StoreFull e = absurd (omega arith)
-- nor of correction bytes
ten Refusal.TooLong e = absurd (omega arith)
ten Refusal.UnknownCode e = absurd (omega arith)
ten Refusal.NotCode e = absurd (omega arith)
ten Refusal.TooFar e = absurd (omega arith)

closed_is : (a : Option (Result ℕ Refusal)) → is_closed a ≡ true → a ≡ Some (Err Refusal.OutOfRange)
closed_is None e = absurd (false≢true e)
closed_is (Some (Ok x)) e = absurd (false≢true e)
closed_is (Some (Err r)) e = ap (λ (q : Refusal). Some (Err q)) (ten r (eqb-true (number_of r) 10 e))

-- a reader that was refused, at the place `at`
abbrev refused_at : ℕ → Refusal → Place
refused_at at r = record { at = at; answer = Some (Err r) }

refused_at_same : (at : ℕ) (p q : Refusal) → refused_at at p ≡ refused_at at q → p ≡ q
refused_at_same at p q e = let same = ap (λ (x : Place). x.answer) e in cc

pub reader_judged : (s : List ℕ) (at : ℕ) → Judged (refused_at 0) (reader_rule s at) (start_of s at)
unfolding start_of
reader_judged s at =
    judged (refused_at_same 0) (λ r a. let same = ap (λ (x : Place). x.answer) a in zero_not_one (cc))
    (follows_unless (in_range s at) Refusal.OutOfRange (range_kept s at) (range_left s at) refl refl
    (λ inside. Follows.ended refl))

module _ (κ : LineCode) (s : List ℕ) (p : Place) where
  abbrev stays : Refusal → Place
  stays = refused_at p.at

  closed_follows : is_closed p.answer ≡ true → Follows stays (step_rule κ s p) p
  closed_follows shut =
      let is : stays Refusal.OutOfRange ≡ p
      = ap (λ (a : Option (Result ℕ Refusal)). record { at = p.at; answer = a }) (sym (closed_is p.answer shut)) in
      subst (Follows stays (step_rule κ s p)) is (taken_bare Refusal.OutOfRange (inl shut) refl refl)

  step_follows :
      (t u : Bool) → is_closed p.answer ≡ t → in_range s p.at ≡ u
      → let short = ltb (chip_count s) (p.at + κ.chips) in
      let word = cond short (Err Refusal.Short) (word_for (word_value κ (word_at s p.at κ.chips))) in
      Follows stays (step_rule κ s p)
      (cond t p (place_after κ p.at (cond u word (Err Refusal.OutOfRange))))
  step_follows true u shut range = closed_follows shut
  step_follows false false shut range = taken_bare Refusal.OutOfRange (inr (range_left s p.at range)) refl refl
  step_follows false true shut range =
      passed_bare (⊎_elim (λ e. false≢true (sym shut ∙ e)) (range_kept s p.at range))
      (word_follows (place_after κ p.at) (λ r. refl) κ s p.at
      (λ x q. q ≡ record { at = p.at + κ.chips; answer = Some (Ok x) }) (λ x. refl)
      (ltb (chip_count s) (p.at + κ.chips)) refl)

  pub step_judged : Judged stays (step_rule κ s p) (step_of κ s p)
  unfolding step_of word_read
  step_judged =
      judged (refused_at_same p.at)
      (λ r a. let same = ap (λ (x : Place). x.answer) a.1.1.1 in zero_not_one (cc))
      (step_follows (is_closed p.answer) (in_range s p.at) refl refl)
