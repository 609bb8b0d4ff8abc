-- Where the four kinds differ (T with A, C with A, C with B, Manchester with A): all else is said once over the kind.
--     unsearched            only Manchester is not searched; sync_at_unsearched: it has no sync chips
--     searched_fits         the kinds that a tail tells are searched
--     sync_at_fits           a kind's sync chips are the sync word with a tail of the kind behind it
--     tail_sent             where a kind that is searched was sent, the tail is there; fits_sent: and tells this kind
--     reached_sent          what was sent at place 0 is reached there at once
use mathlib.Core.Bool.{true, false}
use mathlib.Core.List.{List}
use mathlib.Core.Path.{◌≡◌, refl, ap, sym, ◌∙◌}
use Prim.Native.Nat.{ℕ, ◌+◌, ◌/◌, ◌≤◌, ◌<◌}
use native.Mathlib.Nat.{add-zero, not-suc-le-zero}
use native.Mathlib.Omega.{arith}
use lib.ListN.{length, get_or}
use lib.Pow.{high}
use Rattle.ground.proofs.CaseLaws.{zero_not_one}
use Rattle.chips.specs.Chips.{chip_at, word_at, gather, chip_count}
use Rattle.chips.proofs.GatherLaws.{gather-add, gather-lt, chip_at-lt}
use Rattle.line.specs.declared.codes.Code.TheVariants.{ThreeOfSix}
use Rattle.std.specs.Prelude.{Option, None}
use Rattle.line.specs.Codes.{code_of, word_value, words_in}
use Rattle.line.specs.Decoding.{value_at, is_word}
use Rattle.line.proofs.CodeLaws.{lawful}
use Rattle.line.proofs.WorkedExamples.{never_words}
use Rattle.line.proofs.GoodRunLaws.{good_run-all}
use Rattle.line.proofs.TripLaws.{good_run_encode}
use Rattle.frame.specs.declared.Format.TheVariants.{A}
use Rattle.frame.specs.Frames.{frame_of}
use Rattle.frame.proofs.FormatLaws.{frame_size_A}
use Rattle.frame.proofs.FrameLaws.{length_frame_of}
use Rattle.sync.specs.declared.Kind.{Kind}
use Rattle.sync.specs.declared.Kind.TheVariants.{TWithA, CWithA, CWithB, ManchesterWithA}
use Rattle.sync.specs.FirstMatch.{FirstAt}
use Rattle.sync.specs.Kinds.{lead_of}
use Rattle.sync.specs.SyncSearch.{sync_word, sync_width}
use Rattle.sync.proofs.TailLaws.{TailFits}
use Rattle.radio.specs.KindParts.{line_of}
use Rattle.radio.specs.Sending.{sent_chips, SentAt}
use Rattle.radio.specs.Heard.{searched, Reached, first_try}
use Rattle.radio.proofs.AirLaws.{SyncAt, coded_sent, sync_at_sent, sync_at_word, sync_at_both, word_at_sync}

pub unsearched : (k : Kind) → searched k ≡ false → k ≡ ManchesterWithA
unsearched TWithA e = cc
unsearched CWithA e = cc
unsearched CWithB e = cc
unsearched ManchesterWithA e = refl

pub sync_at_unsearched : (s : List ℕ) (place : ℕ) → SyncAt ManchesterWithA s place
sync_at_unsearched s place = record { chips = λ i h. absurd (not-suc-le-zero h) }

pub searched_fits : (k : Kind) (x : ℕ) → TailFits k x → searched k ≡ true
searched_fits TWithA x fits = refl
searched_fits CWithA x fits = refl
searched_fits CWithB x fits = refl
searched_fits ManchesterWithA x fits = absurd fits

pub sync_at_fits :
    (k : Kind) (s : List ℕ) (place : ℕ) → word_at s place 16 ≡ sync_word → TailFits k (word_at s (place + 16) 16)
    → SyncAt k s place
unfolding gather
sync_at_fits TWithA s place e fits = sync_at_word TWithA s place e refl
sync_at_fits CWithA s place e fits = sync_at_both CWithA s place e fits refl
sync_at_fits CWithB s place e fits = sync_at_both CWithB s place e fits refl
sync_at_fits ManchesterWithA s place e fits = absurd fits

-- the first six of sixteen chips
word_at_six : (s : List ℕ) (at : ℕ) → word_at s at 16 / 1024 ≡ word_at s at 6
word_at_six s at =
    ap (λ (y : ℕ). y / 1024) (gather-add (chip_at s) at 6 10)
    ∙ high (word_at s at 6) 10 (gather-lt (chip_at s) (chip_at-lt s) (at + 6) 10)

-- 010101 is no three-of-six word
is_word_alternating : (y : ℕ) → y ≡ 0b010101 → is_word (word_value (code_of ThreeOfSix) y) ≡ true → ⊥
is_word_alternating y e h =
    let none : word_value (code_of ThreeOfSix) y ≡ None
    = ap (word_value (code_of ThreeOfSix)) e ∙ ap (λ (l : List (Option ℕ)). get_or l 1 None) never_words.0 in
    let never : false ≡ true = sym (ap is_word none) ∙ h in
    zero_not_one cc

module _ {s : List ℕ} {place : ℕ} {c : List ℕ} where
  is_word_sent : SentAt TWithA s place c → is_word (value_at (line_of TWithA) s (place + 16) 0) ≡ true
  is_word_sent p =
      let some : 0 < length (frame_of A c) = omega (arith, length_frame_of A c, frame_size_A (length c)) in
      let run = good_run_encode (lawful ThreeOfSix) s (place + 16) (frame_of A c) (coded_sent p).holds in
      good_run-all (value_at (line_of TWithA) s (place + 16)) (words_in (line_of TWithA) (length (frame_of A c))) run 0
      (omega arith)

  -- what stands behind the sync word of a frame in mode T is no tail of mode C
  fits_T : SentAt TWithA s place c → TailFits TWithA (word_at s (place + 16) 16)
  fits_T p e =
      let six = sym (word_at_six s (place + 16)) ∙ e in
      is_word_alternating (word_at s (place + 16 + 0) 6) (rw (add-zero (place + 16)) six) (is_word_sent p)

  pub fits_sent : (k : Kind) → searched k ≡ true → SentAt k s place c → TailFits k (word_at s (place + 16) 16)
  unfolding gather
  fits_sent TWithA e p = fits_T p
  fits_sent CWithA e p = word_at_sync (sync_at_sent p) 16 16 (omega arith)
  fits_sent CWithB e p = word_at_sync (sync_at_sent p) 16 16 (omega arith)
  fits_sent ManchesterWithA e p = absurd (zero_not_one cc)

  -- sync word and tail are all there; in mode T the tail is the frame's first chips
  pub tail_sent : (k : Kind) → searched k ≡ true → SentAt k s place c → place + 32 ≤ chip_count s
  unfolding sent_chips
  tail_sent TWithA e p = omega (arith, p.whole, frame_size_A (length c))
  tail_sent CWithA e p = omega (arith, p.whole)
  tail_sent CWithB e p = omega (arith, p.whole)
  tail_sent ManchesterWithA e p = absurd (zero_not_one cc)

module _ {s c : List ℕ} {a : ℕ} where
  first_at_sent :
      {k : Kind} → SentAt k s 0 c → word_at s 0 16 ≡ sync_word → 16 ≤ lead_of k → 0 < a
      → FirstAt sync_word sync_width s 0 a 0 1
  unfolding sent_chips
  first_at_sent p word lead some =
      record {
        behind = omega arith;
        whole = omega (arith, p.whole);
        stands = word;
        first = λ j l m e. not-suc-le-zero m;
        counted = omega arith;
        allowed = omega arith;
      }

  pub reached_sent : (k : Kind) → SentAt k s 0 c → 0 < a → Reached (searched k) s 0 a 0 (first_try k)
  unfolding gather
  reached_sent TWithA p h = first_at_sent p (word_at_sync (sync_at_sent p) 0 16 (omega arith)) (omega arith) h
  reached_sent CWithA p h = first_at_sent p (word_at_sync (sync_at_sent p) 0 16 (omega arith)) (omega arith) h
  reached_sent CWithB p h = first_at_sent p (word_at_sync (sync_at_sent p) 0 16 (omega arith)) (omega arith) h
  reached_sent ManchesterWithA p h = (refl, refl)
