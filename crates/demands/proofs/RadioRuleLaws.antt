-- Receiving and sending are judged as document 01 says (specs/Ladders), once over the kind.
use mathlib.Core.Bool.{Bool, true, false, cond}
use mathlib.Core.List.{List, ◌++◌}
use mathlib.Core.Path.{◌≡◌, refl, sym, ◌∙◌, ap, subst}
use Prim.Native.Nat.{ℕ, ◌+◌, ◌≤◌, ◌<◌}
use native.Mathlib.Nat.{add-zero}
use native.Mathlib.Omega.{arith}
use borrow.Author.Tests.{ltb-true}
use lib.Dec.{ltb}
use lib.ListN.{length, drop}
use Rattle.std.specs.Prelude.{Result, Ok, Err, None}
use Rattle.answers.specs.declared.Refusal.{Refusal}
use Rattle.answers.specs.Outcome.{Outcome, leaving}
use Rattle.ground.proofs.CaseLaws.{zero_not_one}
use Rattle.chips.specs.Chips.{chip_count, in_range, word_at}
use Rattle.chips.proofs.RangeLaws.{InBuffer, in_range_true, in_range_inside}
use Rattle.line.specs.Codes.{LineCode, words_in, chips_in}
use Rattle.line.specs.Decoding.{value_at, good_run, decoding}
use Rattle.sync.specs.declared.Kind.{Kind}
use Rattle.sync.specs.FirstMatch.{FirstAt}
use Rattle.sync.specs.Kinds.{lead_of}
use Rattle.sync.specs.Tails.{tail_of}
use Rattle.frame.specs.declared.Frame.{Frame}
use Rattle.frame.specs.Formats.{form_of, within, frame_size, spans_of, size_for, sizes}
use Rattle.frame.specs.declared.Format.{Format}
use Rattle.frame.specs.Frames.{content_in}
use Rattle.frame.specs.Judging.{by_checks, judge_of}
use Rattle.frame.specs.Reads.{taken_out, reading_of}
use Rattle.frame.proofs.JudgeLaws.{judge_of_whole}
use Rattle.frame.proofs.AcceptLaws.{judge_of-accepted, whole_frame, whole_length}
use Rattle.frame.proofs.FrameLaws.{content_in_bytes, length_frame_of}
use Rattle.blocks.specs.Spans.{first_wrong}
use Rattle.blocks.proofs.TurnLaws.{size_of_first}
use Rattle.frame.proofs.FormatLaws.{one-lt_first, zero-lt_later}
use Rattle.line.proofs.TripLaws.{length-decoding, decoding-lt}
use Rattle.radio.proofs.AirLaws.{SyncAt, sent_at_coded}
use Rattle.radio.proofs.ThroughLaws.{Through, get_or-decoding}
use Rattle.radio.proofs.FrameHeardLaws.{coded_read}
use Rattle.sync.proofs.TailLaws.{kind_for_fits, lead_of-le}
use Rattle.radio.proofs.KindLaws.{sync_at_fits, sync_at_unsearched}
use Rattle.radio.specs.declared.Reception.{Reception}
use Rattle.radio.specs.KindParts.{line_of, format_of}
use Rattle.radio.specs.Receiving.{after_words, length_at, by_frame, by_size, frame_after, by_tail, by_sync, reception_of, manchester_of, reception}
use Rattle.radio.specs.Sending.{air_size, putting, sending_of, SentAt}
use Rattle.radio.specs.Heard.{heard_of}
use Rattle.demands.specs.Rules.{Rule, ◌when◌else◌, ◌showing◌else◌, accept, JudgedLent}
use Rattle.demands.specs.Cases.{ChipsEnd, FirstNoWord, Announces, FirstWrongBlock}
use Rattle.demands.specs.Ladders.{frame_steps, receive_rule, manchester_rule, send_rule, tail_steps}
use Rattle.demands.proofs.RuleLaws.{Follows, judged_err, taken_bare, passed_bare, tells-lt, follows-lt, follows_unless, never_refused, unchanged}
use Rattle.demands.proofs.CaseLaws.{range_kept, range_left, announces_allowed, announces_same}
use Rattle.demands.proofs.LineRuleLaws.{words_follow}
use Rattle.demands.proofs.FrameRuleLaws.{size_follows, checks_follow, content_kept, content_left}
use Rattle.demands.proofs.SyncRuleLaws.{search_follows, tail_follows}

after_words_outside :
    (κ : LineCode) (s : List ℕ) (at n : ℕ) (d : List ℕ) (next : Outcome (Result Reception Refusal))
    → in_range s at ≡ false
    → after_words κ s at n d next ≡ leaving (Err Refusal.OutOfRange) d
unfolding after_words
after_words_outside κ s at n d next e = rw e

-- the same words where a frame is received
read_words_follow :
    (κ : LineCode) (s : List ℕ) (at n : ℕ) (d : List ℕ) (next : Outcome (Result Reception Refusal))
    (rest : Rule (Outcome (Result Reception Refusal))) → InBuffer s at
    → (at + chips_in κ n ≤ chip_count s → good_run (value_at κ s at) (words_in κ n) ≡ words_in κ n
    → Follows (unchanged d) rest next)
    → Follows (unchanged d)
    (1 when ChipsEnd s (at + chips_in κ n) else 6 showing FirstNoWord κ s at (words_in κ n) else rest)
    (after_words κ s at n d next)
unfolding after_words
read_words_follow κ s at n d next rest within go = rw (in_range_inside within) (words_follow κ s at n go)

frame_size_some : (f : Format) (n : ℕ) → 0 < frame_size f n
unfolding frame_size
frame_size_some f n =
    rw (size_of_first (form_of f).first (form_of f).later n refl (one-lt_first f) (zero-lt_later f)) (omega arith)

-- a frame of kind k, whose sync chips stand at `place`
module _ (k : Kind) (place t : ℕ) (s d : List ℕ) (sync : SyncAt k s place) where
  abbrev at : ℕ
  at = place + lead_of k

  abbrev l : ℕ
  l = length_at (line_of k) s at

  -- what becomes of the frame's bytes b, as they were judged
  abbrev from_bytes : List ℕ → Result Frame Refusal → Outcome (Result Reception Refusal)
  from_bytes b x = let o = taken_out (format_of k) b d x in by_frame k place t o.memory o.answer

  module _ (n : ℕ) (announced : Announces (format_of k) l n)
      (through : Through (line_of k) s at (frame_size (format_of k) n)) where
    abbrev z : ℕ
    z = frame_size (format_of k) n

    abbrev bytes : List ℕ
    bytes = decoding (line_of k) s at z

    sized : size_for (format_of k) l ≡ Ok (sizes z n)
    sized = rw (announces_allowed (format_of k) l n announced, ← announces_same (format_of k) l n announced)

    some : 0 < z
    some = frame_size_some (format_of k) n

    judged_bytes : judge_of (format_of k) bytes ≡ by_checks z n (first_wrong 1 (spans_of (format_of k) n) bytes)
    judged_bytes =
        let size = length-decoding (line_of k) s at z in
        let head = get_or-decoding (line_of k) s at z some in
        judge_of_whole (format_of k) bytes (rw size some) (rw head sized) (omega (arith, size))

    -- its content, and that sending it writes these chips
    abbrev c : List ℕ
    c = content_in (format_of k) n bytes

    heard_bytes : first_wrong 1 (spans_of (format_of k) n) bytes ≡ None → (length c ≡ n) × SentAt k s place c
    unfolding by_checks
    heard_bytes right =
        let accepted : judge_of (format_of k) bytes ≡ Ok (sizes z n) = judged_bytes ∙ rw right in
        let whole = judge_of-accepted (format_of k) bytes accepted in
        let byte = content_in_bytes (format_of k) n bytes (decoding-lt (line_of k) s at z) in
        (whole_length whole, sent_at_coded (coded_read k place sized through (whole_frame whole) byte) sync)

    -- 4, then accepted
    abbrev room_steps : Rule (Outcome (Result Reception Refusal))
    room_steps =
        4 when length d < n
        else accept (λ o. (c : List ℕ) × ((length c ≡ n) × (SentAt k s place c × (o ≡ heard_of k place t z c d))))

    room_follows :
        first_wrong 1 (spans_of (format_of k) n) bytes ≡ None
        → Follows (unchanged d) room_steps (from_bytes bytes (Ok (sizes z n)))
    unfolding taken_out
    room_follows right = by (ltb (length d) n) refl where
      by :
          (u : Bool) → ltb (length d) n ≡ u
          → let o = cond u (leaving (Err Refusal.NoRoom) d)
          (record { answer = Ok (sizes z n); memory = content_in (format_of k) n bytes ++ drop n d }) in
          Follows (unchanged d) room_steps (by_frame k place t o.memory o.answer)
      by true e = taken_bare Refusal.NoRoom (ltb-true (length d) n e) refl refl
      by false e =
          let heard = heard_bytes right in
          passed_bare ((tells-lt (length d) n).not e)
          (Follows.ended (c, (heard.0, (heard.1, rw heard.0))))

    -- 3, 4, then accepted: what reading the frame's bytes says
    bytes_follow :
        Follows (unchanged d) (3 showing FirstWrongBlock (spans_of (format_of k) n) bytes else room_steps)
        (let o = reading_of (format_of k) bytes d in by_frame k place t o.memory o.answer)
    unfolding reading_of taken_out
    bytes_follow =
        subst
        (λ (x : Result Frame Refusal).
        Follows (unchanged d) (3 showing FirstWrongBlock (spans_of (format_of k) n) bytes else room_steps)
        (from_bytes bytes x))
        (sym judged_bytes)
        (checks_follow (from_bytes bytes) (λ r. refl) (format_of k) n z bytes room_steps
        (omega (arith, length-decoding (line_of k) s at z)) room_follows
        (first_wrong 1 (spans_of (format_of k) n) bytes) refl)

  frame_follows : InBuffer s at → Follows (unchanged d) (frame_steps k place t s d) (frame_after k place t s d)
  unfolding frame_after by_size
  frame_follows within =
      read_words_follow (line_of k) s at 1 d _ _ within
      (λ there words. size_follows (by_size k place t s d) (λ r. refl) (format_of k) l _
      (λ n announced. read_words_follow (line_of k) s at (frame_size (format_of k) n) d _ _ within
      (λ there words. bytes_follow n announced (record { small = within.small; there = there; words = words }))))

module _ (s d : List ℕ) (start : ℕ) where
  -- a match, its tail told: the frame behind it
  first_follows :
      (a place t : ℕ) → InBuffer s start → FirstAt 0x543D 16 s start a place t
      → Follows (unchanged d) (tail_steps s place (λ k. frame_steps k place t s d))
      (by_tail place t s d (tail_of s place))
  unfolding by_tail
  first_follows a place t within first =
      tail_follows (by_tail place t s d) (λ r. refl) s place (λ k. frame_steps k place t s d) within.small
      (omega (arith, first.whole))
      (λ there k e.
      let fits = kind_for_fits place (word_at s (place + 16) 16) k e in
      frame_follows k place t s d (sync_at_fits k s place first.stands fits)
      (record { small = within.small; inside = omega (arith, lead_of-le k) }))

  receive_follows :
      (a : ℕ) → Follows (unchanged d) (receive_rule s start a d) (reception_of s start a d)
  unfolding reception_of by_sync
  receive_follows a =
      search_follows (by_sync s d) (λ r. refl) s start a
      (λ place t. tail_steps s place (λ k. frame_steps k place t s d)) (first_follows a)

  pub receive_judged : (a : ℕ) → JudgedLent Err d (receive_rule s start a d) (reception_of s start a d)
  receive_judged a =
      judged_err (λ x r w. never_refused x r w.1.1.1.1.1.1.1.1.1) (receive_follows a)

  manchester_outside :
      in_range s start ≡ false → manchester_of s start d ≡ leaving (Err Refusal.OutOfRange) d
  unfolding frame_after
  manchester_outside e =
      after_words_outside (line_of Kind.ManchesterWithA) s (start + lead_of Kind.ManchesterWithA) 1 d _
      (ap (in_range s) (add-zero start) ∙ e)

  manchester_follows :
      Follows (unchanged d) (manchester_rule s start d) (manchester_of s start d)
  manchester_follows = by (in_range s start) refl where
    by : (t : Bool) → in_range s start ≡ t
        → Follows (unchanged d) (manchester_rule s start d) (manchester_of s start d)
    by true e =
        passed_bare (range_kept s start e)
        (frame_follows Kind.ManchesterWithA start 0 s d (sync_at_unsearched s start)
        (in_range_true (ap (in_range s) (add-zero start) ∙ e)))
    by false e =
        subst (Follows (unchanged d) (manchester_rule s start d)) (sym (manchester_outside e))
        (taken_bare Refusal.OutOfRange (range_left s start e) refl refl)

  pub manchester_judged : JudgedLent Err d (manchester_rule s start d) (manchester_of s start d)
  manchester_judged =
      judged_err (λ x r w. never_refused x r w.1.1.1.1.1) manchester_follows

pub send_judged : (k : Kind) (c d : List ℕ) → JudgedLent Err d (send_rule k c d) (sending_of k c d)
unfolding sending_of putting
send_judged k c d =
    let f = format_of k in
    rw (length_frame_of f c)
    (judged_err never_refused
    (follows_unless (within (form_of f).shortest (form_of f).longest (length c)) Refusal.BadContent
    (content_kept f (length c)) (content_left f (length c)) refl refl
    (λ allowed. follows-lt (length d) (air_size k (frame_size f (length c))) Refusal.NoRoom refl refl
    (λ room. Follows.ended refl))))
