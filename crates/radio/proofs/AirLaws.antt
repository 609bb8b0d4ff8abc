-- The chips that sending writes (specs/Sending, `SentAt`): the sync chips, then the frame's code words.
--     SyncAt k s place          the chips of s from `place` on begin with the sync chips of kind k
--     FrameCoded k s place c    behind so many chips the frame of c, which k's format allows, stands in code words
--     sync_at_sent, coded_sent   where c was sent, both stand; sent_at_coded: and where both stand, c was sent
--     sync_at_word, sync_at_both  sync chips by words of sixteen, as the search and the tail look at them
--     word_at_sync               and such words by the sync chips
use mathlib.Core.Bool.{Bool, true, false}
use mathlib.Core.List.{List, [], ◌++◌, append-nil}
use mathlib.Core.Path.{◌≡◌, refl, ap, sym, ◌∙◌}
use Prim.Native.Nat.{ℕ, ◌+◌, ◌*◌, ◌-◌, ◌/◌, ◌%◌, ◌^◌, ◌≤◌, ◌<◌}
use native.Mathlib.Nat.{zero-add}
use native.Mathlib.Omega.{arith}
use borrow.Author.Tests.{ltb-true, ltb-false}
use lib.Dec.{ltb}
use lib.ListN.{length, get_or-append}
use Rattle.ground.specs.Bytes.{Bytes}
use Rattle.chips.specs.Chips.{chip_at, word_at, chip_count}
use Rattle.chips.proofs.GatherLaws.{chip_at-lt}
use Rattle.chips.proofs.PackingLaws.{gather_same, gather_chip}
use Rattle.line.specs.Codes.{chips_in}
use Rattle.line.specs.Encoding.{encoding, encoded_chip}
use Rattle.line.proofs.TripLaws.{Holds, encoding_holds}
use Rattle.frame.specs.Formats.{form_of}
use Rattle.frame.specs.Frames.{frame_of}
use Rattle.frame.proofs.FrameLaws.{length_frame_of}
use Rattle.sync.specs.declared.Kind.{Kind}
use Rattle.sync.specs.Kinds.{sync_bytes, lead_of}
use Rattle.radio.specs.KindParts.{line_of, format_of}
use Rattle.radio.specs.Sending.{air_of, sent_of, sent_chips, SentAt}

pub record SyncAt (k : Kind) (s : List ℕ) (place : ℕ) : Type 0 where
  pub chips : (i : ℕ) → i < lead_of k → chip_at s (place + i) ≡ chip_at (sync_bytes k) i

pub record FrameCoded (k : Kind) (s : List ℕ) (place : ℕ) (c : List ℕ) : Type 0 where
  pub bytes : Bytes c
  pub low : (form_of (format_of k)).shortest ≤ length c
  pub high : length c ≤ (form_of (format_of k)).longest
  pub there : place + lead_of k + chips_in (line_of k) (length (frame_of (format_of k) c)) ≤ chip_count s
  pub holds : Holds (line_of k) s (place + lead_of k) (frame_of (format_of k) c)

-- two rows of chips that agree at the first m places, and at the n behind them
agree_past :
    (f g : ℕ → ℕ) (m n : ℕ) → ((j : ℕ) → j < n → f (m + j) ≡ g (m + j)) → (i : ℕ) → m ≤ i → i < m + n → f i ≡ g i
agree_past f g m n back i past h =
    let there : m + (i - m) ≡ i = omega arith in
    ap f (sym there) ∙ back (i - m) (omega arith) ∙ ap g there

agree_add :
    (f g : ℕ → ℕ) (m n : ℕ) → ((i : ℕ) → i < m → f i ≡ g i) → ((j : ℕ) → j < n → f (m + j) ≡ g (m + j))
    → (i : ℕ) → i < m + n → f i ≡ g i
agree_add f g m n front back i h = by_test (ltb i m) refl
  where
    by_test : (t : Bool) → ltb i m ≡ t → f i ≡ g i
    by_test true e = front i (ltb-true i m e)
    by_test false e = agree_past f g m n back i (ltb-false i m e) h

chip_at-append : (s t : List ℕ) (i : ℕ) → i < 8 * length s → chip_at (s ++ t) i ≡ chip_at s i
chip_at-append s t i h = rw (get_or-append s t 0 (i / 8) (omega arith))

-- equal words have equal chips
chip_at_word_at :
    (s u : List ℕ) (a b w : ℕ) → word_at s a w ≡ word_at u b w → (i : ℕ) → i < w → chip_at s (a + i) ≡ chip_at u (b + i)
chip_at_word_at s u a b w e i h =
    sym (gather_chip (chip_at s) (chip_at-lt s) a w i h)
    ∙ ap (λ (y : ℕ). y / 2 ^ (w - 1 - i) % 2) e
    ∙ gather_chip (chip_at u) (chip_at-lt u) b w i h

module _ (k : Kind) (c : List ℕ) where
  abbrev frame : List ℕ
  frame = frame_of (format_of k) c

  chip_at_sent_sync : (i : ℕ) → i < lead_of k → chip_at (sent_of k c) i ≡ chip_at (sync_bytes k) i
  unfolding air_of
  chip_at_sent_sync = chip_at-append (sync_bytes k) (encoding (line_of k) frame)

  chip_at_sent_frame :
      (j : ℕ) → j < chips_in (line_of k) (length frame)
      → chip_at (sent_of k c) (lead_of k + j) ≡ encoded_chip (line_of k) frame j
  unfolding air_of
  chip_at_sent_frame j h = rw append-nil at (encoding_holds (line_of k) frame (sync_bytes k) [] j h)

  sent_chips_frame : sent_chips k (length c) ≡ lead_of k + chips_in (line_of k) (length frame)
  unfolding sent_chips
  sent_chips_frame = rw (length_frame_of (format_of k) c)

module _ {k : Kind} {s : List ℕ} {place : ℕ} {c : List ℕ} where
  pub sync_at_sent : SentAt k s place c → SyncAt k s place
  sync_at_sent p =
      record { chips = λ i h. p.chips i (omega (arith, sent_chips_frame k c)) ∙ chip_at_sent_sync k c i h }

  holds_sent : SentAt k s place c → Holds (line_of k) s (place + lead_of k) (frame_of (format_of k) c)
  holds_sent p j h =
      let regroup : place + lead_of k + j ≡ place + (lead_of k + j) = omega arith in
      ap (chip_at s) regroup ∙ p.chips (lead_of k + j) (omega (arith, sent_chips_frame k c))
      ∙ chip_at_sent_frame k c j h

  there_sent :
      SentAt k s place c
      → place + lead_of k + chips_in (line_of k) (length (frame_of (format_of k) c)) ≤ chip_count s
  there_sent p = omega (arith, p.whole, sent_chips_frame k c)

  pub coded_sent : SentAt k s place c → FrameCoded k s place c
  coded_sent p =
      record { bytes = p.bytes; low = p.low; high = p.high; there = there_sent p; holds = holds_sent p }

  module _ (p : FrameCoded k s place c) (q : SyncAt k s place) where
    chip_at_frame :
        (j : ℕ) → j < chips_in (line_of k) (length (frame_of (format_of k) c))
        → chip_at s (place + (lead_of k + j)) ≡ chip_at (sent_of k c) (lead_of k + j)
    chip_at_frame j h =
        let regroup : place + (lead_of k + j) ≡ place + lead_of k + j = omega arith in
        ap (chip_at s) regroup ∙ p.holds j h ∙ sym (chip_at_sent_frame k c j h)

    chip_at_coded : (i : ℕ) → i < sent_chips k (length c) → chip_at s (place + i) ≡ chip_at (sent_of k c) i
    chip_at_coded i h =
        agree_add (λ x. chip_at s (place + x)) (chip_at (sent_of k c)) (lead_of k) _
        (λ x l. q.chips x l ∙ sym (chip_at_sent_sync k c x l)) chip_at_frame i (omega (arith, sent_chips_frame k c))

    whole_coded : place + sent_chips k (length c) ≤ chip_count s
    whole_coded = omega (arith, p.there, sent_chips_frame k c)

    pub sent_at_coded : SentAt k s place c
    sent_at_coded =
        record { bytes = p.bytes; low = p.low; high = p.high; whole = whole_coded; chips = chip_at_coded }

pub word_at_sync :
    {k : Kind} {s : List ℕ} {place : ℕ} → SyncAt k s place → (i w : ℕ) → i + w ≤ lead_of k
    → word_at s (place + i) w ≡ word_at (sync_bytes k) i w
word_at_sync {k} {s} {place} p i w fits =
    gather_same (chip_at s) (chip_at (sync_bytes k)) (place + i) i w
    (λ j h.
    let regroup : place + i + j ≡ place + (i + j) = omega arith in
    ap (chip_at s) regroup ∙ p.chips (i + j) (omega arith))

module _ (k : Kind) (s : List ℕ) (place : ℕ) (word : word_at s place 16 ≡ word_at (sync_bytes k) 0 16) where
  chip_at_word : (i : ℕ) → i < 16 → chip_at s (place + i) ≡ chip_at (sync_bytes k) i
  chip_at_word i h =
      chip_at_word_at s (sync_bytes k) place 0 16 word i h ∙ ap (chip_at (sync_bytes k)) (zero-add i)

  pub sync_at_word : lead_of k ≡ 16 → SyncAt k s place
  sync_at_word lead = record { chips = λ i h. chip_at_word i (omega arith) }

  module _ (tail : word_at s (place + 16) 16 ≡ word_at (sync_bytes k) 16 16) where
    chip_at_tail : (j : ℕ) → j < 16 → chip_at s (place + (16 + j)) ≡ chip_at (sync_bytes k) (16 + j)
    chip_at_tail j h =
        let regroup : place + (16 + j) ≡ place + 16 + j = omega arith in
        ap (chip_at s) regroup ∙ chip_at_word_at s (sync_bytes k) (place + 16) 16 16 tail j h

    pub sync_at_both : lead_of k ≡ 32 → SyncAt k s place
    sync_at_both lead =
        let both = agree_add (λ x. chip_at s (place + x)) (chip_at (sync_bytes k)) 16 16 chip_at_word chip_at_tail in
        record { chips = λ i h. both i (omega arith) }
