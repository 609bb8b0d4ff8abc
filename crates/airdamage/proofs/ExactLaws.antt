-- The numbers of specs/ChipDamage are exact: frames of each kind that become others with one chip more.
--     sent_alone      the chips of a frame, by themselves
--     chip_burst      bits of bytes are counted as chips are
--     chips_seen      the promise
-- Assumes nothing.
use Rattle.std.specs.Prelude.{Ok}
use mathlib.Core.Bool.{Bool}
use mathlib.Core.List.{List, [], ◌∷◌}
use mathlib.Core.Logic.{◌↔◌}
use mathlib.Core.Path.{◌≡◌, refl, sym, ap, ◌∙◌}
use Prim.Native.Nat.{ℕ, ◌+◌, ◌*◌, ◌≤◌, ◌<◌}
use native.Mathlib.Nat.{zero-add}
use native.Mathlib.Omega.{arith}
use lib.Dec.{eqb, T, eqb→eq}
use lib.ListN.{length, take, length-append}
use lib.Seq.{take_all}
use Rattle.ground.specs.Bytes.{Bytes}
use Rattle.ground.proofs.TableLaws.{all_below, all_below_at, all_bytes}
use Rattle.chips.specs.Chips.{chip_at, chip_count, gather}
use Rattle.chips.specs.Packing.{tabulate, packed}
use Rattle.crc.specs.Check.{bit_in, bits_in, byte_in, reg_of, check_of}
use Rattle.blocks.specs.Spans.{size_of, cut, block_ok, first_wrong, payload}
use Rattle.line.specs.Encoding.{encoding}
use Rattle.line.proofs.TripLaws.{length-encoding}
use Rattle.frame.specs.declared.Format.{Format}
use Rattle.frame.specs.Formats.{sizes, frame_size}
use Rattle.frame.specs.Frames.{frame_of, content_in, FrameAt}
use Rattle.frame.specs.Judging.{by_checks, by_length, judge_of}
use Rattle.frame.proofs.AcceptLaws.{judge_of-accepted, whole_frame}
use Rattle.frame.proofs.FrameLaws.{content_in_bytes}
use Rattle.damage.specs.Damage.{bits_of}
use Rattle.damage.specs.Frames as it
use Rattle.damage.proofs.BurstLaws.{exactly}
use Rattle.damage.proofs.Unseen.{passes, burst_within, are_bytes}
use Rattle.sync.specs.declared.Kind.{Kind}
use Rattle.sync.specs.declared.Kind.TheVariants.{TWithA, CWithA, CWithB, ManchesterWithA}
use Rattle.sync.specs.Kinds.{sync_bytes, lead_of}
use Rattle.radio.specs.KindParts.{line_of, format_of}
use Rattle.radio.specs.Sending.{air_of, sent_of, sent_chips, SentAt}
use Rattle.airdamage.specs.ChipDamage.{Flipped, ChipBurst, NeverSent, chips_anywhere, ChipsSeen}
use Rattle.airdamage.proofs.WordLaws.{three_of_six_even, manchester_even}
use Rattle.airdamage.proofs.ChipLaws.{bits_chips}
use Rattle.airdamage.proofs.SeenLaws.{never_t, never_c, never_m, never_b}

-- ---- a frame alone in its chips

module _ (k : Kind) (p c : List ℕ) (at : FrameAt (format_of k) p (length p) c)
    (whole : frame_of (format_of k) c ≡ p) where
  sent_is : sent_of k c ≡ air_of k p
  sent_is = ap (air_of k) whole

  air_room : sent_chips k (length c) ≤ chip_count (air_of k p)
  unfolding sent_chips air_of
  air_room =
      rw (← at.size)
      (omega (arith, length-append (sync_bytes k) (encoding (line_of k) p), length-encoding (line_of k) p))

  sent_alone : Bytes c → SentAt k (air_of k p) 0 c
  sent_alone bytes =
      record {
        bytes = bytes;
        low = at.low;
        high = at.high;
        whole = omega (arith, air_room);
        chips = λ i h. ap (chip_at (air_of k p)) (zero-add i) ∙ ap (λ (x : List ℕ). chip_at x i) (sym sent_is);
      }

sent_frame :
    (k : Kind) (p : List ℕ) (n : ℕ) → judge_of (format_of k) p ≡ Ok (sizes (length p) n) → T (are_bytes p)
    → SentAt k (air_of k p) 0 (content_in (format_of k) n p)
sent_frame k p n judged bytes =
    let f = format_of k in
    let at = whole_frame (judge_of-accepted f p judged) in
    sent_alone k p (content_in f n p) at (sym at.bytes ∙ take_all (length p) p (omega arith))
    (content_in_bytes f n p (all_bytes p bytes))

-- ---- inverted chips

chip_burst :
    (w first from end : ℕ) (s t : List ℕ) → length t ≡ length s → (place : ℕ) → Flipped s t place
    → T (all_below (passes w first (bits_of s) (bits_of t)) (8 * length s)) → from ≤ first → first + w ≤ end
    → ChipBurst w from end s t
chip_burst w first from end s t count place differs all low high =
    let there : (p : ℕ) → Flipped s t p → (first ≤ p) × (p < first + w) =
    λ p one.
    burst_within s t count w first all p (λ e. one (sym (bits_chips t p) ∙ e ∙ bits_chips s p)) in
    record {
      place = place;
      differs = differs;
      first = first;
      within = there;
      inside = λ p one. let at = there p one in (omega (arith, at.0), omega (arith, at.1));
    }

chip_wider : {w v from end : ℕ} {s t : List ℕ} → w ≤ v → ChipBurst w from end s t → ChipBurst v from end s t
chip_wider le b =
    record {
      place = b.place;
      differs = b.differs;
      first = b.first;
      within = λ p one. let at = b.within p one in (at.0, omega (arith, at.1));
      inside = b.inside;
    }

-- Two frames of a kind, each alone in its chips, that differ within w chips: within more nothing is promised.
module _
    (k : Kind) (skip n w first : ℕ) (old new : List ℕ)
    (sent : judge_of (format_of k) old ≡ Ok (sizes (length old) n)) (bytes : T (are_bytes old))
    (count : length (air_of k new) ≡ length (air_of k old)) (differs : Flipped (air_of k old) (air_of k new) first)
    (all : T (all_below (passes w first (bits_of (air_of k old)) (bits_of (air_of k new))) (8 * length (air_of k old))))
    (low : 0 + lead_of k + skip ≤ first)
    (high : first + w ≤ 0 + sent_chips k (length (content_in (format_of k) n old))) where
  nearer :
      (e : List ℕ) → SentAt k (air_of k new) 0 e → (v : ℕ) → w ≤ v → NeverSent k v skip → ⊥
  nearer e came v le never =
      never (air_of k old) (air_of k new) 0 (content_in (format_of k) n old) (sent_frame k old n sent bytes)
      (chip_wider le (chip_burst w first _ _ (air_of k old) (air_of k new) count first differs all low high)) e came

-- ---- the frames

abbrev other_t : List ℕ
other_t =
    0x0F ∷ 0x44 ∷ 0xAE ∷ 0x0C ∷ 0x78 ∷ 0x56 ∷ 0x34 ∷ 0x12 ∷ 0x01 ∷ 0x07 ∷ 0x44 ∷ 0x47 ∷ 0x78 ∷ 0x0B ∷ 0x11 ∷ 0x39
    ∷ 0xAF ∷ 0x87 ∷ 0x1E ∷ 0x6D ∷ []

judged_a :
    (judge_of Format.A it.sent_a ≡ Ok (sizes 20 15)) × ((judge_of Format.A it.seventeen_a ≡ Ok (sizes 20 15))
    × (judge_of Format.A other_t ≡ Ok (sizes 20 15)))
unfolding judge_of by_length by_checks frame_size size_of cut first_wrong block_ok check_of reg_of byte_in bits_in
    bit_in
judged_a = (refl, (refl, refl))

not_t : (w : ℕ) → 22 < w → NeverSent TWithA w 0 → ⊥
unfolding air_of encoding packed tabulate gather bits_of passes sent_chips frame_size size_of cut content_in payload
not_t =
    nearer TWithA 0 15 23 193 it.sent_a other_t judged_a.0 tt refl (λ e. omega arith) tt (omega arith)
    (omega arith) (content_in Format.A 15 other_t)
    (sent_frame TWithA other_t 15 judged_a.1.1 tt)

not_c : (w : ℕ) → 16 < w → NeverSent CWithA w 0 → ⊥
unfolding air_of encoding packed tabulate gather bits_of passes sent_chips frame_size size_of cut content_in payload
not_c =
    nearer CWithA 0 15 17 159 it.sent_a it.seventeen_a judged_a.0 tt refl (λ e. omega arith) tt (omega arith)
    (omega arith) (content_in Format.A 15 it.seventeen_a)
    (sent_frame CWithA it.seventeen_a 15 judged_a.1.0 tt)

not_m : (w : ℕ) → 33 < w → NeverSent ManchesterWithA w 0 → ⊥
unfolding air_of encoding packed tabulate gather bits_of passes sent_chips frame_size size_of cut content_in payload
not_m =
    nearer ManchesterWithA 0 15 34 254 it.sent_a it.seventeen_a judged_a.0 tt refl (λ e. omega arith) tt
    (omega arith) (omega arith) (content_in Format.A 15 it.seventeen_a)
    (sent_frame ManchesterWithA it.seventeen_a 15 judged_a.1.0 tt)

judged_b :
    (judge_of Format.B it.sent_b ≡ Ok (sizes 23 20)) × ((judge_of Format.B it.seventeen_b ≡ Ok (sizes 23 20))
    × ((judge_of Format.B it.sent_long ≡ Ok (sizes 15 12))
    × (judge_of Format.B (take 13 it.one_bit) ≡ Ok (sizes 13 10))))
unfolding judge_of by_length by_checks frame_size size_of cut first_wrong block_ok check_of reg_of byte_in bits_in
    bit_in
judged_b = (refl, (refl, (refl, refl)))

not_b_behind : (w : ℕ) → 16 < w → NeverSent CWithB w 8 → ⊥
unfolding air_of encoding packed tabulate gather bits_of passes sent_chips frame_size size_of cut content_in payload
not_b_behind =
    nearer CWithB 8 20 17 167 it.sent_b it.seventeen_b judged_b.0 tt refl (λ e. omega arith) tt (omega arith)
    (omega arith) (content_in Format.B 20 it.seventeen_b)
    (sent_frame CWithB it.seventeen_b 20 judged_b.1.0 tt)

-- chips with others behind them
sent_before :
    (k : Kind) (s t c : List ℕ) → SentAt k s 0 c → sent_chips k (length c) ≤ chip_count t
    → ((i : ℕ) → i < sent_chips k (length c) → chip_at t i ≡ chip_at s i) → SentAt k t 0 c
sent_before k s t c sent room same =
    record {
      bytes = sent.bytes;
      low = sent.low;
      high = sent.high;
      whole = omega arith;
      chips = λ i h.
          ap (chip_at t) (zero-add i) ∙ same i h ∙ sym (ap (chip_at s) (zero-add i)) ∙ sent.chips i h;
    }

alike : List ℕ → List ℕ → ℕ → Bool
alike s t i = eqb (chip_at t i) (chip_at s i)

short_sent : SentAt CWithB (air_of CWithB it.one_bit) 0 (content_in Format.B 10 (take 13 it.one_bit))
unfolding air_of encoding packed tabulate gather sent_chips frame_size size_of cut content_in payload alike
short_sent =
    let s = air_of CWithB (take 13 it.one_bit) in
    let t = air_of CWithB it.one_bit in
    sent_before CWithB s t (content_in Format.B 10 (take 13 it.one_bit))
    (sent_frame CWithB (take 13 it.one_bit) 10 judged_b.1.1.1 tt) (omega arith)
    (λ i h. eqb→eq (chip_at t i) (chip_at s i) (all_below_at (alike s t) 136 tt i h))

not_b : (w : ℕ) → 0 < w → NeverSent CWithB w 0 → ⊥
unfolding air_of encoding packed tabulate gather bits_of passes sent_chips frame_size size_of cut content_in payload
not_b =
    nearer CWithB 0 12 1 38 it.sent_long it.one_bit judged_b.1.1.0 tt refl (λ e. omega arith) tt (omega arith)
    (omega arith) (content_in Format.B 10 (take 13 it.one_bit))
    short_sent

-- ---- exactly

none_b : {w : ℕ} → w ≤ 0 → NeverSent CWithB w 0
none_b le s t place c sent damage e se =
    let at = damage.within damage.place damage.differs in
    omega (arith, at.0, at.1)

anywhere : (k : Kind) (w : ℕ) → NeverSent k w 0 ↔ (w ≤ chips_anywhere k)
anywhere TWithA w = exactly 22 w (omega arith) (not_t w) never_t
anywhere CWithA w = exactly 16 w (omega arith) (not_c w) never_c
anywhere CWithB w = exactly 0 w (omega arith) (not_b w) none_b
anywhere ManchesterWithA w = exactly 33 w (omega arith) (not_m w) never_m

pub chips_seen : ChipsSeen
chips_seen =
    record {
      anywhere = anywhere;
      behind_the_length = λ w. exactly 16 w (omega arith) (not_b_behind w) (λ le. never_b le (omega arith));
      three_of_six_words = three_of_six_even;
      manchester_words = manchester_even;
    }
