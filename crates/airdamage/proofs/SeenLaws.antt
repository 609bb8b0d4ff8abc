-- Inverted chips of a frame in chips are always seen (specs/ChipDamage): the frame that would stand there and the one
-- that was sent would be two frames that differ within sixteen bits.
--     overlaid          the second frame, and behind it what the first has there
--     overlaid_near     it differs from the first within 16 bits, or 17 of which two differ together
--     one_frame         so the two are one
--     no_chip           and no chip of it is inverted
--     never_t .. never_b    what is always so of each kind
--     not_received      and so no call receives such a frame there
-- Assumes nothing.
use Rattle.std.specs.Prelude.{Ok}
use Rattle.radio.specs.Receiving.{reception}
use mathlib.Core.List.{List, ◌++◌}
use mathlib.Core.Logic.{inl, inr, ⊎_elim}
use mathlib.Core.Path.{◌≡◌, refl, sym, ap, ap₂, ◌∙◌, subst}
use Prim.Native.Nat.{ℕ, suc, ◌+◌, ◌*◌, ◌-◌, ◌/◌, ◌%◌, ◌≤◌, ◌<◌, ◌^◌}
use native.Mathlib.Omega.{arith}
use borrow.Author.Tests.{ltb-true, ltb-false}
use lib.Bits.{bit_xor, xor_self}
use lib.Dec.{ltb}
use lib.ListN.{length, take, drop, get_or, length-append, length-drop, get_or-append, get_or-eq_default}
use lib.Seq.{take_at, take_all, get_or-take, get_or-drop, get_or-append-add, ext_get_or, length-take-le}
use Rattle.ground.specs.Bytes.{Bytes}
use Rattle.ground.proofs.CaseLaws.{by_test}
use Rattle.ground.proofs.XorLaws.{xor_equal}
use Rattle.ground.proofs.ByteLaws.{bytes-append, bytes_drop}
use Rattle.chips.specs.Chips.{chip_at}
use Rattle.chips.proofs.PackingLaws.{gather_same}
use Rattle.chips.proofs.WindowLaws.{word_at_byte}
use Rattle.line.specs.Codes.{chips_in}
use Rattle.line.specs.Encoding.{encoded_chip}
use Rattle.patterns.proofs.Patterns.{Zeros}
use Rattle.patterns.proofs.TwinLaws.{NearTwin, twin_front, twin_back, near_zeros}
use Rattle.patterns.proofs.ZerosLaws.{inside}
use Rattle.frame.specs.declared.Format.{Format}
use Rattle.frame.specs.Frames.{frame_of, FrameAt}
use Rattle.frame.proofs.AcceptLaws.{frame_some}
use Rattle.frame.proofs.FrameLaws.{length_frame_of, frame_of_bytes}
use Rattle.damage.specs.Damage.{bits_of, LengthStays}
use Rattle.damage.proofs.BitsLaws.{pattern, length-pattern, pattern_at, pattern-inverted}
use Rattle.damage.proofs.SeenLaws.{same_size, same_spans, narrow, kept_a}
use Rattle.damage.proofs.WalkLaws.{Telling, telling_zeros}
use Rattle.sync.specs.declared.Kind.{Kind}
use Rattle.sync.specs.declared.Kind.TheVariants.{TWithA, CWithA, CWithB, ManchesterWithA}
use Rattle.sync.specs.Kinds.{lead_of}
use Rattle.radio.specs.KindParts.{line_of, format_of}
use Rattle.radio.specs.Sending.{sent_chips, SentAt}
use Rattle.radio.specs.Heard.{receiving_of}
use Rattle.radio.proofs.AirLaws.{coded_sent}
use Rattle.radio.proofs.HeardLaws.{accepted_heard}
use Rattle.airdamage.specs.ChipDamage.{Flipped, ChipBurst, NeverSent}
use Rattle.airdamage.proofs.WordLaws.{unflipped}
use Rattle.airdamage.proofs.ChipLaws.{bits_chips, nrz_chip, Differing, Together, Near, Narrows, narrows_manchester, narrows_nrz}
use Rattle.airdamage.proofs.ThreeOfSixLaws.{narrows_three_of_six}

-- two frames of one format: b of the content c, q of the content e
module _ (f : Format) (b q : List ℕ) where
  abbrev overlaid : List ℕ
  overlaid = q ++ drop (length q) b

  overlaid_front : (p : ℕ) → p < 8 * length q → chip_at overlaid p ≡ chip_at q p
  overlaid_front p h =
      ap (λ (x : ℕ). x / 2 ^ (7 - p % 8) % 2) (get_or-append q (drop (length q) b) 0 (p / 8) (omega arith))

  overlaid_back : (p : ℕ) → 8 * length q ≤ p → chip_at overlaid p ≡ chip_at b p
  overlaid_back p h =
      let j = p / 8 - length q in
      let there : length q + j ≡ p / 8 = omega arith in
      ap (λ (x : ℕ). x / 2 ^ (7 - p % 8) % 2)
      (ap (λ (i : ℕ). get_or overlaid i 0) (sym there) ∙ get_or-append-add q (drop (length q) b) j 0
      ∙ get_or-drop (length q) b j 0 ∙ ap (λ (i : ℕ). get_or b i 0) there)

  overlaid_room : length b ≤ length overlaid
  overlaid_room = omega (arith, length-append q (drop (length q) b), length-drop (length q) b)

  overlaid_count : length (take (length b) overlaid) ≡ length (take (length b) b)
  overlaid_count =
      length-take-le (length b) overlaid overlaid_room ∙ sym (length-take-le (length b) b (omega arith))

  -- bit p of the two, as the pattern between them has it
  old_bit : (p : ℕ) → get_or (bits_of (take (length b) b)) p 0 ≡ chip_at b p
  old_bit p = bits_chips (take (length b) b) p ∙ ap (λ (x : List ℕ). chip_at x p) (take_all (length b) b (omega arith))

  new_bit : (p : ℕ) → p < 8 * length b → get_or (bits_of (take (length b) overlaid)) p 0 ≡ chip_at overlaid p
  new_bit p h =
      bits_chips (take (length b) overlaid) p
      ∙ ap (λ (x : ℕ). x / 2 ^ (7 - p % 8) % 2) (get_or-take (length b) overlaid (p / 8) 0 (omega arith))

  -- a bit that differs between the two stands in the second frame
  overlaid-differs :
      (p : ℕ) → (get_or (pattern (take (length b) b) (take (length b) overlaid)) p 0 ≡ 0 → ⊥)
      → (p < 8 * length b) × ((p < 8 * length q) × (chip_at q p ≡ chip_at b p → ⊥))
  overlaid-differs p one =
      let old = take (length b) b in
      let new = take (length b) overlaid in
      let other = pattern-inverted old new overlaid_count p one in
      let there : p < 8 * length b = omega (
        arith,
        inside (pattern old new) p one,
        length-pattern old new overlaid_count,
        length-take-le (length b) b (omega arith),
      ) in
      by_test (ltb p (8 * length q))
      (λ t.
      let front = ltb-true p (8 * length q) t in
      (there, (front, λ same. other (new_bit p there ∙ overlaid_front p front ∙ same ∙ sym (old_bit p)))))
      (λ t.
      absurd (other (new_bit p there ∙ overlaid_back p (ltb-false p (8 * length q) t) ∙ sym (old_bit p))))

  -- what the pattern has at a place of both, and behind the second frame
  abbrev between_them : List ℕ
  between_them = pattern (take (length b) b) (take (length b) overlaid)

  digit_both :
      (p : ℕ) → p < 8 * length b → p < 8 * length q → get_or between_them p 0 ≡ bit_xor (chip_at b p) (chip_at q p)
  digit_both p in_b in-q =
      pattern_at (take (length b) b) (take (length b) overlaid) overlaid_count p
      ∙ ap₂ bit_xor (old_bit p) (new_bit p in_b ∙ overlaid_front p in-q)

  digit_behind : (p : ℕ) → p < 8 * length b → 8 * length q ≤ p → get_or between_them p 0 ≡ 0
  digit_behind p in_b out-q =
      pattern_at (take (length b) b) (take (length b) overlaid) overlaid_count p
      ∙ ap₂ bit_xor (old_bit p) (new_bit p in_b ∙ overlaid_back p out-q) ∙ xor_self (chip_at b p)

  digit_past : (p : ℕ) → 8 * length b ≤ p → get_or between_them p 0 ≡ 0
  digit_past p past =
      let old = take (length b) b in
      get_or-eq_default between_them 0 (omega (
        arith,
        length-pattern old (take (length b) overlaid) overlaid_count,
        length-take-le (length b) b (omega arith),
      ))

  -- two places of which the first is even are both there or both not
  digits_together : (p : ℕ) → Together b q p → get_or between_them p 0 ≡ get_or between_them (suc p) 0
  digits_together p pair =
      let even = pair.even in
      by_test (ltb (suc p) (8 * length b))
      (λ t.
      let in_b = ltb-true (suc p) (8 * length b) t in
      by_test (ltb (suc p) (8 * length q))
      (λ e.
      let in-q = ltb-true (suc p) (8 * length q) e in
      digit_both p (omega arith) (omega arith) ∙ pair.both in_b in-q ∙ sym (digit_both (suc p) in_b in-q))
      (λ e.
      let out-q = ltb-false (suc p) (8 * length q) e in
      digit_behind p (omega arith) (omega arith) ∙ sym (digit_behind (suc p) in_b out-q)))
      (λ t.
      let past = ltb-false (suc p) (8 * length b) t in
      digit_past p (omega arith) ∙ sym (digit_past (suc p) past))

  overlaid_within :
      (w first : ℕ) → Differing b q first w → (p : ℕ) → (get_or between_them p 0 ≡ 0 → ⊥)
      → (first ≤ p) × (p < first + w)
  overlaid_within w first differing p one =
      let at = overlaid-differs p one in
      differing p at.0 at.1.0 at.1.1

  overlaid_near : Near b q → NearTwin between_them
  overlaid_near near =
      ⊎_elim (λ one. inl (one.0, overlaid_within 16 one.0 one.1))
      (λ two. inr (two.0, (overlaid_within 17 two.0 two.1.0, digits_together two.0 two.1.1))) near

-- such patterns tell
twins_tell : Telling 1024 NearTwin Zeros
twins_tell = telling_zeros 1024 NearTwin twin_front twin_back (λ u short. near_zeros u)

-- two frames in chips at one place
module _ (k : Kind) (s t : List ℕ) (place : ℕ) (c e : List ℕ) (sc : SentAt k s place c) (se : SentAt k t place e) where
  abbrev f : Format
  f = format_of k

  abbrev at : ℕ
  at = place + lead_of k

  abbrev b : List ℕ
  b = frame_of f c

  abbrev q : List ℕ
  q = frame_of f e

  abbrev u : List ℕ
  u = overlaid f b q

  frame_b : FrameAt f b (length b) c
  frame_b =
      record {
        low = sc.low;
        high = sc.high;
        size = length_frame_of f c;
        bytes = take_all (length b) b (omega arith);
      }

  frame_u : FrameAt f u (length q) e
  frame_u =
      record {
        low = se.low;
        high = se.high;
        size = length_frame_of f e;
        bytes = take_at q (drop (length q) b) (length q) refl;
      }

  bytes_b : Bytes b
  bytes_b = frame_of_bytes f c sc.low sc.high sc.bytes

  bytes_q : Bytes q
  bytes_q = frame_of_bytes f e se.low se.high se.bytes

  bytes_u : Bytes u
  bytes_u = bytes-append q (drop (length q) b) bytes_q (bytes_drop (length q) b bytes_b)

  module _ (window : NearTwin (pattern (take (length b) b) (take (length b) u))) (kept : LengthStays b u) where
    no_bit : Zeros (pattern (take (length b) b) (take (length b) u))
    no_bit =
        same_spans frame_b frame_u bytes_b bytes_u twins_tell (narrow f (length c)) kept window

    one_size : length q ≡ length b
    one_size = (same_size frame_b frame_u bytes_b bytes_u kept).0

    same_bit : (p : ℕ) → p < 8 * length b → chip_at b p ≡ chip_at q p
    same_bit p h =
        xor_equal (chip_at b p) (chip_at q p) (sym (digit_both f b q p h (omega (arith, one_size))) ∙ no_bit p)

    one_frame : b ≡ q
    one_frame =
        ext_get_or 0 b q (sym one_size)
        (λ j h.
        sym (word_at_byte b j (bytes_b j)) ∙ gather_same (chip_at b) (chip_at q) (8 * j) (8 * j) 8
        (λ i l. same_bit (8 * j + i) (omega arith))
        ∙ word_at_byte q j (bytes_q j))

    -- so no chip of the frame is inverted
    no_chip : (p : ℕ) → at ≤ p → p < place + sent_chips k (length c) → Flipped s t p → ⊥
    unfolding sent_chips
    no_chip p low high other =
        let i = p - at in
        let there : at + i ≡ p = omega arith in
        let in_b : i < chips_in (line_of k) (length b) =
        rw (length_frame_of f c) (omega arith) in
        let in-q : i < chips_in (line_of k) (length q) = rw one_size in_b in
        other (ap (chip_at t) (sym there) ∙ (coded_sent se).holds i in-q
        ∙ ap (λ (x : List ℕ). encoded_chip (line_of k) x i) (sym one_frame)
        ∙ sym ((coded_sent sc).holds i in_b) ∙ ap (chip_at s) there)

-- ---- kind by kind

-- the length byte is kept between the frame that was sent and the one that would stand there
abbrev KeptIn : Kind → ℕ → ℕ → Type 0
KeptIn k w skip =
    (s t : List ℕ) (place : ℕ) (c e : List ℕ) (sc : SentAt k s place c) (se : SentAt k t place e)
    → ChipBurst w (place + lead_of k + skip) (place + sent_chips k (length c)) s t
    → let b = frame_of (format_of k) c in
    let u = overlaid (format_of k) b (frame_of (format_of k) e) in
    NearTwin (pattern (take (length b) b) (take (length b) u)) → LengthStays b u

never_sent : (k : Kind) (w skip : ℕ) → Narrows (line_of k) w → KeptIn k w skip → NeverSent k w skip
never_sent k w skip narrows kept s t place c sc damage e se =
    let f = format_of k in
    let b = frame_of f c in
    let q = frame_of f e in
    let first = narrows s t (place + lead_of k) b q (coded_sent sc).holds (coded_sent se).holds damage.first
    damage.within in
    let window = overlaid_near f b q first in
    let there = damage.inside damage.place damage.differs in
    no_chip k s t place c e sc se window (kept s t place c e sc se damage window) damage.place
    (omega (arith, there.0)) there.1 damage.differs

-- in format A block 1 keeps it
kept_in_a : (k : Kind) (w skip : ℕ) → format_of k ≡ Format.A → KeptIn k w skip
kept_in_a k w skip a s t place c e sc se damage window =
    let f = format_of k in
    let b = frame_of f c in
    let q = frame_of f e in
    kept_a twins_tell (omega arith) (λ old new. NearTwin (pattern old new))
    (λ old new p. p) b (overlaid f b q) (length b) (length q) c e
    (subst (λ (g : Format). FrameAt g b (length b) c) a (frame_b k s t place c e sc se))
    (subst (λ (g : Format). FrameAt g (overlaid f b q) (length q) e) a (frame_u k s t place c e sc se))
    (bytes_b k s t place c e sc se) (bytes_u k s t place c e sc se) (overlaid_room f b q) window

-- in format B its chips are not among the inverted
kept_in_b : (w : ℕ) {skip : ℕ} → 8 ≤ skip → KeptIn CWithB w skip
kept_in_b w eight s t place c e sc se damage window =
    let b = frame_of Format.B c in
    let q = frame_of Format.B e in
    let at = place + lead_of CWithB in
    let some-b = frame_some (frame_b CWithB s t place c e sc se) in
    let some-q = frame_some (frame_u CWithB s t place c e sc se) in
    get_or-append q (drop (length q) b) 0 0 some-q ∙ sym (word_at_byte q 0 (bytes_q CWithB s t place c e sc se 0))
    ∙ gather_same (chip_at q) (chip_at b) 0 0 8
    (λ i h.
    sym (nrz_chip t at q (coded_sent se).holds (0 + i) (omega arith))
    ∙ unflipped s t (at + (0 + i)) (λ other. omega (arith, (damage.inside (at + (0 + i)) other).0))
    ∙ nrz_chip s at b (coded_sent sc).holds (0 + i) (omega arith))
    ∙ word_at_byte b 0 (bytes_b CWithB s t place c e sc se 0)

-- what is always so, kind by kind
pub never_t : {w : ℕ} → w ≤ 22 → NeverSent TWithA w 0
never_t {w} le = never_sent TWithA w 0 (narrows_three_of_six le) (kept_in_a TWithA w 0 refl)

pub never_c : {w : ℕ} → w ≤ 16 → NeverSent CWithA w 0
never_c {w} le = never_sent CWithA w 0 (narrows_nrz le) (kept_in_a CWithA w 0 refl)

pub never_m : {w : ℕ} → w ≤ 33 → NeverSent ManchesterWithA w 0
never_m {w} le = never_sent ManchesterWithA w 0 (narrows_manchester le) (kept_in_a ManchesterWithA w 0 refl)

pub never_b : {w skip : ℕ} → w ≤ 16 → 8 ≤ skip → NeverSent CWithB w skip
never_b {w} {skip} le eight = never_sent CWithB w skip (narrows_nrz le) (kept_in_b w eight)

-- what a call would accept there was sent there
pub not_received :
    (k : Kind) (w skip : ℕ) → NeverSent k w skip → (s t : List ℕ) (place : ℕ) (c : List ℕ) → SentAt k s place c
    → ChipBurst w (place + lead_of k + skip) (place + sent_chips k (length c)) s t
    → (j : Kind) (start a : ℕ) (d : List ℕ) (tried z n : ℕ)
    → (receiving_of j t start a d).answer ≡ Ok (reception k place tried z n) → ⊥
not_received k w skip never s t place c sent damage j start a d tried z n accepted =
    let heard = accepted_heard t start a d j k place tried z n accepted in
    never s t place c sent damage heard.0 heard.1.sent
