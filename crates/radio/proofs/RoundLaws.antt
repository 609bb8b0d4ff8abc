-- Sending and receiving undo each other, for every kind (document 01; specs/Sending, specs/Heard).
--     sending_of_accepts    sending, where content and room are right; sending_of-accepted: and nothing else is
--                           accepted
--     sent_at_among         what was sent stands among other bytes as SentAt says
--     receiving_of_among    so it is received there, where the call reaches it
--     sent_heard           receiving what was sent gives back content and kind, at place 0, as the first position tried
--     heard_sent           sending what was received gives back the chips that were received
use Rattle.std.specs.Prelude.{Result, Ok}
use mathlib.Core.List.{List, [], ◌++◌}
use mathlib.Core.Path.{◌≡◌, refl, ap, sym, ◌∙◌}
use Prim.Native.Nat.{ℕ, ◌+◌, ◌-◌, ◌*◌, ◌≤◌, ◌<◌}
use native.Mathlib.Nat.{zero-add}
use native.Mathlib.Omega.{arith}
use borrow.Author.Tests.{le-ltb, ltb-false}
use lib.Dec.{ltb}
use lib.ListN.{length, take, drop, length-append, length-take}
use lib.Seq.{take-append-add}
use Rattle.answers.specs.Outcome.{leaving, Outcome}
use Rattle.answers.specs.declared.Refusal.{Refusal}
use Rattle.ground.specs.Bytes.{Bytes}
use Rattle.chips.specs.Chips.{chip_at, room_limit}
use Rattle.chips.proofs.PackingLaws.{chip_at_middle}
use Rattle.line.specs.Encoding.{encoding, encoded_size}
use Rattle.line.proofs.TripLaws.{length-encoding}
use Rattle.frame.specs.Formats.{form_of, within, frame_size}
use Rattle.frame.specs.Frames.{frame_of}
use Rattle.frame.proofs.FormatLaws.{within_true, true_within}
use Rattle.frame.proofs.FrameLaws.{length_frame_of}
use Rattle.sync.specs.declared.Kind.{Kind}
use Rattle.sync.specs.Kinds.{sync_bytes}
use Rattle.radio.specs.KindParts.{line_of, format_of}
use Rattle.radio.specs.Sending.{air_of, air_size, putting, sending_of, sent_of, sent_chips, SentAt}
use Rattle.radio.specs.Heard.{searched, receiving_of, Reached, first_try, Heard, heard_of}
use Rattle.radio.proofs.KindLaws.{reached_sent}
use Rattle.radio.proofs.HeardLaws.{receiving_of_heard}
use Rattle.radio.proofs.PutLaws.{accepted-cond_true, accepted-cond_false}

module _ (k : Kind) (c : List ℕ) where
  -- how many bytes sending c writes
  abbrev sent_size : ℕ
  sent_size = air_size k (frame_size (format_of k) (length c))

  length-sent_of : length (sent_of k c) ≡ sent_size
  unfolding air_of
  length-sent_of =
      let frame = frame_of (format_of k) c in
      let coded = length-encoding (line_of k) frame ∙ ap (encoded_size (line_of k)) (length_frame_of (format_of k) c) in
      length-append (sync_bytes k) (encoding (line_of k) frame) ∙ ap (λ (x : ℕ). length (sync_bytes k) + x) coded

  -- all chips that are sent lie in these bytes
  sent_chips-le : sent_chips k (length c) ≤ 8 * length (sent_of k c)
  unfolding sent_chips
  sent_chips-le = omega (arith, length-sent_of)

  module _ (d : List ℕ) where
    sending_of_accepts :
        (form_of (format_of k)).shortest ≤ length c → length c ≤ (form_of (format_of k)).longest → sent_size ≤ length d
        → sending_of k c d ≡ leaving (Ok sent_size) (sent_of k c ++ drop sent_size d)
    unfolding sending_of putting
    sending_of_accepts low high room =
        let allowed = within_true (form_of (format_of k)).shortest (form_of (format_of k)).longest (length c) low high
        in
        rw (allowed, length_frame_of (format_of k) c, le-ltb (length d) sent_size room)

    record Sendable : Type 0 where
      low : (form_of (format_of k)).shortest ≤ length c
      high : length c ≤ (form_of (format_of k)).longest
      room : sent_size ≤ length d

    putting-accepted :
        (p : List ℕ) {y : ℕ} → (putting k p d).answer ≡ Ok y → air_size k (length p) ≤ length d
    unfolding putting
    putting-accepted p e =
        let size = air_size k (length p) in
        let put : Outcome (Result ℕ Refusal) = leaving (Ok size) (air_of k p ++ drop size d) in
        ltb-false (length d) size (accepted-cond_false (ltb (length d) size) Refusal.NoRoom _ put e).0

    sending_of-accepted : {y : ℕ} → (sending_of k c d).answer ≡ Ok y → Sendable
    unfolding sending_of
    sending_of-accepted e =
        let allowed = within (form_of (format_of k)).shortest (form_of (format_of k)).longest (length c) in
        let tests = accepted-cond_true allowed Refusal.BadContent _ (putting k (frame_of (format_of k) c) d) e in
        let both = true_within (form_of (format_of k)).shortest (form_of (format_of k)).longest (length c) tests.0 in
        let room = rw (length_frame_of (format_of k) c) at (putting-accepted (frame_of (format_of k) c) tests.1) in
        record { low = both.0; high = both.1; room = room }

  module _ (bytes : Bytes c) (low : (form_of (format_of k)).shortest ≤ length c) where
    sent_at_among :
        length c ≤ (form_of (format_of k)).longest → (pre post : List ℕ)
        → SentAt k (pre ++ (sent_of k c ++ post)) (8 * length pre) c
    sent_at_among high pre post =
        record {
          bytes = bytes;
          low = low;
          high = high;
          whole = omega (
            arith,
            sent_chips-le,
            length-append pre (sent_of k c ++ post),
            length-append (sent_of k c)
                post,
          );
          chips = λ i h. chip_at_middle pre (sent_of k c) post i (omega (arith, sent_chips-le));
        }

-- the first m bytes of memory that was sent into, where all that was sent is among them
module _ (k : Kind) (c buf : List ℕ) where
  take_sent_in :
      (m : ℕ) → length (sent_of k c) ≤ m
      → take m (sent_of k c ++ drop (sent_size k c) buf)
      ≡ sent_of k c ++ take (m - length (sent_of k c)) (drop (sent_size k c) buf)
  take_sent_in m h =
      let all : length (sent_of k c) + (m - length (sent_of k c)) ≡ m = omega arith in
      rw all at (take-append-add (sent_of k c) (drop (sent_size k c) buf) (m - length (sent_of k c)))

  sent_fits :
      {o : Outcome (Result ℕ Refusal)} {x : List ℕ} {y m : ℕ}
      → o ≡ leaving (Ok (sent_size k c)) x → o.answer ≡ Ok y → y ≤ m
      → length (sent_of k c) ≤ m
  sent_fits {y = y} is e h =
      let answer = ap (λ (x : Outcome (Result ℕ Refusal)). x.answer) is in
      let same : sent_size k c ≡ y = cc in
      omega (arith, same, length-sent_of k c)

module _ (k : Kind) (c d : List ℕ) (bytes : Bytes c) (room : length c ≤ length d) where
  pub receiving_of_among : (pre post : List ℕ) (start a t : ℕ) → (form_of (format_of k)).shortest ≤ length c
      → length c ≤ (form_of (format_of k)).longest → let s = pre ++ (sent_of k c ++ post) in
      length s ≤ room_limit → Reached (searched k) s start a (8 * length pre) t
      → receiving_of k s start a d ≡ heard_of k (8 * length pre) t (frame_size (format_of k) (length c)) c d
  receiving_of_among pre post start a t low high small reached =
      let sent = sent_at_among k c bytes low high pre post in
      receiving_of_heard (pre ++ (sent_of k c ++ post)) start a d
      (record { small = small; reached = reached; sent = sent; count = refl; size = refl; room = room })

  pub sent_heard :
      (buf : List ℕ) (a y m : ℕ) → 0 < a → (sending_of k c buf).answer ≡ Ok y → y ≤ m → m ≤ room_limit
      → receiving_of k (take m (sending_of k c buf).memory) 0 a d
      ≡ heard_of k 0 (first_try k) (frame_size (format_of k) (length c)) c d
  sent_heard buf a y m some e whole small =
      let p = sending_of-accepted k c buf e in
      let o = sending_of_accepts k c buf p.low p.high p.room in
      let rest = take (m - length (sent_of k c)) (drop (sent_size k c) buf) in
      let among = sent_fits k c buf o e whole in
      let memory = ap (λ (x : Outcome (Result ℕ Refusal)). take m x.memory) o ∙ take_sent_in k c buf m among in
      let reached = reached_sent k (sent_at_among k c bytes p.low p.high [] rest) some in
      let fits : length (sent_of k c ++ rest) ≤ room_limit = rw (← memory, length-take) (omega arith) in
      ap (λ (s : List ℕ). receiving_of k s 0 a d) memory
      ∙ receiving_of_among [] rest 0 a (first_try k) p.low p.high fits reached

-- the first chips of memory that was sent into
chip_at_sent_in :
    (k : Kind) (c rest : List ℕ) (i : ℕ) → i < sent_chips k (length c)
    → chip_at (sent_of k c ++ rest) i ≡ chip_at (sent_of k c) i
chip_at_sent_in k c rest i h =
    ap (chip_at (sent_of k c ++ rest)) (sym (zero-add i))
    ∙ chip_at_middle [] (sent_of k c) rest i (omega (arith, sent_chips-le k c))

sending_of_heard :
    {s : List ℕ} {start a : ℕ} {d : List ℕ} {k : Kind} {place t z n : ℕ} {c : List ℕ}
    → Heard s start a d k place t z n c → (out : List ℕ) → let y = air_size k z in y ≤ length out
    → sending_of k c out ≡ leaving (Ok y) (sent_of k c ++ drop y out)
sending_of_heard {k = k} {c = c} h out room =
    let size = ap (frame_size (format_of k)) h.count ∙ sym h.size in
    rw size at (sending_of_accepts k c out h.sent.low h.sent.high (rw size room))

pub heard_sent :
    (s : List ℕ) (start a : ℕ) (d : List ℕ) (k : Kind) (place t z n : ℕ) (c out : List ℕ)
    → Heard s start a d k place t z n c → air_size k z ≤ length out
    → ((sending_of k c out).answer ≡ Ok (air_size k z))
    × ((i : ℕ) → i < sent_chips k n → chip_at (sending_of k c out).memory i ≡ chip_at s (place + i))
heard_sent s start a d k place t z n c out h room = (
  ap (λ (o : Outcome (Result ℕ Refusal)). o.answer) (sending_of_heard h out room),
  λ i l.
      let inside : i < sent_chips k (length c) = rw h.count l in
      ap (λ (o : Outcome (Result ℕ Refusal)). chip_at o.memory i) (sending_of_heard h out room)
      ∙ chip_at_sent_in k c (drop (air_size k z) out) i inside
      ∙ sym (h.sent.chips i inside),
)
