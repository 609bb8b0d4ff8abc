-- Round trips of demand 2 that begin with an accepted call: the line codes, and sending what was received.
use mathlib.Core.List.{List, [], ◌++◌}
use mathlib.Core.Path.{◌≡◌, sym, ◌∙◌, ap, subst}
use Prim.Native.Nat.{ℕ, ◌+◌, ◌-◌, ◌*◌, ◌≤◌, ◌<◌}
use native.Mathlib.Nat.{zero-add}
use native.Mathlib.Omega.{arith}
use borrow.Author.Tests.{ltb-false}
use lib.Dec.{ltb}
use lib.ListN.{length, take, drop, length-append, length-take}
use lib.Seq.{take_at, take-append-add}
use Rattle.std.specs.Prelude.{Result, Ok, ⊤}
use Rattle.answers.specs.declared.Refusal.{Refusal}
use Rattle.answers.specs.Outcome.{Outcome}
use Rattle.ground.specs.Bytes.{Bytes}
use Rattle.chips.specs.Chips.{chip_at, room_limit}
use Rattle.chips.proofs.PackingLaws.{chip_at_middle}
use Rattle.line.specs.declared.codes.Code.{Code}
use Rattle.line.specs.Codes.{LineCode, code_of, chips_in}
use Rattle.line.specs.Decoding.{decoding, decoded}
use Rattle.line.specs.Encoding.{encoding, encoded_size, encoded}
use Rattle.line.proofs.AnswerLaws.{decoded_accepts, decoded-accepted, encoded-accepted, Acceptable}
use Rattle.line.proofs.CodeLaws.{lawful}
use Rattle.line.proofs.TripLaws.{length-encoding, encoding_holds, decoded-encoded, encoding-decoding, length-decoding}
use Rattle.sync.specs.declared.Kind.{Kind}
use Rattle.radio.specs.Sending.{sending_of, air_size, sent_chips}
use Rattle.radio.specs.Heard.{receiving_of}
use Rattle.radio.proofs.PutLaws.{accepted-cond_false}
use Rattle.radio.proofs.HeardLaws.{heard_exactly}
use Rattle.radio.proofs.RoundLaws.{heard_sent}
use Rattle.radio.specs.Receiving.{reception}

-- an outcome is its answer and its memory
outcome_eta : {A : Type 0} (o : Outcome A) {a : A} → o.answer ≡ a → o ≡ record { answer = a; memory = o.memory }
outcome_eta {A} o e = ap (λ (x : A). record { answer = x; memory = o.memory }) e

-- sending c gives the chips of s from `place` on
abbrev SendsBack : List ℕ → ℕ → Kind → ℕ → ℕ → List ℕ → List ℕ → Type 0
SendsBack s place k z n out c =
    let o = sending_of k c out in
    (o.answer ≡ Ok (air_size k z))
    × ((i : ℕ) → i < sent_chips k n → chip_at o.memory i ≡ chip_at s (place + i))

pub received_sent :
    (s : List ℕ) (start a : ℕ) (d : List ℕ) (j k : Kind) (place t z n : ℕ) (out : List ℕ)
    → (receiving_of j s start a d).answer ≡ Ok (reception k place t z n) → air_size k z ≤ length out
    → SendsBack s place k z n out (take n (receiving_of j s start a d).memory)
received_sent s start a d j k place t z n out e room =
    let r = receiving_of j s start a d in
    let (c, (heard, (memory, kind))) = (heard_exactly s start a d j k place t z n r.memory).0 (outcome_eta r e) in
    subst (SendsBack s place k z n out)
    (sym (ap (take n) memory ∙ take_at c (drop n d) n heard.count))
    (heard_sent s start a d k place t z n c out heard room)

encode_room :
    (κ : LineCode) (b buf : List ℕ) (z : ℕ) → (encoded κ b buf).answer ≡ Ok z
    → encoded_size κ (length b) ≤ length buf
unfolding encoded
encode_room κ b buf z e =
    let size = encoded_size κ (length b) in
    let put : Outcome (Result ℕ Refusal) = record { answer = Ok size; memory = encoding κ b ++ drop size buf } in
    ltb-false (length buf) size (accepted-cond_false (ltb (length buf) size) Refusal.NoRoom buf put e).0

-- the first m bytes of memory that was encoded into, where all code words are among them
encode_takes :
    (κ : LineCode) (b buf : List ℕ) (z m : ℕ) → (encoded κ b buf).answer ≡ Ok z → z ≤ m
    → (rest : List ℕ) × ((take m (encoded κ b buf).memory ≡ encoding κ b ++ rest)
    × (length (encoding κ b ++ rest) ≤ m))
encode_takes κ b buf z m e all =
    let o = encoded-accepted κ b buf (encode_room κ b buf z e) in
    let answer = ap (λ (x : Outcome (Result ℕ Refusal)). x.answer) o in
    let same : encoded_size κ (length b) ≡ z = cc in
    let size = length-encoding κ b in
    let rest = take (m - length (encoding κ b)) (drop (encoded_size κ (length b)) buf) in
    let front = take-append-add (encoding κ b) (drop (encoded_size κ (length b)) buf) (m - length (encoding κ b)) in
    let whole : length (encoding κ b) + (m - length (encoding κ b)) ≡ m = omega (arith, size) in
    let is = ap (λ (x : Outcome (Result ℕ Refusal)). take m x.memory) o ∙ rw whole at front in
    (rest, (is, rw (← is, length-take) (omega arith)))

-- the first chips of bytes with others behind them
chip_at_front : (t rest : List ℕ) (i : ℕ) → i < 8 * length t → chip_at (t ++ rest) i ≡ chip_at t i
chip_at_front t rest i h = ap (chip_at (t ++ rest)) (sym (zero-add i)) ∙ chip_at_middle [] t rest i h

module _ (code : Code) where
  abbrev κ : LineCode
  κ = code_of code

  pub encode_decodes :
      (b buf d : List ℕ) (z m : ℕ) → Bytes b → (encoded κ b buf).answer ≡ Ok z
      → z ≤ m → m ≤ room_limit → length b ≤ length d
      → decoded κ (take m (encoded κ b buf).memory) 0 (length b) d
      ≡ record { answer = Ok tt; memory = b ++ drop (length b) d }
  encode_decodes b buf d z m bytes e all small room =
      let t = encode_takes κ b buf z m e all in
      let size = length-append (encoding κ b) t.0 in
      ap (λ (s : List ℕ). decoded κ s 0 (length b) d) t.1.0
      ∙ decoded-encoded (lawful code) (encoding κ b ++ t.0) 0 d b bytes (encoding_holds κ b [] t.0)
      (omega (arith, t.1.1)) (omega (arith, size, length-encoding κ b)) room

  -- encoding c gives the chips of s from `start` on
  abbrev EncodesBack : List ℕ → ℕ → ℕ → List ℕ → List ℕ → Type 0
  EncodesBack s start n out c =
      let o = encoded κ c out in
      (o.answer ≡ Ok (encoded_size κ n))
      × ((i : ℕ) → i < chips_in κ n → chip_at o.memory i ≡ chip_at s (start + i))

  encodes_back :
      (s : List ℕ) (start n : ℕ) (d out : List ℕ) → Acceptable κ s start n d → encoded_size κ n ≤ length out
      → EncodesBack s start n out (decoding κ s start n)
  encodes_back s start n d out ok room =
      let c = decoding κ s start n in
      let size = length-decoding κ s start n in
      let o = encoded-accepted κ c out (rw size room) in (
        ap (λ (x : Outcome (Result ℕ Refusal)). x.answer) o ∙ rw size,
        λ i h.
            ap (λ (x : Outcome (Result ℕ Refusal)). chip_at x.memory i) o
            ∙ (chip_at_front (encoding κ c) (drop (encoded_size κ (length c)) out) i
            (rw (length-encoding κ c, size) (omega arith))
            ∙ encoding-decoding (lawful code) s start n ok.words i h),
      )

  pub decode_encodes : (s : List ℕ) (start n : ℕ) (d out : List ℕ) → (decoded κ s start n d).answer ≡ Ok tt
      → encoded_size κ n ≤ length out → EncodesBack s start n out (take n (decoded κ s start n d).memory)
  decode_encodes s start n d out e room =
      let ok = decoded_accepts κ s start n d e in
      let o = decoded-accepted κ s start n d ok.small ok.fits ok.words ok.room in
      let memory = ap (λ (x : Outcome (Result ⊤ Refusal)). x.memory) o in
      let front = take_at (decoding κ s start n) (drop n d) n (length-decoding κ s start n) in
      subst (EncodesBack s start n out) (sym (ap (take n) memory ∙ front)) (encodes_back s start n d out ok room)
