-- The orders of document 01 ("Answer numbers"), a ladder for each call: specs/Rules says how a ladder is read,
-- specs/Cases what each case means. The numbers are document 01's. What two ladders have in common is said once
-- (.. Steps).
use Rattle.std.specs.Prelude.{Bool, List, ◌++◌, true, false, ◌⊎◌, ◌≡◌, ℕ, ◌+◌, ◌≤◌, ◌<◌, ◌^◌, length, get_or, set, drop, Result, Ok, Some, None, ⊤}
use Rattle.answers.specs.declared.Refusal.{Refusal}
use Rattle.answers.specs.Outcome.{Outcome}
use Rattle.chips.specs.Chips.{word_at}
use Rattle.line.specs.Codes.{LineCode, words_in, chips_in}
use Rattle.line.specs.Decoding.{decoding}
use Rattle.line.specs.Encoding.{encoding, encoded_size}
use Rattle.sync.specs.declared.Found.{Found}
use Rattle.sync.specs.declared.Kind.{Kind}
use Rattle.sync.specs.Kinds.{lead_of}
use Rattle.sync.specs.SyncSearch.{positions, found}
use Rattle.sync.specs.FirstMatch.{FirstAt}
use Rattle.crc.specs.CheckUpdate.{updated_check, Mends}
use Rattle.frame.specs.declared.Format.{Format}
use Rattle.frame.specs.declared.Frame.{Frame}
use Rattle.frame.specs.Formats.{spans_of, frame_size, sizes}
use Rattle.frame.specs.Frames.{frame_of, FrameAt}
use Rattle.radio.specs.declared.Reception.{Reception}
use Rattle.radio.specs.KindParts.{line_of, format_of}
use Rattle.radio.specs.Receiving.{length_at}
use Rattle.radio.specs.Sending.{air_size, sent_of, SentAt}
use Rattle.radio.specs.Heard.{heard_of}
use Rattle.header.specs.declared.layout.Header.{Header}
use Rattle.header.specs.declared.layout.HeaderKind.{HeaderKind}
use Rattle.header.specs.Layout.{ci_of, header_length, header_bytes}
use Rattle.header.specs.HeaderReads.{header_in}
use Rattle.address.specs.Names.{name_of}
use Rattle.chipreader.specs.declared.Place.{Place}
use Rattle.chipreader.specs.Steps.{is_closed}
use Rattle.demands.specs.Rules.{Rule, ◌when◌else◌, ◌showing◌else◌, given, accept}
use Rattle.demands.specs.Cases.{OutOfRange, ChipsEnd, CodeWord, FirstNoWord, NoSyncIn, UnknownTail, TailIs, Announces, NotAllowed, FirstWrongBlock, BadContent, InUse}

-- Line codes alone: decoding a named number of bytes 10, 1, 6, 4; encoding 4.
abbrev pub decode_rule : LineCode → List ℕ → ℕ → ℕ → List ℕ → Rule (Outcome (Result ⊤ Refusal))
decode_rule κ s start n d =
    10 when OutOfRange s start
    else 1 when ChipsEnd s (start + chips_in κ n)
    else 6 showing FirstNoWord κ s start (words_in κ n)
    else 4 when length d < n
    else accept (λ o. o ≡ record { answer = Ok tt; memory = decoding κ s start n ++ drop n d })

abbrev pub encode_rule : LineCode → List ℕ → List ℕ → Rule (Outcome (Result ℕ Refusal))
encode_rule κ s d =
    let size = encoded_size κ (length s) in
    4 when length d < size
    else accept (λ o. o ≡ record { answer = Ok size; memory = encoding κ s ++ drop size d })

-- One word: 1, 6. It stands for the number x whose code word it is.
abbrev pub word_steps : {B : Type 0} → LineCode → List ℕ → ℕ → (ℕ → B → Type 0) → Rule B
word_steps κ s at read =
    let y = word_at s at κ.chips in
    1 when ChipsEnd s (at + κ.chips)
    else 6 when (CodeWord κ y → ⊥)
    else accept (λ o. (x : ℕ) × ((x < 2 ^ κ.bits) × ((κ.word_of x ≡ y) × read x o)))

-- One word at a chip: 10, 1, 6.
abbrev pub word_rule : LineCode → List ℕ → ℕ → Rule (Result ℕ Refusal)
word_rule κ s at = 10 when OutOfRange s at else word_steps κ s at (λ x r. r ≡ Ok x)

-- Chip reader: 10 when made; then 1, 6, its place staying. A reader that was refused answers 10 again (D60). A place
-- outside of the chips is 10 too: a reader never meets this, only `Place::step` with a place from elsewhere does.
abbrev pub reader_rule : List ℕ → ℕ → Rule Place
reader_rule s at = 10 when OutOfRange s at else accept (λ p. p ≡ record { at = at; answer = None })

abbrev pub step_rule : LineCode → List ℕ → Place → Rule Place
step_rule κ s p =
    10 when (is_closed p.answer ≡ true) ⊎ OutOfRange s p.at
    else word_steps κ s p.at (λ x q. q ≡ record { at = p.at + κ.chips; answer = Some (Ok x) })

-- Search: 10; 7 or 14, with the positions tried. A match is its place and how many positions were tried.
abbrev pub search_steps : {B : Type 0} → List ℕ → ℕ → ℕ → (ℕ → ℕ → Rule B) → Rule B
search_steps s start a matched =
    let p = positions 16 s start in
    10 when OutOfRange s start
    else 7 showing (λ t. (t ≡ p) × ((p ≤ a) × NoSyncIn s start p))
    else 14 showing (λ t. (t ≡ a) × ((a < p) × NoSyncIn s start a))
    else given (λ (match : ℕ × ℕ). FirstAt 0x543D 16 s start a match.0 match.1) (λ match.
    matched match.0 match.1)

abbrev pub search_rule : List ℕ → ℕ → ℕ → Rule (Result Found Refusal)
search_rule s start a = search_steps s start a (λ place t. accept (λ r. r ≡ Ok (found place t)))

-- Sync tail: 1, 8 with the place of the sync word.
abbrev pub tail_steps : {B : Type 0} → List ℕ → ℕ → (Kind → Rule B) → Rule B
tail_steps s place begun =
    1 when ChipsEnd s (place + 32)
    else 8 showing (λ p. (p ≡ place) × UnknownTail s place)
    else given (TailIs s place) begun

abbrev pub tail_rule : List ℕ → ℕ → Rule (Result Kind Refusal)
tail_rule s place = 10 when OutOfRange s place else tail_steps s place (λ k. accept (λ r. r ≡ Ok k))

-- The separate check update: 10. Otherwise the check of every span that had the old check, with the new byte.
abbrev pub update_rule : ℕ → ℕ → ℕ → ℕ → Rule (Result ℕ Refusal)
update_rule c old new k =
    10 when 125 < k
    else accept (λ r. (r ≡ Ok (updated_check c old new k)) × Mends c old new k r)

-- A frame's size by its length byte: 2.
abbrev pub size_rule : Format → ℕ → Rule (Result Frame Refusal)
size_rule f l =
    2 when NotAllowed f l else given (Announces f l) (λ n. accept (λ r. r ≡ Ok (sizes (frame_size f n) n)))

-- Reading bytes: 1 for an empty buffer, 2, 1, 3, 4. Changing: the frame's 1, 2, 3, then 9.
abbrev pub judge_steps : {B : Type 0} → Format → List ℕ → (ℕ → Rule B) → Rule B
judge_steps f s whole =
    1 when length s ≡ 0
    else 2 when NotAllowed f (get_or s 0 0)
    else given (Announces f (get_or s 0 0)) (λ n.
    1 when length s < frame_size f n
    else 3 showing FirstWrongBlock (spans_of f n) s
    else whole n)

abbrev pub judge_rule : Format → List ℕ → Rule (Result Frame Refusal)
judge_rule f s = judge_steps f s (λ n. accept (λ r. r ≡ Ok (sizes (frame_size f n) n)))

abbrev pub read_rule : Format → List ℕ → List ℕ → Rule (Outcome (Result Frame Refusal))
read_rule f s d =
    judge_steps f s (λ n. let z = frame_size f n in
    4 when length d < n
    else accept (λ o. (c : List ℕ) × ((length c ≡ n) × (FrameAt f s z c
    × (o ≡ record { answer = Ok (sizes z n); memory = c ++ drop n d })))))

abbrev pub change_rule : Format → List ℕ → ℕ → ℕ → Rule (Outcome (Result Frame Refusal))
change_rule f s k b =
    judge_steps f s (λ n. let z = frame_size f n in
    9 when n ≤ k
    else accept (λ o. (c : List ℕ) × ((length c ≡ n) × (FrameAt f s z c
    × (o ≡ record { answer = Ok (sizes z n); memory = frame_of f (set c k b) ++ drop z s })))))

-- Writing: 5, 4, in bytes and in chips.
abbrev pub write_rule : Format → List ℕ → List ℕ → Rule (Outcome (Result ℕ Refusal))
write_rule f c d =
    let z = frame_size f (length c) in
    5 when BadContent f (length c)
    else 4 when length d < z
    else accept (λ o. o ≡ record { answer = Ok z; memory = frame_of f c ++ drop z d })

abbrev pub send_rule : Kind → List ℕ → List ℕ → Rule (Outcome (Result ℕ Refusal))
send_rule k c d =
    let size = air_size k (frame_size (format_of k) (length c)) in
    5 when BadContent (format_of k) (length c)
    else 4 when length d < size
    else accept (λ o. o ≡ record { answer = Ok size; memory = sent_of k c ++ drop size d })

-- Receiving chips, once a frame of kind k is looked for behind its sync chips at `place`, the t-th position tried:
-- first byte 1, 6; 2; rest of frame 1, 6 (1 is judged for the whole rest before any word of it); 3; 4.
abbrev pub frame_steps : Kind → ℕ → ℕ → List ℕ → List ℕ → Rule (Outcome (Result Reception Refusal))
frame_steps k place t s d =
    let κ = line_of k in
    let f = format_of k in
    let at = place + lead_of k in
    let l = length_at κ s at in
    1 when ChipsEnd s (at + chips_in κ 1)
    else 6 showing FirstNoWord κ s at (words_in κ 1)
    else 2 when NotAllowed f l
    else given (Announces f l) (λ n. let z = frame_size f n in
    1 when ChipsEnd s (at + chips_in κ z)
    else 6 showing FirstNoWord κ s at (words_in κ z)
    else 3 showing FirstWrongBlock (spans_of f n) (decoding κ s at z)
    else 4 when length d < n
    else accept (λ o. (c : List ℕ) × ((length c ≡ n) × (SentAt k s place c × (o ≡ heard_of k place t z c d)))))

-- Receiving: 10; 7 or 14; sync tail 1, 8; then the frame. A Manchester start skips 7, 14 and the tail.
abbrev pub receive_rule : List ℕ → ℕ → ℕ → List ℕ → Rule (Outcome (Result Reception Refusal))
receive_rule s start a d = search_steps s start a (λ place t. tail_steps s place (λ k. frame_steps k place t s d))

abbrev pub manchester_rule : List ℕ → ℕ → List ℕ → Rule (Outcome (Result Reception Refusal))
manchester_rule s start d = 10 when OutOfRange s start else frame_steps Kind.ManchesterWithA start 0 s d

-- Headers: 12 if empty, 11, 12. Writing a header: 4 only.
abbrev pub header_read_rule : List ℕ → Rule (Result (Header × ℕ) Refusal)
header_read_rule s =
    12 when length s ≡ 0
    else 11 when ((k : HeaderKind) → ci_of k ≡ get_or s 0 0 → ⊥)
    else given (λ (k : HeaderKind). ci_of k ≡ get_or s 0 0) (λ k.
    12 when length s < header_length k
    else accept (λ r. r ≡ Ok (header_in k s, header_length k)))

abbrev pub header_write_rule : Header → List ℕ → Rule (Outcome (Result ℕ Refusal))
header_write_rule h d =
    let size = header_length h.kind in
    4 when length d < size
    else accept (λ o. o ≡ record { answer = Ok size; memory = header_bytes h ++ drop size d })

-- Filter: 10, 5; wanted exactly when bytes 1 to 8 of the content equal an entry in use.
abbrev pub filter_rule : List (List ℕ) → ℕ → List ℕ → Rule (Result Bool Refusal)
filter_rule es n s =
    10 when 16 < n
    else 5 when length s < 9
    else accept (λ v.
    (InUse es n (name_of s) × (v ≡ Ok true)) ⊎ ((InUse es n (name_of s) → ⊥) × (v ≡ Ok false)))
