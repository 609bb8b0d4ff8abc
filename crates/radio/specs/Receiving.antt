-- Receiving a frame in chips (document 01, "Answer numbers": 10; 7 or 14; sync tail 1, 8; first byte 1, 6; 2; rest of
-- the frame 1, 6; 3; 4. A Manchester start skips 7, 14 and the tail).
--     reception k place t z n      a frame of kind k whose sync word stands at `place`, found after t positions: z
--                                 bytes of frame, n of content
--     after_words κ s at n d next  the words of n bytes from chip `at` on: 10 if that is out of range, 1 if a word is
--                                 missing, 6 if one is no code word (its place counted from `at`), else what comes next
--     by_frame k place t m r       as the frame's bytes were read, which left m: 3, 4 or accepted
--     length_at κ s at             the length byte: the first of the frame whose first word stands at chip `at`
--     by_size k place t s d z      by what the length byte says: 2; or the whole frame 1, 6 (its first byte is right
--                                 already); then as its bytes are read
--     frame_after k place t s d    the frame of kind k whose sync chips stand at `place`, found after t positions:
--                                 first byte 10, 1, 6; then by its length byte
--     reception_of s start a d     search from `start` over at most a positions 10; 7 or 14; tail 1, 8; frame. d is
--                                 lent
--     manchester_of s start d      the Manchester frame at a named chip: the place is the start, no position was tried
-- Only the first match is followed, and it is in range: 10 behind it is Manchester's alone. A refusal leaves d as it
-- was; the place that goes with 6 does not count the sync chips.
use Rattle.std.specs.Prelude.{cond, List, ℕ, ◌+◌, ltb, get_or, Result, Ok, Err}
use Rattle.answers.specs.Outcome.{Outcome, leaving}
use Rattle.answers.specs.declared.Refusal.{Refusal}
use Rattle.chips.specs.Chips.{chip_count, in_range}
use Rattle.line.specs.Codes.{LineCode, words_in, chips_in}
use Rattle.line.specs.Decoding.{value_at, good_run, decoding}
use Rattle.frame.specs.declared.Frame.{Frame}
use Rattle.frame.specs.Formats.{size_for}
use Rattle.frame.specs.Reads.{reading_of}
use Rattle.sync.specs.declared.Kind.{Kind}
use Rattle.sync.specs.declared.Kind.TheVariants.{ManchesterWithA}
use Rattle.sync.specs.declared.Found.{Found}
use Rattle.sync.specs.Kinds.{lead_of}
use Rattle.sync.specs.SyncSearch.{search_of}
use Rattle.sync.specs.Tails.{tail_of}
use Rattle.radio.specs.declared.Reception.{Reception}
use Rattle.radio.specs.KindParts.{line_of, format_of}

abbrev pub reception : Kind → ℕ → ℕ → ℕ → ℕ → Reception
reception k place t z n = record { kind = k; place = place; tried = t; size = z; n = n }

unfoldable pub after_words : LineCode → List ℕ → ℕ → ℕ → List ℕ → Outcome (Result Reception Refusal)
    → Outcome (Result Reception Refusal)
after_words κ s at n d next =
    cond (in_range s at)
    (cond (ltb (chip_count s) (at + chips_in κ n)) (leaving (Err Refusal.Short) d)
    (cond (ltb (good_run (value_at κ s at) (words_in κ n)) (words_in κ n))
    (leaving (Err (Refusal.BadWord (good_run (value_at κ s at) (words_in κ n)))) d)
    next))
    (leaving (Err Refusal.OutOfRange) d)

abbrev pub by_frame : Kind → ℕ → ℕ → List ℕ → Result Frame Refusal → Outcome (Result Reception Refusal)
by_frame k place t m (Ok f) = leaving (Ok (reception k place t f.size f.n)) m
by_frame k place t m (Err r) = leaving (Err r) m

abbrev pub length_at : LineCode → List ℕ → ℕ → ℕ
length_at κ s at = get_or (decoding κ s at 1) 0 0

unfoldable pub by_size : Kind → ℕ → ℕ → List ℕ → List ℕ → Result Frame Refusal → Outcome (Result Reception Refusal)
by_size k place t s d (Ok f) =
    let o = reading_of (format_of k) (decoding (line_of k) s (place + lead_of k) f.size) d in
    after_words (line_of k) s (place + lead_of k) f.size d (by_frame k place t o.memory o.answer)
by_size k place t s d (Err r) = leaving (Err r) d

unfoldable pub frame_after : Kind → ℕ → ℕ → List ℕ → List ℕ → Outcome (Result Reception Refusal)
frame_after k place t s d =
    after_words (line_of k) s (place + lead_of k) 1 d
    (by_size k place t s d (size_for (format_of k) (length_at (line_of k) s (place + lead_of k))))

unfoldable pub by_tail : ℕ → ℕ → List ℕ → List ℕ → Result Kind Refusal → Outcome (Result Reception Refusal)
by_tail place t s d (Ok k) = frame_after k place t s d
by_tail place t s d (Err r) = leaving (Err r) d

unfoldable pub by_sync : List ℕ → List ℕ → Result Found Refusal → Outcome (Result Reception Refusal)
by_sync s d (Ok f) = by_tail f.place f.tried s d (tail_of s f.place)
by_sync s d (Err r) = leaving (Err r) d

unfoldable pub reception_of : List ℕ → ℕ → ℕ → List ℕ → Outcome (Result Reception Refusal)
reception_of s start a d = by_sync s d (search_of s start a)

abbrev pub manchester_of : List ℕ → ℕ → List ℕ → Outcome (Result Reception Refusal)
manchester_of s start d = frame_after ManchesterWithA start 0 s d
