-- A frame in chips is accepted exactly when it is what sending some content writes (document 01; specs/Heard), for
-- every kind: sync word, line code, length and every check are right, the call reaches it, the lent memory has room.
--     receiving_of_heard    a frame that stands where the call looks is accepted, and its content handed over
--     Justified b o        an outcome o of a call, a search if b: what it accepts is such a frame, of a kind that this
--                          call looks for, and its memory begins with the content
--     ..-justified         so are the definitions of receiving, from the bytes read up to the call
--     accepted_heard       so is what a call accepts
--     heard_exactly        the two in one statement
use Rattle.std.specs.Prelude.{Result, Ok, Err}
use Rattle.answers.specs.declared.Refusal.{Refusal}
use mathlib.Core.Bool.{Bool, true, false, cond}
use mathlib.Core.List.{List, ◌++◌}
use mathlib.Core.Logic.{◌↔◌}
use mathlib.Core.Path.{◌≡◌, refl, ap, ap₂, sym, ◌∙◌, subst}
use Prim.Native.Nat.{ℕ, ◌+◌, ◌≤◌}
use lib.ListN.{length, drop}
use Rattle.answers.specs.Outcome.{leaving, Outcome}
use Rattle.ground.specs.Bytes.{Bytes}
use Rattle.chips.specs.Chips.{word_at, room_limit}
use Rattle.line.specs.Decoding.{decoding}
use Rattle.line.proofs.TripLaws.{decoding-lt}
use Rattle.frame.specs.declared.Frame.{Frame}
use Rattle.frame.specs.Formats.{sizes, frame_size, size_for}
use Rattle.frame.specs.Frames.{content_in}
use Rattle.frame.specs.Reads.{reading_of, Handed}
use Rattle.frame.proofs.FrameLaws.{content_in_bytes}
use Rattle.frame.proofs.ReadLaws.{read-accepted}
use Rattle.sync.specs.declared.Kind.{Kind}
use Rattle.sync.specs.declared.Kind.TheVariants.{ManchesterWithA}
use Rattle.sync.specs.declared.Found.{Found}
use Rattle.sync.specs.Kinds.{lead_of}
use Rattle.sync.specs.FirstMatch.{FirstAt}
use Rattle.sync.specs.SyncSearch.{search_of, sync_word, sync_width}
use Rattle.sync.specs.Tails.{tail_of}
use Rattle.sync.proofs.SearchLaws.{first_found, found_first}
use Rattle.sync.proofs.TailLaws.{TailFits, tail_of_there, tail_of_begun, kind_for_fits, fits-kind_for}
use Rattle.radio.specs.declared.Reception.{Reception}
use Rattle.radio.specs.KindParts.{line_of, format_of}
use Rattle.radio.specs.Receiving.{reception, length_at, by_frame, by_size, frame_after, by_tail, by_sync, reception_of, manchester_of}
use Rattle.radio.specs.Sending.{SentAt}
use Rattle.radio.specs.Heard.{searched, receiving_of, Reached, Heard, heard_of}
use Rattle.radio.proofs.AirLaws.{SyncAt, coded_sent, sent_at_coded}
use Rattle.radio.proofs.KindLaws.{unsearched, searched_fits, sync_at_fits, sync_at_unsearched, tail_sent, fits_sent}
use Rattle.radio.proofs.ThroughLaws.{Through, after_words_cases}
use Rattle.radio.proofs.FrameHeardLaws.{frame_after_coded, coded_read}

module _ (s : List ℕ) (start a : ℕ) (d : List ℕ) where
  module _ {k : Kind} {place : ℕ} {c : List ℕ} (sent : SentAt k s place c) (t : ℕ) where
    module _ (small : length s ≤ room_limit) (room : length c ≤ length d) where
      tail_of_sent : searched k ≡ true → tail_of s place ≡ Ok k
      tail_of_sent e =
          tail_of_there s place small (tail_sent k e sent)
          ∙ fits-kind_for place (word_at s (place + 16) 16) k (fits_sent k e sent)

      reception_of_sent :
          searched k ≡ true → FirstAt sync_word sync_width s start a place t
          → reception_of s start a d ≡ heard_of k place t (frame_size (format_of k) (length c)) c d
      unfolding reception_of by_sync by_tail
      reception_of_sent e first =
          ap (by_sync s d) (first_found sync_word sync_width s start a place t small first)
          ∙ ap (by_tail place t s d) (tail_of_sent e)
          ∙ frame_after_coded (coded_sent sent) small t d room

      manchester_of_sent :
          searched k ≡ false → (place ≡ start) × (t ≡ 0)
          → manchester_of s start d ≡ heard_of k place t (frame_size (format_of k) (length c)) c d
      manchester_of_sent e named =
          ap (λ (x : Kind). frame_after x start 0 s d) (sym (unsearched k e))
          ∙ ap₂ (λ (x y : ℕ). frame_after k x y s d) (sym named.0) (sym named.1)
          ∙ frame_after_coded (coded_sent sent) small t d room

      receiving_of_sent :
          (b : Bool) → searched k ≡ b → Reached b s start a place t
          → cond b (reception_of s start a d) (manchester_of s start d)
          ≡ heard_of k place t (frame_size (format_of k) (length c)) c d
      receiving_of_sent true e first = reception_of_sent e first
      receiving_of_sent false e named = manchester_of_sent e named

  pub receiving_of_heard :
      {k : Kind} {place t z n : ℕ} {c : List ℕ} → Heard s start a d k place t z n c
      → receiving_of k s start a d ≡ heard_of k place t z c d
  receiving_of_heard {k} {place} {t} {z} {n} {c} h =
      let size = ap (frame_size (format_of k)) h.count ∙ sym h.size in
      receiving_of_sent h.sent t h.small (rw h.count h.room) (searched k) refl h.reached
      ∙ ap (λ (y : ℕ). heard_of k place t y c d) size

  -- what the answer r owes, beside the memory m
  abbrev Owed : Bool → List ℕ → Result Reception Refusal → Type 0
  Owed b m (Ok r) =
      (c : List ℕ)
      × (Heard s start a d r.kind r.place r.tried r.size r.n c × ((m ≡ c ++ drop r.n d) × (searched r.kind ≡ b)))
  Owed b m (Err r) = Unit {0}

  abbrev Justified : Bool → Outcome (Result Reception Refusal) → Type 0
  Justified b o = Owed b o.memory o.answer

  -- a frame of kind k behind sync chips at which the call looks
  module _ (k : Kind) (place t : ℕ) (b : Bool) (e : searched k ≡ b) (reached : Reached b s start a place t) where
    abbrev at : ℕ
    at = place + lead_of k

    abbrev bytes : ℕ → List ℕ
    bytes y = decoding (line_of k) s at y

    reached_kind : Reached (searched k) s start a place t
    reached_kind = subst (λ (x : Bool). Reached x s start a place t) (sym e) reached

    module _ (sync : SyncAt k s place) where
      abbrev Says : Result Frame Refusal → Type 0
      Says l = size_for (format_of k) (length_at (line_of k) s at) ≡ l

      module _ {y m : ℕ} (sized : Says (Ok (sizes y m))) (whole : Through (line_of k) s at y) where
        heard_read :
            {z n : ℕ} {x c : List ℕ} → Bytes c → Handed (format_of k) (bytes y) d z n x c
            → Heard s start a d k place t z n c
        heard_read byte read =
            record {
              small = whole.small;
              reached = reached_kind;
              sent = sent_at_coded (coded_read k place sized whole read.frame byte) sync;
              count = read.sized;
              size = read.frame.size ∙ ap (frame_size (format_of k)) read.sized;
              room = read.room;
            }

        reading_justified :
            (r : Result Frame Refusal) → (reading_of (format_of k) (bytes y) d).answer ≡ r
            → Justified b (by_frame k place t (reading_of (format_of k) (bytes y) d).memory r)
        reading_justified (Ok f) accepted =
            let read = read-accepted (format_of k) (bytes y) d accepted in
            let byte = content_in_bytes (format_of k) f.n (bytes y) (decoding-lt (line_of k) s at y) in
            (content_in (format_of k) f.n (bytes y), (heard_read byte read, (read.memory, e)))
        reading_justified (Err r) refusal = tt

      by_size_justified : (l : Result Frame Refusal) → Says l → Justified b (by_size k place t s d l)
      unfolding by_size
      by_size_justified (Ok f) sized =
          after_words_cases (line_of k) s at f.size d _ (Justified b) tt tt (λ i. tt)
          (λ whole. reading_justified sized whole (reading_of (format_of k) (bytes f.size) d).answer refl)
      by_size_justified (Err r) refusal = tt

      frame_after_justified : Justified b (frame_after k place t s d)
      unfolding frame_after
      frame_after_justified =
          after_words_cases (line_of k) s at 1 d _ (Justified b) tt tt (λ i. tt)
          (λ first. by_size_justified (size_for (format_of k) (length_at (line_of k) s at)) refl)

  module _ (place t : ℕ) (first : FirstAt sync_word sync_width s start a place t) where
    fits_begins : (k : Kind) → tail_of s place ≡ Ok k → TailFits k (word_at s (place + 16) 16)
    fits_begins k e = kind_for_fits place (word_at s (place + 16) 16) k (tail_of_begun s place k e).told

    by_tail_justified : (o : Result Kind Refusal) → tail_of s place ≡ o → Justified true (by_tail place t s d o)
    unfolding by_tail
    by_tail_justified (Ok k) e =
        let fits = fits_begins k e in
        frame_after_justified k place t true (searched_fits k (word_at s (place + 16) 16) fits) first
        (sync_at_fits k s place first.stands fits)
    by_tail_justified (Err r) e = tt

  by_sync_justified : (o : Result Found Refusal) → search_of s start a ≡ o → Justified true (by_sync s d o)
  unfolding by_sync
  by_sync_justified (Ok f) e =
      by_tail_justified f.place f.tried (found_first sync_word sync_width s start a f.place f.tried e)
      (tail_of s f.place) refl
  by_sync_justified (Err r) e = tt

  receiving_of_justified : (b : Bool) → Justified b (cond b (reception_of s start a d) (manchester_of s start d))
  unfolding reception_of
  receiving_of_justified true = by_sync_justified (search_of s start a) refl
  receiving_of_justified false =
      frame_after_justified ManchesterWithA start 0 false refl (refl, refl) (sync_at_unsearched s start)

  receiving_of_kind :
      (j : Kind) {k : Kind} {place t z n : ℕ} {c m : List ℕ} → Heard s start a d k place t z n c → m ≡ c ++ drop n d
      → searched k ≡ searched j
      → receiving_of j s start a d ≡ leaving (Ok (reception k place t z n)) m
  receiving_of_kind j {k} {place} {t} {z} {n} {c} h memory same =
      ap (λ (b : Bool). cond b (reception_of s start a d) (manchester_of s start d)) (sym same)
      ∙ receiving_of_heard h
      ∙ ap (λ (y : ℕ). leaving (Ok (reception k place t z y)) (c ++ drop y d)) h.count
      ∙ ap (λ (x : List ℕ). leaving (Ok (reception k place t z n)) x) (sym memory)

  -- what a call accepts is such a frame, whatever it left in the memory
  pub accepted_heard :
      (j k : Kind) (place t z n : ℕ) → (receiving_of j s start a d).answer ≡ Ok (reception k place t z n)
      → (c : List ℕ) × Heard s start a d k place t z n c
  accepted_heard j k place t z n e =
      let w = subst (Owed (searched j) (receiving_of j s start a d).memory) e (receiving_of_justified (searched j)) in
      (w.0, w.1.0)

  -- accepted with these values and the memory m exactly when such a frame stands there, of a kind that is looked for
  pub heard_exactly :
      (j k : Kind) (place t z n : ℕ) (m : List ℕ)
      → (receiving_of j s start a d ≡ leaving (Ok (reception k place t z n)) m)
      ↔ ((c : List ℕ) × (Heard s start a d k place t z n c × ((m ≡ c ++ drop n d) × (searched k ≡ searched j))))
  heard_exactly j k place t z n m = (
    λ e. subst (Justified (searched j)) e (receiving_of_justified (searched j)),
    λ w. receiving_of_kind j w.1.0 w.1.1.0 w.1.1.1,
  )
