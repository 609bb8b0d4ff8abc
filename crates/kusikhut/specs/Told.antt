-- What a caller in C or Rust is told: an answer as its number and a row of results (include/kusikhut.h; document 01,
-- "Answer numbers").
--     Told B             the number, and the results in the order of the header file
--     told n v           these two, as one
--     shown n v m        what is told, and the lent memory m after the call
--     tells f o          an outcome whose answer is told as f says
--     told_refusal w k r  a refusal in a row of w results: its number, its value at place k, zeros at all others
--     told_answer w at row a    an accepted answer by its row of w results, a refusal by its value at its place
--     told_number, ..     for each type of answer: what its cases are told as, zero where they have no such result
--     spelling_row l      letters as a part of a row
--     kind_number k       the kinds in the order of the header file
--     reach_number r      hard 0, soft 1
--     refusal_place n     where the row of a reception shows a refusal's value, by the refusal's number
use Rattle.std.specs.Prelude.{cond, Bool, List, [], ◌∷◌, ◌++◌, ℕ, ⊤, eqb, Float, replicate, set, Option, Some, None, Result, Ok, Err}
use Rattle.answers.specs.Outcome.{Outcome}
use Rattle.answers.specs.Refusals.{number_of, value_of}
use Rattle.answers.specs.declared.Refusal.{Refusal}
use Rattle.sync.specs.declared.Found.{Found}
use Rattle.sync.specs.declared.Kind.{Kind}
use Rattle.frame.specs.declared.Frame.{Frame}
use Rattle.radio.specs.declared.Reception.{Reception}
use Rattle.address.specs.declared.Maker.{Maker}
use Rattle.address.specs.declared.Reach.{Reach}
use Rattle.header.specs.HeaderReads.{fields_of}
use Rattle.header.specs.declared.layout.Header.{Header}
use Rattle.modes.specs.Tables.{mode_number, format_number}
use Rattle.sessions.specs.declared.Meter.{Meter}
use Rattle.sessions.specs.StoreFile.{mark_of}
use Rattle.channels.specs.declared.listing.Line.{Line}
use Rattle.channels.specs.Plan.{float}

pub record Told (B : Type 0) : Type 0 where
  pub number : ℕ
  pub results : List B

abbrev pub told : {B : Type 0} → ℕ → List B → Told B
told n v = record { number = n; results = v }

abbrev pub shown : ℕ → List ℕ → List ℕ → Outcome (Told ℕ)
shown n v m = record { answer = told n v; memory = m }

abbrev pub tells : {A : Type 0} → (A → Told ℕ) → Outcome A → Outcome (Told ℕ)
tells f o = record { answer = f o.answer; memory = o.memory }

abbrev pub told_refusal : ℕ → ℕ → Refusal → Told ℕ
told_refusal w k r = told (number_of r) (set (replicate w 0) k (value_of r))

-- an answer: what `row` shows of an accepted one; a refusal's value at the place that `at` gives for it
abbrev pub told_answer : {A : Type 0} → ℕ → (Refusal → ℕ) → (A → List ℕ) → Result A Refusal → Told ℕ
told_answer w at row (Ok x) = told 0 (row x)
told_answer w at row (Err r) = told_refusal w (at r) r

-- the place of a refusal's value in most rows
abbrev pub first_place : Refusal → ℕ
first_place r = 0

-- one number: bytes written, a word's value, a new check, a number that was asked for, in how many bytes a proposal
-- that is taken differs from what was received
abbrev pub told_number : Result ℕ Refusal → Told ℕ
told_number = told_answer 1 first_place (λ n. n ∷ [])

-- nothing, or the bad word's place
abbrev pub told_decoded : Result ⊤ Refusal → Told ℕ
told_decoded = told_answer 1 first_place (λ done. 0 ∷ [])

-- the frame's size alone
abbrev pub told_size : Result Frame Refusal → Told ℕ
told_size = told_answer 1 first_place (λ f. f.size ∷ [])

-- frame size, content length, first wrong block
abbrev pub told_frame : Result Frame Refusal → Told ℕ
told_frame = told_answer 3 (λ r. 2) (λ f. f.size ∷ f.n ∷ 0 ∷ [])

-- found place, positions tried
abbrev pub told_sync : Result Found Refusal → Told ℕ
told_sync = told_answer 2 (λ r. 1) (λ f. f.place ∷ f.tried ∷ [])

-- length, CI, CC, ACC, M2, six bytes of A2, SN, two bytes of PayloadCRC
abbrev pub told_header : Result (Header × ℕ) Refusal → Told ℕ
told_header = told_answer 14 first_place (λ read. read.1 ∷ fields_of read.0)

abbrev pub reach_number : Reach → ℕ
reach_number Reach.Hard = 0
reach_number Reach.Soft = 1

-- whether there are letters, and the letters
abbrev pub spelling_row : Option (ℕ × ℕ × ℕ) → List ℕ
spelling_row (Some (a, b, c)) = 1 ∷ a ∷ b ∷ c ∷ []
spelling_row None = replicate 4 0

-- these, and whether the address is soft
abbrev pub told_maker : Maker → Told ℕ
told_maker m = told 0 (spelling_row m.spelled ++ (reach_number m.reach ∷ []))

-- whether the meter is wanted
abbrev pub told_verdict : Result Bool Refusal → Told ℕ
told_verdict = told_answer 1 first_place (λ wanted. cond wanted 1 0 ∷ [])

-- mode, format, number, unsure mark
abbrev pub told_lookup : Result Meter Refusal → Told ℕ
told_lookup =
    told_answer 4 first_place (λ m. mode_number m.mode ∷ format_number m.format ∷ m.number ∷ mark_of m.unsure ∷ [])

-- the number alone: a correction header has no other result
abbrev pub told_announced : Result ⊤ Refusal → ℕ
told_announced (Ok done) = 0
told_announced (Err r) = number_of r

-- index, channel, hertz; past the band's last line there is no such channel
abbrev pub told_line : Option Line → Told ℕ
told_line (Some l) = told 0 (l.index ∷ l.channel ∷ l.hertz ∷ [])
told_line None = told_refusal 3 0 Refusal.NoSuchChannel

-- a centre in kilohertz; zero where there is no such channel
abbrev pub told_centre : Option Float → Told Float
told_centre (Some khz) = told 0 (khz ∷ [])
told_centre None = told (number_of Refusal.NoSuchChannel) (float 0 ∷ [])

abbrev pub kind_number : Kind → ℕ
kind_number Kind.TWithA = 0
kind_number Kind.CWithA = 1
kind_number Kind.CWithB = 2
kind_number Kind.ManchesterWithA = 3

-- 3 shows a block, 6 a word, 8 a place; what else shows a value shows positions tried
abbrev pub refusal_place : ℕ → ℕ
refusal_place n = cond (eqb n 3) 5 (cond (eqb n 6) 6 (cond (eqb n 8) 1 2))

-- kind, place of the sync word, positions tried, frame size, content length, wrong block, place of the bad word
abbrev pub told_reception : Result Reception Refusal → Told ℕ
told_reception =
    told_answer 7 (λ r. refusal_place (number_of r))
    (λ a. kind_number a.kind ∷ a.place ∷ a.tried ∷ a.size ∷ a.n ∷ 0 ∷ 0 ∷ [])
