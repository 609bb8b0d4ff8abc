-- Writing an extended header (document 01, "Extended headers and names", "Answer numbers").
--     header_writing_of h d    the answer, and what the lent bytes d hold afterwards: 4 if the header does not fit, and
--                            d stays; else the header's length, the header at the start of d, the rest of d
-- No other refusal: `HeaderKind` has no fifth case.
use Rattle.std.specs.Prelude.{List, ◌++◌, cond, ℕ, ltb, length, drop, Result, Ok, Err}
use Rattle.answers.specs.Outcome.{Outcome, leaving}
use Rattle.answers.specs.declared.Refusal.{Refusal}
use Rattle.answers.specs.declared.Refusal.TheVariants.{NoRoom}
use Rattle.header.specs.Layout.{header_length, header_bytes}
use Rattle.header.specs.declared.layout.Header.{Header}

abbrev pub header_writing_of : Header → List ℕ → Outcome (Result ℕ Refusal)
header_writing_of h d =
    cond (ltb (length d) (header_length h.kind))
    (leaving (Err NoRoom) d)
    (leaving (Ok (header_length h.kind)) (header_bytes h ++ drop (header_length h.kind) d))
