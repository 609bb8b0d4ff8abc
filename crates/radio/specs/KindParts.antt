-- What a kind of frame in chips is made of (document 01, "Sync search": T with A, C with A, C with B, Manchester with
-- A).
--     code_for k      its line code: three-of-six (7.4.2), NRZ (9.4.1), Manchester (6.4.1)
--     line_of k       the same as the line code's own numbers and words
--     format_of k     its frame format (7.4.2.3, 9.4.2, 6.4.3)
-- Its sync chips stand in sync/specs/Kinds. Everything else in this crate is said once over the kind.
use Rattle.frame.specs.declared.Format.{Format}
use Rattle.frame.specs.declared.Format.TheVariants.{A, B}
use Rattle.line.specs.declared.codes.Code.{Code}
use Rattle.line.specs.declared.codes.Code.TheVariants.{Nrz, ThreeOfSix, Manchester}
use Rattle.line.specs.Codes.{LineCode, code_of}
use Rattle.sync.specs.declared.Kind.{Kind}
use Rattle.sync.specs.declared.Kind.TheVariants.{TWithA, CWithA, CWithB, ManchesterWithA}

abbrev pub code_for : Kind → Code
code_for TWithA = ThreeOfSix
code_for CWithA = Nrz
code_for CWithB = Nrz
code_for ManchesterWithA = Manchester

abbrev pub line_of : Kind → LineCode
line_of k = code_of (code_for k)

abbrev pub format_of : Kind → Format
format_of TWithA = A
format_of CWithA = A
format_of CWithB = B
format_of ManchesterWithA = A
