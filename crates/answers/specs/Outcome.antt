-- What a call leaves behind: its answer, and what the memory that was lent to it holds afterwards.
--     Outcome A      answer : A, and memory, the whole lent slice as a list of its bytes
--     leaving a d    the answer a, and the memory d left behind
-- A contract of the form `leaving result out.new ≡ meaning` settles both at once: that a refusal leaves lent memory as
-- it was (document 01, "Answer numbers") is then a case of the meaning, and no fact of its own. An answer is a
-- `Result`, whose `Err` is the refusal.
use Rattle.std.specs.Prelude.{List, ℕ}

pub record Outcome (A : Type 0) : Type 0 where
  pub answer : A
  pub memory : List ℕ

abbrev pub leaving : {A : Type 0} → A → List ℕ → Outcome A
leaving a d = record { answer = a; memory = d }
