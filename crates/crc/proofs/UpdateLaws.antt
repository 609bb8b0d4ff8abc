-- Laws of the check update: the definition does what 01 asks, for every span.
--     updating_mends      the answer is the check of any span that fits, with the new byte in it
--     updating_promised   both promises of `crc::update`: the second follows from the first
-- Assumes nothing.
use mathlib.Core.Path.{◌≡◌, sym, ap, ◌∙◌}
use Prim.Native.Nat.{ℕ, ◌≤◌}
use borrow.Author.Tests.{le-leb}
use Rattle.std.specs.Prelude.{Result, Ok}
use Rattle.answers.specs.declared.Refusal.{Refusal}
use Rattle.crc.specs.CheckUpdate.{farthest, updating, Mends}
use Rattle.crc.proofs.CheckLaws.{check_of_changed}

pub updating_mends : (c old new k : ℕ) → k ≤ farthest → Mends c old new k (updating c old new k)
updating_mends c old new k near pre post size is =
    rw (le-leb k 125 near, ← is, ← size) (ap {B = Result ℕ Refusal} Ok (sym (check_of_changed old new pre post)))

pub updating_promised : (c old new k : ℕ) {r : Result ℕ Refusal} → r ≡ updating c old new k
    → (r ≡ updating c old new k) × (k ≤ farthest → Mends c old new k r)
updating_promised c old new k e = (e, λ near pre post size is. e ∙ updating_mends c old new k near pre post size is)
