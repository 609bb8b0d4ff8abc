-- `line::codes::Code::word_value` meets its contract: every word of NRZ is its own number.
use mathlib.Core.Path.{sym}
use Prim.Native.Nat.{◌^◌, ◌<◌}
use Rattle.line.proofs.CodeLaws.{lawful}
use Rattle.line.specs.declared.codes.Code.TheVariants.{Nrz}
use Rattle.line.proofs.codes.Code.word_value.Goals as goal

pub returns-in-Nrz : goal.returns-in-Nrz
returns-in-Nrz c =
    let y = c.args.y in
    let below : y < 2 ^ 8 = rw c.in-Nrz.is at c.requires in
    rw c.in-Nrz.is (sym ((lawful Nrz).back y below))
