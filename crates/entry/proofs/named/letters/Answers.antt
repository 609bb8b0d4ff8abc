-- `entry::named::letters`: what the page says of the definition that the call answers by.
use Rattle.entry.proofs.NamedLaws.{told-zero, told-letters, told_none}
use Rattle.entry.proofs.named.letters.Goals as goal

pub returns : goal.returns
returns c =
    let m = c.args.m in
    let e = c.kusikhut_maker.ensures in
    (told-zero m e, (told-letters m e, told_none m e))
