-- The search through the entries in use is the definition's.
use Rattle.std.proofs.Common.{sym, ◌∙◌, ap, arith, take, Ok}
use Rattle.address.specs.Names.{name_of}
use Rattle.filter.proofs.ListedLaws.{any_listed}
use Rattle.filter.proofs.FilterLaws.{verdict_of_judged}
use Rattle.filter.proofs.wanted.Goals as goal

pub returns : goal.returns
returns c =
    let es = c.args.entries in
    let n = c.args.count in
    let s = c.args.content.now in
    ap Ok (c.is_listed.ensures ∙ any_listed (name_of s) (take n es))
    ∙ sym (verdict_of_judged es n s (omega arith) (omega arith))
