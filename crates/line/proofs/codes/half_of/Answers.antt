-- `line::codes::half_of` meets its contract: the table is what the definition says of each word, by computing all 64.
use Rattle.std.specs.Prelude.{None}
use Rattle.ground.proofs.TableLaws.{get_or_values}
use Rattle.line.specs.Codes.{code_of, word_value, number_for}
use Rattle.line.specs.declared.codes.Code.TheVariants.{ThreeOfSix}
use Rattle.line.proofs.codes.half_of.Goals as goal

pub returns : goal.returns
unfolding number_for
returns c = get_or_values (word_value (code_of ThreeOfSix)) 64 c.args.y None c.requires
