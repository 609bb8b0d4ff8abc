-- `line::decoding::words_at` meets its contract. The loop's invariant: the first k words are code words, and x is the
-- number that they make, one behind the other.
use Rattle.line.proofs.JoiningLaws.{Joining}
use Rattle.line.specs.Codes.{code_of}
use Rattle.line.proofs.decoding.words_at.Given as goal

abbrev pub invariant-loop-k : goal.invariant-loop-k
invariant-loop-k l = Joining (code_of l.code) l.s l.at l.b l.w l.k-end l.unit l.x l.k
