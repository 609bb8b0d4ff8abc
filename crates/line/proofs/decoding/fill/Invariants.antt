-- `line::decoding::fill` meets its contract. The loop's invariant: all words of the first i bytes are code words, and
-- these bytes stand in the room.
use lib.ListN.{length}
use Rattle.line.proofs.FillingLaws.{Filling}
use Rattle.line.specs.Codes.{code_of}
use Rattle.line.proofs.decoding.fill.Given as goal

abbrev pub invariant-loop-i : goal.invariant-loop-i
invariant-loop-i l =
    Filling (code_of l.code) l.s l.start (length l.initial.room) l.m l.unit l.i l.room l.initial.room
