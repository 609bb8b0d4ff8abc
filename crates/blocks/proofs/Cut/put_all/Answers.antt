use mathlib.Core.Path.{refl, ◌∙◌}
use Prim.Native.Nat.{◌+◌, ◌-◌, ◌≤◌}
use native.Mathlib.Omega.{arith}
use lib.ListN.{length, length-drop}
use Rattle.std.proofs.lemmas.List.{take_rest}
use Rattle.blocks.specs.Spans.{size_of, spans}
use Rattle.blocks.proofs.TurnLaws.{size_of_first, written_first}
use Rattle.blocks.proofs.LoopLaws.{putting_fits, putting_step, putting_end}
use Rattle.blocks.proofs.Cut.put_all.Goals.{After-min-first, In-Some}
use Rattle.blocks.proofs.Cut.put_all.Goals as goal

-- the first span and all behind it lie inside the slice
first-room :
    (c : After-min-first)
    → let a = c.args in
    let k = c.min-first.result in
    k + 3 + size_of (spans a.self.later a.self.later (length a.c.now - k)) ≤ length a.out.now
first-room c =
    let a = c.args in
    let n = length a.c.now in
    omega (arith, size_of_first a.self.first a.self.later n c.min-first.ensures (omega arith) (omega arith))

-- the span at hand and its check lie inside the slice
room :
    (c : In-Some)
    → let w = c.loop-piece in w.at + (length c.in-Some.piece.now + 2) ≤ length w.out
room c =
    let w = c.loop-piece.invariant in
    let e = c.in-Some.ensures.steps in
    omega (arith, putting_fits w.left _ _ e.1.0 (rw w.size at e.1.1) e.1.2 (omega arith))

pub put_first-requires : goal.put_first-requires
put_first-requires c =
    (omega (arith, c.min-first.ensures), omega (arith, first-room (goal.at.put_first-requires c).After-min-first))

pub loop-piece-init : goal.loop-piece-init
loop-piece-init c =
    rw (c.into_iter-piece-iterator.ensures.into_iter_gives, c.chunks-piece-items.ensures.rest, take_rest) (record {
      size = c.chunks-piece-items.ensures.size;
      left = record {
        fits = rw length-drop
            (omega (arith, first-room (goal.at.loop-piece-init c).After-min-first, c.put_first.auto.out));
        same = refl;
      };
    })

pub put_span-requires : goal.put_span-requires
put_span-requires c = omega (arith, room (goal.at.put_span-requires c).In-Some)

pub overflow_add-at-in-loop-piece-2 : goal.overflow_add-at-in-loop-piece-2
overflow_add-at-in-loop-piece-2 c = omega (arith, room (goal.at.overflow_add-at-in-loop-piece-2 c).In-Some)

pub loop-piece-preserved : goal.loop-piece-preserved
loop-piece-preserved c =
    let w = c.loop-piece.invariant in
    let e = c.in-Some.ensures.steps in
    record {
      size = e.0 ∙ w.size;
      left = putting_step w.left _ _ e.1.0 (rw w.size at e.1.1) e.1.2 (omega arith)
          c.put_span.auto.out c.put_span.ensures;
    }

pub returns : goal.returns
returns c =
    let a = c.args in
    putting_end c.loop-piece.invariant.left c.in-None.ensures.steps.1.0
    ∙ rw (c.put_first.ensures, length-drop)
    (written_first a.self.first a.self.later (length a.c.now) c.min-first.ensures (omega arith) (omega arith) a.l
    a.c.now a.out.now (omega (arith, c.min-first.ensures)))
