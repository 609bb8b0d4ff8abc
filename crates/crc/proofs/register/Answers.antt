use mathlib.Core.Path.{◌≡◌, refl, ap, ◌∙◌}
use mathlib.Core.List.{[], ◌++◌}
use Prim.Native.Nat.{◌%◌}
use native.Mathlib.Omega.{arith}
use lib.Bits.{xor_lt}
use lib.ListN.{length, length-append, drop_of_length-le, take-append-drop}
use Rattle.crc.specs.Check.{reg_of}
use Rattle.crc.specs.Inner.{remainder}
use Rattle.crc.proofs.WordLaws.{adds_all, lead_behind, group_append}
use Rattle.crc.proofs.register.Goals as goal

pub returns-then-s-eq16 : goal.returns-then-s-eq16
returns-then-s-eq16 c =
    c.left_by.ensures ∙ adds_all c.args.s.now 16 (remainder c.group.result) c.if-s-eq16.true c.group.ensures.adds

pub loop-g-init : goal.loop-g-init
loop-g-init c =
    let s = c.args.s.now in
    let cut = c.split_at.ensures in
    let head = c.split_at.result.0.now in
    let groups = c.split_at.result.1.now in
    let joined : head ++ groups ≡ s = rw (cut.front, cut.back) (take-append-drop (length s % 16) s) in
    rw (c.into_iter-g-iterator.ensures.into_iter_gives, c.chunks_exact-g-items.ensures.rest) (record {
      size = c.chunks_exact-g-items.ensures.size;
      whole = omega (arith, cut.back_len);
      upper_bound = c.lead-v.ensures.upper_bound;
      same = lead_behind head groups (length head) (remainder c.lead-v.result) refl c.lead-v.ensures.adds
          ∙ ap (reg_of 0) joined;
    })

pub loop-g-preserved : goal.loop-g-preserved
loop-g-preserved c =
    let w = c.loop-g.invariant in
    let g = c.group-in-loop-g in
    let x = c.in-Some.g.now in
    let t = c.next.new.self.rest.now in
    let e = c.in-Some.ensures.steps in
    let long : length x ≡ 16 = e.1.1 ∙ w.size in
    record {
      size = e.0 ∙ w.size;
      whole = omega (arith, w.whole, long, simp length-append at (ap length e.1.0));
      upper_bound = xor_lt 54 g.result c.onward.result g.ensures.upper_bound c.onward.ensures.upper_bound;
      same = group_append x t c.loop-g.v g.result c.onward.result long g.ensures.adds c.onward.ensures.result_value
          ∙ rw e.1.0 at w.same;
    }

pub returns : goal.returns
unfolding reg_of
returns c =
    let w = c.loop-g.invariant in
    let rest = c.loop-g.g-iterator.rest.now in
    let few : length rest ≡ 0 = omega (arith, w.size, w.whole, c.in-None.ensures.steps.1.0) in
    let none : rest ≡ [] = drop_of_length-le rest {i = 0} (omega arith) in
    c.left_by-2.ensures ∙ rw none at w.same
