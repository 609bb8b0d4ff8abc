-- A turn consumes what it puts behind the bytes that were there.
use Rattle.std.proofs.Common.{◌≡◌, ℕ, ◌+◌, ◌≤◌, List, ◌++◌, rules, length, take, sym, ap, ◌∙◌, subst, length-take-le}
use Rattle.std.proofs.lemmas.List.{take-append-le}
use Rattle.std.proofs.Math.Seq.{take-append-add}
use Rattle.std.proofs.KnownBytes.{Consumes-trans}
use Rattle.std.specs.Io.KnownBytes.{Consumes}
use borrow.Rule.Slice.PartMut.{put_mid, post_of}
use Rattle.bands.proofs.read_full.Goals as goal

filled : (at n room : ℕ) (old read : List ℕ) → at ≤ length old → n ≤ length read
    → take at old ++ take n read ≡ take (at + n) (put_mid at room old read)
filled at n room old read within fits =
    sym
    (ap (λ m. take (m + n) (put_mid at room old read)) (sym (length-take-le at old within))
    ∙ take-append-add (take at old) (read ++ post_of at room old) n
    ∙ ap (λ l. take at old ++ l) (take-append-le n read (post_of at room old) fits))

pub loop-done-preserved : goal.loop-done-preserved
loop-done-preserved g c =
    let both = filled c.loop-done.done c.in_ok-n.n _ c.loop-done.buffer c.read.new.buf c.loop-done.invariant.1
    c.in_ok-n.ensures.bound.0 in (
      search rules,
      search rules,
      subst (Consumes _ _) both
          (Consumes-trans _ _ _ _ _ c.loop-done.invariant.2 c.in_ok-n.ensures.bytes.0),
    )
