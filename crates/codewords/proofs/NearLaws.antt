-- What the check bytes are for: code words are so far apart that 16 wrong bytes leave no doubt (12.8.3.2: E = 16).
--     near_one    of all code words of one length at most one differs from a received word at 16 places or fewer
-- Assumes nothing.
use mathlib.Core.Path.{◌≡◌, sym, ◌∙◌}
use mathlib.Core.List.{List}
use Prim.Native.Nat.{ℕ, ◌≤◌}
use native.Mathlib.Omega.{arith}
use lib.ListN.{length}
use Rattle.ground.specs.Apart.{apart}
use Rattle.ground.specs.Bytes.{Bytes}
use Rattle.ground.proofs.ApartLaws.{apart_through}
use Rattle.field.proofs.DistanceLaws.{distance}
use Rattle.codewords.specs.CodeBlocks.{first_root, root, CodeBlock}

pub near_one : (r u v : List ℕ) → length r ≡ length u → length r ≡ length v → length r ≤ 255 → Bytes u → Bytes v
    → CodeBlock u → CodeBlock v → apart r u ≤ 16 → apart r v ≤ 16 → u ≡ v
unfolding root
near_one r u v eu ev most bu bv cu cv nu nv =
    distance first_root u v (sym eu ∙ ev) (omega arith) bu bv cu cv (omega (arith, apart_through r u v eu ev))
