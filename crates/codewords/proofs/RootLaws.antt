-- A root by a smaller power: alpha^255 is 1, and 32 powers of over a thousand steps each take antt some seconds.
--     low_root k    the root k again
--     root_low     it is
-- Assumes nothing.
use mathlib.Core.Path.{◌≡◌}
use Prim.Native.Nat.{ℕ, ◌+◌, ◌*◌, ◌%◌}
use Rattle.field.specs.Field.{alpha_to}
use Rattle.field.proofs.PowerLaws.{alpha_to-mod}
use Rattle.codewords.specs.CodeBlocks.{first_root, root}

unfoldable pub low_root : ℕ → ℕ
low_root k = alpha_to (11 * (first_root + k) % 255)

pub root_low : (k : ℕ) → root k ≡ low_root k
unfolding root low_root
root_low k = alpha_to-mod (11 * (first_root + k))
