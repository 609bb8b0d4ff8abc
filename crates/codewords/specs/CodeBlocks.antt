-- What a code word is (EN 13757-4:2019, 12.8.3.2, which names CCSDS 131.0-B-2, 4.3.4; document 02, 11/14). It is what
-- the promise is measured by: nothing here says how check bytes are found.
--     root k           root k, from 0, of the generator's 32: alpha^(11 j) for j from 112 (first_root) to 143
--     CodeBlock b      b is a code word: 0 at each of the roots, the first byte being that of the highest power
--     block_of w c      zero fill up to 223 bytes before the bytes w (house), then c: 255 bytes, if w has at most 223
--     Corrects w c     c are the 32 bytes that make this block a code word
use Rattle.std.specs.Prelude.{List, ◌++◌, ◌≡◌, ℕ, ◌+◌, ◌-◌, ◌*◌, ◌<◌, length, replicate}
use Rattle.ground.specs.Bytes.{Bytes}
use Rattle.field.specs.Field.{alpha_to}
use Rattle.field.specs.Polynomials.{value_at}

abbrev pub first_root : ℕ
first_root = 112

unfoldable pub root : ℕ → ℕ
root k = alpha_to (11 * (first_root + k))

abbrev pub CodeBlock : List ℕ → Type 0
CodeBlock b = (k : ℕ) → k < 32 → value_at (root k) b ≡ 0

abbrev pub block_of : List ℕ → List ℕ → List ℕ
block_of w c = replicate (223 - length w) 0 ++ (w ++ c)

pub record Corrects (w c : List ℕ) : Type 0 where
  pub count : length c ≡ 32
  pub bytes : Bytes c
  pub code_word : CodeBlock (block_of w c)
