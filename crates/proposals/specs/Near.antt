-- The code word near a received word w (document 02, 12/14). k is how many wrong bytes are looked for. For k up to 16
-- and words of at most 255 bytes no two code words are near (proofs/NearestLaws).
--     Near k w c           c is a code word, its elements bytes; it is as long as w, has w's first byte, which is the
--                          length byte of the frame, and differs from w in k bytes or fewer
--     Nearest k w m        what is proposed for w: the code word near it; where there is none, w itself
-- `Nearest` is what the page says. A contract wants a function: the same, found by going through all words around w.
-- Nobody has to run it, and that it finds what `Nearest` says of bytes is a theorem (proofs/NearestLaws).
--     all_zero n b          the value of b at each of the first n roots is 0
--     is_code_block b        the same at all 32: b is a code word
--     before n ws          each number below n before each of the lists ws
--     around k w           all lists of w's length that differ from w at k places or fewer, with bytes there
--     first_code_block w ws  the first code word among ws; w if there is none
--     nearest_of k w        the first code word among those around w that begin as w does; w if there is none
use Rattle.std.specs.Prelude.{Bool, true, cond, ◌&&◌, List, [], ◌∷◌, ◌++◌, map, ◌⊎◌, ◌≡◌, ℕ, zero, suc, ◌≤◌, eqb, length, get_or}
use Rattle.ground.specs.Apart.{apart}
use Rattle.ground.specs.Bytes.{Bytes}
use Rattle.field.specs.Polynomials.{value_at}
use Rattle.codewords.specs.CodeBlocks.{root, CodeBlock}

pub record Near (k : ℕ) (w c : List ℕ) : Type 0 where
  pub bytes : Bytes c
  pub code_word : CodeBlock c
  pub count : length c ≡ length w
  pub first : get_or c 0 0 ≡ get_or w 0 0
  pub few : apart w c ≤ k

abbrev pub Nearest : ℕ → List ℕ → List ℕ → Type 0
Nearest k w m = Near k w m ⊎ (((c : List ℕ) → Near k w c → ⊥) × (m ≡ w))

unfoldable pub all_zero : ℕ → List ℕ → Bool
all_zero zero b = true
all_zero (suc n) b = eqb (value_at (root n) b) 0 && all_zero n b

abbrev pub is_code_block : List ℕ → Bool
is_code_block b = all_zero 32 b

unfoldable pub before : ℕ → List (List ℕ) → List (List ℕ)
before zero ws = []
before (suc n) ws = map (λ (w : List ℕ). n ∷ w) ws ++ before n ws

unfoldable pub around : ℕ → List ℕ → List (List ℕ)
around k [] = [] ∷ []
around zero (x ∷ w) = (x ∷ w) ∷ []
around (suc k) (x ∷ w) = map (λ (v : List ℕ). x ∷ v) (around (suc k) w) ++ before 256 (around k w)

unfoldable pub first_code_block : List ℕ → List (List ℕ) → List ℕ
first_code_block w [] = w
first_code_block w (c ∷ ws) = cond (is_code_block c) c (first_code_block w ws)

unfoldable pub nearest_of : ℕ → List ℕ → List ℕ
nearest_of k [] = []
nearest_of k (l ∷ w) = first_code_block (l ∷ w) (map (λ (v : List ℕ). l ∷ v) (around k w))
