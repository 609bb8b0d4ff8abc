-- Spans of bytes with their checks (EN 13757-4:2019, 12.2 to 12.4; document 01, "Frames").
-- A frame is the length byte and the content, cut into spans; behind each span stand the two bytes of its check. A span
-- with its check is a block.
-- Which lengths the spans have is all that differs between the formats, so everything here is over their list ks.
--     sealed q             the bytes q and their check behind them, high byte first (12.2)
--     framed ks p          the bytes p cut into spans of ks bytes, each sealed: writing
--     payload ks s         the bytes of s without the checks: reading
--     block_ok k s          whether the two bytes behind the first k bytes of s are their check
--     first_wrong b ks s    the first block whose check is wrong, the first one counted as b; None if none is
--     size_of ks            how many bytes the blocks have
--     spans first later t  t bytes cut from the front: the first span at most `first` bytes, each next at most `later`
-- Bytes past the end of a list read as 0; every rule above tests the length before it looks. Assumes nothing.
use Rattle.std.specs.Prelude.{Bool, cond, ◌&&◌, List, [], ◌∷◌, ◌++◌, ℕ, zero, suc, ◌+◌, ◌-◌, ◌/◌, ◌%◌, min, eqb, get_or, take, drop, Option, None, Some}
use Rattle.crc.specs.Check.{check_of}

unfoldable pub sealed : List ℕ → List ℕ
sealed q = q ++ (check_of q / 256 ∷ check_of q % 256 ∷ [])

unfoldable pub framed : List ℕ → List ℕ → List ℕ
framed [] p = []
framed (k ∷ ks) p = sealed (take k p) ++ framed ks (drop k p)

unfoldable pub payload : List ℕ → List ℕ → List ℕ
payload [] s = []
payload (k ∷ ks) s = take k s ++ payload ks (drop (k + 2) s)

unfoldable pub block_ok : ℕ → List ℕ → Bool
block_ok k s = eqb (get_or s k 0) (check_of (take k s) / 256) && eqb (get_or s (k + 1) 0) (check_of (take k s) % 256)

unfoldable pub first_wrong : ℕ → List ℕ → List ℕ → Option ℕ
first_wrong b [] s = None
first_wrong b (k ∷ ks) s = cond (block_ok k s) (first_wrong (b + 1) ks (drop (k + 2) s)) (Some b)

unfoldable pub size_of : List ℕ → ℕ
size_of [] = 0
size_of (k ∷ ks) = k + 2 + size_of ks

-- The first number only bounds the recursion: each span has a byte or more, so t steps are enough for t bytes.
unfoldable pub cut : ℕ → ℕ → ℕ → ℕ → List ℕ
cut zero most later left = []
cut (suc steps) most later zero = []
cut (suc steps) most later (suc left) = min most (suc left) ∷ cut steps later later (suc left - most)

abbrev pub spans : ℕ → ℕ → ℕ → List ℕ
spans first later t = cut t first later t
