-- What the inner functions of the correction cite.
--     bytes_of m          the 32 bytes of a remainder: its four words one behind another, highest byte first
--     row_at rows t       row t of a table of rows, each of four words
--     half k h           two bytes of which only a half is not 0, the half-byte h: the upper half of the first byte for
--                        k = 0, its lower half for 1, those of the second byte for 2 and 3
--     RowsOk rows        the table of the division: its rows are the check bytes of these, for k = 0 first
use Rattle.std.specs.Prelude.{List, [], ◌∷◌, ◌++◌, ◌≡◌, ℕ, zero, suc, ◌+◌, ◌*◌, ◌<◌, get_or}
use Rattle.address.specs.Keys.{key_bytes}
use Rattle.codewords.specs.CheckBytes.{checks_of}
use Rattle.correction.specs.declared.division.Remainder.{Remainder}

abbrev pub bytes_of : Remainder → List ℕ
bytes_of m = key_bytes m.a ++ (key_bytes m.b ++ (key_bytes m.c ++ key_bytes m.d))

abbrev pub row_at : List (List ℕ) → ℕ → Remainder
row_at rows t =
    let words = get_or rows t [] in
    record { a = get_or words 0 0; b = get_or words 1 0; c = get_or words 2 0; d = get_or words 3 0 }

abbrev pub half : ℕ → ℕ → List ℕ
half zero h = h * 16 ∷ 0 ∷ []
half (suc zero) h = h ∷ 0 ∷ []
half (suc (suc zero)) h = 0 ∷ h * 16 ∷ []
half (suc (suc (suc k))) h = 0 ∷ h ∷ []

pub record RowsOk (rows : List (List ℕ)) : Type 0 where
  pub row : (k h : ℕ) → k < 4 → h < 16 → bytes_of (row_at rows (16 * k + h)) ≡ checks_of (half k h)
