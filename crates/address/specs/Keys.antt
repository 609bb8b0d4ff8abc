-- Numbers with their highest byte first, as the settings store keeps them (document 02, 9/14, "big-endian").
--     four_bytes n    n as four bytes
--     four_at s k     the number in four bytes of s from place k on
--     key_bytes a     a as eight bytes
--     key_at s k      the number in eight bytes of s from place k on: M and A as they stand, as one number
-- On air numbers stand the other way round (12.2, specs/Names): two orders, on purpose.
use Rattle.std.specs.Prelude.{List, [], ◌∷◌, ◌++◌, ℕ, ◌+◌, ◌*◌, ◌/◌, ◌%◌, get_or}

abbrev pub four_bytes : ℕ → List ℕ
four_bytes n = n / 16777216 % 256 ∷ n / 65536 % 256 ∷ n / 256 % 256 ∷ n % 256 ∷ []

abbrev pub four_at : List ℕ → ℕ → ℕ
four_at s k = ((get_or s k 0 * 256 + get_or s (k + 1) 0) * 256 + get_or s (k + 2) 0) * 256 + get_or s (k + 3) 0

abbrev pub key_bytes : ℕ → List ℕ
key_bytes a = four_bytes (a / 4294967296) ++ four_bytes (a % 4294967296)

abbrev pub key_at : List ℕ → ℕ → ℕ
key_at s k = four_at s k * 4294967296 + four_at s (k + 4)
