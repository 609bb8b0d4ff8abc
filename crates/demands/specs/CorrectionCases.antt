-- The case of document 02's refusal 24 (11/14), said of the 16 bits of a correction header.
--     bit_at h i        bit i of h, from 0, the lowest
--     Most b x y z     at least two of x, y and z are b
--     IdIs h id        the header h has this ID: for each of its five bits at least two of the three copies, in bits i,
--                      i + 5 and i + 10, are what the ID has there. Of bit 15 nothing is said
use Rattle.std.specs.Prelude.{◌⊎◌, ◌≡◌, ℕ, ◌+◌, ◌/◌, ◌%◌, ◌^◌, ◌<◌}

abbrev pub bit_at : ℕ → ℕ → ℕ
bit_at h i = h / 2 ^ i % 2

abbrev pub Most : ℕ → ℕ → ℕ → ℕ → Type 0
Most b x y z = ((x ≡ b) × (y ≡ b)) ⊎ (((x ≡ b) × (z ≡ b)) ⊎ ((y ≡ b) × (z ≡ b)))

abbrev pub IdIs : ℕ → ℕ → Type 0
IdIs h id = (i : ℕ) → i < 5 → Most (bit_at id i) (bit_at h i) (bit_at h (i + 5)) (bit_at h (i + 10))
