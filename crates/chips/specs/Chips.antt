-- Chip buffers (document 01, "Chips and line codes"; EN 13757-4:2019, 6.4.2, 7.4.2.2, 9.4.1: first chip highest).
--     chip_at s k       the chip at place k of the bytes s, 0 or 1: place 0 is the highest bit of the first byte
--     gather f at w    the number that w chips make from place `at` on, first chip highest; f gives each place its chip
--     word_at s at w    the same for the chips of the bytes s
--     chip_count s      how many chips the bytes s hold: all eight of each byte, there is no other count
--     room_limit        a received chip buffer has at most so many bytes (house)
--     in_range s at     document 01's refusal 10 for chips: no longer than that, and the place not behind the last chip
-- A place past the end holds 0; every rule above tests the end before it looks.
use Rattle.std.specs.Prelude.{Bool, false, cond, List, ℕ, zero, suc, ◌+◌, ◌*◌, ◌-◌, ◌/◌, ◌%◌, ◌^◌, leb, length, get_or}

abbrev pub chip_at : List ℕ → ℕ → ℕ
chip_at s k = get_or s (k / 8) 0 / 2 ^ (7 - k % 8) % 2

unfoldable pub gather : (ℕ → ℕ) → ℕ → ℕ → ℕ
gather f at zero = 0
gather f at (suc w) = gather f at w * 2 + f (at + w)

abbrev pub word_at : List ℕ → ℕ → ℕ → ℕ
word_at s at w = gather (chip_at s) at w

abbrev pub chip_count : List ℕ → ℕ
chip_count s = 8 * length s

abbrev pub room_limit : ℕ
room_limit = 1024

abbrev pub in_range : List ℕ → ℕ → Bool
in_range s at = cond (leb (length s) room_limit) (leb at (chip_count s)) false
