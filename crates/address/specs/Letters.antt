-- The maker's letters (EN 13757-4:2019, 12.5.5): three letters in the 15 low bits of M, five bits each, A is 1 (D41).
--     first_of m, second_of m, third_of m    the five bits of each letter; the top bit of M is no part of one
--     is_letter v      whether v is 1 to 26
--     ascii_of v       the letter's ASCII byte (ISO/IEC 646): 41h for 1 to 5Ah for 26
--     letters_of m     the three letters, or that M has none: an answer of its own, no refusal
-- What the top bit says: specs/Makers.
use Rattle.std.specs.Prelude.{Bool, cond, ◌&&◌, ℕ, ◌+◌, ◌/◌, ◌%◌, leb, Option, Some, None}

abbrev pub first_of : ℕ → ℕ
first_of m = m / 1024 % 32

abbrev pub second_of : ℕ → ℕ
second_of m = m / 32 % 32

abbrev pub third_of : ℕ → ℕ
third_of m = m % 32

abbrev pub is_letter : ℕ → Bool
is_letter v = leb 1 v && leb v 26

abbrev pub ascii_of : ℕ → ℕ
ascii_of v = v + 64

abbrev pub letters_of : ℕ → Option (ℕ × ℕ × ℕ)
letters_of m =
    cond (is_letter (first_of m) && (is_letter (second_of m) && is_letter (third_of m)))
    (Some (ascii_of (first_of m), ascii_of (second_of m), ascii_of (third_of m)))
    None
