-- What the crate's inner functions promise each other: the check as division, for reading many bytes at once. Nobody
-- has to believe it: nothing that other crates call promises anything in these words, and no demand cites them.
--     rem_of k m        the register after the lowest k binary digits of m, the highest first, each added at its low
--                      end: what m leaves when it is divided by the polynomial, where it has at most k digits
--     remainder m      the same for a word of 64 digits
--     Adds s at k z    whatever the register r was: the k bytes of s from place `at` on move it by 8 k steps and add z
--     nested gs r      as many registers added as gs has numbers: r moved by the first of them, by the first two
--                      together, by the first three and so on
--     folded           a word that was moved is below this: it had 32 digits, and the highest power is x^22
use Rattle.std.specs.Prelude.{List, [], ◌∷◌, ◌≡◌, ℕ, zero, suc, ◌+◌, ◌*◌, ◌/◌, ◌%◌, ◌^◌, drop}
use Rattle.std.specs.Int.Bits.{bit_xor}
use Rattle.crc.specs.Check.{bit_in, bits_in, reg_of}

unfoldable pub rem_of : ℕ → ℕ → ℕ
rem_of zero m = 0
rem_of (suc k) m = bit_xor (bit_in (rem_of k (m / 2))) (m % 2)

abbrev pub remainder : ℕ → ℕ
remainder m = rem_of 64 m

abbrev pub Adds : List ℕ → ℕ → ℕ → ℕ → Type 0
Adds s at k z = (r : ℕ) → reg_of r (drop at s) ≡ reg_of (bit_xor (bits_in (8 * k) r) z) (drop (at + k) s)

unfoldable pub nested : List ℕ → ℕ → ℕ
nested [] r = 0
nested (g ∷ gs) r = bits_in g (bit_xor (nested gs r) r)

abbrev pub folded : ℕ
folded = 2 ^ 54
