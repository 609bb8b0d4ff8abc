-- Which field it is. Two fields of 256 elements differ only in what their elements are called, and no law of a field
-- tells them apart; the polynomial that alpha is a root of does.
--     alpha_root    alpha is a root of x^8 + x^7 + x^2 + x + 1
-- Assumes nothing.
use Rattle.std.proofs.Common.{◌≡◌, refl, bit_xor}
use Rattle.field.specs.Field.{up, alpha_to}

pub alpha_root : bit_xor (alpha_to 8) (bit_xor (alpha_to 7) (bit_xor (alpha_to 2) (bit_xor (alpha_to 1) 1))) ≡ 0
unfolding alpha_to up
alpha_root = refl
