-- Laws of specs/Tables.
--     mode_of_number, format_of_number    each number has its own mode or format
--     mode_number-lt, format_number-lt    the numbers are those below the table's size
--     mode_number_of, format_number_of    each of them is one
-- Assumes nothing.
use mathlib.Core.Bool.{true}
use mathlib.Core.Path.{◌≡◌, refl}
use Prim.Native.Nat.{ℕ, zero, suc, ◌<◌}
use native.Mathlib.Omega.{arith}
use lib.Dec.{ltb}
use Rattle.frame.specs.declared.Format.{Format}
use Rattle.modes.specs.declared.Mode.{Mode}
use Rattle.modes.specs.Tables.{mode_number, mode_of, format_number, format_of}

pub mode_of_number : (m : Mode) → mode_of (mode_number m) ≡ m
mode_of_number Mode.R = refl
mode_of_number Mode.S = refl
mode_of_number Mode.T = refl
mode_of_number Mode.C = refl
mode_of_number Mode.N = refl
mode_of_number Mode.F = refl

pub format_of_number : (f : Format) → format_of (format_number f) ≡ f
format_of_number Format.A = refl
format_of_number Format.B = refl

pub mode_number-lt : (m : Mode) → ltb (mode_number m) 6 ≡ true
mode_number-lt Mode.R = refl
mode_number-lt Mode.S = refl
mode_number-lt Mode.T = refl
mode_number-lt Mode.C = refl
mode_number-lt Mode.N = refl
mode_number-lt Mode.F = refl

pub format_number-lt : (f : Format) → ltb (format_number f) 2 ≡ true
format_number-lt Format.A = refl
format_number-lt Format.B = refl

pub mode_number_of : (k : ℕ) → k < 6 → mode_number (mode_of k) ≡ k
mode_number_of zero h = refl
mode_number_of (suc zero) h = refl
mode_number_of (suc (suc zero)) h = refl
mode_number_of (suc (suc (suc zero))) h = refl
mode_number_of (suc (suc (suc (suc zero)))) h = refl
mode_number_of (suc (suc (suc (suc (suc zero))))) h = refl
mode_number_of (suc (suc (suc (suc (suc (suc k)))))) h = absurd (omega arith)

pub format_number_of : (k : ℕ) → k < 2 → format_number (format_of k) ≡ k
format_number_of zero h = refl
format_number_of (suc zero) h = refl
format_number_of (suc (suc k)) h = absurd (omega arith)
