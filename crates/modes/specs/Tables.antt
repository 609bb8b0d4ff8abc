-- The numbers of modes and frame formats (EN 13757-4:2019, 14.2, Tables 64 and 65).
--     mode_number m, format_number f    the number in its table
--     mode_of k, format_of k            what has the number k; above the table's last number, the table's last
use Rattle.std.specs.Prelude.{cond, ℕ, eqb}
use Rattle.frame.specs.declared.Format.{Format}
use Rattle.modes.specs.declared.Mode.{Mode}

abbrev pub mode_number : Mode → ℕ
mode_number Mode.R = 0
mode_number Mode.S = 1
mode_number Mode.T = 2
mode_number Mode.C = 3
mode_number Mode.N = 4
mode_number Mode.F = 5

abbrev pub mode_of : ℕ → Mode
mode_of k =
    cond (eqb k 0) Mode.R
    (cond (eqb k 1) Mode.S (cond (eqb k 2) Mode.T (cond (eqb k 3) Mode.C (cond (eqb k 4) Mode.N Mode.F))))

abbrev pub format_number : Format → ℕ
format_number Format.A = 0
format_number Format.B = 1

abbrev pub format_of : ℕ → Format
format_of k = cond (eqb k 0) Format.A Format.B
