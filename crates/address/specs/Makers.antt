-- What M, the number of a maker, says (EN 13757-4:2019, 12.5.5; document 02, 2/14): three letters or none, and in both
-- cases how far the address behind M is unique. M2 of a header has the same form (13.2.9, D48).
--     top_bit m      the highest of the 16 bits of M
--     reach_of m     zero: fixed by the maker, unique worldwide (hard); else unique at least within radio range (soft)
--     maker_of m     both
use Rattle.std.specs.Prelude.{cond, ℕ, ◌/◌, ◌%◌, eqb}
use Rattle.address.specs.Letters.{letters_of}
use Rattle.address.specs.declared.Maker.{Maker}
use Rattle.address.specs.declared.Reach.{Reach}
use Rattle.address.specs.declared.Reach.TheVariants.{Hard, Soft}

abbrev pub top_bit : ℕ → ℕ
top_bit m = m / 32768 % 2

abbrev pub reach_of : ℕ → Reach
reach_of m = cond (eqb (top_bit m) 0) Hard Soft

abbrev pub maker_of : ℕ → Maker
maker_of m = record { spelled = letters_of m; reach = reach_of m }
