-- The settings store (document 02, 9/14): what it holds of each meter, and what a call makes of it.
--     Store           the meters in the order in which they came, and the position allowance
--     stranger a      what is held of a meter that was never added: no number, unsure. Mode and format are of no
--                     meaning
--     meter_of a ms    what is held of the meter a among ms
--     holds a ms      whether a is among them
--     put a m ms      ms with m for the meter a: in its place, or behind the last one
-- A call comes to `Result Store Refusal`: the store that is held after it, or why it was refused.
use Rattle.std.specs.Prelude.{Bool, true, false, cond, ◌||◌, List, [], ◌∷◌, ℕ, eqb}
use Rattle.frame.specs.declared.Format.{Format}
use Rattle.modes.specs.declared.Mode.{Mode}
use Rattle.sessions.specs.declared.Meter.{Meter}

pub record Store : Type 0 where
  pub meters : List Meter
  pub allowance : ℕ

abbrev pub stranger : ℕ → Meter
stranger a = record { address = a; mode = Mode.R; format = Format.A; number = 0; unsure = true }

unfoldable pub meter_of : ℕ → List Meter → Meter
meter_of a [] = stranger a
meter_of a (m ∷ ms) = cond (eqb m.address a) m (meter_of a ms)

unfoldable pub holds : ℕ → List Meter → Bool
holds a [] = false
holds a (m ∷ ms) = eqb m.address a || holds a ms

unfoldable pub put : ℕ → Meter → List Meter → List Meter
put a m [] = m ∷ []
put a m (x ∷ ms) = cond (eqb x.address a) (m ∷ ms) (x ∷ put a m ms)
