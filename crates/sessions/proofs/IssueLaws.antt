-- What issuing a number for a held meter a that is sure answers (document 02, 9/14).
--     issued_used_up     21 if its last number is 2^32 - 1
--     issued_one_more    else the number after its last one
-- Assumes nothing.
use Rattle.std.specs.Prelude.{Ok, Err}
use mathlib.Core.Bool.{true, false}
use mathlib.Core.Path.{◌≡◌}
use Prim.Native.Nat.{ℕ, ◌≤◌, ◌<◌}
use native.Mathlib.Omega.{arith}
use borrow.Author.Tests.{le-leb, lt-leb}
use Rattle.answers.specs.declared.Refusal.TheVariants.{NumbersUsedUp}
use Rattle.sessions.specs.Meters.{Store, meter_of, holds}
use Rattle.sessions.specs.Changes.{last_number, next, with_meter, issued}
use Rattle.sessions.proofs.KeepingLaws.{last, unsure}

module _ (a : ℕ) (st : Store) (held : holds a st.meters ≡ true) (sure : unsure a st ≡ false) where
  pub issued_used_up : 4294967295 ≤ last a st → issued a st ≡ Err NumbersUsedUp
  issued_used_up h = rw (held, sure, le-leb last_number (last a st) (omega arith))

  pub issued_one_more : last a st < 4294967295 → issued a st ≡ Ok (with_meter a (next (meter_of a st.meters)) st)
  issued_one_more h = rw (held, sure, lt-leb last_number (last a st) (omega arith))
