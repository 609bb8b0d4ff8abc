-- What is made of a body that was judged.
--     opened_body    bytes that hold a store, if their body is right, else 17
-- Assumes nothing.
use Rattle.std.specs.Prelude.{Result, Ok, Err, MatchResult}
use mathlib.Core.Bool.{Bool}
use mathlib.Core.List.{List}
use mathlib.Core.Path.{◌≡◌, ◌∙◌}
use Prim.Native.Nat.{ℕ, ◌+◌}
use lib.ListN.{get_or, drop}
use Rattle.answers.specs.declared.Refusal.{Refusal}
use Rattle.sessions.specs.Meters.{Store}
use Rattle.sessions.specs.StoreFile.{store_in, if_right}
use Rattle.sessions.proofs.MetersInLaws.{length-meters_in}
use Rattle.store.specs.declared.index.Index.{Index}
use Rattle.store.specs.InnerOpened.{BodyAt, Opened}

pub opened_body :
    (s : List ℕ) (k allowance : ℕ) (right : Bool) (o : Result Unit Refusal) (m : Index) {r : Result Store Refusal} →
    BodyAt s k right o m →
    r ≡ if_right right (store_in k allowance s) →
    MatchResult o (λ u. Opened r s (k + 2) m) (λ why. r ≡ Err why)
opened_body s k allowance right (Err why) m wrong is = is ∙ rw (wrong.0, wrong.1)
opened_body s k allowance right (Ok u) m body is =
    record {
      held = rw (is, body.0, length-meters_in (get_or s (k + 1) 0) (drop (k + 2) s), body.1.1.1);
      over = body.1.0;
      begins = body.1.1.0;
    }
