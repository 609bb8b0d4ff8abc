-- Two numbers issued for one meter, with a restore between them: the page's promise of a running collector, for these
-- calls.
use mathlib.Core.List.{List, [], ◌∷◌}
use mathlib.Core.Path.{◌≡◌, refl, ◌∙◌, ap, sym}
use Prim.Native.Nat.{ℕ, ◌<◌}
use native.Mathlib.Omega.{arith}
use borrow.Author.Tests.{eq-eqb}
use Rattle.std.specs.Prelude.{Result, Ok}
use Rattle.answers.specs.declared.Refusal.{Refusal}
use Rattle.answers.specs.Outcome.{Outcome, leaving}
use Rattle.ground.specs.Bytes.{Bytes}
use Rattle.sessions.specs.StoreCalls.{issuing, restoring}
use Rattle.sessions.specs.History.{Call, over, after_all, InRanges, Above, told_by}
use Rattle.demands.proofs.Demands.{store_promise}

module _
    (s file : List ℕ) (a first second : ℕ) (low : a < 18446744073709551616) (bytes : Bytes s) (file_bytes : Bytes file)
  where
    abbrev calls : List Call
    calls = Call.Issue a ∷ Call.Restore file ∷ []

    told_first : (issuing a s).answer ≡ Ok first → Above second (over (told_by a) s calls) → first < second
    unfolding over
    told_first one above = (rw (eq-eqb a a refl, one) at above) 0 (omega arith)

    pub second_above :
        (issuing a s).answer ≡ Ok first
        → (issuing a (restoring file (issuing a s).memory).memory).answer ≡ Ok second
        → first < second
    unfolding after_all InRanges
    second_above one two =
        told_first one (store_promise.running.above s calls a second bytes (low, (file_bytes, refl)) two)

    -- the same, as the calls leave the memory
    pub second_after :
        {lent left : List ℕ} {answer : Result ℕ Refusal} →
        leaving (Ok first) lent ≡ issuing a s →
        left ≡ (restoring file lent).memory →
        answer ≡ (issuing a left).answer →
        answer ≡ Ok second →
        first < second
    second_after one restored two is =
        let memory = ap (λ (o : Outcome (Result ℕ Refusal)). o.memory) one in
        second_above (sym (ap (λ (o : Outcome (Result ℕ Refusal)). o.answer) one))
        (ap (λ (t : List ℕ). (issuing a (restoring file t).memory).answer) (sym memory)
        ∙ (ap (λ (t : List ℕ). (issuing a t).answer) (sym restored) ∙ (sym two ∙ is)))
