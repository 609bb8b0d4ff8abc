-- What was judged: bytes that hold a store.
--     BodyAt s k right r m   m is the index of the meters behind the count at place k + 1 of s, if `right` says so;
--                            else the refusal is 17
--     Opened r s first m     the bytes s hold what r says of them, and m is the index of their meters, which begin at
--                            `first`
use Rattle.std.specs.Prelude.{Bool, true, false, List, ◌≡◌, ℕ, ◌+◌, get_or, Result, Ok, MatchResult}
use Rattle.answers.specs.declared.Refusal.{Refusal}
use Rattle.answers.specs.declared.Refusal.TheVariants.{BadStore}
use Rattle.sessions.specs.Meters.{Store}
use Rattle.store.specs.declared.index.Index.{Index}
use Rattle.store.specs.Inner.{held_by}

abbrev pub BodyAt : List ℕ → ℕ → Bool → Result Unit Refusal → Index → Type 0
BodyAt s k right r m =
    MatchResult r
    (λ u. (right ≡ true) × ((m.bytes.now ≡ s) × ((m.first ≡ k + 2) × (m.count ≡ get_or s (k + 1) 0))))
    (λ why. (right ≡ false) × (why ≡ BadStore))

pub record Opened (r : Result Store Refusal) (s : List ℕ) (first : ℕ) (m : Index) : Type 0 where
  pub held : held_by r ≡ Ok m.count
  pub over : m.bytes.now ≡ s
  pub begins : m.first ≡ first
