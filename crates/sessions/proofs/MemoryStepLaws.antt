-- One call c of a history (specs/History), on the memory s.
--     left s r         what a call that came to r leaves of s
--     after_refused    memory that holds no store stays as it is
--     after_kept       else the store that it holds tells what becomes of it
-- Assumes nothing.
use Rattle.std.specs.Prelude.{Result, Ok, Err}
use mathlib.Core.List.{List}
use mathlib.Core.Path.{◌≡◌, refl, ap, ◌∙◌}
use Prim.Native.Nat.{ℕ}
use Rattle.answers.specs.declared.Refusal.{Refusal}
use Rattle.sessions.specs.Meters.{Store}
use Rattle.sessions.specs.StoreFile.{memory_of}
use Rattle.sessions.specs.StoreCalls.{◌and_then◌, leaves, kept}
use Rattle.sessions.specs.History.{Call, Add, AddBy, Hear, Issue, Restore, Allow, after}
use Rattle.sessions.proofs.StepLaws.{on_store}

abbrev pub left : List ℕ → Result Store Refusal → List ℕ
left s (Err why) = s
left s (Ok st) = leaves st s

kept_left :
    {A : Type 0} (refused : Refusal → A) (told : Store → A) (s : List ℕ) (r : Result Store Refusal)
    → (kept refused told s r).memory ≡ left s r
kept_left refused told s (Err why) = refl
kept_left refused told s (Ok st) = refl

after_left : (s : List ℕ) (c : Call) → after s c ≡ left s (memory_of s and_then on_store c)
after_left s (Add a mode format) = kept_left _ _ s (memory_of s and_then on_store (Add a mode format))
after_left s (AddBy a k j) = kept_left _ _ s (memory_of s and_then on_store (AddBy a k j))
after_left s (Hear a n) = kept_left _ _ s (memory_of s and_then on_store (Hear a n))
after_left s (Issue a) = kept_left _ _ s (memory_of s and_then on_store (Issue a))
after_left s (Restore file) = kept_left _ _ s (memory_of s and_then on_store (Restore file))
after_left s (Allow n) = kept_left _ _ s (memory_of s and_then on_store (Allow n))

pub after_refused : (s : List ℕ) (why : Refusal) → memory_of s ≡ Err why → (c : Call) → after s c ≡ s
after_refused s why e c = after_left s c ∙ ap (λ r. left s (r and_then on_store c)) e

module _ (s : List ℕ) (st : Store) (is : memory_of s ≡ Ok st) where
  pub after_kept : (c : Call) → after s c ≡ left s (on_store c st)
  after_kept c = after_left s c ∙ ap (λ r. left s (r and_then on_store c)) is
