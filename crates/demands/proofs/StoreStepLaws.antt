-- Reading memory or a file, and finding a meter, follow their steps of the ladders (specs/StoreLadders). What a call
-- makes of what was read is `told`, and a refusal is handed on as it is.
--     either_way       what is followed whichever way a test goes
--     store_follows    memory: 17, 18, 17, then the rest, knowing the store
--     file_follows     a file: 17 if empty, 18, 17, then the rest, knowing the store
--     held_follows     a meter: 19, then the rest, knowing what is held of it
-- Assumes nothing.
use mathlib.Core.Bool.{Bool, true, false}
use mathlib.Core.List.{List}
use mathlib.Core.Logic.{◌⊎◌, inl, inr}
use mathlib.Core.Path.{◌≡◌, refl, sym, ◌∙◌, ap, subst}
use Prim.Native.Nat.{ℕ, ◌<◌}
use native.Mathlib.Omega.{arith}
use borrow.Author.Tests.{eqb-true, eqb-false}
use lib.Dec.{eqb}
use lib.ListN.{length, get_or}
use Rattle.std.specs.Prelude.{Result, Ok, Err}
use Rattle.answers.specs.declared.Refusal.{Refusal}
use Rattle.answers.specs.Refusals.{number_of, value_of}
use Rattle.ground.specs.Bytes.{Bytes}
use Rattle.sessions.specs.declared.Meter.{Meter}
use Rattle.sessions.specs.Meters.{Store, meter_of, holds}
use Rattle.sessions.specs.StoreFile.{file_of, memory_of}
use Rattle.sessions.specs.Valid.{Valid, Within, IsFile}
use Rattle.sessions.proofs.ExactLaws.{memory_of_exactly, file_of_exactly, within_only, file_only}
use Rattle.sessions.proofs.RefusedLaws.{BadOrKept, memory_of_empty, memory_of_unknown, memory_of_else, memory_of_bad, file_of_empty, file_of_unknown, file_of_else, file_of_bad}
use Rattle.demands.specs.Rules.{Rule, ◌when◌else◌, given, Only}
use Rattle.demands.specs.StoreCases.{HeldAs, NoStore, NoFile}
use Rattle.demands.specs.StoreLadders.{store_steps, file_steps, held_steps}
use Rattle.demands.proofs.StoreCaseLaws.{meter_of_held, holds_none, held_is}
use Rattle.demands.proofs.RuleLaws.{Follows, taken_bare, passed_bare}

either_way : {P : Type 1} (t : Bool) → (t ≡ true → P) → (t ≡ false → P) → P
either_way true f g = f refl
either_way false f g = g refl

module _ {B : Type 0} {refused : Refusal → B} (told : Result Store Refusal → B)
    (passes : (r : Refusal) → told (Err r) ≡ refused r) where
  -- a refusal that was read is handed on
  refusing :
      {n : ℕ} {case : Type 0} {rest : Rule B} {r : Result Store Refusal} (why : Refusal) → r ≡ Err why → case
      → number_of why ≡ n → value_of why ≡ 0 → Follows refused (n when case else rest) (told r)
  refusing {n} {case} {rest} why e holds number value =
      subst (Follows refused (n when case else rest)) (sym (ap told e ∙ passes why)) (taken_bare why holds number value)

  -- 17 where no store was read; else the rest, knowing that P holds of the one that was, and of it alone
  kept_follows :
      {P : Store → Type 0} {rest : Store → Rule B} {r : Result Store Refusal}
      → ((st : Store) → P st → Follows refused (rest st) (told (Ok st))) → ((st : Store) → r ≡ Ok st → Only P st)
      → (r ≡ Err Refusal.BadStore → (st : Store) → P st → ⊥) → BadOrKept r
      → Follows refused (17 when ((st : Store) → P st → ⊥) else given P rest) (told r)
  kept_follows go only none (inl e) = refusing Refusal.BadStore e (none e) refl refl
  kept_follows go only none (inr (st, e)) =
      let p = only st e in
      rw e (passed_bare (λ all. all st p.0) (Follows.found st p.0 p.1 (go st p.0)))

  module _ (s : List ℕ) (bytes : Bytes s) (rest : Store → Rule B)
      (go : (st : Store) → Within s st → Follows refused (rest st) (told (Ok st))) where
    -- version 2: the rest of 17
    two_follows :
        0 < length s → get_or s 0 0 ≡ 2
        → Follows refused (17 when NoStore s else given (Within s) rest) (told (memory_of s))
    two_follows some two =
        kept_follows go (λ st e. let w = (memory_of_exactly s st bytes).0 e in (w, λ u v. within_only v w))
        (memory_of_bad s some two bytes).0 (memory_of_else s some two)

    version_follows :
        0 < length s → Follows refused
        (18 when (get_or s 0 0 ≡ 2 → ⊥) else 17 when NoStore s else given (Within s) rest) (told (memory_of s))
    version_follows some =
        either_way (eqb (get_or s 0 0) 2)
        (λ e. let two = eqb-true (get_or s 0 0) 2 e in passed_bare (λ other. other two) (two_follows some two))
        (λ e. let other = eqb-false (get_or s 0 0) 2 e in
        refusing Refusal.UnknownVersion (memory_of_unknown s some other) other refl refl)

    pub store_follows : Follows refused (store_steps s rest) (told (memory_of s))
    store_follows =
        either_way (eqb (length s) 0)
        (λ e. let none = eqb-true (length s) 0 e in refusing Refusal.BadStore (memory_of_empty s none) none refl refl)
        (λ e. let some = eqb-false (length s) 0 e in passed_bare some (version_follows (omega (arith, some))))

  module _ (f : List ℕ) (bytes : Bytes f) (rest : Store → Rule B)
      (go : (file : Store) → IsFile f file → Follows refused (rest file) (told (Ok file))) where
    -- a version that is read: the rest of 17
    known_follows :
        0 < length f → (get_or f 0 0 ≡ 1) ⊎ (get_or f 0 0 ≡ 2)
        → Follows refused (17 when NoFile f else given (IsFile f) rest) (told (file_of f))
    known_follows some known =
        kept_follows go (λ st e. let p = (file_of_exactly f st bytes).0 e in (p, λ u q. file_only q p))
        (file_of_bad f some known bytes).0 (file_of_else f some known)

    abbrev Unknown : Type 0
    Unknown = (get_or f 0 0 ≡ 1 → ⊥) × (get_or f 0 0 ≡ 2 → ⊥)

    versions_follow :
        0 < length f
        → Follows refused (18 when Unknown else 17 when NoFile f else given (IsFile f) rest) (told (file_of f))
    versions_follow some =
        either_way (eqb (get_or f 0 0) 1)
        (λ e. let one = eqb-true (get_or f 0 0) 1 e in passed_bare (λ none. none.0 one) (known_follows some (inl one)))
        (λ e. either_way (eqb (get_or f 0 0) 2)
        (λ d. let two = eqb-true (get_or f 0 0) 2 d in passed_bare (λ none. none.1 two) (known_follows some (inr two)))
        (λ d. let none : Unknown = (eqb-false (get_or f 0 0) 1 e, eqb-false (get_or f 0 0) 2 d) in
        refusing Refusal.UnknownVersion (file_of_unknown f some none.0 none.1) none refl refl))

    pub file_follows : Follows refused (file_steps f rest) (told (file_of f))
    file_follows =
        either_way (eqb (length f) 0)
        (λ e. let none = eqb-true (length f) 0 e in refusing Refusal.BadStore (file_of_empty f none) none refl refl)
        (λ e. let some = eqb-false (length f) 0 e in passed_bare some (versions_follow (omega (arith, some))))

-- `told` is what is answered where the meter is held, and where it is not
module _ {B : Type 0} {refused : Refusal → B} (told : Bool → B) (passes : told false ≡ refused Refusal.NotHeld) where
  pub held_follows : (a : ℕ) {st : Store} (rest : Meter → Rule B) → Valid st
      → (HeldAs a st (meter_of a st.meters) → Follows refused (rest (meter_of a st.meters)) (told true))
      → Follows refused (held_steps a st rest) (told (holds a st.meters))
  held_follows a {st} rest v go =
      either_way (holds a st.meters)
      (λ h. let p = meter_of_held a st h in
      rw h (passed_bare (λ none. none (_, p)) (Follows.found _ p (held_is a st v.once) (go p))))
      (λ h. rw (h, passes) (taken_bare Refusal.NotHeld (holds_none a st h) refl refl))
