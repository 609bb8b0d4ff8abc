-- The numbers that a call c of a history tells (specs/History), where the memory s holds the store st.
--     issuing_refused   where s holds no store, none is issued
--     issuing_issued    a number that is issued is the one held then
--     told_by_last       what is told of a meter b is not above the number held of it then
--     heard_by_unsure    where nothing was heard from b it stays unsure
-- Assumes nothing.
use Rattle.std.specs.Prelude.{Result, Ok, Err}
use mathlib.Core.Bool.{true, cond}
use mathlib.Core.List.{List, [], ◌∷◌}
use mathlib.Core.Path.{◌≡◌, refl, ap, sym, ◌∙◌}
use Prim.Native.Nat.{ℕ, suc, ◌≤◌}
use native.Mathlib.Omega.{arith}
use borrow.Author.Tests.{eqb-true, eqb-false}
use lib.Dec.{eqb}
use Rattle.answers.specs.declared.Refusal.{Refusal}
use Rattle.ground.proofs.CaseLaws.{by_test, zero_not_one}
use Rattle.sessions.specs.Meters.{Store}
use Rattle.sessions.specs.Changes.{hearing, issued}
use Rattle.sessions.specs.StoreFile.{size_of, memory_of}
use Rattle.sessions.specs.StoreCalls.{◌and_then◌, kept, issuing}
use Rattle.sessions.specs.History.{Call, Add, AddBy, Hear, Issue, Restore, Allow, heard_by, issued_by, told_by, Above}
use Rattle.sessions.specs.History.{if_accepted, if_issued}
use Rattle.sessions.proofs.AboveLaws.{above-nil, above-cons, above-append}
use Rattle.sessions.proofs.KeepingLaws.{last, unsure, hearing_told}
use Rattle.sessions.proofs.StepLaws.{held_after, store_after, store_after_unsure}

-- the number that a call tells that came to r
abbrev if_kept : (Store → ℕ) → Result Store Refusal → List ℕ
if_kept number (Err why) = []
if_kept number (Ok st) = number st ∷ []

hearing-if_kept :
    (s : List ℕ) (n : ℕ) (r : Result Store Refusal)
    → if_accepted n (kept Err (λ st. Ok (size_of st)) s r).answer ≡ if_kept (λ st. n) r
hearing-if_kept s n (Err why) = refl
hearing-if_kept s n (Ok st) = refl

-- what a call that issues a number for the meter a answers if it came to r
abbrev issue_answer : List ℕ → ℕ → Result Store Refusal → Result ℕ Refusal
issue_answer s a r = (kept Err (λ st. Ok (last a st)) s r).answer

issuing-if_kept : (s : List ℕ) (a : ℕ) (r : Result Store Refusal) → if_issued (issue_answer s a r) ≡ if_kept (last a) r
issuing-if_kept s a (Err why) = refl
issuing-if_kept s a (Ok st) = refl

issued_number :
    (s : List ℕ) (a n : ℕ) (r : Result Store Refusal) → issue_answer s a r ≡ Ok n
    → (after : Store) × ((r ≡ Ok after) × (last a after ≡ n))
issued_number s a n (Err why) h = absurd (zero_not_one (cc))
issued_number s a n (Ok after) h = (after, (refl, cc))

pub issuing_refused :
    (s : List ℕ) (why : Refusal) → memory_of s ≡ Err why → (a : ℕ) → (issuing a s).answer ≡ Err why
issuing_refused s why e a = ap (λ r. issue_answer s a (r and_then issued a)) e

module _ (s : List ℕ) (st : Store) (is : memory_of s ≡ Ok st) where
  pub issuing_issued :
      (a n : ℕ) → (issuing a s).answer ≡ Ok n
      → (after : Store) × ((issued a st ≡ Ok after) × (last a after ≡ n))
  issuing_issued a n h =
      issued_number s a n (issued a st) (ap (λ r. issue_answer s a (r and_then issued a)) (sym is) ∙ h)

  module _ (b : ℕ) where
    if_kept_last :
        (number : Store → ℕ) (r : Result Store Refusal) → ((after : Store) → r ≡ Ok after → number after ≤ last b after)
        → Above (suc (last b (held_after st r))) (if_kept number r)
    if_kept_last number (Err why) f = above-nil _
    if_kept_last number (Ok after) f = above-cons _ _ [] (omega (arith, f after refl)) (above-nil _)

    heard_by_hear : (a n : ℕ) → heard_by b s (Hear a n) ≡ cond (eqb a b) (if_kept (λ st. n) (hearing a n st)) []
    heard_by_hear a n =
        ap (λ l. cond (eqb a b) l [])
        (hearing-if_kept s n (memory_of s and_then hearing a n)
        ∙ ap (λ r. if_kept (λ st. n) (r and_then hearing a n)) is)

    issued_by_issue : (a : ℕ) → issued_by b s (Issue a) ≡ cond (eqb a b) (if_kept (last a) (issued a st)) []
    issued_by_issue a =
        ap (λ l. cond (eqb a b) l [])
        (issuing-if_kept s a (memory_of s and_then issued a) ∙ ap (λ r. if_kept (last a) (r and_then issued a)) is)

    heard_by_last : (a n : ℕ) → Above (suc (last b (store_after (Hear a n) st))) (heard_by b s (Hear a n))
    heard_by_last a n =
        rw (heard_by_hear a n)
        (by_test (eqb a b)
        (λ e. let same : a ≡ b = eqb-true a b e in
        rw e (if_kept_last (λ st. n) (hearing a n st) (λ after h. hearing_told b st after n (rw same at h))))
        (λ e. rw e (above-nil _)))

    issued_by_last : (a : ℕ) → Above (suc (last b (store_after (Issue a) st))) (issued_by b s (Issue a))
    issued_by_last a =
        rw (issued_by_issue a)
        (by_test (eqb a b)
        (λ e. let same : a ≡ b = eqb-true a b e in
        rw e (if_kept_last (last a) (issued a st) (λ after h. rw same (omega arith))))
        (λ e. rw e (above-nil _)))

    pub told_by_last : (c : Call) → Above (suc (last b (store_after c st))) (told_by b s c)
    told_by_last (Add a mode format) = above-nil _
    told_by_last (AddBy a k j) = above-nil _
    told_by_last (Hear a n) = above-append _ (heard_by b s (Hear a n)) [] (heard_by_last a n) (above-nil _)
    told_by_last (Issue a) = issued_by_last a
    told_by_last (Restore file) = above-nil _
    told_by_last (Allow n) = above-nil _

    if_kept_none : (number : Store → ℕ) (r : Result Store Refusal) → if_kept number r ≡ [] → held_after st r ≡ st
    if_kept_none number (Err why) h = refl
    if_kept_none number (Ok after) h = absurd (zero_not_one (cc))

    hear_unsure :
        (a n : ℕ) → heard_by b s (Hear a n) ≡ [] → unsure b st ≡ true → unsure b (store_after (Hear a n) st) ≡ true
    hear_unsure a n h u =
        let none = sym (heard_by_hear a n) ∙ h in
        by_test (eqb a b) (λ e. rw (if_kept_none (λ st. n) (hearing a n st) (rw e at none)) u)
        (λ e. store_after_unsure b st (Hear a n) (λ m q. eqb-false a b e (cc)) u)

    pub heard_by_unsure : (c : Call) → heard_by b s c ≡ [] → unsure b st ≡ true → unsure b (store_after c st) ≡ true
    heard_by_unsure (Add a mode format) h u = store_after_unsure b st (Add a mode format) (λ n q. zero_not_one (cc)) u
    heard_by_unsure (AddBy a k j) h u = store_after_unsure b st (AddBy a k j) (λ n q. zero_not_one (cc)) u
    heard_by_unsure (Hear a n) h u = hear_unsure a n h u
    heard_by_unsure (Issue a) h u = store_after_unsure b st (Issue a) (λ n q. zero_not_one (cc)) u
    heard_by_unsure (Restore file) h u = store_after_unsure b st (Restore file) (λ n q. zero_not_one (cc)) u
    heard_by_unsure (Allow n) h u = store_after_unsure b st (Allow n) (λ m q. zero_not_one (cc)) u
