-- A content is wanted exactly when its bytes 1 to 8 equal an entry in use (document 01, "Meter filter").
--     verdict_of_judged     where the call is in order, the list decides
--     Meant es n s         the call is in order and the name of s is in use
--     VerdictGrounds es n s v    the grounds on which s gets the verdict v
--     verdict_of_wanted     the answer is yes exactly when it is meant
--     verdict_of_unwanted   it is no exactly when the call is in order and the name is not in use
--     verdict_of_out_of_range, verdict_of_bad-content    the two refusals, each exactly in its case and in their order
use mathlib.Core.List.{List}
use mathlib.Core.Path.{◌≡◌, refl, ◌∙◌, sym, subst}
use mathlib.Core.Logic.{◌↔◌}
use mathlib.Core.Bool.{Bool, true, false, cond, false≢true, not-eq-not}
use Prim.Native.Nat.{ℕ, ◌<◌, ◌≤◌}
use native.Mathlib.Omega.{arith}
use borrow.Author.Tests.{ltb-false, ltb-true, lt-ltb, le-ltb}
use lib.Dec.{ltb}
use lib.ListN.{length, take}
use Rattle.std.specs.Prelude.{Result, Ok, Err}
use Rattle.answers.specs.declared.Refusal.{Refusal}
use Rattle.answers.specs.declared.Refusal.TheVariants.{OutOfRange, BadContent}
use Rattle.address.specs.Names.{name_of}
use Rattle.filter.specs.Listed.{listed, verdict_of}
use Rattle.filter.proofs.ListedLaws.{InUse, in_use_listed, listed_in_use}

pub verdict_of_judged :
    (es : List (List ℕ)) (n : ℕ) (s : List ℕ) → n ≤ 16 → 9 ≤ length s
    → verdict_of es n s ≡ Ok (listed (name_of s) (take n es))
verdict_of_judged es n s p q = rw (le-ltb 16 n p, le-ltb (length s) 9 q)

pub record Meant (es : List (List ℕ)) (n : ℕ) (s : List ℕ) : Type 0 where
  pub counted : n ≤ 16
  pub long : 9 ≤ length s
  pub entry : InUse es n (name_of s)

-- four grounds, so that no other refusal is ever given
pub data VerdictGrounds (es : List (List ℕ)) (n : ℕ) (s : List ℕ) : Result Bool Refusal → Type 0 where
  over : 16 < n → VerdictGrounds es n s (Err OutOfRange)
  short : n ≤ 16 → length s < 9 → VerdictGrounds es n s (Err BadContent)
  found : n ≤ 16 → 9 ≤ length s → listed (name_of s) (take n es) ≡ true → VerdictGrounds es n s (Ok true)
  missed : n ≤ 16 → 9 ≤ length s → listed (name_of s) (take n es) ≡ false → VerdictGrounds es n s (Ok false)

module _ (es : List (List ℕ)) (n : ℕ) (s : List ℕ) where
  pub verdict_of_grounds : VerdictGrounds es n s (verdict_of es n s)
  verdict_of_grounds = by_tests (ltb 16 n) (ltb (length s) 9) (listed (name_of s) (take n es)) refl refl refl
    where
      by_tests :
          (a b c : Bool) → ltb 16 n ≡ a → ltb (length s) 9 ≡ b → listed (name_of s) (take n es) ≡ c
          → VerdictGrounds es n s (cond a (Err OutOfRange) (cond b (Err BadContent) (Ok c)))
      by_tests true b c p q r = over (ltb-true 16 n p)
      by_tests false true c p q r = short (ltb-false 16 n p) (ltb-true (length s) 9 q)
      by_tests false false true p q r = found (ltb-false 16 n p) (ltb-false (length s) 9 q) r
      by_tests false false false p q r = missed (ltb-false 16 n p) (ltb-false (length s) 9 q) r

  verdict_grounds : {v : Result Bool Refusal} → verdict_of es n s ≡ v → VerdictGrounds es n s v
  verdict_grounds e = subst (VerdictGrounds es n s) e verdict_of_grounds

  pub verdict_of_out_of_range : verdict_of es n s ≡ Err OutOfRange ↔ 16 < n
  verdict_of_out_of_range = (λ e. there (verdict_grounds e), λ h. rw (lt-ltb 16 n h))
    where
      there : VerdictGrounds es n s (Err OutOfRange) → 16 < n
      there (over h) = h

  pub verdict_of_bad-content : verdict_of es n s ≡ Err BadContent ↔ ((n ≤ 16) × (length s < 9))
  verdict_of_bad-content =
      (λ e. there (verdict_grounds e), λ m. rw (le-ltb 16 n m.0, lt-ltb (length s) 9 m.1))
    where
      there : VerdictGrounds es n s (Err BadContent) → (n ≤ 16) × (length s < 9)
      there (short p q) = (p, q)

  module _ (whole : length es ≡ 16) where
    meant_wanted : Meant es n s → verdict_of es n s ≡ Ok true
    meant_wanted m =
        verdict_of_judged es n s m.counted m.long ∙ rw (in_use_listed es n (name_of s) (omega arith) m.entry)

    pub verdict_of_wanted : verdict_of es n s ≡ Ok true ↔ Meant es n s
    verdict_of_wanted = (λ e. there (verdict_grounds e), meant_wanted)
      where
        there : VerdictGrounds es n s (Ok true) → Meant es n s
        there (found p q r) = record { counted = p; long = q; entry = listed_in_use es n (name_of s) (omega arith) r }

    unlisted_unwanted : (n ≤ 16) × (9 ≤ length s) × (InUse es n (name_of s) → ⊥) → verdict_of es n s ≡ Ok false
    unlisted_unwanted m =
        let few : n ≤ 16 = m.0 in
        verdict_of_judged es n s few m.1
        ∙ rw ((not-eq-not {b = false}).0 (λ e. m.2 (listed_in_use es n (name_of s) (omega arith) e)))

    pub verdict_of_unwanted :
        verdict_of es n s ≡ Ok false ↔ ((n ≤ 16) × (9 ≤ length s) × (InUse es n (name_of s) → ⊥))
    verdict_of_unwanted = (λ e. there (verdict_grounds e), unlisted_unwanted)
      where
        there : VerdictGrounds es n s (Ok false) → (n ≤ 16) × (9 ≤ length s) × (InUse es n (name_of s) → ⊥)
        there (missed p q r) = (p, q, λ u. false≢true (sym r ∙ in_use_listed es n (name_of s) (omega arith) u))
