-- How a call is shown to be judged by its ladder (specs/Rules): its definition is taken apart by its tests, each of
-- which tells whether a case holds.
--     Follows refused rule o    a way down the ladder that ends in o: taken at a case that holds, passed where none
--                               does, found where there is just one thing to find, ended in what is accepted
--     judged, judged_lent       whoever follows a ladder is judged by it; judged_err, a call that answers a Result
--     Tells t P                 the test t says whether P holds
--     follows_when, follows-lt, ..   a test chooses between the refusal and the rest
use mathlib.Core.List.{List}
use mathlib.Core.Bool.{Bool, true, false, cond}
use mathlib.Core.Logic.{◌⊎◌, inl, inr, ⊎_elim}
use mathlib.Core.Path.{◌≡◌, refl, sym, ◌∙◌, ap}
use Prim.Native.Nat.{ℕ, ◌≤◌, ◌<◌}
use borrow.Author.Tests.{ltb-true, ltb-false}
use native.Mathlib.Omega.{arith}
use lib.Dec.{ltb}
use Rattle.std.specs.Prelude.{Result, Ok, Err}
use Rattle.answers.specs.Outcome.{Outcome, leaving}
use Rattle.answers.specs.Refusals.{number_of, value_of}
use Rattle.answers.specs.declared.Refusal.{Refusal}
use Rattle.ground.proofs.CaseLaws.{zero_not_one}
use Rattle.demands.specs.Rules.{Rule, ◌when◌else◌, ◌showing◌else◌, Gives, Passes, Accepts, Refuses, Judged, JudgedLent}

pub data Follows {B : Type 0} (refused : Refusal → B) : Rule B → B → Type 1 where
  taken :
      {n : ℕ} {case : ℕ → Type 0} {rest : Rule B} (r : Refusal) → number_of r ≡ n → case (value_of r)
      → ((w : ℕ) → case w → w ≡ value_of r) → Follows refused (Rule.refuse n case rest) (refused r)
  passed :
      {n : ℕ} {case : ℕ → Type 0} {rest : Rule B} {o : B} → ((w : ℕ) → case w → ⊥) → Follows refused rest o
      → Follows refused (Rule.refuse n case rest) o
  found :
      {W : Type 0} {holds : W → Type 0} {rule : W → Rule B} {o : B} (w : W) → holds w
      → ((u : W) → holds u → u ≡ w) → Follows refused (rule w) o → Follows refused (Rule.find holds rule) o
  ended : {ok : B → Type 0} {o : B} → ok o → Follows refused (Rule.end ok) o

module _ {B : Type 0} {refused : Refusal → B} where
  -- a refusal that was reached is one that the ladder gives
  follows_gives :
      {rule : Rule B} {o : B} → ((p q : Refusal) → refused p ≡ refused q → p ≡ q)
      → ((r : Refusal) → Accepts rule (refused r) → ⊥) → Follows refused rule o
      → (n v : ℕ) → Refuses refused n v o → Gives rule n v
  follows_gives same never (Follows.taken q number holds only) n v (r, (e, (is, value))) =
      let p = same q r e in
      inl (sym number ∙ (ap number_of p ∙ is), rw (p, value) at holds)
  follows_gives same never (Follows.passed none f) n v h = inr (none, follows_gives same never f n v h)
  follows_gives same never (Follows.found w h only f) n v g =
      (w, ((h, only), follows_gives same (λ r a. never r (w, ((h, only), a))) f n v g))
  follows_gives same never (Follows.ended ok) n v (r, (e, rest)) = absurd (never r (rw e at ok))

  -- what the ladder gives is the refusal that was reached
  gives_refuses : {rule : Rule B} {o : B} → Follows refused rule o → (n v : ℕ) → Gives rule n v → Refuses refused n v o
  gives_refuses (Follows.taken r number holds only) n v (inl (e, c)) = (r, (refl, (number ∙ e, sym (only v c))))
  gives_refuses (Follows.taken r number holds only) n v (inr (none, g)) = absurd (none (value_of r) holds)
  gives_refuses (Follows.passed none f) n v (inl (e, c)) = absurd (none v c)
  gives_refuses (Follows.passed none f) n v (inr (also, g)) = gives_refuses f n v g
  gives_refuses (Follows.found w h only f) n v (u, ((k, alone), g)) = gives_refuses f n v (rw (only u k) at g)
  gives_refuses (Follows.ended ok) n v g = absurd g

  -- what is accepted was reached past every case
  follows_passes :
      {rule : Rule B} {o : B} → ((r : Refusal) → Accepts rule (refused r) → ⊥) → Follows refused rule o
      → Accepts rule o → Passes rule
  follows_passes never (Follows.taken r number holds only) a = absurd (never r a)
  follows_passes never (Follows.passed none f) a = (none, follows_passes never f a)
  follows_passes never (Follows.found w h only f) (u, ((k, alone), a)) =
      (w, ((h, only), follows_passes (λ r b. never r (w, ((h, only), b))) f (rw (only u k) at a)))
  follows_passes never (Follows.ended ok) a = refl

  -- where no case holds, what was reached is accepted
  passes_accepts : {rule : Rule B} {o : B} → Follows refused rule o → Passes rule → Accepts rule o
  passes_accepts (Follows.taken r number holds only) (none, p) = absurd (none (value_of r) holds)
  passes_accepts (Follows.passed also f) (none, p) = passes_accepts f p
  passes_accepts (Follows.found w h only f) (u, ((k, alone), p)) =
      (w, ((h, only), passes_accepts f (rw (only u k) at p)))
  passes_accepts (Follows.ended ok) p = ok

  -- a refusal was reached, or what was reached is accepted
  follows_ends : {rule : Rule B} {o : B} → Follows refused rule o → ((r : Refusal) × (o ≡ refused r)) ⊎ Accepts rule o
  follows_ends (Follows.taken r number holds only) = inl (r, refl)
  follows_ends (Follows.passed none f) = follows_ends f
  follows_ends (Follows.found w h only f) = ⊎_elim inl (λ a. inr (w, ((h, only), a))) (follows_ends f)
  follows_ends (Follows.ended ok) = inr ok

  -- and so the ladder ends: in a refusal that it gives, or past every case
  ladder_ends :
      {rule : Rule B} {o : B} → Follows refused rule o → ((n : ℕ) × ((v : ℕ) × Gives rule n v)) ⊎ Passes rule
  ladder_ends (Follows.taken {n} r number holds only) = inl (n, (value_of r, inl (refl, holds)))
  ladder_ends (Follows.passed none f) =
      ⊎_elim (λ (n, (v, g)). inl (n, (v, inr (none, g)))) (λ p. inr (none, p)) (ladder_ends f)
  ladder_ends (Follows.found w h only f) =
      ⊎_elim (λ (n, (v, g)). inl (n, (v, (w, ((h, only), g))))) (λ p. inr (w, ((h, only), p))) (ladder_ends f)
  ladder_ends (Follows.ended ok) = inr refl

  pub judged :
      {rule : Rule B} {o : B} → ((p q : Refusal) → refused p ≡ refused q → p ≡ q)
      → ((r : Refusal) → Accepts rule (refused r) → ⊥) → Follows refused rule o → Judged refused rule o
  judged same never f =
      record {
        refused_exactly = λ n v. (follows_gives same never f n v, gives_refuses f n v);
        accepted_exactly = (follows_passes never f, passes_accepts f);
        ends = ladder_ends f;
      }

pub judged_lent :
    {A : Type 0} {refused : Refusal → A} {d : List ℕ} {rule : Rule (Outcome A)} {o : Outcome A}
    → ((p q : Refusal) → refused p ≡ refused q → p ≡ q)
    → ((x : Outcome A) (r : Refusal) → Accepts rule x → x.answer ≡ refused r → ⊥)
    → Follows (λ r. leaving (refused r) d) rule o → JudgedLent refused d rule o
judged_lent {A} {refused} {d} {rule} {o} same never f =
    record {
      judged =
          judged (λ p q e. same p q (ap (λ (x : Outcome A). x.answer) e))
          (λ r a. never (leaving (refused r) d) r a refl) f;
      harmless =
          λ r e. ⊎_elim (λ (p : (q : Refusal) × (o ≡ leaving (refused q) d)). ap (λ (x : Outcome A). x.memory) p.1)
          (λ a. absurd (never o r a e)) (follows_ends f);
    }

-- a call that was lent the memory d, which a refusal leaves as it was
abbrev pub unchanged : {A : Type 0} → List ℕ → Refusal → Outcome (Result A Refusal)
unchanged d r = leaving (Err r) d

-- the same of a call that answers a Result
pub judged_err :
    {A : Type 0} {d : List ℕ} {rule : Rule (Outcome (Result A Refusal))} {o : Outcome (Result A Refusal)}
    → ((x : Outcome (Result A Refusal)) (r : Refusal) → Accepts rule x → x.answer ≡ Err r → ⊥)
    → Follows (unchanged d) rule o → JudgedLent Err d rule o
judged_err never f = judged_lent (λ p q e. cc) never f

-- an outcome that is accepted with the answer a is no refusal
pub never_refused :
    {A : Type 0} {a : A} {m : List ℕ} (x : Outcome (Result A Refusal)) (r : Refusal) → x ≡ leaving (Ok a) m
    → x.answer ≡ Err r → ⊥
never_refused {A} x r is e =
    zero_not_one (let clash = ap (λ (o : Outcome (Result A Refusal)). o.answer) (sym is) ∙ e in cc)

pub record Tells (t : Bool) (P : Type 0) : Type 0 where
  pub yes : t ≡ true → P
  pub not : t ≡ false → P → ⊥

pub tells-lt : (a b : ℕ) → Tells (ltb a b) (a < b)
tells-lt a b = record { yes = ltb-true a b; not = λ e h. omega (arith, ltb-false a b e) }

module _ {B : Type 0} {refused : Refusal → B} {n : ℕ} {rest : Rule B} where
  pub taken_bare :
      {case : Type 0} (r : Refusal) → case → number_of r ≡ n → value_of r ≡ 0
      → Follows refused (n when case else rest) (refused r)
  taken_bare {case} r holds number value =
      Follows.taken {case = λ v. case × (v ≡ 0)} r number (holds, value) (λ w p. p.1 ∙ sym value)

  pub taken_showing :
      {case : ℕ → Type 0} (r : Refusal) → case (value_of r) → ((w : ℕ) → case w → w ≡ value_of r) → number_of r ≡ n
      → Follows refused (n showing case else rest) (refused r)
  taken_showing r holds only number = Follows.taken r number holds only

  pub passed_bare :
      {case : Type 0} {o : B} → (case → ⊥) → Follows refused rest o → Follows refused (n when case else rest) o
  passed_bare {case} none f = Follows.passed {case = λ v. case × (v ≡ 0)} (λ w p. none p.0) f

  -- refused where the test says so
  pub follows_when :
      {case : Type 0} (t : Bool) (r : Refusal) → Tells t case → number_of r ≡ n → value_of r ≡ 0
      → {o : B} → (t ≡ false → Follows refused rest o)
      → Follows refused (n when case else rest) (cond t (refused r) o)
  follows_when true r tells number value f = taken_bare r (tells.yes refl) number value
  follows_when false r tells number value f = passed_bare (tells.not refl) (f refl)

  -- refused where a is below b
  pub follows-lt :
      (a b : ℕ) (r : Refusal) → number_of r ≡ n → value_of r ≡ 0 → {o : B} → (b ≤ a → Follows refused rest o)
      → Follows refused (n when a < b else rest) (cond (ltb a b) (refused r) o)
  follows-lt a b r number value f =
      follows_when (ltb a b) r (tells-lt a b) number value (λ e. f (ltb-false a b e))

  -- refused unless the test says so
  pub follows_unless :
      {case : Type 0} (t : Bool) (r : Refusal) → (t ≡ true → case → ⊥) → (t ≡ false → case)
      → number_of r ≡ n → value_of r ≡ 0 → {o : B} → (t ≡ true → Follows refused rest o)
      → Follows refused (n when case else rest) (cond t o (refused r))
  follows_unless true r none some number value f = passed_bare (none refl) (f refl)
  follows_unless false r none some number value f = taken_bare r (some refl) number value

  pub follows_showing :
      {case : ℕ → Type 0} (t : Bool) (r : Refusal) → (t ≡ true → case (value_of r))
      → (t ≡ true → (w : ℕ) → case w → w ≡ value_of r) → (t ≡ false → (w : ℕ) → case w → ⊥) → number_of r ≡ n
      → {o : B} → (t ≡ false → Follows refused rest o)
      → Follows refused (n showing case else rest) (cond t (refused r) o)
  follows_showing true r some only none number f = Follows.taken r number (some refl) (only refl)
  follows_showing false r some only none number f = Follows.passed (none refl) (f refl)
