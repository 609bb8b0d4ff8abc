-- How document 01 judges a call ("Answer numbers": each number is given exactly in its case and in the order), as a
-- ladder that is read from the top:
--     n when C else rest       refusal n, with no value besides, where C holds; else the rest is judged
--     n showing C else rest    refusal n with the value v for which C v holds; else the rest
--     given C rule             C holds of one thing and no other by now; the rest is judged knowing it
--     accept C                 no refusal is left: an answer of which C holds
-- What a ladder says:
--     Only C w                 C holds of w and of nothing else
--     Gives rule n v           the first case that holds is one of refusal n with value v, and none above it holds
--     Passes rule              no case of a refusal holds
--     Accepts rule o           o is what the ladder's last step accepts
--     Refuses refused n v o    o is a refusal, and has the number n and the value v
--     Judged refused rule o    o is a refusal just as the ladder says, number and value; it is accepted exactly where
--                              no case of a refusal holds, and is then what the last step says; and one of the two is
--                              so: every way down the ladder ends
--     JudgedLent refused d rule o    this of a call that was lent the memory d: a refusal leaves it as it was
-- `refused` makes a refusal what this call answers then.
use Rattle.std.specs.Prelude.{List, ◌↔◌, ◌⊎◌, ◌≡◌, ℕ}
use Rattle.answers.specs.Outcome.{Outcome, leaving}
use Rattle.answers.specs.Refusals.{number_of, value_of}
use Rattle.answers.specs.declared.Refusal.{Refusal}

infixr 4 ◌when◌else◌
infixr 4 ◌showing◌else◌
pub data Rule (B : Type 0) : Type 1 where
  refuse : ℕ → (ℕ → Type 0) → Rule B → Rule B
  find : {W : Type 0} → (W → Type 0) → (W → Rule B) → Rule B
  end : (B → Type 0) → Rule B

abbrev pub ◌when◌else◌ : {B : Type 0} → ℕ → Type 0 → Rule B → Rule B
n when case else rest = Rule.refuse n (λ v. case × (v ≡ 0)) rest

abbrev pub ◌showing◌else◌ : {B : Type 0} → ℕ → (ℕ → Type 0) → Rule B → Rule B
n showing case else rest = Rule.refuse n case rest

abbrev pub given : {B W : Type 0} → (W → Type 0) → (W → Rule B) → Rule B
given holds rule = Rule.find holds rule

abbrev pub accept : {B : Type 0} → (B → Type 0) → Rule B
accept ok = Rule.end ok

abbrev pub Only : {W : Type 0} → (W → Type 0) → W → Type 0
Only {W} holds w = holds w × ((u : W) → holds u → u ≡ w)

abbrev pub Gives : {B : Type 0} → Rule B → ℕ → ℕ → Type 0
Gives (Rule.refuse m case rest) n v = ((m ≡ n) × case v) ⊎ (((w : ℕ) → case w → ⊥) × Gives rest n v)
Gives (Rule.find {W} holds rule) n v = (w : W) × (Only holds w × Gives (rule w) n v)
Gives (Rule.end ok) n v = ⊥

abbrev pub Passes : {B : Type 0} → Rule B → Type 0
Passes (Rule.refuse m case rest) = ((w : ℕ) → case w → ⊥) × Passes rest
Passes (Rule.find {W} holds rule) = (w : W) × (Only holds w × Passes (rule w))
Passes (Rule.end ok) = ◌≡◌ {A = ℕ} 0 0

abbrev pub Accepts : {B : Type 0} → Rule B → B → Type 0
Accepts (Rule.refuse m case rest) o = Accepts rest o
Accepts (Rule.find {W} holds rule) o = (w : W) × (Only holds w × Accepts (rule w) o)
Accepts (Rule.end ok) o = ok o

abbrev pub Refuses : {B : Type 0} → (Refusal → B) → ℕ → ℕ → B → Type 0
Refuses refused n v o = (r : Refusal) × ((o ≡ refused r) × ((number_of r ≡ n) × (value_of r ≡ v)))

pub record Judged {B : Type 0} (refused : Refusal → B) (rule : Rule B) (o : B) : Type 0 where
  pub refused_exactly : (n v : ℕ) → Refuses refused n v o ↔ Gives rule n v
  pub accepted_exactly : Accepts rule o ↔ Passes rule
  pub ends : ((n : ℕ) × ((v : ℕ) × Gives rule n v)) ⊎ Passes rule

pub record JudgedLent
    {A : Type 0} (refused : Refusal → A) (d : List ℕ) (rule : Rule (Outcome A)) (o : Outcome A) : Type 0 where
  pub judged : Judged (λ r. leaving (refused r) d) rule o
  pub harmless : (r : Refusal) → o.answer ≡ refused r → o.memory ≡ d
