-- The calls on proposals are judged as document 02, 12/14, says (specs/MendingLadders).
-- Assumes nothing.
use mathlib.Core.Bool.{Bool, true, false, cond, ◌||◌, false≢true}
use mathlib.Core.List.{List, [], ◌∷◌}
use mathlib.Core.Logic.{◌⊎◌, inl, inr}
use mathlib.Core.Path.{◌≡◌, refl, sym, subst}
use Prim.Native.Nat.{ℕ, ◌+◌, ◌≤◌, ◌<◌}
use native.Mathlib.Omega.{arith}
use borrow.Author.Tests.{ltb-true, ltb-false}
use lib.Dec.{ltb}
use lib.ListN.{length, take}
use Rattle.std.specs.Prelude.{Result, Ok, Err}
use Rattle.answers.specs.declared.Refusal.{Refusal}
use Rattle.answers.specs.Outcome.{leaving}
use Rattle.ground.specs.Apart.{apart}
use Rattle.ground.specs.Bytes.{Bytes}
use Rattle.ground.proofs.CaseLaws.{by_test, zero_not_one}
use Rattle.frame.specs.declared.Format.{Format}
use Rattle.frame.specs.declared.Frame.{Frame}
use Rattle.frame.specs.Formats.{frame_size, sizes}
use Rattle.proposals.specs.Received.{not_too_long, size_in, received}
use Rattle.proposals.specs.Near.{is_code_block, Nearest, nearest_of}
use Rattle.proposals.specs.Proposals.{compared, proposal_by, proposal_of, proposing_by, proposing_of}
use Rattle.proposals.proofs.CodeLaws.{is_code_block_code, not_code_block_not}
use Rattle.proposals.proofs.NearestLaws.{nearest_is, nearest_only}
use Rattle.proposals.proofs.ReceivedLaws.{length-received, bytes-received}
use Rattle.proposals.proofs.ProposalLaws.{corrects_code, code_corrects}
use Rattle.demands.specs.Rules.{Rule, ◌when◌else◌, given, Judged, JudgedLent}
use Rattle.demands.specs.MendingLadders.{size_steps, compare_steps, judge_rule, propose_steps, propose_rule}
use Rattle.demands.proofs.RuleLaws.{Follows, Tells, judged, judged_err, taken_bare, passed_bare, follows_when, follows-lt, follows_unless, never_refused, unchanged}
use Rattle.demands.proofs.FrameRuleLaws.{size_follows}

-- ---- the size: 1, 2, 23, then the rest

module _ {B : Type 0} {refused : Refusal → B} (told : Result Frame Refusal → B)
    (passes : (r : Refusal) → told (Err r) ≡ refused r) where
  long_follows :
      (z n : ℕ) (rest : Rule B) → (z ≤ 223 → Follows refused rest (told (Ok (sizes z n))))
      → Follows refused (23 when 223 < z else rest) (told (not_too_long (Ok (sizes z n))))
  unfolding not_too_long
  long_follows z n rest go = by (ltb 223 z) refl
    where
      by :
          (t : Bool) → ltb 223 z ≡ t
          → Follows refused (23 when 223 < z else rest)
          (told (cond t (Err Refusal.TooLong) (Ok (sizes z n))))
      by true t =
          subst (Follows refused (23 when 223 < z else rest)) (sym (passes Refusal.TooLong))
          (taken_bare Refusal.TooLong (ltb-true 223 z t) refl refl)
      by false t = passed_bare (λ h. omega (arith, ltb-false 223 z t)) (go (ltb-false 223 z t))

  passes_on : (r : Refusal) → told (not_too_long (Err r)) ≡ refused r
  unfolding not_too_long
  passes_on r = passes r

  sized_follows :
      (f : Format) (s : List ℕ) (rest : ℕ → Rule B)
      → ((z n : ℕ) → z ≤ 223 → Follows refused (rest z) (told (Ok (sizes z n))))
      → Follows refused (size_steps f s rest) (told (size_in f s))
  unfolding size_in
  sized_follows f [] rest go =
      subst (Follows refused (size_steps f [] rest)) (sym (passes Refusal.Short))
      (taken_bare Refusal.Short refl refl refl)
  sized_follows f (l ∷ s) rest go =
      passed_bare (λ e. omega arith)
      (size_follows (λ j. told (not_too_long j)) passes_on f l _
      (λ n a. long_follows (frame_size f n) n (rest (frame_size f n)) (go (frame_size f n) n)))

-- ---- judging a proposal

either_lt : (a b c d : ℕ) → b ≤ a → d ≤ c → (a < b) ⊎ (c < d) → ⊥
either_lt a b c d h k (inl l) = omega arith
either_lt a b c d h k (inr l) = omega arith

tells_or : (a b c d : ℕ) → Tells (ltb a b || ltb c d) ((a < b) ⊎ (c < d))
tells_or a b c d = by (ltb a b) refl (ltb c d) refl
  where
    by : (t : Bool) → ltb a b ≡ t → (u : Bool) → ltb c d ≡ u → Tells (t || u) ((a < b) ⊎ (c < d))
    by true t u v = record { yes = λ e. inl (ltb-true a b t); not = λ e h. false≢true (sym e) }
    by false t true v = record { yes = λ e. inr (ltb-true c d v); not = λ e h. false≢true (sym e) }
    by false t false v =
        record { yes = λ e. absurd (false≢true e); not = λ e. either_lt a b c d (ltb-false a b t) (ltb-false c d v) }

-- neither side is too short
long_enough : (a b c d : ℕ) → ltb a b || ltb c d ≡ false → (b ≤ a) × (d ≤ c)
long_enough a b c d e =
    by_test (ltb a b) (λ t. absurd ((tells_or a b c d).not e (inl (ltb-true a b t))))
    (λ t. by_test (ltb c d) (λ u. absurd ((tells_or a b c d).not e (inr (ltb-true c d u))))
    (λ u. (ltb-false a b t, ltb-false c d u)))

compared_follows :
    (z : ℕ) (p s : List ℕ) → Bytes p → z + 32 ≤ length p
    → Follows Err (compare_steps z p s) (compared (received z s) (take (z + 32) p))
unfolding compared
compared_follows z p s bytes whole =
    let c = take (z + 32) p in
    follows_unless (is_code_block c) Refusal.NotCode
    (λ t none. none (code_corrects z p bytes whole (is_code_block_code c t)))
    (λ t is. not_code_block_not c t (corrects_code z p bytes whole is)) refl refl
    (λ t. follows-lt 16 (apart (received z s) c) Refusal.TooFar refl refl (λ few. Follows.ended refl))

judge_follows :
    (f : Format) (p : List ℕ) → Bytes p → (s : List ℕ)
    → Follows Err (judge_rule f p s) (proposal_of f p s)
unfolding proposal_of proposal_by
judge_follows f p bytes s =
    sized_follows (proposal_by p s) (λ r. refl) f p _
    (λ z n most.
    follows_when (ltb (length p) (z + 32) || ltb (length s) (z + 34)) Refusal.Short
    (tells_or (length p) (z + 32) (length s) (z + 34)) refl refl
    (λ e. compared_follows z p s bytes (long_enough (length p) (z + 32) (length s) (z + 34) e).0))

pub judge_judged :
    (f : Format) (p : List ℕ) → Bytes p → (s : List ℕ)
    → Judged Err (judge_rule f p s) (proposal_of f p s)
judge_judged f p bytes s =
    judged (λ p q e. cc) (λ r w. zero_not_one (let e = w.1.1 in cc)) (judge_follows f p bytes s)

-- ---- making a proposal

refused_by :
    (k : ℕ) (s d : List ℕ) (r : Refusal) → proposing_by k s d (Err r) ≡ unchanged d r
unfolding proposing_by
refused_by k s d r = refl

nearest_follow :
    {B : Type 0} {refused : Refusal → B} {rest : List ℕ → Rule B} {o : B} (k : ℕ) (w : List ℕ)
    → k ≤ 16 → length w ≤ 255 → Bytes w → Follows refused (rest (nearest_of k w)) o
    → Follows refused (given (Nearest k w) rest) o
nearest_follow k w few most bytes go =
    let is = nearest_is k w bytes in
    Follows.found (nearest_of k w) is (λ m also. nearest_only k w few most m (nearest_of k w) also is) go

put_follows : (k z n : ℕ) → k ≤ 16 → z ≤ 223 → (s : List ℕ) → Bytes s → (d : List ℕ)
    → Follows (unchanged d) (propose_steps k z s d) (proposing_by k s d (Ok (sizes z n)))
unfolding proposing_by
put_follows k z n few most s bytes d =
    follows-lt (length s) (z + 34) Refusal.Short refl refl
    (λ there. follows-lt (length d) (z + 32) Refusal.NoRoom refl refl
    (λ room. nearest_follow k (received z s) few (omega (arith, length-received s z there)) (bytes-received z s bytes)
    (Follows.ended refl)))

propose_follows :
    (k : ℕ) → k ≤ 16 → (f : Format) (s : List ℕ) → Bytes s → (d : List ℕ)
    → Follows (unchanged d) (propose_rule k f s d) (proposing_of k f s d)
unfolding proposing_of
propose_follows k few f s bytes d =
    sized_follows (proposing_by k s d) (refused_by k s d) f s (λ z. propose_steps k z s d)
    (λ z n most. put_follows k z n few most s bytes d)

pub propose_judged :
    (k : ℕ) → k ≤ 16 → (f : Format) (s : List ℕ) → Bytes s → (d : List ℕ)
    → JudgedLent Err d (propose_rule k f s d) (proposing_of k f s d)
propose_judged k few f s bytes d =
    judged_err (λ x r a. never_refused x r a.1.1.1.1)
    (propose_follows k few f s bytes d)
