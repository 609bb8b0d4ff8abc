-- The calls on correction bytes are judged as document 02, 11/14, says (specs/CorrectionLadders).
-- Assumes nothing.
use mathlib.Core.List.{List, [], ◌∷◌}
use mathlib.Core.Path.{refl}
use Prim.Native.Nat.{ℕ, ◌+◌, ◌*◌}
use native.Mathlib.Omega.{arith}
use borrow.Author.Tests.{eqb-true, eqb-false}
use lib.Dec.{eqb}
use lib.ListN.{length, take}
use Rattle.std.specs.Prelude.{Err}
use Rattle.answers.specs.declared.Refusal.{Refusal}
use Rattle.answers.specs.Outcome.{leaving}
use Rattle.ground.specs.Bytes.{Bytes}
use Rattle.ground.proofs.ByteLaws.{bytes_take}
use Rattle.ground.proofs.CaseLaws.{zero_not_one}
use Rattle.frame.specs.declared.Format.{Format}
use Rattle.frame.specs.Formats.{frame_size}
use Rattle.codewords.specs.CodeBlocks.{Corrects}
use Rattle.codewords.specs.CheckBytes.{checks_of}
use Rattle.codewords.specs.Corrections.{id_of, put_corrected, correcting_of, checking_of, announced_of}
use Rattle.codewords.proofs.UniqueLaws.{corrects_checks, corrects_only}
use Rattle.demands.specs.Rules.{Rule, given, Judged, JudgedLent}
use Rattle.demands.specs.CorrectionLadders.{write_rule, check_bytes_rule, announce_rule}
use Rattle.demands.proofs.RuleLaws.{Follows, judged, judged_err, taken_bare, passed_bare, follows-lt, follows_unless, never_refused, unchanged}
use Rattle.demands.proofs.FrameRuleLaws.{judge_follows}
use Rattle.demands.proofs.CorrectionCaseLaws.{id_is, is_id}

announce_follows : (s : List ℕ) → Follows Err (announce_rule s) (announced_of s)
unfolding announced_of
announce_follows [] = taken_bare Refusal.Short (omega arith) refl refl
announce_follows (l ∷ []) = taken_bare Refusal.Short (omega arith) refl refl
announce_follows (l ∷ h ∷ s) =
    let id = id_of (l + 256 * h) in
    passed_bare (λ e. omega (arith, e))
    (follows_unless (eqb id 1) Refusal.UnknownCode (λ t none. none (id_is _ (eqb-true id 1 t)))
    (λ t is. eqb-false id 1 t (is_id _ is)) refl refl (λ t. Follows.ended refl))

pub announce_judged : (s : List ℕ) → Judged Err (announce_rule s) (announced_of s)
announce_judged s = judged (λ p q e. cc) (λ r w. zero_not_one (cc)) (announce_follows s)

-- the check bytes of a word are the one thing that corrects it
checks_follow :
    {B : Type 0} {refused : Refusal → B} {rest : List ℕ → Rule B} {o : B} (w : List ℕ) → Bytes w
    → Follows refused (rest (checks_of w)) o → Follows refused (given (Corrects w) rest) o
checks_follow w bytes go = Follows.found (checks_of w) (corrects_checks w bytes) (λ c. corrects_only w c bytes) go

check_bytes_follow :
    (w : List ℕ) → Bytes w → (d : List ℕ)
    → Follows (unchanged d) (check_bytes_rule w d) (checking_of w d)
unfolding checking_of
check_bytes_follow w bytes d =
    follows-lt 223 (length w) Refusal.TooLong refl refl
    (λ few. follows-lt (length d) 32 Refusal.NoRoom refl refl (λ room. checks_follow w bytes (Follows.ended refl)))

pub check_bytes_judged :
    (w : List ℕ) → Bytes w → (d : List ℕ) → JudgedLent Err d (check_bytes_rule w d) (checking_of w d)
check_bytes_judged w bytes d =
    judged_err (λ x r a. never_refused x r a.1.1) (check_bytes_follow w bytes d)

write_follows :
    (f : Format) (s : List ℕ) → Bytes s → (d : List ℕ)
    → Follows (unchanged d) (write_rule f s d) (correcting_of f s d)
unfolding correcting_of put_corrected
write_follows f s bytes d =
    judge_follows (put_corrected s d) (λ r. refl) f s _
    (λ n e. let z = frame_size f n in
    follows-lt 223 z Refusal.TooLong refl refl
    (λ few. follows-lt (length d) (z + 34) Refusal.NoRoom refl refl
    (λ room. checks_follow (take z s) (bytes_take z s bytes) (Follows.ended refl))))

pub write_judged :
    (f : Format) (s : List ℕ) → Bytes s → (d : List ℕ)
    → JudgedLent Err d (write_rule f s d) (correcting_of f s d)
write_judged f s bytes d =
    judged_err (λ x r a. never_refused x r a.1.1.1.1) (write_follows f s bytes d)
