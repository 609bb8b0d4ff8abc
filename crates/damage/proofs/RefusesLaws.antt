-- Where no content has its frame at the start of a buffer, reading refuses it (specs/Seen).
--     judge_low     a buffer that is not accepted is refused with 1, 2 or 3
--     refuses       so it is refused as `Refuses` says
-- Assumes nothing.
use mathlib.Core.Bool.{Bool, true, false, cond}
use mathlib.Core.List.{List, [], ◌∷◌}
use mathlib.Core.Path.{◌≡◌, refl, ap, ◌∙◌}
use Prim.Native.Nat.{ℕ, ◌≤◌, ◌<◌}
use native.Mathlib.Omega.{arith}
use lib.Dec.{ltb}
use lib.ListN.{length, get_or}
use Rattle.std.specs.Prelude.{Result, Ok, Err, Option, Some, None}
use Rattle.answers.specs.declared.Refusal.{Refusal}
use Rattle.answers.specs.Outcome.{leaving}
use Rattle.answers.specs.Refusals.{number_of}
use Rattle.blocks.specs.Spans.{first_wrong}
use Rattle.frame.specs.declared.Format.{Format}
use Rattle.frame.specs.declared.Frame.{Frame}
use Rattle.frame.specs.Formats.{form_of, spans_of, frame_size, size_for, sizes}
use Rattle.frame.specs.Frames.{FrameAt}
use Rattle.frame.specs.Judging.{by_checks, by_length, judge_of}
use Rattle.frame.specs.Reads.{reading_of}
use Rattle.frame.proofs.JudgeLaws.{judge_of_whole}
use Rattle.frame.proofs.AcceptLaws.{judge_of-accepted, whole_frame}
use Rattle.frame.proofs.ReadLaws.{reading_of_refused}
use Rattle.damage.specs.Seen.{Refuses}

-- a refusal is 1, 2 or 3
abbrev Low : Result Frame Refusal → Type 0
Low (Ok a) = ◌≡◌ {A = ℕ} 0 0
Low (Err r) = (1 ≤ number_of r) × (number_of r ≤ 3)

low-cond : (t : Bool) (a b : Result Frame Refusal) → Low a → Low b → Low (cond t a b)
low-cond true a b p q = p
low-cond false a b p q = q

by_checks_low : (z n : ℕ) (w : Option ℕ) → Low (by_checks z n w)
unfolding by_checks
by_checks_low z n None = refl
by_checks_low z n (Some b) = (omega arith, omega arith)

by_length_low : (f : Format) (s : List ℕ) (q : Result Frame Refusal) → Low q → Low (by_length f s q)
unfolding by_length
by_length_low f s (Ok a) low =
    low-cond (ltb (length s) a.size) (Err Refusal.Short) (by_checks a.size a.n (first_wrong 1 (spans_of f a.n) s))
    (omega arith, omega arith) (by_checks_low a.size a.n (first_wrong 1 (spans_of f a.n) s))
by_length_low f s (Err r) low = low

judge_low : (f : Format) (s : List ℕ) → Low (judge_of f s)
unfolding judge_of
judge_low f [] = (omega arith, omega arith)
judge_low f (l ∷ s) =
    let n = (form_of f).content_length l in
    by_length_low f (l ∷ s) (size_for f l)
    (low-cond ((form_of f).allowed l) (Ok (sizes (frame_size f n) n)) (Err Refusal.BadLength) refl
    (omega arith, omega arith))

module _ (f : Format) (t : List ℕ) (nowhere : (y : ℕ) (e : List ℕ) → FrameAt f t y e → ⊥) where
  not-accepted : (y m : ℕ) → judge_of f t ≡ Ok (sizes y m) → ⊥
  not-accepted y m e = nowhere y _ (whole_frame (judge_of-accepted f t e))

  refused :
      (j : Result Frame Refusal) → judge_of f t ≡ j → Low j
      → (r : Refusal) × (((1 ≤ number_of r) × (number_of r ≤ 3))
      × ((d : List ℕ) → reading_of f t d ≡ leaving (Err r) d))
  refused (Ok a) e low = absurd (not-accepted a.size a.n e)
  refused (Err r) e low = (r, (low, λ d. reading_of_refused f t d e))

  wrong :
      (z n : ℕ) (w : Option ℕ) → judge_of f t ≡ by_checks z n w
      → (b : ℕ) × ((d : List ℕ) → reading_of f t d ≡ leaving (Err (Refusal.WrongCheck b)) d)
  unfolding by_checks
  wrong z n None e = absurd (not-accepted z n e)
  wrong z n (Some b) e = (b, λ d. reading_of_refused f t d e)

  -- `old` is a frame of z bytes, and so many came
  pub refuses :
      (old : List ℕ) {z n : ℕ} → size_for f (get_or old 0 0) ≡ Ok (sizes z n) → 0 < z → z ≤ length t
      → Refuses f old t
  refuses old {z} {n} sized some there =
      record {
        number = refused (judge_of f t) refl (judge_low f t);
        no_frame = nowhere;
        three =
            λ stays.
            wrong z n (first_wrong 1 (spans_of f n) t)
            (judge_of_whole f t (omega arith) (ap (size_for f) stays ∙ sized) there);
      }
