-- The judgement case by case, in the order in which the code makes its tests.
--     sizes_settled        two accepted answers that are one have the same sizes
--     Sized f l z n        what the length byte l says of a frame of z bytes with n of content, if it is not refused
--     size_for_accepted     so it does
--     judge_of-nil, -refused, -short, -whole    no byte; L refused; bytes are missing; the checks decide
--     cond_refused_then, cond_refused_else     a choice that accepts has not taken its refusal
use mathlib.Core.Bool.{Bool, true, false, cond}
use mathlib.Core.List.{List, [], ◌∷◌}
use mathlib.Core.Path.{◌≡◌, refl, ap, ◌∙◌}
use Prim.Native.Nat.{ℕ, ◌≤◌, ◌<◌}
use native.Mathlib.Nat.{suc-ne-zero, not-suc-le-zero}
use borrow.Author.Tests.{lt-ltb, le-ltb}
use lib.ListN.{length, get_or}
use Rattle.std.specs.Prelude.{Result, Ok, Err}
use Rattle.answers.specs.declared.Refusal.{Refusal}
use Rattle.blocks.specs.Spans.{first_wrong}
use Rattle.frame.specs.declared.Format.{Format}
use Rattle.frame.specs.declared.Frame.{Frame}
use Rattle.frame.specs.Formats.{form_of, spans_of, frame_size, size_for, sizes}
use Rattle.frame.specs.Judging.{by_checks, by_length, judge_of}
use Rattle.frame.proofs.FormatLaws.{true_within, length_byte-content_length, within-content_length}

pub sizes_settled :
    {x y m n : ℕ} → ◌≡◌ {A = Result Frame Refusal} (Ok (sizes x m)) (Ok (sizes y n)) → (x ≡ y) × (m ≡ n)
sizes_settled {x} {y} {m} {n} h =
    let e : sizes x m ≡ sizes y n = cc in
    (ap (λ (a : Frame). a.size) e, ap (λ (a : Frame). a.n) e)

module _ {z n : ℕ} where
  pub cond_refused_then :
      (t : Bool) (r : Refusal) (j : Result Frame Refusal) → cond t (Err r) j ≡ Ok (sizes z n)
      → (t ≡ false) × (j ≡ Ok (sizes z n))
  cond_refused_then true r j h = (cc, cc)
  cond_refused_then false r j h = (refl, h)

  pub cond_refused_else :
      (t : Bool) (j : Result Frame Refusal) (r : Refusal) → cond t j (Err r) ≡ Ok (sizes z n)
      → (t ≡ true) × (j ≡ Ok (sizes z n))
  cond_refused_else true j r h = (refl, h)
  cond_refused_else false j r h = (cc, cc)

pub record Sized (f : Format) (l z n : ℕ) : Type 0 where
  pub byte : (form_of f).length_byte n ≡ l
  pub size : z ≡ frame_size f n
  pub low : (form_of f).shortest ≤ n
  pub high : n ≤ (form_of f).longest

allowed_sized :
    (f : Format) (l : ℕ) → (form_of f).allowed l ≡ true
    → Sized f l (frame_size f ((form_of f).content_length l)) ((form_of f).content_length l)
allowed_sized f l h =
    let bounds = true_within _ _ _ (within-content_length f l h) in
    record { byte = length_byte-content_length f l h; size = refl; low = bounds.0; high = bounds.1 }

pub size_for_accepted : (f : Format) (l : ℕ) {z n : ℕ} → size_for f l ≡ Ok (sizes z n) → Sized f l z n
size_for_accepted f l {z} {n} h =
    let p = cond_refused_else ((form_of f).allowed l) _ _ h in
    let same = sizes_settled p.1 in
    rw (same.0, same.1) at (allowed_sized f l p.0)

pub judge_of-nil : (f : Format) (s : List ℕ) → length s ≡ 0 → judge_of f s ≡ Err Refusal.Short
unfolding judge_of
judge_of-nil f [] h = refl
judge_of-nil f (l ∷ s) h = absurd (suc-ne-zero (length s) h)

judge_of-cons : (f : Format) (s : List ℕ) → 0 < length s → judge_of f s ≡ by_length f s (size_for f (get_or s 0 0))
unfolding judge_of
judge_of-cons f [] h = absurd (not-suc-le-zero h)
judge_of-cons f (l ∷ s) h = refl

module _ (f : Format) (s : List ℕ) (some : 0 < length s) where
  pub judge_of_refused : {r : Refusal} → size_for f (get_or s 0 0) ≡ Err r → judge_of f s ≡ Err r
  unfolding by_length
  judge_of_refused e = judge_of-cons f s some ∙ ap (by_length f s) e

  module _ {z n : ℕ} (e : size_for f (get_or s 0 0) ≡ Ok (sizes z n)) where
    pub judge_of_short : length s < z → judge_of f s ≡ Err Refusal.Short
    unfolding by_length
    judge_of_short h = judge_of-cons f s some ∙ ap (by_length f s) e ∙ rw (lt-ltb (length s) z h)

    pub judge_of_whole : z ≤ length s → judge_of f s ≡ by_checks z n (first_wrong 1 (spans_of f n) s)
    unfolding by_length
    judge_of_whole h = judge_of-cons f s some ∙ ap (by_length f s) e ∙ rw (le-ltb (length s) z h)
