-- Judging and making proposals, by cases (specs/Proposals), and when one is taken (specs/TakenWith).
--     size_in_is           the size by the first byte
--     proposal_compared, compared_no_code, -far, -taken    judging a proposal
--     proposing_refused, -short, -no-room, -done           making one
--     size_in-accepted     what an accepted size says
--     taken_exactly       a proposal is taken with d exactly where `TakenWith` says so
--     corrects-word       a word of 11/14 in two parts, and as one block
-- Assumes nothing.
use mathlib.Core.Bool.{Bool, true, false, cond, ◌||◌}
use mathlib.Core.List.{List, [], ◌∷◌, ◌++◌}
use mathlib.Core.Logic.{◌↔◌}
use mathlib.Core.Path.{◌≡◌, refl, sym, ap, subst, ◌∙◌}
use Prim.Native.Nat.{ℕ, ◌+◌, ◌-◌, ◌≤◌, ◌<◌}
use native.Mathlib.Omega.{arith}
use borrow.Author.Tests.{lt-ltb, le-ltb, ltb-false}
use lib.Dec.{ltb}
use lib.ListN.{length, get_or, take, drop, length-drop}
use lib.Seq.{length-take-le, take-add}
use Rattle.std.specs.Prelude.{Result, Ok, Err}
use Rattle.answers.specs.Outcome.{leaving}
use Rattle.answers.specs.declared.Refusal.{Refusal}
use Rattle.ground.specs.Apart.{apart}
use Rattle.ground.specs.Bytes.{Bytes}
use Rattle.ground.proofs.ByteLaws.{bytes_take, bytes_drop}
use Rattle.frame.specs.declared.Format.{Format}
use Rattle.frame.specs.declared.Frame.{Frame}
use Rattle.frame.specs.Formats.{sizes, size_for}
use Rattle.codewords.specs.CodeBlocks.{CodeBlock, Corrects}
use Rattle.codewords.proofs.FillLaws.{fill_code}
use Rattle.proposals.specs.Received.{not_too_long, size_in, received}
use Rattle.proposals.specs.Near.{is_code_block, nearest_of}
use Rattle.proposals.specs.Proposals.{compared, proposal_by, proposal_of, proposing_by, proposing_of}
use Rattle.proposals.specs.TakenWith.{TakenWith}
use Rattle.proposals.proofs.CodeLaws.{is_code_block_code, code-is_code_block}

-- ---- the size by the first byte

module _ (f : Format) (s : List ℕ) (some : 1 ≤ length s) where
  size_in_by : size_in f s ≡ not_too_long (size_for f (get_or s 0 0))
  unfolding size_in
  size_in_by = by s some
    where
      by : (v : List ℕ) → 1 ≤ length v → size_in f v ≡ not_too_long (size_for f (get_or v 0 0))
      by [] h = absurd (omega arith)
      by (l ∷ v) h = refl

  module _ {z n : ℕ} (sized : size_for f (get_or s 0 0) ≡ Ok (sizes z n)) where
    pub size_in_is : z ≤ 223 → size_in f s ≡ Ok (sizes z n)
    unfolding not_too_long
    size_in_is h = size_in_by ∙ ap not_too_long sized ∙ rw (le-ltb 223 z h)

pub record Sized (f : Format) (s : List ℕ) (z n : ℕ) : Type 0 where
  pub size : size_for f (get_or s 0 0) ≡ Ok (sizes z n)
  pub most : z ≤ 223

not_long : (j : Result Frame Refusal) {z n : ℕ} → not_too_long j ≡ Ok (sizes z n) → (j ≡ Ok (sizes z n)) × (z ≤ 223)
unfolding not_too_long
not_long (Err r) e = cc
not_long (Ok a) {z} {n} e = by (ltb 223 a.size) refl e
  where
    by :
        (t : Bool) → ltb 223 a.size ≡ t
        → ◌≡◌ {A = Result Frame Refusal} (cond t (Err Refusal.TooLong) (Ok a)) (Ok (sizes z n))
        → ◌≡◌ {A = Result Frame Refusal} (Ok a) (Ok (sizes z n)) × (z ≤ 223)
    by true t g = cc
    by false t g =
        let same : a ≡ sizes z n = cc in
        (g, omega (arith, ltb-false 223 a.size t, ap (λ (x : Frame). x.size) same))

pub size_in-accepted : (f : Format) (s : List ℕ) {z n : ℕ} → size_in f s ≡ Ok (sizes z n) → Sized f s z n
unfolding size_in
size_in-accepted f [] e = cc
size_in-accepted f (l ∷ s) e = let p = not_long (size_for f l) e in record { size = p.0; most = p.1 }

-- ---- judging a proposal

module _ (f : Format) (p s : List ℕ) where
  module _ {z n : ℕ} (sized : size_in f p ≡ Ok (sizes z n)) where
    module _ (whole : z + 32 ≤ length p) where
      pub proposal_compared :
          z + 34 ≤ length s → proposal_of f p s ≡ compared (received z s) (take (z + 32) p)
      unfolding proposal_of proposal_by
      proposal_compared h = rw (sized, le-ltb (length p) (z + 32) whole, le-ltb (length s) (z + 34) h)

module _ (w c : List ℕ) where
  pub compared_no_code : is_code_block c ≡ false → compared w c ≡ Err Refusal.NotCode
  unfolding compared
  compared_no_code e = rw e

  pub compared_far : is_code_block c ≡ true → 16 < apart w c → compared w c ≡ Err Refusal.TooFar
  unfolding compared
  compared_far e h = rw (e, lt-ltb 16 (apart w c) h)

  pub compared_taken : is_code_block c ≡ true → apart w c ≤ 16 → compared w c ≡ Ok (apart w c)
  unfolding compared
  compared_taken e h = rw (e, le-ltb 16 (apart w c) h)

-- ---- making a proposal

module _ (k : ℕ) (f : Format) (s d : List ℕ) where
  pub proposing_refused :
      {r : Refusal} → size_in f s ≡ Err r → proposing_of k f s d ≡ leaving (Err r) d
  unfolding proposing_of proposing_by
  proposing_refused e = rw e

  module _ {z n : ℕ} (sized : size_in f s ≡ Ok (sizes z n)) where
    pub proposing_short :
        length s < z + 34 → proposing_of k f s d ≡ leaving (Err Refusal.Short) d
    unfolding proposing_of proposing_by
    proposing_short h = rw (sized, lt-ltb (length s) (z + 34) h)

    module _ (there : z + 34 ≤ length s) where
      pub proposing_no_room :
          length d < z + 32 → proposing_of k f s d ≡ leaving (Err Refusal.NoRoom) d
      unfolding proposing_of proposing_by
      proposing_no_room h = rw (sized, le-ltb (length s) (z + 34) there, lt-ltb (length d) (z + 32) h)

      pub proposing_done :
          z + 32 ≤ length d
          → proposing_of k f s d
          ≡ leaving (Ok (z + 32)) (nearest_of k (received z s) ++ drop (z + 32) d)
      unfolding proposing_of proposing_by
      proposing_done h = rw (sized, le-ltb (length s) (z + 34) there, le-ltb (length d) (z + 32) h)

-- ---- when a proposal is taken

-- two tests that were both false: neither side is too short
neither : (a b : Bool) → a || b ≡ false → (a ≡ false) × (b ≡ false)
neither true b e = (e, cc)
neither false b e = (refl, e)

module _ (z : ℕ) (p : List ℕ) (bytes : Bytes p) (whole : z + 32 ≤ length p) where
  abbrev checks : List ℕ
  checks = take 32 (drop z p)

  pub whole_word : take (z + 32) p ≡ take z p ++ checks
  whole_word = take-add z 32 p

  pub length_checks : length checks ≡ 32
  length_checks = length-take-le 32 (drop z p) (omega (arith, length-drop z p))

  bytes_checks : Bytes checks
  bytes_checks = bytes_take 32 (drop z p) (bytes_drop z p bytes)

  pub corrects_code : Corrects (take z p) checks → CodeBlock (take (z + 32) p)
  corrects_code c =
      subst CodeBlock (sym whole_word)
      ((fill_code (223 - length (take z p)) (take z p ++ checks)).0 c.code_word)

  pub code_corrects : CodeBlock (take (z + 32) p) → Corrects (take z p) checks
  code_corrects c =
      record {
        count = length_checks;
        bytes = bytes_checks;
        code_word = (fill_code (223 - length (take z p)) (take z p ++ checks)).1 (subst CodeBlock whole_word c);
      }

-- what a comparison that ends in d says
record Compared (w c : List ℕ) (d : ℕ) : Type 0 where
  code : is_code_block c ≡ true
  differing : apart w c ≡ d
  few : d ≤ 16

compared_is : (w c : List ℕ) (d : ℕ) → compared w c ≡ Ok d → Compared w c d
unfolding compared
compared_is w c d = by (is_code_block c) refl (ltb 16 (apart w c)) refl
  where
    by :
        (t : Bool) → is_code_block c ≡ t → (u : Bool) → ltb 16 (apart w c) ≡ u
        → cond t (cond u (Err Refusal.TooFar) (Ok (apart w c)))
        (Err Refusal.NotCode)
        ≡ Ok d
        → Compared w c d
    by false t u far e = cc
    by true t true far e = cc
    by true t false far e =
        let same : apart w c ≡ d = cc in
        record { code = t; differing = same; few = omega (arith, ltb-false 16 (apart w c) far) }

module _ (f : Format) (p s : List ℕ) (d : ℕ) (bytes : Bytes p) where
  taken_with : {z n : ℕ} → Sized f p z n → z + 32 ≤ length p → z + 34 ≤ length s
      → Compared (received z s) (take (z + 32) p) d → TakenWith f p s z d
  taken_with {z} {n} sized whole there e =
      record {
        n = n;
        size = sized.size;
        most = sized.most;
        proposed = whole;
        there = there;
        code_word = code_corrects z p bytes whole (is_code_block_code (take (z + 32) p) e.code);
        differing = e.differing;
        few = e.few;
      }

  taken_by : (j : Result Frame Refusal) → size_in f p ≡ j → proposal_by p s j ≡ Ok d → (z : ℕ) × TakenWith f p s z d
  unfolding proposal_by
  taken_by (Err r) e g = cc
  taken_by (Ok a) e g = by (ltb (length p) (a.size + 32) || ltb (length s) (a.size + 34)) refl g
    where
      by :
          (t : Bool) → ltb (length p) (a.size + 32) || ltb (length s) (a.size + 34) ≡ t
          → cond t (Err Refusal.Short) (compared (received a.size s) (take (a.size + 32) p)) ≡ Ok d
          → (z : ℕ) × TakenWith f p s z d
      by true t h = cc
      by false t h =
          let both = neither (ltb (length p) (a.size + 32)) (ltb (length s) (a.size + 34)) t in (
            a.size,
            taken_with (size_in-accepted f p e) (ltb-false _ _ both.0) (ltb-false _ _ both.1)
                (compared_is (received a.size s) (take (a.size + 32) p) d h),
          )

  with_taken : (z : ℕ) → TakenWith f p s z d → proposal_of f p s ≡ Ok d
  with_taken z t =
      proposal_compared f p s (size_in_is f p (omega (arith, t.proposed)) t.size t.most) t.proposed t.there
      ∙ compared_taken (received z s) (take (z + 32) p)
      (code-is_code_block _ (corrects_code z p bytes t.proposed t.code_word)) (omega (arith, t.differing, t.few))
      ∙ ap Ok t.differing

  pub taken_exactly : (proposal_of f p s ≡ Ok d) ↔ ((z : ℕ) × TakenWith f p s z d)
  unfolding proposal_of
  taken_exactly = (taken_by (size_in f p) refl, λ (z, t). with_taken z t)
