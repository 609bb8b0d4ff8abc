-- Which block a refusal with 3 names after damage that a right block cannot have: the first with a byte that differs.
--     pattern_self, pattern-same    bytes differ in no bit exactly if they are the same
--     same_right                    a block that came as it was sent is right
--     named_walk                    so the first wrong one is the first that differs
--     always_named                  and reading names it
-- Assumes nothing.
use mathlib.Core.Bool.{true, false}
use mathlib.Core.List.{List, [], ◌∷◌, ◌++◌}
use mathlib.Core.Path.{◌≡◌, refl, sym, ap, ◌∙◌, subst}
use Prim.Native.Nat.{ℕ, ◌+◌, ◌*◌, ◌≤◌}
use native.Mathlib.Omega.{arith}
use borrow.Author.Tests.{eqb-true, eqb-false}
use lib.Dec.{eqb}
use lib.ListN.{length, take, drop, get_or, length-append, length-drop, take-append-drop, get_or-append}
use lib.Seq.{take_at, get_or-take, length-take-le}
use Rattle.std.specs.Prelude.{Ok, Some, None}
use Rattle.ground.specs.Apart.{apart}
use Rattle.ground.specs.Bytes.{Bytes}
use Rattle.ground.proofs.ApartLaws.{apart_self, apart-zero}
use Rattle.ground.proofs.ByteLaws.{bytes_take, bytes_drop}
use Rattle.ground.proofs.CaseLaws.{by_test}
use Rattle.blocks.specs.Spans.{sealed, block_ok, first_wrong, size_of}
use Rattle.blocks.proofs.SealLaws.{sealed-take, block_ok_sealed}
use Rattle.blocks.proofs.SpanLaws.{first_wrong-cons}
use Rattle.blocks.proofs.CutLaws.{widest}
use Rattle.frame.specs.declared.Format.{Format}
use Rattle.frame.specs.Formats.{spans_of, frame_size, size_for, sizes}
use Rattle.frame.specs.Frames.{FrameAt}
use Rattle.frame.specs.Judging.{by_checks}
use Rattle.frame.proofs.JudgeLaws.{judge_of_whole}
use Rattle.frame.proofs.AcceptLaws.{WholeFrame, judge_of_frame, size_for_frame, frame_some, judge_of-accepted, whole_room}
use Rattle.frame.proofs.ReadLaws.{reading_of_refused, read-accepted}
use Rattle.patterns.proofs.Patterns.{Zeros}
use Rattle.patterns.proofs.ZerosLaws.{zeros-append}
use Rattle.damage.specs.Damage.{Damaged, LengthStays, Behind, first_damaged}
use Rattle.damage.specs.Seen.{AlwaysNamed}
use Rattle.damage.proofs.BitsLaws.{pattern, pattern-nil, pattern_self, damaged-pattern}
use Rattle.damage.proofs.BlockLaws.{zeros_same}
use Rattle.damage.proofs.WalkLaws.{Telling, between, between-add, told_block}

-- a block that came as it was sent
same_right :
    (k : ℕ) (s t : List ℕ) → block_ok k s ≡ true → k + 2 ≤ length s → take (k + 2) s ≡ take (k + 2) t
    → block_ok k t ≡ true
same_right k s t ok fits same =
    let front : sealed (take k s) ≡ take (k + 2) t = sealed-take k s ok fits ∙ same in
    let whole : sealed (take k s) ++ drop (k + 2) t ≡ t =
    ap (λ (u : List ℕ). u ++ drop (k + 2) t) front ∙ take-append-drop (k + 2) t in
    sym (ap (block_ok k) whole) ∙ block_ok_sealed (take k s) (drop (k + 2) t) (length-take-le k s (omega arith))

-- the length byte says the same size of what came
first_kept :
    {f : Format} {s : List ℕ} {z : ℕ} {c : List ℕ} (new rest : List ℕ) → FrameAt f s z c → length new ≡ z
    → LengthStays (take z s) new → size_for f (get_or (new ++ rest) 0 0) ≡ Ok (sizes z (length c))
first_kept {f} {s} {z} new rest at size stays =
    ap (size_for f)
    (get_or-append new rest 0 0 (omega (arith, frame_some at)) ∙ stays ∙ get_or-take z s 0 0 (frame_some at))
    ∙ size_for_frame at

module _ {limit : ℕ} {Q : List ℕ → Type 0} (tells : Telling limit Q Zeros) where
  -- a block that differs is wrong
  other_wrong :
      (k : ℕ) (s t : List ℕ) → Bytes s → Bytes t → k + 2 ≤ length s → k + 2 ≤ length t → 8 * (k + 2) ≤ limit
      → block_ok k s ≡ true → Q (between (k + 2) s t) → (take (k + 2) s ≡ take (k + 2) t → ⊥) → block_ok k t ≡ false
  other_wrong k s t bs bt fs ft small ok q differs =
      by_test (block_ok k t)
      (λ e.
      absurd (differs (zeros_same (take (k + 2) s) (take (k + 2) t) (bytes_take (k + 2) s bs) (bytes_take (k + 2) t bt)
      (length-take-le (k + 2) t ft ∙ sym (length-take-le (k + 2) s fs))
      (told_block tells k s t bs bt fs ft small ok e q))))
      (λ e. e)

  -- one block and what is behind it, m bytes
  module _
      (k m : ℕ) (s t : List ℕ) (bs : Bytes s) (bt : Bytes t) (fs : k + 2 + m ≤ length s) (ft : k + 2 + m ≤ length t)
      (ok : block_ok k s ≡ true) where
    abbrev u : List ℕ
    u = take (k + 2) s

    abbrev v : List ℕ
    v = take (k + 2) t

    abbrev later : List ℕ
    later = between m (drop (k + 2) s) (drop (k + 2) t)

    cut : between (k + 2 + m) s t ≡ pattern u v ++ later
    cut = between-add (k + 2) m s t (omega arith) (omega arith)

    -- it came as it was sent: then it is right, and the damage is behind it
    module _ (same : eqb (apart u v) 0 ≡ true) where
      one_block : u ≡ v
      one_block =
          let count = length-take-le (k + 2) s (omega arith) ∙ sym (length-take-le (k + 2) t (omega arith)) in
          apart-zero u v count (omega (arith, eqb-true (apart u v) 0 same))

      here_right : block_ok k t ≡ true
      here_right = same_right k s t ok (omega arith) one_block

      later_some : (Zeros (between (k + 2 + m) s t) → ⊥) → Zeros later → ⊥
      later_some some zeros =
          some (subst Zeros (sym cut) (zeros-append (pattern u v) later (pattern_self u v one_block) zeros))

    later_has : Q (between (k + 2 + m) s t) → Q later
    later_has q = tells.back (pattern u v) later (subst Q cut q)

    here_wrong : 8 * (k + 2) ≤ limit → Q (between (k + 2 + m) s t) → eqb (apart u v) 0 ≡ false → block_ok k t ≡ false
    here_wrong small q other =
        other_wrong k s t bs bt (omega arith) (omega arith) small ok (tells.front (pattern u v) later (subst Q cut q))
        (λ same. eqb-false (apart u v) 0 other (ap (apart u) (sym same) ∙ apart_self u))

  named_walk :
      (b : ℕ) (ks s t : List ℕ) → Bytes s → Bytes t → size_of ks ≤ length s → size_of ks ≤ length t
      → 8 * (widest ks + 2) ≤ limit → first_wrong b ks s ≡ None → Q (between (size_of ks) s t)
      → (Zeros (between (size_of ks) s t) → ⊥) → first_wrong b ks t ≡ Some (first_damaged b ks s t)
  unfolding size_of widest first_wrong first_damaged
  named_walk b [] s t bs bt fs ft small rs q some = absurd (some (subst Zeros (sym pattern-nil) (λ p. refl)))
  named_walk b (k ∷ ks) s t bs bt fs ft small rs q some =
      let m = size_of ks in
      let ok = first_wrong-cons b k ks s rs in
      by_test (eqb (apart (take (k + 2) s) (take (k + 2) t)) 0)
      (λ e.
      rw (here_right k m s t bs bt fs ft ok.0 e, e)
      (named_walk (b + 1) ks (drop (k + 2) s) (drop (k + 2) t) (bytes_drop (k + 2) s bs) (bytes_drop (k + 2) t bt)
      (simp length-drop (omega arith)) (simp length-drop (omega arith)) (omega arith) ok.1
      (later_has k m s t bs bt fs ft ok.0 q) (later_some k m s t bs bt fs ft ok.0 e some)))
      (λ e. rw (here_wrong k m s t bs bt fs ft ok.0 (omega arith) q e, e))

module _
    (f : Format) {limit : ℕ} {Q : List ℕ → Type 0} (tells : Telling limit Q Zeros)
    (narrow : (n : ℕ) → 8 * (widest (spans_of f n) + 2) ≤ limit) (kind : List ℕ → List ℕ → Type 0)
    (has : (old new : List ℕ) → kind old new → Q (pattern old new))
    (damaged : (old new : List ℕ) → kind old new → Damaged old new) where
  -- the frame in s was judged; its length byte came as it was sent
  named_frame :
      (s t : List ℕ) (z n : ℕ) → WholeFrame f s z n → Bytes s → Bytes t → z ≤ length t → kind (take z s) (take z t)
      → first_wrong 1 (spans_of f n) t ≡ Some (first_damaged 1 (spans_of f n) s t)
  unfolding frame_size
  named_frame s t z n whole bs bt there damage =
      let size : z ≡ size_of (spans_of f n) = whole.size in
      named_walk tells 1 (spans_of f n) s t bs bt (whole_room whole) (rw size at there) (narrow n) whole.right
      (rw size at (has (take z s) (take z t) damage))
      (subst (λ (y : ℕ). Zeros (between y s t) → ⊥) size (damaged-pattern (damaged (take z s) (take z t) damage)))

  pub always_named : AlwaysNamed f (Behind kind)
  unfolding by_checks
  always_named s d z n bs accepted new rest bt (damage, stays) e =
      let handed = read-accepted f s d accepted in
      let at = handed.frame in
      let whole : WholeFrame f s z n =
      subst (WholeFrame f s z) handed.sized (judge_of-accepted f s (judge_of_frame at)) in
      let t = new ++ rest in
      let size : length new ≡ z = (damaged (take z s) new damage).count ∙ length-take-le z s whole.fits in
      let there : z ≤ length t = omega (arith, length-append new rest) in
      let harm = subst (kind (take z s)) (sym (take_at new rest z size)) damage in
      let sized = first_kept new rest at size stays ∙ ap (λ (m : ℕ). Ok (sizes z m)) handed.sized in
      reading_of_refused f t e
      (judge_of_whole f t (omega (arith, frame_some at)) sized there
      ∙ ap (by_checks z n) (named_frame s t z n whole bs bt there harm))
