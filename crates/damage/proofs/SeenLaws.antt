-- From patterns to frames: damage whose pattern a right frame cannot have is always seen (specs/Seen).
--     Kept f kind       two frames of format f between whose bytes there is damage of this kind have one length byte
--     Never f kind      two frames of one length byte have no damage of this kind between them
--     always_never      then it is always seen, where the length byte is kept
--     always_seen       and the walk over the blocks shows it
--     narrow            how long a block can be
--     kept-length       the length byte is kept where the kind of damage says so
--     kept_a            in format A it is kept by block 1 itself, which has twelve bytes for every length
-- Assumes nothing.
use mathlib.Core.Bool.{true}
use mathlib.Core.List.{List, ◌∷◌, ◌++◌}
use mathlib.Core.Path.{◌≡◌, sym, ap, ◌∙◌, subst}
use Prim.Native.Nat.{ℕ, ◌+◌, ◌-◌, ◌*◌, ◌≤◌, min}
use native.Mathlib.Omega.{arith}
use lib.ListN.{length, take, drop, get_or, length-append}
use lib.Seq.{take_at, get_or-take, length-take-le}
use Rattle.std.specs.Prelude.{None}
use Rattle.ground.specs.Bytes.{Bytes}
use Rattle.ground.proofs.ByteLaws.{bytes_take}
use Rattle.blocks.specs.Spans.{block_ok, first_wrong, size_of, spans}
use Rattle.blocks.proofs.SpanLaws.{first_wrong-cons}
use Rattle.blocks.proofs.CutLaws.{widest, widest_spans, spans_turn}
use Rattle.frame.specs.declared.Format.{Format}
use Rattle.frame.specs.Formats.{spans_of, frame_size, size_for}
use Rattle.frame.specs.Frames.{FrameAt}
use Rattle.frame.proofs.JudgeLaws.{sizes_settled}
use Rattle.frame.proofs.AcceptLaws.{WholeFrame, judge_of_frame, size_for_frame, frame_some, judge_of-accepted, whole_room}
use Rattle.frame.proofs.ReadLaws.{read-accepted}
use Rattle.damage.specs.Damage.{LengthStays}
use Rattle.damage.specs.Seen.{AlwaysSeen}
use Rattle.patterns.proofs.Patterns.{Zeros}
use Rattle.damage.proofs.BitsLaws.{pattern}
use Rattle.damage.proofs.BlockLaws.{zeros_first}
use Rattle.damage.proofs.WalkLaws.{Telling, between, between-add, told_block, walk}
use Rattle.damage.proofs.RefusesLaws.{refuses}

whole : {f : Format} {s : List ℕ} {z : ℕ} {c : List ℕ} → FrameAt f s z c → WholeFrame f s z (length c)
whole {f} {s} at = judge_of-accepted f s (judge_of_frame at)

-- ---- two frames with one length byte

module _
    {f : Format} {s t : List ℕ} {z y : ℕ} {c e : List ℕ} (at : FrameAt f s z c) (there : FrameAt f t y e) (bs : Bytes s)
    (bt : Bytes t) where
  pub same_size : LengthStays s t → (y ≡ z) × (length e ≡ length c)
  same_size stays =
      sizes_settled (sym (size_for_frame there) ∙ ap (size_for f) stays ∙ size_for_frame at)

  pub same_spans :
      {limit : ℕ} {Q P : List ℕ → Type 0} → Telling limit Q P → 8 * (widest (spans_of f (length c)) + 2) ≤ limit
      → LengthStays s t → Q (between z s t) → P (between z s t)
  unfolding frame_size
  same_spans {P = P} tells narrow stays q =
      let size : z ≡ size_of (spans_of f (length c)) = (whole at).size in
      let same = same_size stays in
      let right = subst (λ (n : ℕ). first_wrong 1 (spans_of f n) t ≡ None) same.1 (whole there).right in
      let fits = subst (λ (n : ℕ). size_of (spans_of f n) ≤ length t) same.1 (whole_room (whole there)) in
      let told = walk tells 1 (spans_of f (length c)) s t bs bt (whole_room (whole at)) fits narrow (whole at).right
      right (rw size at q) in
      rw (← size) at told

-- ---- the promise

abbrev pub Kept : Format → (List ℕ → List ℕ → Type 0) → Type 0
Kept f kind =
    (s t : List ℕ) (z y : ℕ) (c e : List ℕ) → FrameAt f s z c → FrameAt f t y e → Bytes s → Bytes t
    → z ≤ length t → kind (take z s) (take z t) → LengthStays s t

-- two frames of one length byte have no such damage between them
abbrev pub Never : Format → (List ℕ → List ℕ → Type 0) → Type 0
Never f kind =
    (s t : List ℕ) (z y : ℕ) (c e : List ℕ) → FrameAt f s z c → FrameAt f t y e → Bytes s → Bytes t
    → LengthStays s t → kind (take z s) (take z t) → ⊥

module _
    (f : Format) (kind : List ℕ → List ℕ → Type 0)
    (count : (old new : List ℕ) → kind old new → length new ≡ length old) (kept : Kept f kind) (never : Never f kind)
  where
    pub always_never : AlwaysSeen f kind
    always_never s d z n bs accepted new rest bt damage =
        let at = (read-accepted f s d accepted).frame in
        let t = new ++ rest in
        let size : length new ≡ z = count (take z s) new damage ∙ length-take-le z s (whole at).fits in
        let there : z ≤ length t = omega (arith, length-append new rest) in
        let came : take z t ≡ new = take_at new rest z size in
        let harm : kind (take z s) (take z t) = subst (kind (take z s)) (sym came) damage in
        let first : get_or (take z s) 0 0 ≡ get_or s 0 0 = get_or-take z s 0 0 (frame_some at) in
        refuses f t
        (λ y e frame. never s t z y _ e at frame bs bt (kept s t z y _ e at frame bs bt there harm) harm) (take z s)
        (ap (size_for f) first ∙ size_for_frame at) (frame_some at) there

-- by the walk over all blocks
module _
    (f : Format) {limit : ℕ} {Q P : List ℕ → Type 0} (tells : Telling limit Q P)
    (narrow : (n : ℕ) → 8 * (widest (spans_of f n) + 2) ≤ limit) (kind : List ℕ → List ℕ → Type 0)
    (count : (old new : List ℕ) → kind old new → length new ≡ length old)
    (has : (old new : List ℕ) → kind old new → Q (pattern old new))
    (lacks : (old new : List ℕ) → kind old new → P (pattern old new) → ⊥) (kept : Kept f kind) where
  pub always_seen : AlwaysSeen f kind
  always_seen =
      always_never f kind count kept
      (λ s t z y c e at frame bs bt stays harm.
      lacks (take z s) (take z t) harm
      (same_spans at frame bs bt tells (narrow _) stays (has (take z s) (take z t) harm)))

-- no block has over 128 bytes, its check included
pub narrow : (f : Format) (n : ℕ) → 8 * (widest (spans_of f n) + 2) ≤ 1024
narrow Format.A n = omega (arith, widest_spans 126 10 16 (n + 1) (omega arith) (omega arith))
narrow Format.B n = omega (arith, widest_spans 126 126 126 (n + 1) (omega arith) (omega arith))

-- ---- the length byte

pub kept-length : (f : Format) (kind : List ℕ → List ℕ → Type 0)
    → ((old new : List ℕ) → kind old new → LengthStays old new) → Kept f kind
kept-length f kind stays s t z y c e at there bs bt room damage =
    sym (get_or-take z t 0 0 (frame_some at)) ∙ stays (take z s) (take z t) damage ∙ get_or-take z s 0 0 (frame_some at)

spans_a : (n : ℕ) → 10 ≤ n → spans_of Format.A n ≡ 10 ∷ spans 16 16 (n + 1 - 10)
spans_a n low =
    let ten : min 10 (n + 1) ≡ 10 = omega arith in
    rw ten at (spans_turn 10 16 (n + 1) (omega arith) (omega arith) (omega arith))

module _ {s : List ℕ} {z : ℕ} {c : List ℕ} (at : FrameAt Format.A s z c) where
  first_right : block_ok 10 s ≡ true
  first_right =
      let n = length c in
      let right = rw (spans_a n at.low) at (whole at).right in
      (first_wrong-cons 1 10 (spans 16 16 (n + 1 - 10)) s right).0

  first_there : 12 ≤ z
  unfolding frame_size size_of
  first_there = omega (arith, at.size, ap size_of (spans_a (length c) at.low))

pub kept_a :
    {limit : ℕ} {Q : List ℕ → Type 0} → Telling limit Q Zeros → 96 ≤ limit → (kind : List ℕ → List ℕ → Type 0)
    → ((old new : List ℕ) → kind old new → Q (pattern old new)) → Kept Format.A kind
kept_a {Q = Q} tells wide kind has s t z y c e at there bs bt room damage =
    let twelve = first_there at in
    let cut : 12 + (z - 12) ≡ z = omega arith in
    let fs : 12 ≤ length s = omega (arith, (whole at).fits) in
    let parts : Q (between 12 s t ++ between (z - 12) (drop 12 s) (drop 12 t)) =
    subst Q (ap (λ (k : ℕ). between k s t) (sym cut) ∙ between-add 12 (z - 12) s t fs (omega arith))
    (has (take z s) (take z t) damage) in
    let alike = told_block tells 10 s t bs bt fs (omega arith) wide (first_right at) (first_right there)
    (tells.front (between 12 s t) (between (z - 12) (drop 12 s) (drop 12 t)) parts) in
    let count = length-take-le 12 t (omega arith) ∙ sym (length-take-le 12 s fs) in
    sym (get_or-take 12 t 0 0 (omega arith))
    ∙ zeros_first (take 12 s) (take 12 t) (bytes_take 12 s bs) (bytes_take 12 t bt) count alike
    ∙ get_or-take 12 s 0 0 (omega arith)
