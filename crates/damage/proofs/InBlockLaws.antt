-- One block is enough: where the damage of some block is of a kind that a right block cannot have, the frame's damage
-- is seen, whatever happened to the other blocks (specs/Damage `InBlock`).
--     some_wrong       two runs of right blocks have no such block
--     block_seen       so the damage is always seen, behind the length byte
-- Assumes nothing.
use mathlib.Core.List.{List, [], ◌∷◌}
use mathlib.Core.Logic.{⊎_elim}
use mathlib.Core.Path.{◌≡◌, sym, ap, ◌∙◌, subst}
use Prim.Native.Nat.{ℕ, ◌+◌, ◌*◌, ◌≤◌}
use native.Mathlib.Omega.{arith}
use lib.ListN.{length, take, drop, get_or, length-drop}
use lib.Seq.{take-take}
use Rattle.std.specs.Prelude.{None}
use Rattle.ground.specs.Bytes.{Bytes}
use Rattle.ground.proofs.ByteLaws.{bytes_take, bytes_drop}
use Rattle.blocks.specs.Spans.{first_wrong, size_of}
use Rattle.blocks.proofs.SpanLaws.{first_wrong-cons}
use Rattle.blocks.proofs.CutLaws.{widest}
use Rattle.frame.specs.declared.Format.{Format}
use Rattle.frame.specs.Formats.{form_of, spans_of}
use Rattle.frame.specs.Frames.{FrameAt}
use Rattle.frame.proofs.FormatLaws.{content_length-length_byte}
use Rattle.frame.proofs.JudgeLaws.{size_for_accepted}
use Rattle.frame.proofs.AcceptLaws.{judge_of_frame, judge_of-accepted, size_for_frame, whole_room}
use Rattle.damage.specs.Damage.{Behind, InSome, InBlock}
use Rattle.damage.specs.Seen.{AlwaysSeen}
use Rattle.damage.proofs.BitsLaws.{pattern}
use Rattle.damage.proofs.WalkLaws.{Telling, told_block}
use Rattle.damage.proofs.SeenLaws.{always_never, kept-length, same_size}

-- a frame alone, and which spans its length byte says
alone : {f : Format} {s : List ℕ} {z : ℕ} {c : List ℕ} → FrameAt f s z c → FrameAt f (take z s) z c
alone {s = s} {z = z} at =
    record { low = at.low; high = at.high; size = at.size; bytes = take-take z z s (omega arith) ∙ at.bytes }

spans_said :
    {f : Format} {s : List ℕ} {z : ℕ} {c : List ℕ} → FrameAt f s z c
    → spans_of f ((form_of f).content_length (get_or s 0 0)) ≡ spans_of f (length c)
spans_said {f} {s} {c = c} at =
    let byte = (size_for_accepted f (get_or s 0 0) (size_for_frame at)).byte in
    ap (spans_of f)
    (ap (form_of f).content_length (sym byte) ∙ content_length-length_byte f (length c) at.low at.high)

module _
    {limit : ℕ} {Q P : List ℕ → Type 0} (tells : Telling limit Q P) (kind : List ℕ → List ℕ → Type 0)
    (has : (old new : List ℕ) → kind old new → Q (pattern old new))
    (lacks : (old new : List ℕ) → kind old new → P (pattern old new) → ⊥) where
  some_wrong :
      (b : ℕ) (ks s t : List ℕ) → Bytes s → Bytes t → size_of ks ≤ length s → size_of ks ≤ length t
      → 8 * (widest ks + 2) ≤ limit → first_wrong b ks s ≡ None → first_wrong b ks t ≡ None → InSome kind ks s t → ⊥
  unfolding size_of widest
  some_wrong b [] s t bs bt fs ft small rs rt none = none
  some_wrong b (k ∷ ks) s t bs bt fs ft small rs rt some =
      let os = first_wrong-cons b k ks s rs in
      let ot = first_wrong-cons b k ks t rt in
      let u = take (k + 2) s in
      let v = take (k + 2) t in
      ⊎_elim
      (λ here.
      lacks u v here
      (told_block tells k s t bs bt (omega arith) (omega arith) (omega arith) os.0 ot.0 (has u v here)))
      (some_wrong (b + 1) ks (drop (k + 2) s) (drop (k + 2) t) (bytes_drop (k + 2) s bs) (bytes_drop (k + 2) t bt)
      (simp length-drop (omega arith)) (simp length-drop (omega arith)) (omega arith) os.1 ot.1)
      some

  pub block_seen :
      (f : Format) → ((n : ℕ) → 8 * (widest (spans_of f n) + 2) ≤ limit) → AlwaysSeen f (Behind (InBlock f kind))
  block_seen f narrow =
      always_never f (Behind (InBlock f kind)) (λ old new b. b.0.count)
      (kept-length f (Behind (InBlock f kind)) (λ old new b. b.1)) (λ s t z y c e at frame bs bt stays harm.
      let same = same_size at frame bs bt stays in
      let u = alone at in
      let v = alone (rw same.0 at frame) in
      let right = judge_of-accepted f (take z s) (judge_of_frame u) in
      let right' = subst (λ (n : ℕ). first_wrong 1 (spans_of f n) (take z t) ≡ None) same.1
      (judge_of-accepted f (take z t) (judge_of_frame v)).right in
      some_wrong 1 (spans_of f (length c)) (take z s) (take z t) (bytes_take z s bs) (bytes_take z t bt)
      (whole_room right) (subst (λ (n : ℕ). size_of (spans_of f n) ≤ length (take z t)) same.1
      (whole_room (judge_of-accepted f (take z t) (judge_of_frame v)))) (narrow (length c)) right.right right'
      (subst (λ (ks : List ℕ). InSome kind ks (take z s) (take z t)) (spans_said u) harm.0.block))
