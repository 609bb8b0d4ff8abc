-- From one block to a frame: what holds of the pattern of each right block holds of that of all of them.
--     Telling limit Q P    patterns with Q can be cut; where a block of at most `limit` digits has one that leaves 0,
--                          it has P; and patterns with P can be joined
--     walk                 two runs of right blocks whose pattern has Q: it has P
-- Assumes nothing.
use mathlib.Core.Bool.{true}
use mathlib.Core.List.{List, [], ◌∷◌, ◌++◌}
use mathlib.Core.Path.{◌≡◌, refl, sym, ap₂, ◌∙◌, subst}
use Prim.Native.Nat.{ℕ, ◌+◌, ◌*◌, ◌≤◌}
use native.Mathlib.Omega.{arith}
use lib.ListN.{length, take, drop, length-drop}
use lib.Seq.{take-add, length-take-le}
use Rattle.std.specs.Prelude.{None}
use Rattle.ground.specs.Bytes.{Bytes}
use Rattle.ground.proofs.ByteLaws.{bytes_drop}
use Rattle.blocks.specs.Spans.{block_ok, first_wrong, size_of}
use Rattle.blocks.proofs.SpanLaws.{first_wrong-cons}
use Rattle.blocks.proofs.CutLaws.{widest}
use Rattle.patterns.proofs.Patterns.{left, Digits, Zeros}
use Rattle.patterns.proofs.ZerosLaws.{zeros-append}
use Rattle.damage.proofs.BitsLaws.{pattern, pattern-nil, length-pattern, pattern_digits, pattern-append}
use Rattle.damage.proofs.BlockLaws.{unseen_left}

pub record Telling (limit : ℕ) (Q P : List ℕ → Type 0) : Type 0 where
  pub front : (u v : List ℕ) → Q (u ++ v) → Q u
  pub back : (u v : List ℕ) → Q (u ++ v) → Q v
  pub none : P []
  pub join : (u v : List ℕ) → P u → P v → P (u ++ v)
  pub block : (u : List ℕ) → length u ≤ limit → Digits u → Q u → left 0 u ≡ 0 → P u

-- most often what a right block makes of a pattern is zeros
pub telling_zeros :
    (limit : ℕ) (Q : List ℕ → Type 0) → ((u v : List ℕ) → Q (u ++ v) → Q u) → ((u v : List ℕ) → Q (u ++ v) → Q v)
    → ((u : List ℕ) → length u ≤ limit → Digits u → Q u → left 0 u ≡ 0 → Zeros u) → Telling limit Q Zeros
telling_zeros limit Q front back block =
    record { front = front; back = back; none = λ p. refl; join = zeros-append; block = block }

-- the first bytes of two buffers
abbrev pub between : ℕ → List ℕ → List ℕ → List ℕ
between k s t = pattern (take k s) (take k t)

pub between-add :
    (k m : ℕ) (s t : List ℕ) → k ≤ length s → k ≤ length t
    → between (k + m) s t ≡ between k s t ++ between m (drop k s) (drop k t)
between-add k m s t fs ft =
    ap₂ pattern (take-add k m s) (take-add k m t)
    ∙ pattern-append (take k s) (take k t) (length-take-le k t ft ∙ sym (length-take-le k s fs)) (take m (drop k s))
    (take m (drop k t))

module _ {limit : ℕ} {Q P : List ℕ → Type 0} (tells : Telling limit Q P) where
  pub told_block :
      (k : ℕ) (s t : List ℕ) → Bytes s → Bytes t → k + 2 ≤ length s → k + 2 ≤ length t → 8 * (k + 2) ≤ limit
      → block_ok k s ≡ true → block_ok k t ≡ true → Q (between (k + 2) s t) → P (between (k + 2) s t)
  told_block k s t bs bt fs ft small os ot q =
      let count = length-take-le (k + 2) t ft ∙ sym (length-take-le (k + 2) s fs) in
      tells.block (between (k + 2) s t)
      (omega (arith, length-pattern (take (k + 2) s) (take (k + 2) t) count, length-take-le (k + 2) s fs))
      (pattern_digits (take (k + 2) s) (take (k + 2) t) count) q (unseen_left k s t bs bt fs ft os ot)

  pub walk :
      (b : ℕ) (ks s t : List ℕ) → Bytes s → Bytes t → size_of ks ≤ length s → size_of ks ≤ length t
      → 8 * (widest ks + 2) ≤ limit → first_wrong b ks s ≡ None → first_wrong b ks t ≡ None
      → Q (between (size_of ks) s t) → P (between (size_of ks) s t)
  unfolding size_of widest
  walk b [] s t bs bt fs ft small rs rt q = subst P (sym pattern-nil) tells.none
  walk b (k ∷ ks) s t bs bt fs ft small rs rt q =
      let cut = between-add (k + 2) (size_of ks) s t (omega arith) (omega arith) in
      let first = between (k + 2) s t in
      let later = between (size_of ks) (drop (k + 2) s) (drop (k + 2) t) in
      let parts : Q (first ++ later) = subst Q cut q in
      let os = first_wrong-cons b k ks s rs in
      let ot = first_wrong-cons b k ks t rt in
      let here = told_block k s t bs bt (omega arith) (omega arith) (omega arith) os.0 ot.0
      (tells.front first later parts) in
      let there = walk (b + 1) ks (drop (k + 2) s) (drop (k + 2) t) (bytes_drop (k + 2) s bs) (bytes_drop (k + 2) t bt)
      (simp length-drop (omega arith)) (simp length-drop (omega arith)) (omega arith) os.1 ot.1
      (tells.back first later parts) in
      subst P (sym cut) (tells.join first later here there)
