-- One turn of a walk over spans: what taking the first span off does to each definition; and the first span of a
-- frame, which begins with the length byte.
--     size_of_turn .. written_turn      k bytes are in the span at hand, of the `left` bytes that are left
--     size_of_first .. written_first    the length byte and k of the n bytes behind it are in the first span
--     payload_behind, size_of_behind    reading on behind the length byte is the same walk from place 1
--     framed_head, payload_head        the length byte comes first in a frame and in its payload
use mathlib.Core.Bool.{cond}
use mathlib.Core.List.{List, [], ◌∷◌, ◌++◌}
use mathlib.Core.Path.{◌≡◌, refl, sym, ◌∙◌}
use Prim.Native.Nat.{ℕ, zero, suc, ◌+◌, ◌-◌, ◌≤◌, ◌<◌, min}
use native.Mathlib.Nat.{not-suc-le-zero, min-zero, add_assoc}
use native.Mathlib.Omega.{arith}
use lib.ListN.{length, take, drop, length-drop}
use lib.Seq.{take_at, drop_at, drop-drop, length-take-le, paste}
use Rattle.std.specs.Prelude.{Some}
use Rattle.blocks.specs.Spans.{sealed, framed, payload, block_ok, first_wrong, size_of, cut, spans}
use Rattle.blocks.proofs.CutLaws.{spans_turn}
use Rattle.blocks.proofs.SealLaws.{length_sealed}
use Rattle.blocks.proofs.WalkLaws.{filled, filled_front, filled_turn, paste_filled}

module _ {most later left k : ℕ} (e : k ≡ min most left) (m : 0 < most) (l : 0 < later) (h : 0 < left) where
  spans-cons : spans most later left ≡ k ∷ spans later later (left - k)
  spans-cons = rw e (spans_turn most later left m l h)

  pub size_of_turn : size_of (spans most later left) ≡ k + 2 + size_of (spans later later (left - k))
  unfolding size_of
  size_of_turn = rw spans-cons

  framed_turn :
      (p : List ℕ)
      → framed (spans most later left) p ≡ sealed (take k p) ++ framed (spans later later (left - k)) (drop k p)
  unfolding framed
  framed_turn p = rw spans-cons

  payload_turn :
      (s : List ℕ)
      → payload (spans most later left) s ≡ take k s ++ payload (spans later later (left - k)) (drop (k + 2) s)
  unfolding payload
  payload_turn s = rw spans-cons

  pub first_wrong_turn :
      (b at : ℕ) (s : List ℕ)
      → let rest = first_wrong (b + 1) (spans later later (left - k)) (drop (at + (k + 2)) s) in
      first_wrong b (spans most later left) (drop at s) ≡ cond (block_ok k (drop at s)) rest (Some b)
  unfolding first_wrong
  first_wrong_turn b at s = rw (spans-cons, ← drop-drop (k + 2) at s)

  -- copying the span at hand to its place
  pub copied_turn :
      (at done : ℕ) (s d : List ℕ) → at + k ≤ length s → done + k ≤ length d
      → let rest = payload (spans later later (left - k)) (drop (at + (k + 2)) s) in
      filled (paste d done (drop at s) k) (done + k) rest (left - k)
      ≡ filled d done (payload (spans most later left) (drop at s)) left
  copied_turn at done s d there fits =
      let all : k + (left - k) ≡ left = omega arith in
      let size = length-take-le k (drop at s) (simp length-drop (omega arith)) in
      rw (paste_filled, payload_turn (drop at s), drop-drop (k + 2) at s)
      (filled_turn d done (take k (drop at s)) (omega arith) size _ (left - k) ∙ rw all)

  -- writing it there, with its check
  pub written_turn :
      {p : List ℕ} (x t : List ℕ) → p ≡ x ++ t → length x ≡ k → (at : ℕ) (d : List ℕ) → at ≤ length d
      → let rest = spans later later (left - k) in
      filled (take at d ++ (sealed x ++ drop (at + k + 2) d)) (at + (k + 2)) (framed rest t) (size_of rest)
      ≡ filled d at (framed (spans most later left) p) (size_of (spans most later left))
  unfolding filled
  written_turn x t parts size at d inside =
      let long : length (sealed x) ≡ k + 2 = rw size at (length_sealed x) in
      rw (parts, framed_turn (x ++ t), take_at x t k size, drop_at x t k size, size_of_turn, add_assoc at k 2)
      (filled_turn d at (sealed x) inside long _ _)

module _ (first later n : ℕ) {k : ℕ} (e : k ≡ min (first - 1) n) (m : 1 < first) (l : 0 < later) where
  spans_first : spans first later (n + 1) ≡ suc k ∷ spans later later (n - k)
  spans_first =
      let one : suc k ≡ min first (n + 1) = omega arith in
      let rest : n + 1 - suc k ≡ n - k = omega arith in
      rw rest at (spans-cons one (omega arith) l (omega arith))

  pub size_of_first : size_of (spans first later (n + 1)) ≡ k + 3 + size_of (spans later later (n - k))
  unfolding size_of
  size_of_first = rw spans_first (omega arith)

  framed_first :
      (b : ℕ) (c : List ℕ)
      → framed (spans first later (n + 1)) (b ∷ c)
      ≡ sealed (b ∷ take k c) ++ framed (spans later later (n - k)) (drop k c)
  unfolding framed
  framed_first b c = rw spans_first

  payload_first :
      (b : ℕ) (s : List ℕ)
      → drop 1 (payload (spans first later (n + 1)) (b ∷ s))
      ≡ take k s ++ payload (spans later later (n - k)) (drop (k + 2) s)
  unfolding payload
  payload_first b s =
      let two : suc k + 2 ≡ suc (k + 2) = omega arith in
      rw (spans_first, two)

  -- all spans written behind the first one are the whole frame
  pub written_first :
      (b : ℕ) (c d : List ℕ) → k ≤ length c
      → let rest = spans later later (n - k) in
      filled (sealed (b ∷ take k c) ++ drop (k + 3) d) (k + 3) (framed rest (drop k c)) (size_of rest)
      ≡ framed (spans first later (n + 1)) (b ∷ c) ++ drop (size_of (spans first later (n + 1))) d
  written_first b c d there =
      let size : length (sealed (b ∷ take k c)) ≡ k + 3 = rw (length_sealed, length-take-le k c there) (omega arith) in
      rw (framed_first b c, size_of_first) (filled_front d (sealed (b ∷ take k c)) size _ _)

-- reading on behind the length byte is the same walk from place 1, with a first span that is one byte shorter
module _ {first later : ℕ} (m : 1 < first) (l : 0 < later) where
  pub payload_behind : (n : ℕ) (s : List ℕ) → 0 < length s
      → drop 1 (payload (spans first later (n + 1)) s) ≡ payload (spans (first - 1) later n) (drop 1 s)
  unfolding payload cut
  payload_behind n [] h = absurd (not-suc-le-zero h)
  payload_behind zero (b ∷ s) h = rw (payload_first first later 0 refl m l b s, min-zero (first - 1))
  payload_behind (suc n) (b ∷ s) h =
      payload_first first later (suc n) refl m l b s
      ∙ sym (payload_turn {most = first - 1} {left = suc n} refl (omega arith) l (omega arith) s)

  pub size_of_behind : (n : ℕ) → 1 + size_of (spans (first - 1) later n) ≤ size_of (spans first later (n + 1))
  unfolding size_of cut
  size_of_behind zero = rw (size_of_first first later 0 refl m l) (omega arith)
  size_of_behind (suc n) =
      let rest = size_of_turn {most = first - 1} {left = suc n} refl (omega arith) l (omega arith) in
      rw (size_of_first first later (suc n) refl m l, rest) (omega arith)

-- the first byte of a frame is the length byte, and the first byte of its payload is that of the frame
module _ (first later n : ℕ) (m : 1 < first) (l : 0 < later) (b : ℕ) where
  pub framed_head :
      (c : List ℕ)
      → framed (spans first later (n + 1)) (b ∷ c) ≡ b ∷ drop 1 (framed (spans first later (n + 1)) (b ∷ c))
  unfolding framed sealed
  framed_head c = rw (spans_first first later n refl m l)

  pub payload_head :
      (s : List ℕ)
      → payload (spans first later (n + 1)) (b ∷ s) ≡ b ∷ drop 1 (payload (spans first later (n + 1)) (b ∷ s))
  unfolding payload
  payload_head s = rw (spans_first first later n refl m l)
