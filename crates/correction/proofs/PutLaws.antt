-- What the writers leave in the lent memory.
--     corrected_put    the frame, the header and the check bytes stored one behind another: what is sent of the frame,
--                      then what stood behind that
-- Assumes nothing.
use mathlib.Core.Path.{◌≡◌, sym, ap, ap₂, ◌∙◌}
use mathlib.Core.List.{List, ◌++◌, append_assoc}
use Prim.Native.Nat.{ℕ, ◌+◌, ◌-◌, ◌≤◌}
use native.Mathlib.Omega.{arith}
use borrow.Rule.Slice.PartMut.{put_mid}
use lib.ListN.{length, take, drop, length-append}
use lib.Seq.{take_at, drop_at, drop-drop, length-take-le}
use Rattle.codewords.specs.CheckBytes.{checks_of}
use Rattle.codewords.specs.Corrections.{header_of, corrected}

-- a part stored behind what was stored before
pub put_behind : (l r v : List ℕ) (a k : ℕ) → length l ≡ a → put_mid a k (l ++ r) v ≡ (l ++ v) ++ drop k r
put_behind l r v a k e = rw (take_at l r a e, drop_at l r a e) (sym (append_assoc l v (drop k r)))

module _ (s d : List ℕ) (z : ℕ) (there : z ≤ length s) where
  length_frame : length (take z s) ≡ z
  length_frame = length-take-le z s there

  behind : drop 32 (drop 2 (drop z d)) ≡ drop (z + 34) d
  behind = ap (drop 32) (drop-drop 2 z d) ∙ drop-drop 32 (z + 2) d ∙ ap (λ (n : ℕ). drop n d) (omega arith)

  pub corrected_put : {m h c : List ℕ} → m ≡ take z s → h ≡ header_of 1 → c ≡ checks_of (take z s)
      → put_mid (z + 2) (z + 2 + 32 - (z + 2)) (put_mid z (z + 2 - z) (m ++ drop z d) h) c
      ≡ corrected (take z s) ++ drop (z + 34) d
  corrected_put em eh ec =
      let two : z + 2 - z ≡ 2 = omega arith in
      let all : z + 2 + 32 - (z + 2) ≡ 32 = omega arith in
      rw (em, eh, ec, two, all)
      (ap (λ (l : List ℕ). put_mid (z + 2) 32 l (checks_of (take z s)))
      (put_behind (take z s) (drop z d) (header_of 1) z 2 length_frame)
      ∙ put_behind (take z s ++ header_of 1) (drop 2 (drop z d)) (checks_of (take z s)) (z + 2) 32
      (omega (arith, length-append (take z s) (header_of 1), length_frame))
      ∙ ap₂ (λ (l b : List ℕ). l ++ b) (append_assoc (take z s) (header_of 1) (checks_of (take z s))) behind)
