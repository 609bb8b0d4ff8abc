-- The received word (specs/Received).
--     length-received     frame and check bytes
--     first-received      its first byte is the first that was received
--     bytes-received      bytes, if these are
--     received-append     of a word with its header between frame and check bytes, and of whatever stands behind
--     received-set        one byte of what was received changed is one byte of the word changed, or none
-- Assumes nothing.
use mathlib.Core.List.{List, ◌++◌}
use mathlib.Core.Logic.{◌⊎◌, inl, inr}
use mathlib.Core.Path.{◌≡◌, sym, ap, ap₂, ◌∙◌}
use Prim.Native.Nat.{ℕ, ◌+◌, ◌-◌, ◌≤◌, ◌<◌}
use native.Mathlib.Omega.{arith}
use borrow.Author.Tests.{ltb-true, ltb-false}
use lib.Dec.{ltb}
use lib.ListN.{length, get_or, take, drop, set, length-append, length-drop, get_or-append}
use lib.Seq.{length-take-le, get_or-take, set-append_left, take-set-le, take-set-lt, drop-set-lt, drop-set-add}
use Rattle.ground.specs.Bytes.{Bytes}
use Rattle.ground.proofs.BehindLaws.{set-append-add}
use Rattle.ground.proofs.ByteLaws.{bytes-append, bytes_take, bytes_drop}
use Rattle.ground.proofs.CaseLaws.{by_test}
use Rattle.proposals.specs.Received.{received}

module _ (s : List ℕ) (z : ℕ) (there : z + 34 ≤ length s) where
  length_frame : length (take z s) ≡ z
  length_frame = length-take-le z s (omega arith)

  length_checks : length (take 32 (drop (z + 2) s)) ≡ 32
  length_checks = length-take-le 32 (drop (z + 2) s) (omega (arith, length-drop (z + 2) s))

  pub length-received : length (received z s) ≡ z + 32
  length-received = length-append (take z s) (take 32 (drop (z + 2) s)) ∙ ap₂ ◌+◌ length_frame length_checks

  pub first-received : 0 < z → get_or (received z s) 0 0 ≡ get_or s 0 0
  first-received some =
      get_or-append (take z s) (take 32 (drop (z + 2) s)) 0 0 (omega (arith, length_frame)) ∙ get_or-take z s 0 0 some

  -- a change before the frame's end, in the header, behind it
  in_frame : (i b : ℕ) → i < z → received z (set s i b) ≡ set (received z s) i b
  in_frame i b h =
      ap₂ (λ (f c : List ℕ). f ++ take 32 c) (take-set-lt z s i b h) (drop-set-lt (z + 2) s i b (omega arith))
      ∙ sym (set-append_left (take z s) (take 32 (drop (z + 2) s)) i b (omega (arith, length_frame)))

  in_header : (i b : ℕ) → z ≤ i → i < z + 2 → received z (set s i b) ≡ received z s
  in_header i b h k =
      ap₂ (λ (f c : List ℕ). f ++ take 32 c) (take-set-le z s i b h) (drop-set-lt (z + 2) s i b k)

  behind_header : (j b : ℕ) → j < 32 → received z (set s (z + 2 + j) b) ≡ set (received z s) (z + j) b
  behind_header j b h =
      let checks = take 32 (drop (z + 2) s) in
      ap₂ (λ (f c : List ℕ). f ++ take 32 c) (take-set-le z s (z + 2 + j) b (omega arith)) (drop-set-add (z + 2) s j b)
      ∙ ap (λ (c : List ℕ). take z s ++ c) (take-set-lt 32 (drop (z + 2) s) j b h)
      ∙ sym (set-append-add (take z s) checks j b)
      ∙ ap (λ (k : ℕ). set (received z s) (k + j) b) length_frame

  abbrev pub Changed : ℕ → ℕ → Type 0
  Changed i b =
      (received z (set s i b) ≡ received z s) ⊎ ((j : ℕ) × (received z (set s i b) ≡ set (received z s) j b))

  pub received-set : (i b : ℕ) → i < z + 34 → Changed i b
  received-set i b h =
      by_test (ltb i z) (λ t. inr (i, in_frame i b (ltb-true i z t)))
      (λ t. by_test (ltb i (z + 2)) (λ u. inl (in_header i b (ltb-false i z t) (ltb-true i (z + 2) u)))
      (λ u. let e : z + 2 + (i - (z + 2)) ≡ i = omega (arith, ltb-false i (z + 2) u) in
      inr (
        z + (i - (z + 2)),
        ap (λ (k : ℕ). received z (set s k b)) (sym e)
            ∙ behind_header (i - (z + 2)) b (omega (arith, ltb-false i (z + 2) u)),
      )))

pub bytes-received : (z : ℕ) (s : List ℕ) → Bytes s → Bytes (received z s)
bytes-received z s b =
    bytes-append (take z s) (take 32 (drop (z + 2) s)) (bytes_take z s b)
    (bytes_take 32 (drop (z + 2) s) (bytes_drop (z + 2) s b))
