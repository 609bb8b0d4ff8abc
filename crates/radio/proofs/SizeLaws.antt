-- How large frames get: 290 bytes, format A with 255 bytes of content.
--     frame_size-le    the frame of any content that its format allows
--     size_for_le      the frame that any length byte says
use Rattle.std.specs.Prelude.{Ok}
use mathlib.Core.Bool.{Bool, true, false}
use mathlib.Core.Path.{◌≡◌, refl}
use Prim.Native.Nat.{ℕ, ◌≤◌}
use native.Mathlib.Omega.{arith}
use borrow.Author.Tests.{ltb-true, ltb-false}
use lib.Dec.{ltb}
use Rattle.frame.specs.declared.Format.{Format}
use Rattle.frame.specs.declared.Format.TheVariants.{A, B}
use Rattle.frame.specs.Formats.{sizes, form_of, frame_size, size_for}
use Rattle.frame.proofs.FormatLaws.{frame_size_A, frame_size_B, frame_size_B_long}
use Rattle.frame.proofs.JudgeLaws.{size_for_accepted}

pub frame_size-le : (f : Format) (n : ℕ) → n ≤ (form_of f).longest → frame_size f n ≤ 290
frame_size-le A n h = omega (arith, frame_size_A n)
frame_size-le B n h = by_test (ltb n 126) refl
  where
    by_test : (t : Bool) → ltb n 126 ≡ t → frame_size B n ≤ 290
    by_test true e = omega (arith, frame_size_B n (ltb-true n 126 e))
    by_test false e = omega (arith, frame_size_B_long n (ltb-false n 126 e) h)

pub size_for_le : (f : Format) (l : ℕ) {z n : ℕ} → size_for f l ≡ Ok (sizes z n) → z ≤ 290
size_for_le f l {z} {n} e =
    let sized = size_for_accepted f l e in
    omega (arith, sized.size, frame_size-le f n sized.high)
