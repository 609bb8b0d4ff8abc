-- The loops of this crate: where each stands (a record, its invariant), and the laws of its start, its step and its
-- end.
--     Checking    the walk that looks for the first wrong check
--     Copying     the walk that copies the payload out
--     Putting     the walk that writes span after span
--     Seeking     the walk that looks for a byte of the payload
-- In each, k is the length of the span at hand, `most` or what is left if that is less; in Putting the span is x.
use mathlib.Core.Bool.{true, false}
use mathlib.Core.List.{List, ◌++◌}
use mathlib.Core.Path.{◌≡◌, refl, ap, sym, ◌∙◌}
use Prim.Native.Nat.{ℕ, ◌+◌, ◌-◌, ◌≤◌, ◌<◌, min}
use native.Mathlib.Omega.{arith}
use lib.ListN.{length, take, drop, length-append, length-drop}
use lib.Seq.{paste, length-paste}
use Rattle.std.specs.Prelude.{Some, None}
use Rattle.blocks.specs.Spans.{sealed, framed, payload, block_ok, first_wrong, size_of, cut, spans}
use Rattle.blocks.specs.Places.{place_in, check_in}
use Rattle.blocks.proofs.WalkLaws.{filled, filled_start, filled_end}
use Rattle.blocks.proofs.TurnLaws.{size_of_turn, size_of_behind, first_wrong_turn, copied_turn, written_turn, payload_behind}
use Rattle.blocks.proofs.PlaceLaws.{place_in_here, check_in_here, place_in_turn, check_in_turn, size_of_full}

-- block `block` is at hand, at place `at`; `left` bytes of payload are left
pub record Checking (s : List ℕ) (first later t at most left block : ℕ) : Type 0 where
  pub some : 0 < most
  pub counted : block ≤ at + 1
  pub fits : at + size_of (spans most later left) ≤ length s
  pub same : first_wrong block (spans most later left) (drop at s) ≡ first_wrong 1 (spans first later t) s

pub checking_start :
    (s : List ℕ) (first later t : ℕ) → 0 < first → size_of (spans first later t) ≤ length s
    → Checking s first later t 0 first t 1
checking_start s first later t some fits =
    record { some = some; counted = omega arith; fits = omega arith; same = refl }

module _ {s : List ℕ} {first later t at most left block : ℕ} (w : Checking s first later t at most left block) where
  pub checking_end : left ≡ 0 → None ≡ first_wrong 1 (spans first later t) s
  unfolding first_wrong cut
  checking_end none = rw none at w.same

  module _ {k : ℕ} (l : 0 < later) (h : 0 < left) (e : k ≡ min most left) where
    pub checking_fits : at + (k + 2 + size_of (spans later later (left - k))) ≤ length s
    checking_fits = omega (arith, w.fits, size_of_turn e w.some l h)

    pub checking_wrong : block_ok k (drop at s) ≡ false → Some block ≡ first_wrong 1 (spans first later t) s
    checking_wrong bad = rw bad at (sym (first_wrong_turn e w.some l h block at s) ∙ w.same)

    pub checking_step :
        block_ok k (drop at s) ≡ true → Checking s first later t (at + (k + 2)) later (left - k) (block + 1)
    checking_step ok =
        record {
          some = l;
          counted = omega (arith, w.counted);
          fits = omega (arith, checking_fits);
          same = rw ok at (sym (first_wrong_turn e w.some l h block at s) ∙ w.same);
        }

-- `done` bytes are copied, the `left` bytes behind place `at` of s are not yet
pub record Copying (s : List ℕ) (first later n : ℕ) (d out : List ℕ) (at most done left : ℕ) : Type 0 where
  pub some : 0 < most
  pub all : done + left ≡ n
  pub long : length out ≡ length d
  pub fits : at + size_of (spans most later left) ≤ length s
  pub same :
      filled out done (payload (spans most later left) (drop at s)) left
      ≡ filled d 0 (payload (spans (first - 1) later n) (drop 1 s)) n

pub copying_start :
    (s : List ℕ) (first later n : ℕ) (d : List ℕ) → 1 < first → 0 < later
    → size_of (spans first later (n + 1)) ≤ length s → Copying s first later n d d 1 (first - 1) 0 n
copying_start s first later n d m l fits =
    record {
      some = omega arith;
      all = omega arith;
      long = refl;
      fits = omega (arith, size_of_behind m l n);
      same = refl;
    }

module _ {s d out : List ℕ} {first later n at most done left : ℕ}
    (w : Copying s first later n d out at most done left) where
  pub copying_end :
      1 < first → 0 < later → size_of (spans first later (n + 1)) ≤ length s → left ≡ 0
      → out ≡ drop 1 (payload (spans first later (n + 1)) s) ++ drop n d
  unfolding payload cut
  copying_end m l fits none =
      sym (filled_end out done) ∙ rw none at w.same
      ∙ filled_start d _ n ∙ rw (payload_behind m l n s (omega (arith, size_of_behind m l n)))

  module _ {k : ℕ} (l : 0 < later) (h : 0 < left) (e : k ≡ min most left) where
    pub copying_fits : at + (k + 2 + size_of (spans later later (left - k))) ≤ length s
    copying_fits = omega (arith, w.fits, size_of_turn e w.some l h)

    copying_long : n ≤ length d → length (paste out done (drop at s) k) ≡ length d
    copying_long room =
        length-paste out done (drop at s) k (omega (arith, w.long, w.all))
        (simp length-drop (omega (arith, copying_fits)))
        ∙ w.long

    copying_same :
        n ≤ length d
        → filled (paste out done (drop at s) k) (done + k)
        (payload (spans later later (left - k)) (drop (at + (k + 2)) s)) (left - k)
        ≡ filled d 0 (payload (spans (first - 1) later n) (drop 1 s)) n
    copying_same room =
        copied_turn e w.some l h at done s out (omega (arith, copying_fits)) (omega (arith, w.long, w.all))
        ∙ w.same

    pub copying_step :
        {next : List ℕ} → n ≤ length d → next ≡ paste out done (drop at s) k
        → Copying s first later n d next (at + (k + 2)) later (done + k) (left - k)
    copying_step room is =
        record {
          some = l;
          all = omega (arith, w.all);
          long = rw is (copying_long room);
          fits = omega (arith, copying_fits);
          same = rw is (copying_same room);
        }

-- of the bytes c, which are written from place `from` on, the bytes `rest` are left, from place `at` on
pub record Putting (c : List ℕ) (later : ℕ) (d : List ℕ) (from : ℕ) (out rest : List ℕ) (at : ℕ) : Type 0 where
  pub fits : at + size_of (spans later later (length rest)) ≤ length out
  pub same :
      let left = spans later later (length rest) in
      let all = spans later later (length c) in
      filled out at (framed left rest) (size_of left) ≡ filled d from (framed all c) (size_of all)

module _ {c d out rest : List ℕ} {later from at : ℕ} (w : Putting c later d from out rest at) where
  pub putting_end :
      length rest ≡ 0
      → let all = spans later later (length c) in
      out ≡ filled d from (framed all c) (size_of all)
  unfolding framed size_of cut
  putting_end none = sym (filled_end out at) ∙ rw none at w.same

  -- the span at hand is x, and t is behind it
  module _ (x t : List ℕ) (s : rest ≡ x ++ t) (e : length x ≡ min later (length rest)) (h : 0 < length rest)
      (l : 0 < later) where
    behind : length t ≡ length rest - length x
    behind = omega (arith, simp length-append at (ap length s))

    pub putting_fits : at + (length x + 2 + size_of (spans later later (length t))) ≤ length out
    putting_fits = rw behind (omega (arith, w.fits, size_of_turn e l l h))

    pub putting_step :
        {next : List ℕ} → length next ≡ length out
        → next ≡ take at out ++ (sealed x ++ drop (at + length x + 2) out)
        → Putting c later d from next t (at + (length x + 2))
    putting_step size is =
        record {
          fits = omega (arith, putting_fits, size);
          same = rw (is, behind) (written_turn e l l h x t s refl at out (omega (arith, w.fits)) ∙ w.same);
        }

-- the byte looked for is byte i of the `left` bytes whose spans begin at place `at`
pub record Seeking (first later t j at most left i : ℕ) : Type 0 where
  pub some : 0 < most
  pub below : i < left
  pub fits : at + size_of (spans most later left) ≤ size_of (spans first later t)
  pub byte : at + place_in (spans most later left) i ≡ place_in (spans first later t) j
  pub check : at + check_in (spans most later left) i ≡ check_in (spans first later t) j

pub seeking_start : (first later t j : ℕ) → 0 < first → j < t → Seeking first later t j 0 first t j
seeking_start first later t j some below =
    record { some = some; below = below; fits = omega arith; byte = omega arith; check = omega arith }

module _ {first later t j at most left i : ℕ} (w : Seeking first later t j at most left i) (l : 0 < later) where
  pub seeking_fits : most ≤ i → at + (most + 2) ≤ size_of (spans first later t)
  seeking_fits far = omega (arith, w.fits, size_of_full w.some l w.below far)

  pub seeking_step : most ≤ i → Seeking first later t j (at + (most + 2)) later (left - most) (i - most)
  seeking_step far =
      record {
        some = l;
        below = omega (arith, w.below);
        fits = omega (arith, w.fits, size_of_full w.some l w.below far);
        byte = omega (arith, w.byte, place_in_turn w.some l w.below far);
        check = omega (arith, w.check, check_in_turn w.some l w.below far);
      }

  pub seeking_end :
      i < most
      → (at + i ≡ place_in (spans first later t) j) × (at + min most left ≡ check_in (spans first later t) j)
  seeking_end near = (
    omega (arith, w.byte, place_in_here w.some l w.below near),
    omega (arith, w.check, check_in_here w.some l w.below near),
  )
