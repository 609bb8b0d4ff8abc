-- What the page says of a frame whose correction was written (specs/Demands).
--     read_alike              two buffers that begin with one frame are read alike
--     correcting_put          where the writer accepts, what it put: the frame, its size and what it leaves in memory
--     correcting_word         the word that stands there, frame and check bytes
--     correcting_reads        reading takes the frame with its correction behind it as before
--     correcting_announced    the header behind the frame announces its correction
--     correcting_corrects     the check bytes written are those that correct the frame's bytes
--     checks_correct          the check bytes of a word correct it, and only they do
-- Assumes nothing.
use mathlib.Core.Bool.{Bool, true, false, cond}
use mathlib.Core.List.{List, ◌++◌, append_assoc}
use mathlib.Core.Logic.{◌↔◌}
use mathlib.Core.Path.{◌≡◌, refl, sym, ◌∙◌, ap, ap₂, subst}
use Prim.Native.Nat.{ℕ, ◌+◌, ◌-◌, ◌≤◌}
use native.Mathlib.Omega.{arith}
use borrow.Author.Tests.{ltb-false}
use lib.Dec.{ltb}
use lib.ListN.{length, take, drop, length-append}
use lib.Seq.{length-take-le, take_at, drop_at}
use Rattle.std.specs.Prelude.{Result, Ok, Err}
use Rattle.answers.specs.declared.Refusal.{Refusal}
use Rattle.answers.specs.Outcome.{Outcome, leaving}
use Rattle.ground.specs.Bytes.{Bytes}
use Rattle.ground.proofs.ByteLaws.{bytes_take}
use Rattle.ground.proofs.CaseLaws.{zero_not_one}
use Rattle.frame.specs.declared.Format.{Format}
use Rattle.frame.specs.declared.Frame.{Frame}
use Rattle.frame.specs.Frames.{FrameAt}
use Rattle.frame.specs.Judging.{judge_of}
use Rattle.frame.specs.Reads.{taken_out, reading_of}
use Rattle.frame.proofs.AcceptLaws.{judge_of_frame, content_in_frame, judge_of-accepted, whole_frame}
use Rattle.frame.specs.Formats.{sizes}
use Rattle.codewords.specs.CodeBlocks.{Corrects}
use Rattle.codewords.specs.CheckBytes.{checks_of}
use Rattle.codewords.specs.Corrections.{header_of, corrected, put_corrected, correcting_of, bit_of, announced_of}
use Rattle.codewords.proofs.DivisionLaws.{length-checks_of}
use Rattle.codewords.proofs.UniqueLaws.{corrects_checks, corrects_only}

-- what was put behind a frame of z bytes, where the answer is y
pub record Put (s d : List ℕ) (o : Outcome (Result ℕ Refusal)) (j : Result Frame Refusal) (y : ℕ) : Type 0 where
  pub z : ℕ
  pub n : ℕ
  pub frame : j ≡ Ok (sizes z n)
  pub most : z ≤ 223
  pub room : z + 34 ≤ length d
  pub size : z + 34 ≡ y
  pub memory : o.memory ≡ corrected (take z s) ++ drop (z + 34) d

module _ (s d : List ℕ) (y : ℕ) where
  abbrev put_by : ℕ → Bool → Bool → Outcome (Result ℕ Refusal)
  put_by z t u =
      cond t (leaving (Err Refusal.TooLong) d)
      (cond u (leaving (Err Refusal.NoRoom) d)
      (record { answer = Ok (z + 34); memory = corrected (take z s) ++ drop (z + 34) d }))

  put_by_lem :
      (z n : ℕ) (t u : Bool) → ltb 223 z ≡ t → ltb (length d) (z + 34) ≡ u → (put_by z t u).answer ≡ Ok y
      → Put s d (put_by z t u) (Ok (sizes z n)) y
  put_by_lem z n true u long few h = absurd (zero_not_one (cc))
  put_by_lem z n false true long few h = absurd (zero_not_one (cc))
  put_by_lem z n false false long few h =
      record {
        z = z;
        n = n;
        frame = refl;
        most = ltb-false 223 z long;
        room = ltb-false (length d) (z + 34) few;
        size = cc;
        memory = refl;
      }

  put-accepted :
      (j : Result Frame Refusal) → (put_corrected s d j).answer ≡ Ok y → Put s d (put_corrected s d j) j y
  unfolding put_corrected
  put-accepted (Ok a) h = put_by_lem a.size a.n (ltb 223 a.size) (ltb (length d) (a.size + 34)) refl refl h
  put-accepted (Err r) h = absurd (zero_not_one (cc))

pub read_alike :
    {f : Format} {s m : List ℕ} {z : ℕ} {c : List ℕ} → FrameAt f s z c → FrameAt f m z c
    → (e : List ℕ) → reading_of f m e ≡ reading_of f s e
unfolding reading_of taken_out
read_alike p q e = rw (judge_of_frame p, judge_of_frame q, content_in_frame p, content_in_frame q)

module _ (f : Format) (s d : List ℕ) (y : ℕ) (h : (correcting_of f s d).answer ≡ Ok y) where
  pub correcting_put : Put s d (correcting_of f s d) (judge_of f s) y
  unfolding correcting_of
  correcting_put = put-accepted s d y (judge_of f s) h

  abbrev put : Put s d (correcting_of f s d) (judge_of f s) y
  put = correcting_put

  abbrev m : List ℕ
  m = (correcting_of f s d).memory

  -- the frame's bytes
  abbrev w : List ℕ
  w = take put.z s

  abbrev rest : List ℕ
  rest = drop (put.z + 34) d

  length_word : length w ≡ put.z
  length_word = length-take-le put.z s (judge_of-accepted f s put.frame).fits

  take_word : take put.z m ≡ w
  take_word = rw (put.memory, append_assoc w (header_of 1 ++ checks_of w) rest) (take_at w _ put.z length_word)

  pub correcting_reads : (e : List ℕ) → reading_of f m e ≡ reading_of f s e
  correcting_reads =
      let at = whole_frame (judge_of-accepted f s put.frame) in
      read_alike at (record { low = at.low; high = at.high; size = at.size; bytes = take_word ∙ at.bytes })

  drop_frame : drop put.z m ≡ header_of 1 ++ (checks_of w ++ rest)
  drop_frame = rw (put.memory, append_assoc w (header_of 1 ++ checks_of w) rest) (drop_at w _ put.z length_word)

  pub correcting_announced : announced_of (drop (y - 34) m) ≡ Ok tt
  unfolding announced_of bit_of
  correcting_announced = let frame : y - 34 ≡ put.z = omega (arith, put.size) in rw (frame, drop_frame)

  -- the check bytes, behind frame and header
  drop_word : drop (put.z + 2) m ≡ checks_of w ++ rest
  drop_word =
      let memory : m ≡ (w ++ header_of 1) ++ (checks_of w ++ rest)
      = put.memory ∙ (append_assoc w (header_of 1 ++ checks_of w) rest ∙ sym (append_assoc w (header_of 1) _)) in
      rw memory
      (drop_at (w ++ header_of 1) _ (put.z + 2) (length-append w (header_of 1) ∙ ap (λ k. k + 2) length_word))

  pub correcting_word : take put.z m ++ take 32 (drop (put.z + 2) m) ≡ w ++ checks_of w
  correcting_word =
      ap₂ (λ (u v : List ℕ). u ++ take 32 v) take_word drop_word
      ∙ ap (λ (c : List ℕ). w ++ c) (take_at (checks_of w) rest 32 (length-checks_of w))

  pub correcting_corrects : Bytes s → Corrects (take (y - 34) m) (take 32 (drop (y - 32) m))
  correcting_corrects bytes =
      let c = corrects_checks w (bytes_take put.z s bytes) in
      let frame : y - 34 ≡ put.z = omega (arith, put.size) in
      let checks : y - 32 ≡ put.z + 2 = omega (arith, put.size) in
      rw (frame, checks, take_word, drop_word, take_at (checks_of w) rest 32 c.count) c

pub checks_correct : (w c : List ℕ) → Bytes w → Corrects w c ↔ (c ≡ checks_of w)
checks_correct w c bytes = (corrects_only w c bytes, λ e. subst (Corrects w) (sym e) (corrects_checks w bytes))
