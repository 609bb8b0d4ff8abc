-- A frame on its way through a cellar: `sent` is what was written of s, one byte of it comes wrong, and `out` is what
-- is proposed then.
--     place_inside     the byte is one of those that were written
--     cellar_made      a proposal is made
--     cellar_taken     it is taken
--     cellar_read      and reading it is reading s
-- Assumes nothing.
use mathlib.Core.List.{List}
use mathlib.Core.Path.{◌≡◌, sym, ap, ◌∙◌}
use Prim.Native.Nat.{ℕ, ◌≤◌, ◌<◌}
use native.Mathlib.Omega.{arith}
use lib.ListN.{length, replicate, set}
use Rattle.std.specs.Prelude.{Result, Ok, Err}
use Rattle.answers.specs.declared.Refusal.{Refusal}
use Rattle.answers.specs.Outcome.{Outcome, leaving}
use Rattle.ground.specs.Apart.{apart}
use Rattle.ground.specs.Bytes.{Bytes}
use Rattle.ground.proofs.CaseLaws.{zero_not_one}
use Rattle.frame.specs.declared.Format.{Format}
use Rattle.frame.specs.declared.Frame.{Frame}
use Rattle.frame.specs.Frames.{content_in, FrameAt}
use Rattle.frame.specs.Judging.{judge_of}
use Rattle.frame.specs.Reads.{reading_of}
use Rattle.frame.proofs.AcceptLaws.{judge_of-accepted, whole_frame}
use Rattle.frame.proofs.FormatLaws.{longest-le}
use Rattle.frame.proofs.ReadLaws.{read_accepts}
use Rattle.frame.specs.Formats.{sizes}
use Rattle.codewords.specs.Corrections.{correcting_of}
use Rattle.proposals.specs.Received.{received}
use Rattle.proposals.specs.Proposals.{proposal_of, proposing_of}
use Rattle.demands.specs.MendedAgain.{MendedAgain}
use Rattle.demands.proofs.CorrectionPromiseLaws.{Put, correcting_put}
use Rattle.demands.proofs.Demands.{mending_promise}
use Rattle.demands.proofs.MendingPromiseLaws.{written_long}

module _ (f : Format) (s sent lent : List ℕ) (size place byte : ℕ) (bytes : Bytes s)
    (written : leaving (Ok size) sent ≡ correcting_of f s lent) where
  accepted : (correcting_of f s lent).answer ≡ Ok size
  accepted = ap (λ (o : Outcome (Result ℕ Refusal)). o.answer) (sym written)

  memory_is : (correcting_of f s lent).memory ≡ sent
  memory_is = ap (λ (o : Outcome (Result ℕ Refusal)). o.memory) (sym written)

  abbrev put : Put s lent (correcting_of f s lent) (judge_of f s) size
  put = correcting_put f s lent size accepted

  abbrev z : ℕ
  z = put.z

  pub place_inside : place < size → place < length sent
  place_inside h = omega (arith, written_long f s lent size bytes accepted, put.size, ap length memory_is)

  -- the frame is one that reading accepts, and its correction had room, so that the page speaks of it
  frame_there : FrameAt f s z (content_in f put.n s)
  frame_there = whole_frame (judge_of-accepted f s put.frame)

  read_first : (reading_of f s (replicate 255 0)).answer ≡ Ok (sizes z (length (content_in f put.n s)))
  read_first =
      ap (λ (o : Outcome (Result Frame Refusal)). o.answer)
      (read_accepts frame_there (replicate 255 0) (omega (arith, frame_there.high, longest-le f)))

  module _ (behind : 1 ≤ place) (inside : place < size) (small : byte < 256) (e : List ℕ) (room : size ≤ length e)
      {a : Result ℕ Refusal} {out : List ℕ}
      (proposed : leaving a out ≡ proposing_of 1 f (set sent place byte) e) where
    abbrev m : List ℕ
    m = (correcting_of f s lent).memory

    again : MendedAgain 1 f s m (set m place byte) e z (apart (received z (set m place byte)) (received z m))
    again =
        (mending_promise.mended_and_read f s (replicate 255 0) z _ bytes read_first put.most lent put.room place
        byte behind (omega (arith, put.size)) small e (omega (arith, put.size))).1.1

    out_is : (proposing_of 1 f (set m place byte) e).memory ≡ out
    out_is =
        ap (λ (l : List ℕ). (proposing_of 1 f (set l place byte) e).memory) memory_is
        ∙ ap (λ (o : Outcome (Result ℕ Refusal)). o.memory) (sym proposed)

    -- a proposal is made, so that this is no refusal
    pub cellar_made : (r : Refusal) → a ≡ Err r → ⊥
    cellar_made r refused =
        let answer = ap (λ (l : List ℕ). (proposing_of 1 f (set l place byte) e).answer) memory_is in
        let made = ap (λ (o : Outcome (Result ℕ Refusal)). o.answer) proposed in
        zero_not_one (let is = sym again.answer ∙ (answer ∙ (sym made ∙ refused)) in cc)

    -- nor is this
    pub cellar_taken : (r : Refusal) → proposal_of f out (set sent place byte) ≡ Err r → ⊥
    cellar_taken r refused =
        let taken = rw (out_is, memory_is) at again.taken in
        zero_not_one (let is = sym taken ∙ refused in cc)

    pub cellar_read : (room : List ℕ) → reading_of f out room ≡ reading_of f s room
    cellar_read room = rw out_is at (again.read room)
