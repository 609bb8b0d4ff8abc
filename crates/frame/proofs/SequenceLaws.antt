-- Any sequence of changes of an accepted frame (document 01, demand 3): in any order, refused ones among them.
--     changes_frame      the buffer begins with the frame of the changed content
--     changes_behind     the bytes behind the frame are unchanged
--     changes_write      so the buffer holds what writing the changed content afresh would leave in it
--     accepted_changes   the same for whatever buffer the reader accepts
--     changes_answer     a change is accepted exactly where its place is below n, whatever came before it
--     edited_last        of several changes at a place the last one holds; no other byte of the content changes
use mathlib.Core.Bool.{Bool, true, false, cond}
use mathlib.Core.List.{List, [], ◌∷◌, map}
use mathlib.Core.Path.{◌≡◌, refl, ap, sym, ◌∙◌}
use Prim.Native.Nat.{ℕ, ◌≤◌, ◌<◌}
use borrow.Author.Tests.{eqb-true, eqb-false}
use lib.Dec.{ltb, eqb}
use lib.ListN.{length, drop, get_or, set, length-set, take-append-drop}
use lib.Seq.{get_or-set_same, get_or-set_other}
use Rattle.std.specs.Prelude.{Result, Ok, Err}
use Rattle.answers.specs.declared.Refusal.{Refusal}
use Rattle.answers.specs.Outcome.{Outcome}
use Rattle.frame.specs.Formats.{sizes}
use Rattle.frame.specs.declared.Format.{Format}
use Rattle.frame.specs.Frames.{content_in, FrameAt}
use Rattle.frame.specs.Judging.{judge_of}
use Rattle.frame.specs.Writes.{writing_of}
use Rattle.frame.specs.Changes.{Edit, changing, answers_of, edited, last_at, changing_of}
use Rattle.frame.proofs.AcceptLaws.{judge_of_frame, judge_of-accepted, whole_frame}
use Rattle.frame.proofs.WriteLaws.{writing_of_frame}
use Rattle.frame.proofs.ChangeLaws.{change_answer, change_frame, change_behind}

pub changes_frame :
    {f : Format} {s : List ℕ} {z : ℕ} {c : List ℕ} (es : List Edit) → FrameAt f s z c
    → FrameAt f (changing f es s) z (edited es c)
unfolding changing edited
changes_frame [] at = at
changes_frame {f = f} {s = s} {z = z} {c = c} (e ∷ es) at = changes_frame {s = (changing_of f s e.place e.byte).memory}
    es (change_frame at e.place e.byte)

pub changes_behind :
    {f : Format} {s : List ℕ} {z : ℕ} {c : List ℕ} (es : List Edit) → FrameAt f s z c
    → drop z (changing f es s) ≡ drop z s
unfolding changing
changes_behind [] at = refl
changes_behind {f = f} {s = s} {z = z} {c = c} (e ∷ es) at =
    changes_behind {s = (changing_of f s e.place e.byte).memory} es (change_frame at e.place e.byte)
    ∙ change_behind at e.place e.byte

pub changes_write :
    (f : Format) (es : List Edit) (s : List ℕ) (z : ℕ) (c : List ℕ) → FrameAt f s z c
    → ◌≡◌ {A = Outcome (Result ℕ Refusal)} (record { answer = Ok z; memory = changing f es s })
    (writing_of f (edited es c) s)
changes_write f es s z c at =
    let room : z ≤ length s = (judge_of-accepted f s (judge_of_frame at)).fits in
    sym (writing_of_frame (changes_frame es at) s room
    ∙ rw (← changes_behind es at, take-append-drop z (changing f es s)))

pub accepted_changes :
    (f : Format) (es : List Edit) (s : List ℕ) (z n : ℕ) → judge_of f s ≡ Ok (sizes z n)
    → ◌≡◌ {A = Outcome (Result ℕ Refusal)} (record { answer = Ok z; memory = changing f es s })
    (writing_of f (edited es (content_in f n s)) s)
accepted_changes f es s z n h = changes_write f es s z (content_in f n s) (whole_frame (judge_of-accepted f s h))

pub changes_answer :
    (f : Format) (es : List Edit) (s : List ℕ) (z : ℕ) (c : List ℕ) → FrameAt f s z c
    → answers_of f es s
    ≡ map
    (λ (e : Edit). cond (ltb e.place (length c)) (Ok (sizes z (length c))) (Err Refusal.BadPlace)) es
unfolding answers_of
changes_answer f [] s z c at = refl
changes_answer f (e ∷ es) s z c at =
    let next = changes_answer f es _ z (set c e.place e.byte) (change_frame at e.place e.byte) in
    rw (change_answer at e.place e.byte, rw (length-set c e.place e.byte) at next)

get_or-set_eqb :
    (c : List ℕ) (e : Edit) (k : ℕ) (t : Bool) → eqb e.place k ≡ t → k < length c
    → get_or (set c e.place e.byte) k 0 ≡ cond t e.byte (get_or c k 0)
get_or-set_eqb c e k true h there = rw (eqb-true e.place k h) (get_or-set_same c k e.byte 0 there)
get_or-set_eqb c e k false h there =
    get_or-set_other c e.place k e.byte 0 (λ same. eqb-false e.place k h (sym same))

pub edited_last :
    (es : List Edit) (c : List ℕ) (k : ℕ) → k < length c → get_or (edited es c) k 0 ≡ last_at es k (get_or c k 0)
unfolding edited last_at
edited_last [] c k there = refl
edited_last (e ∷ es) c k there =
    edited_last es (set c e.place e.byte) k (rw (length-set c e.place e.byte) there)
    ∙ ap (last_at es k) (get_or-set_eqb c e k (eqb e.place k) refl there)
