-- Reading, writing and changing a frame in bytes are judged as document 01 says (specs/Ladders). Where a call goes on
-- from what was judged, `told` makes of that what the call answers, and hands on a refusal as it is.
use mathlib.Core.Bool.{Bool, true, false, cond, ◌&&◌, false≢true}
use mathlib.Core.List.{List, [], ◌∷◌, ◌++◌}
use mathlib.Core.Logic.{inl, inr}
use mathlib.Core.Path.{◌≡◌, refl, sym, ◌∙◌, subst}
use Prim.Native.Nat.{ℕ, ◌≤◌, ◌<◌}
use native.Mathlib.Omega.{arith}
use borrow.Author.Tests.{ltb-true, ltb-false, leb-true, leb-false}
use lib.Dec.{ltb, leb}
use lib.ListN.{length, drop}
use Rattle.std.specs.Prelude.{Result, Ok, Err, Option, Some, None}
use Rattle.answers.specs.declared.Refusal.{Refusal}
use Rattle.answers.specs.Outcome.{leaving}
use Rattle.ground.proofs.CaseLaws.{zero_not_one}
use Rattle.crc.specs.CheckUpdate.{updating}
use Rattle.crc.proofs.UpdateLaws.{updating_mends}
use Rattle.blocks.specs.Spans.{first_wrong}
use Rattle.frame.specs.declared.Format.{Format}
use Rattle.frame.specs.declared.Frame.{Frame}
use Rattle.frame.specs.Formats.{form_of, within, spans_of, frame_size, size_for, sizes}
use Rattle.frame.specs.Frames.{frame_of, content_in, FrameAt}
use Rattle.frame.specs.Judging.{by_checks, by_length, judge_of}
use Rattle.frame.specs.Reads.{taken_out, reading_of}
use Rattle.frame.specs.Writes.{writing_of}
use Rattle.frame.specs.Changes.{set_in, changing_of}
use Rattle.frame.proofs.AcceptLaws.{judge_of-accepted, whole_frame, whole_length}
use Rattle.frame.proofs.FormatLaws.{true_within}
use Rattle.demands.specs.Rules.{Rule, ◌when◌else◌, ◌showing◌else◌, given, accept, Judged, JudgedLent}
use Rattle.demands.specs.Cases.{Announces, NotAllowed, FirstWrongBlock, BadContent}
use Rattle.demands.specs.Ladders.{update_rule, size_rule, judge_steps, judge_rule, read_rule, change_rule, write_rule}
use Rattle.demands.proofs.RuleLaws.{Follows, judged, judged_err, taken_bare, passed_bare, tells-lt, follows-lt, follows_unless, never_refused, unchanged}
use Rattle.demands.proofs.CaseLaws.{allowed_announces, announces_allowed, announces_same, first_wrong_block, no_wrong_block, wrong_block_same}

module _ {B : Type 0} {refused : Refusal → B} (told : Result Frame Refusal → B)
    (passes : (r : Refusal) → told (Err r) ≡ refused r) (f : Format) where
  -- 2, then whatever is judged knowing how many bytes the length byte announces
  pub size_follows :
      (l : ℕ) (rest : ℕ → Rule B)
      → ((n : ℕ) → Announces f l n → Follows refused (rest n) (told (Ok (sizes (frame_size f n) n))))
      → Follows refused (2 when NotAllowed f l else given (Announces f l) rest) (told (size_for f l))
  size_follows l rest go = by ((form_of f).allowed l) refl where
    n : ℕ
    n = (form_of f).content_length l

    by :
        (t : Bool) → (form_of f).allowed l ≡ t
        → Follows refused (2 when NotAllowed f l else given (Announces f l) rest)
        (told (cond t (Ok (sizes (frame_size f n) n)) (Err Refusal.BadLength)))
    by true e =
        let a = allowed_announces f l e in
        passed_bare (λ none. none n a) (Follows.found n a (announces_same f l) (go n a))
    by false e =
        subst (Follows refused (2 when NotAllowed f l else given (Announces f l) rest))
        (sym (passes Refusal.BadLength))
        (taken_bare Refusal.BadLength (λ n a. false≢true (sym e ∙ announces_allowed f l n a)) refl refl)

  -- 3, then the rest, where all blocks are there
  pub checks_follow :
      (n z : ℕ) (s : List ℕ) (rest : Rule B) → frame_size f n ≤ length s
      → (first_wrong 1 (spans_of f n) s ≡ None → Follows refused rest (told (Ok (sizes z n))))
      → (w : Option ℕ) → first_wrong 1 (spans_of f n) s ≡ w
      → Follows refused (3 showing FirstWrongBlock (spans_of f n) s else rest) (told (by_checks z n w))
  unfolding by_checks frame_size
  checks_follow n z s rest fits go None e =
      Follows.passed (λ b. no_wrong_block (spans_of f n) s fits b e) (go e)
  checks_follow n z s rest fits go (Some b) e =
      let first = first_wrong_block (spans_of f n) s fits b e in
      subst (Follows refused (3 showing FirstWrongBlock (spans_of f n) s else rest))
      (sym (passes (Refusal.WrongCheck b)))
      (Follows.taken (Refusal.WrongCheck b) refl first (λ w p. wrong_block_same (spans_of f n) s w b p first))

pub size_judged : (f : Format) (l : ℕ) → Judged Err (size_rule f l) (size_for f l)
size_judged f l =
    judged (λ p q e. cc) (λ r w. zero_not_one (let e = w.1.1 in cc))
    (size_follows (λ x. x) (λ r. refl) f l (λ n. accept (λ r. r ≡ Ok (sizes (frame_size f n) n)))
    (λ n a. Follows.ended refl))

module _ {B : Type 0} {refused : Refusal → B} (told : Result Frame Refusal → B)
    (passes : (r : Refusal) → told (Err r) ≡ refused r) (f : Format) where
  -- all bytes there: 1, then the checks
  length_follows :
      (n : ℕ) (s : List ℕ) (whole : Rule B) → let z = frame_size f n in
      (by_length f s (Ok (sizes z n)) ≡ Ok (sizes z n) → Follows refused whole (told (Ok (sizes z n))))
      → Follows refused (1 when length s < z else 3 showing FirstWrongBlock (spans_of f n) s else whole)
      (told (by_length f s (Ok (sizes z n))))
  unfolding by_length by_checks
  length_follows n s whole go = by (ltb (length s) z) refl where
    z : ℕ
    z = frame_size f n

    by :
        (t : Bool) → ltb (length s) z ≡ t
        → Follows refused (1 when length s < z else 3 showing FirstWrongBlock (spans_of f n) s else whole)
        (told (cond t (Err Refusal.Short) (by_checks z n (first_wrong 1 (spans_of f n) s))))
    by true e =
        subst (Follows refused (1 when length s < z else 3 showing FirstWrongBlock (spans_of f n) s else whole))
        (sym (passes Refusal.Short)) (taken_bare Refusal.Short (ltb-true (length s) z e) refl refl)
    by false e =
        passed_bare ((tells-lt (length s) z).not e)
        (checks_follow told passes f n z s whole (ltb-false (length s) z e)
        (λ right. go (rw (e, right))) (first_wrong 1 (spans_of f n) s) refl)

  pub judge_follows :
      (s : List ℕ) (whole : ℕ → Rule B)
      → ((n : ℕ) → judge_of f s ≡ Ok (sizes (frame_size f n) n)
      → Follows refused (whole n) (told (Ok (sizes (frame_size f n) n))))
      → Follows refused (judge_steps f s whole) (told (judge_of f s))
  unfolding judge_of by_length
  judge_follows [] whole go =
      subst (Follows refused (judge_steps f [] whole)) (sym (passes Refusal.Short))
      (taken_bare Refusal.Short refl refl refl)
  judge_follows (l ∷ s) whole go =
      passed_bare (λ e. omega (arith, e))
      (size_follows (λ x. told (by_length f (l ∷ s) x)) (λ r. by_length_refused r) f l
      (λ n. 1 when length (l ∷ s) < frame_size f n
      else 3 showing FirstWrongBlock (spans_of f n) (l ∷ s) else whole n)
      (λ n a. length_follows n (l ∷ s) (whole n) (λ e. go n (sized n a e))))
    where
      by_length_refused : (r : Refusal) → told (by_length f (l ∷ s) (Err r)) ≡ refused r
      by_length_refused r = passes r

      sized :
          (n : ℕ) → Announces f l n → let whole = Ok (sizes (frame_size f n) n) in
          by_length f (l ∷ s) whole ≡ whole → by_length f (l ∷ s) (size_for f l) ≡ whole
      sized n a e = rw (announces_allowed f l n a, ← announces_same f l n a) e

pub judge_judged : (f : Format) (s : List ℕ) → Judged Err (judge_rule f s) (judge_of f s)
judge_judged f s =
    judged (λ p q e. cc) (λ r w. zero_not_one (let e = w.1.1 in cc))
    (judge_follows (λ x. x) (λ r. refl) f s (λ n. accept (λ r. r ≡ Ok (sizes (frame_size f n) n)))
    (λ n e. Follows.ended refl))

module _ (f : Format) (s : List ℕ) where
  -- the content of the frame that was accepted
  content : (n : ℕ) → judge_of f s ≡ Ok (sizes (frame_size f n) n)
      → (length (content_in f n s) ≡ n) × FrameAt f s (frame_size f n) (content_in f n s)
  content n e =
      let whole = judge_of-accepted f s e in
      (whole_length whole, whole_frame whole)

  read_follows : (d : List ℕ) → Follows (unchanged d) (read_rule f s d) (reading_of f s d)
  unfolding reading_of taken_out
  read_follows d =
      judge_follows (taken_out f s d) (λ r. refl) f s _
      (λ n e. follows-lt (length d) n Refusal.NoRoom refl refl
      (λ room. let c = content n e in Follows.ended (content_in f n s, (c.0, (c.1, refl)))))

  pub read_judged : (d : List ℕ) → JudgedLent Err d (read_rule f s d) (reading_of f s d)
  read_judged d =
      judged_err (λ x r a. never_refused x r a.1.1.1.1.1) (read_follows d)

  change_follows :
      (k b : ℕ) → Follows (unchanged s) (change_rule f s k b) (changing_of f s k b)
  unfolding changing_of set_in
  change_follows k b =
      judge_follows (set_in f s k b) (λ r. refl) f s _
      (λ n e. follows_unless (ltb k n) Refusal.BadPlace (λ inside far. omega (arith, ltb-true k n inside))
      (ltb-false k n) refl refl
      (λ inside. let c = content n e in Follows.ended (content_in f n s, (c.0, (c.1, refl)))))

  pub change_judged : (k b : ℕ) → JudgedLent Err s (change_rule f s k b) (changing_of f s k b)
  change_judged k b =
      judged_err (λ x r a. never_refused x r a.1.1.1.1.1) (change_follows k b)

-- 5: what the two tests of a content's length say
pub content_kept : (f : Format) (n : ℕ) → within (form_of f).shortest (form_of f).longest n ≡ true → BadContent f n → ⊥
content_kept f n e (inl h) = omega (arith, true_within (form_of f).shortest (form_of f).longest n e)
content_kept f n e (inr h) = omega (arith, true_within (form_of f).shortest (form_of f).longest n e)

pub content_left : (f : Format) (n : ℕ) → within (form_of f).shortest (form_of f).longest n ≡ false → BadContent f n
content_left f n e = by (leb (form_of f).shortest n) refl e where
  by : (t : Bool) → leb (form_of f).shortest n ≡ t → t && leb n (form_of f).longest ≡ false → BadContent f n
  by true h g = inr (omega (arith, leb-false n (form_of f).longest g))
  by false h g = inl (omega (arith, leb-false (form_of f).shortest n h))

-- what the two tests of writing lead to
module _ (f : Format) (c d : List ℕ) where
  abbrev size : ℕ
  size = frame_size f (length c)

  write_follows :
      (t u : Bool) → within (form_of f).shortest (form_of f).longest (length c) ≡ t → ltb (length d) size ≡ u
      → Follows (unchanged d) (write_rule f c d)
      (cond t
      (cond u (leaving (Err Refusal.NoRoom) d)
      (record { answer = Ok size; memory = frame_of f c ++ drop size d }))
      (leaving (Err Refusal.BadContent) d))
  write_follows false u e h = taken_bare Refusal.BadContent (content_left f (length c) e) refl refl
  write_follows true true e h =
      passed_bare (content_kept f (length c) e)
      (taken_bare Refusal.NoRoom (ltb-true (length d) size h) refl refl)
  write_follows true false e h =
      passed_bare (content_kept f (length c) e)
      (passed_bare ((tells-lt (length d) size).not h) (Follows.ended refl))

pub write_judged : (f : Format) (c d : List ℕ) → JudgedLent Err d (write_rule f c d) (writing_of f c d)
unfolding writing_of
write_judged f c d =
    judged_err never_refused
    (write_follows f c d (within (form_of f).shortest (form_of f).longest (length c))
    (ltb (length d) (frame_size f (length c))) refl refl)

pub update_judged : (c old new k : ℕ) → Judged Err (update_rule c old new k) (updating c old new k)
update_judged c old new k =
    judged (λ p q e. cc) (λ r w. zero_not_one (let e = w.0 in cc))
    (follows_unless (leb k 125) Refusal.OutOfRange (λ near far. omega (arith, leb-true k 125 near))
    (λ e. omega (arith, leb-false k 125 e)) refl refl
    (λ near.
    let mends = updating_mends c old new k (leb-true k 125 near) in
    Follows.ended (refl, λ pre post size check. rw near at (mends pre post size check))))
