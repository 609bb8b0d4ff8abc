-- What holds of a word that was written: c is a code word, its frame has z bytes by its own length byte, and r is what
-- was received of it.
--     word-proposed    where at most k bytes of it are wrong, the length byte not among them, it is proposed
--     word_taken       where at most 16 are, it is taken, with whatever stands behind it, and with their number
--     taken_once       two proposals with one length byte that are taken for one reception are one word
--     word_only        so no other word with the length byte of the written one is
--     one_byte_near    where one byte of a code word is wrong, but not the first, the code word is near
--     taken_judged     a taken frame is whole
-- Assumes nothing.
use mathlib.Core.List.{List, [], ◌++◌, append-nil}
use mathlib.Core.Logic.{◌⊎◌, inl, inr}
use mathlib.Core.Path.{◌≡◌, sym, ap, subst, ◌∙◌}
use Prim.Native.Nat.{ℕ, ◌+◌, ◌≤◌, ◌<◌}
use native.Mathlib.Omega.{arith}
use lib.ListN.{length, get_or, take, drop, set, length-append, length-set, get_or-append}
use lib.Seq.{take_at, take_all, length-take-le, get_or-set_other}
use Rattle.std.specs.Prelude.{Option, Some, None, Result, Ok, Err}
use Rattle.answers.specs.Outcome.{leaving}
use Rattle.answers.specs.declared.Refusal.{Refusal}
use Rattle.ground.specs.Apart.{apart}
use Rattle.ground.specs.Bytes.{Bytes}
use Rattle.ground.proofs.ApartLaws.{apart_comm, apart-set}
use Rattle.ground.proofs.ByteLaws.{bytes_take}
use Rattle.blocks.specs.Spans.{first_wrong}
use Rattle.frame.specs.declared.Format.{Format}
use Rattle.frame.specs.declared.Frame.{Frame}
use Rattle.frame.specs.Formats.{sizes, spans_of, size_for}
use Rattle.frame.specs.Judging.{by_checks, judge_of}
use Rattle.frame.proofs.JudgeLaws.{sizes_settled, judge_of_whole}
use Rattle.codewords.specs.CodeBlocks.{CodeBlock}
use Rattle.codewords.proofs.NearLaws.{near_one}
use Rattle.proposals.specs.Received.{received}
use Rattle.proposals.specs.Near.{Near}
use Rattle.proposals.specs.Proposals.{proposal_of, proposing_of}
use Rattle.proposals.specs.TakenWith.{TakenWith}
use Rattle.proposals.proofs.CodeLaws.{code-is_code_block}
use Rattle.proposals.proofs.NearestLaws.{near, nearest_near}
use Rattle.proposals.proofs.ReceivedLaws.{length-received, first-received}
use Rattle.proposals.proofs.ProposalLaws.{size_in_is, proposal_compared, compared_taken, proposing_done, taken_exactly, corrects_code}

-- ---- a code word with one byte changed

pub one_byte_near : (c : List ℕ) (i b : ℕ) → Bytes c → CodeBlock c → 0 < i → Near 1 (set c i b) c
one_byte_near c i b bytes code behind =
    near bytes code (sym (length-set c i b)) (sym (get_or-set_other c i 0 b 0 (λ e. omega arith)))
    (omega (arith, apart_comm (set c i b) c, apart-set c i b))

-- ---- a word that was written

pub record Sent (f : Format) (c : List ℕ) (z n : ℕ) : Type 0 where
  pub bytes : Bytes c
  pub code : CodeBlock c
  pub count : length c ≡ z + 32
  pub size : size_for f (get_or c 0 0) ≡ Ok (sizes z n)
  pub some : 0 < z
  pub most : z ≤ 223

module _ {f : Format} {c : List ℕ} {z n : ℕ} (sent : Sent f c z n) (r : List ℕ) (there : z + 34 ≤ length r) where
  near-received : (k : ℕ) → get_or r 0 0 ≡ get_or c 0 0 → apart (received z r) c ≤ k → Near k (received z r) c
  near-received k same few =
      near sent.bytes sent.code (sent.count ∙ sym (length-received r z there))
      (sym (first-received r z there sent.some ∙ same)) few

  pub word-proposed :
      (k : ℕ) → k ≤ 16 → Bytes (received z r) → get_or r 0 0 ≡ get_or c 0 0 → apart (received z r) c ≤ k
      → (e : List ℕ) → z + 32 ≤ length e
      → proposing_of k f r e ≡ leaving (Ok (z + 32)) (c ++ drop (z + 32) e)
  word-proposed k low bytes same few e room =
      let sized = size_in_is f r (omega arith) (ap (size_for f) same ∙ sent.size) sent.most in
      let short : length (received z r) ≤ 255 = omega (arith, length-received r z there, sent.most) in
      proposing_done k f r e sized there room
      ∙ ap (λ (w : List ℕ). leaving (Ok (z + 32)) (w ++ drop (z + 32) e))
      (nearest_near k (received z r) low short bytes c (near-received k same few))

  module _ (few : apart (received z r) c ≤ 16) where
    pub word_taken : (t : List ℕ) → proposal_of f (c ++ t) r ≡ Ok (apart (received z r) c)
    word_taken t =
        let whole = take_at c t (z + 32) sent.count in
        let long : z + 32 ≤ length (c ++ t) = omega (arith, length-append c t, sent.count) in
        let first = get_or-append c t 0 0 (omega (arith, sent.count)) in
        let sized = size_in_is f (c ++ t) (omega arith) (ap (size_for f) first ∙ sent.size) sent.most in
        proposal_compared f (c ++ t) r sized long there
        ∙ rw whole (compared_taken (received z r) c (code-is_code_block c sent.code) few)

-- ---- two proposals for one reception

both_taken :
    (f : Format) (p q s : List ℕ) (z : ℕ) {c d : ℕ} → Bytes p → Bytes q → TakenWith f p s z c → TakenWith f q s z d
    → take (z + 32) p ≡ take (z + 32) q
both_taken f p q s z bp bq tp tq =
    let long = length-received s z tp.there in
    let sp = length-take-le (z + 32) p tp.proposed in
    let sq = length-take-le (z + 32) q tq.proposed in
    near_one (received z s) (take (z + 32) p) (take (z + 32) q) (long ∙ sym sp) (long ∙ sym sq)
    (omega (arith, long, tp.most)) (bytes_take (z + 32) p bp) (bytes_take (z + 32) q bq)
    (corrects_code z p bp tp.proposed tp.code_word) (corrects_code z q bq tq.proposed tq.code_word)
    (omega (arith, tp.differing, tp.few)) (omega (arith, tq.differing, tq.few))

size_once : {f : Format} {p q s : List ℕ} {y z c d : ℕ} → get_or p 0 0 ≡ get_or q 0 0
    → TakenWith f p s z c → TakenWith f q s y d → y ≡ z
size_once {f} same tp tq = (sizes_settled (sym tq.size ∙ ap (size_for f) (sym same) ∙ tp.size)).0

pub taken_once :
    (f : Format) (p q s : List ℕ) (z c d : ℕ) → Bytes p → Bytes q → get_or p 0 0 ≡ get_or q 0 0 → TakenWith f p s z c
    → proposal_of f q s ≡ Ok d → take (z + 32) p ≡ take (z + 32) q
taken_once f p q s z c d bp bq same tp taken =
    let (y, tq) = (taken_exactly f q s d bq).0 taken in
    both_taken f p q s z bp bq tp (subst (λ (x : ℕ). TakenWith f q s x d) (size_once same tp tq) tq)

-- the word that was written is one of them
module _ {f : Format} {c : List ℕ} {z n : ℕ} (sent : Sent f c z n) (r : List ℕ) (there : z + 34 ≤ length r)
    (few : apart (received z r) c ≤ 16) where
  sent_taken : TakenWith f c r z (apart (received z r) c)
  sent_taken =
      let (y, t) = (taken_exactly f c r _ sent.bytes).0 (rw (append-nil c) at (word_taken sent r there few [])) in
      subst (λ (x : ℕ). TakenWith f c r x (apart (received z r) c)) (sizes_settled (sym t.size ∙ sent.size)).0 t

  pub word_only :
      (p : List ℕ) (d : ℕ) → Bytes p → get_or p 0 0 ≡ get_or c 0 0 → proposal_of f p r ≡ Ok d
      → take (z + 32) p ≡ c
  word_only p d bytes same taken =
      sym (taken_once f c p r z _ d sent.bytes bytes (sym same) sent_taken taken)
      ∙ take_all (z + 32) c (omega (arith, sent.count))

-- ---- a taken frame

checked_judged : (z n : ℕ) (w : Option ℕ) {j : Result Frame Refusal} → j ≡ by_checks z n w
    → ((y : ℕ) × ((m : ℕ) × (j ≡ Ok (sizes y m)))) ⊎ ((b : ℕ) × (j ≡ Err (Refusal.WrongCheck b)))
unfolding by_checks
checked_judged z n None e = inl (z, (n, e))
checked_judged z n (Some b) e = inr (b, e)

pub taken_judged : (f : Format) (p s : List ℕ) (d : ℕ) → Bytes p → proposal_of f p s ≡ Ok d
    → ((z : ℕ) × ((n : ℕ) × (judge_of f p ≡ Ok (sizes z n))))
    ⊎ ((b : ℕ) × (judge_of f p ≡ Err (Refusal.WrongCheck b)))
taken_judged f p s d bytes taken =
    let (z, t) = (taken_exactly f p s d bytes).0 taken in
    checked_judged z t.n (first_wrong 1 (spans_of f t.n) p)
    (judge_of_whole f p (omega (arith, t.proposed)) t.size (omega (arith, t.proposed)))
