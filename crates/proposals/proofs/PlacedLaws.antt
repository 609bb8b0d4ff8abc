-- What making a proposal leaves in the lent memory (specs/Proposals `proposing_of`), for one k and for another. With
-- k = 0 it is the received word as it is.
--     nearest_zero    with no wrong byte to mend, what is proposed is the word itself
--     refused_alike   what is refused with one k is refused with another
--     Placed, placed  what is accepted: a word of so many bytes, then what stood behind it
--     word_in, length_word, room_in    the word in the memory, with k = 0
--     proposal_put    this word replaced by what is proposed
--     placed_again    and placed once more
--     proposed_judged   what a proposal for up to 16 wrong bytes is judged: taken, or no code word
-- Assumes nothing.
use mathlib.Core.Bool.{Bool, true, false, cond}
use mathlib.Core.List.{List, [], ◌∷◌, ◌++◌}
use mathlib.Core.Logic.{◌⊎◌, inl, inr, ⊎_elim}
use mathlib.Core.Path.{◌≡◌, refl, sym, ap, ap₂, ◌∙◌}
use Prim.Native.Nat.{ℕ, ◌+◌, ◌-◌, ◌≤◌, ◌<◌}
use native.Mathlib.Omega.{arith}
use borrow.Author.Tests.{ltb-true, ltb-false}
use lib.Dec.{ltb}
use lib.ListN.{length, get_or, take, drop, length-append, get_or-append}
use lib.Seq.{take_at, drop_at}
use Rattle.std.specs.Prelude.{Result, Ok, Err}
use Rattle.answers.specs.Outcome.{Outcome, leaving}
use Rattle.answers.specs.declared.Refusal.{Refusal}
use Rattle.ground.specs.Apart.{apart}
use Rattle.ground.specs.Bytes.{Bytes}
use Rattle.ground.proofs.CaseLaws.{by_test}
use Rattle.frame.specs.declared.Format.{Format}
use Rattle.frame.specs.declared.Frame.{Frame}
use Rattle.frame.specs.Formats.{sizes, size_for}
use Rattle.frame.proofs.AcceptLaws.{size_for_some}
use Rattle.proposals.specs.Received.{size_in, received}
use Rattle.proposals.specs.Near.{Near, around, is_code_block, first_code_block, nearest_of}
use Rattle.proposals.specs.Proposals.{compared, proposal_of, proposing_of}
use Rattle.proposals.proofs.CodeLaws.{is_code_block_code}
use Rattle.proposals.proofs.NearestLaws.{near_self, nearest_is}
use Rattle.proposals.proofs.ProposalLaws.{size_in_is, size_in-accepted, proposal_compared, compared_no_code, proposing_refused, proposing_short, proposing_no_room, proposing_done}
use Rattle.proposals.proofs.ReceivedLaws.{length-received, first-received, bytes-received}
use Rattle.proposals.proofs.WrittenLaws.{Sent, word_taken}

either_way : {A : Type 0} (t : Bool) (a : A) → cond t a a ≡ a
either_way true a = refl
either_way false a = refl

pub nearest_zero : (w : List ℕ) → nearest_of 0 w ≡ w
unfolding nearest_of around first_code_block
nearest_zero [] = refl
nearest_zero (l ∷ []) = either_way (is_code_block (l ∷ [])) (l ∷ [])
nearest_zero (l ∷ x ∷ w) = either_way (is_code_block (l ∷ x ∷ w)) (l ∷ x ∷ w)

-- ---- by the cases of what is refused

module _ (f : Format) (s d : List ℕ) where
  -- each way that making a proposal can go, for every k
  module _ {P : Type 0} (refused : (r : Refusal) → ((k : ℕ) → proposing_of k f s d ≡ leaving (Err r) d) → P)
      (done : (z n : ℕ) → size_in f s ≡ Ok (sizes z n) → z + 34 ≤ length s → z + 32 ≤ length d → P) where
    with_room : (z n : ℕ) → size_in f s ≡ Ok (sizes z n) → z + 34 ≤ length s → P
    with_room z n e there =
        by_test (ltb (length d) (z + 32))
        (λ t. refused Refusal.NoRoom (λ k. proposing_no_room k f s d e there (ltb-true (length d) (z + 32) t)))
        (λ t. done z n e there (ltb-false (length d) (z + 32) t))

    sized : (j : Result Frame Refusal) → size_in f s ≡ j → P
    sized (Err r) e = refused r (λ k. proposing_refused k f s d e)
    sized (Ok a) e =
        by_test (ltb (length s) (a.size + 34))
        (λ t. refused Refusal.Short (λ k. proposing_short k f s d e (ltb-true (length s) (a.size + 34) t)))
        (λ t. with_room a.size a.n e (ltb-false (length s) (a.size + 34) t))

    pub ways : P
    ways = sized (size_in f s) refl

-- ---- refused

module _ (f : Format) (s d : List ℕ) {m : List ℕ} {r : Refusal}
    (made : leaving (Err r) m ≡ (proposing_of 0 f s d)) where
  alike : (r' : Refusal) → ((k : ℕ) → proposing_of k f s d ≡ leaving (Err r') d) → (k : ℕ)
      → leaving (Err r) m ≡ proposing_of k f s d
  alike r' all k = made ∙ all 0 ∙ sym (all k)

  never : (z n : ℕ) → size_in f s ≡ Ok (sizes z n) → z + 34 ≤ length s → z + 32 ≤ length d → (k : ℕ)
      → leaving (Err r) m ≡ proposing_of k f s d
  never z n e there room k =
      let same = ap (λ (o : Outcome (Result ℕ Refusal)). o.answer) (made ∙ proposing_done 0 f s d e there room) in cc

  pub refused_alike : (k : ℕ) → leaving (Err r) m ≡ proposing_of k f s d
  refused_alike = ways f s d alike never

-- ---- accepted

pub record Placed (j : ℕ) (f : Format) (s d : List ℕ) (n : ℕ) (m : List ℕ) : Type 0 where
  pub size : ℕ
  pub content : ℕ
  pub sized : size_in f s ≡ Ok (sizes size content)
  pub is : n ≡ size + 32
  pub most : size ≤ 223
  pub there : size + 34 ≤ length s
  pub room : size + 32 ≤ length d
  pub memory : m ≡ nearest_of j (received size s) ++ drop (size + 32) d
  pub proposed :
      (k : ℕ)
      → proposing_of k f s d
      ≡ leaving (Ok (size + 32)) (nearest_of k (received size s) ++ drop (size + 32) d)

module _ (j : ℕ) (f : Format) (s d : List ℕ) {m : List ℕ} {n : ℕ}
    (made : leaving (Ok n) m ≡ (proposing_of j f s d)) where
  impossible : (r : Refusal) → ((k : ℕ) → proposing_of k f s d ≡ leaving (Err r) d) → Placed j f s d n m
  impossible r all =
      let same = ap (λ (o : Outcome (Result ℕ Refusal)). o.answer) (made ∙ all j) in cc

  there_placed : (z l : ℕ) → size_in f s ≡ Ok (sizes z l) → z + 34 ≤ length s → z + 32 ≤ length d
      → Placed j f s d n m
  there_placed z l e there room =
      let same = made ∙ proposing_done j f s d e there room in
      let answers = ap (λ (o : Outcome (Result ℕ Refusal)). o.answer) same in
      let counted : n ≡ z + 32 = cc in
      record {
        size = z;
        content = l;
        sized = e;
        is = counted;
        most = (size_in-accepted f s e).most;
        there = there;
        room = room;
        memory = ap (λ (o : Outcome (Result ℕ Refusal)). o.memory) same;
        proposed = λ k. proposing_done k f s d e there room;
      }

  pub placed : Placed j f s d n m
  placed = ways f s d impossible there_placed

-- the memory cut at its word, as a slice of it is lent and comes back
module _ {f : Format} {s d m : List ℕ} {n : ℕ} (p : Placed 0 f s d n m) where
  placed_word : m ≡ received p.size s ++ drop (p.size + 32) d
  placed_word =
      p.memory ∙ ap (λ (w : List ℕ). w ++ drop (p.size + 32) d) (nearest_zero (received p.size s))

  pub word_in : take n m ≡ received p.size s
  word_in =
      ap₂ take p.is placed_word
      ∙ take_at (received p.size s) (drop (p.size + 32) d) (p.size + 32) (length-received s p.size p.there)

  after : drop n m ≡ drop (p.size + 32) d
  after =
      ap₂ drop p.is placed_word
      ∙ drop_at (received p.size s) (drop (p.size + 32) d) (p.size + 32) (length-received s p.size p.there)

  pub length_word : length (take n m) ≡ p.size + 32
  length_word = ap length word_in ∙ length-received s p.size p.there

  length_placed : length m ≡ length (received p.size s) + length (drop (p.size + 32) d)
  length_placed = ap length placed_word ∙ length-append (received p.size s) (drop (p.size + 32) d)

  pub room_in : n ≤ length m
  room_in = omega (arith, length_placed, length-received s p.size p.there, p.is)

  -- the word of the memory replaced by what is proposed
  pub proposal_put : (k : ℕ) {w : List ℕ} → w ≡ nearest_of k (take n m)
      → leaving (Ok n) (w ++ drop n m) ≡ proposing_of k f s d
  proposal_put k e =
      ap₂ (λ (a : ℕ) (l : List ℕ). leaving (Ok a) l) p.is
      (ap₂ (λ (a b : List ℕ). a ++ b) (e ∙ ap (nearest_of k) word_in) after)
      ∙ sym (p.proposed k)

  pub again_room : (w : List ℕ) → length w ≡ length (take n m) → n - 32 + 32 ≤ length (w ++ drop n m)
  again_room w count =
      omega (arith, p.is, length-append w (drop n m), count, length_word)

  same_again : (w : List ℕ) → length w ≡ length (take n m)
      → received (n - 32) s ++ drop (n - 32 + 32) (w ++ drop n m) ≡ take n m ++ drop n m
  same_again w count =
      let z : n - 32 ≡ p.size = omega (arith, p.is) in
      ap₂ (λ (a b : List ℕ). a ++ b) (ap (λ (j : ℕ). received j s) z ∙ sym word_in)
      (drop_at w (drop n m) (n - 32 + 32) (omega (arith, count, length_word, p.is)))

  -- the received word placed once more, over what was made of it
  pub placed_again : (k : ℕ) (w : List ℕ) {l : List ℕ} → length w ≡ length (take n m)
      → l ≡ received (n - 32) s ++ drop (n - 32 + 32) (w ++ drop n m)
      → take n m ≡ nearest_of k (take n m)
      → leaving (Ok n) l ≡ proposing_of k f s d
  placed_again k w count e still =
      ap (λ (l : List ℕ). leaving (Ok n) l) (e ∙ same_again w count)
      ∙ proposal_put k still

-- ---- what is made of it then

module _ {f : Format} {s d m : List ℕ} {n : ℕ} (bytes : Bytes s) (p : Placed 16 f s d n m) where
  abbrev z : ℕ
  z = p.size

  abbrev w : List ℕ
  w = received z s

  abbrev c : List ℕ
  c = nearest_of 16 w

  abbrev t : List ℕ
  t = drop (z + 32) d

  size_of : size_for f (get_or s 0 0) ≡ Ok (sizes z p.content)
  size_of = (size_in-accepted f s p.sized).size

  some : 0 < z
  some = size_for_some f (get_or s 0 0) size_of

  count : length w ≡ z + 32
  count = length-received s z p.there

  short : length w ≤ 255
  short = omega (arith, count, p.most)

  module _ (is : Near 16 w c) where
    count_c : length c ≡ z + 32
    count_c = is.count ∙ count

    size_c : size_for f (get_or c 0 0) ≡ Ok (sizes z p.content)
    size_c = ap (size_for f) (is.first ∙ first-received s z p.there some) ∙ size_of

    sent : Sent f c z p.content
    sent =
        record { bytes = is.bytes; code = is.code_word; count = count_c; size = size_c; some = some; most = p.most }

    near_taken : proposal_of f m s ≡ Ok (apart w c)
    near_taken =
        ap (λ (l : List ℕ). proposal_of f l s) p.memory ∙ word_taken sent s p.there is.few t

  none_code : ((v : List ℕ) → Near 16 w v → ⊥) → is_code_block w ≡ false
  none_code none =
      by_test (is_code_block w)
      (λ y. absurd (none w (near_self 16 w (bytes-received z s bytes) (is_code_block_code w y)))) (λ y. y)

  word_sized : size_in f (w ++ t) ≡ Ok (sizes z p.content)
  word_sized =
      let first = get_or-append w t 0 0 (omega (arith, count)) ∙ first-received s z p.there some in
      size_in_is f (w ++ t) (omega (arith, length-append w t, count)) (ap (size_for f) first ∙ size_of) p.most

  none_refused : ((v : List ℕ) → Near 16 w v → ⊥) → c ≡ w → proposal_of f m s ≡ Err Refusal.NotCode
  none_refused none same =
      ap (λ (l : List ℕ). proposal_of f l s) (p.memory ∙ ap (λ (l : List ℕ). l ++ t) same)
      ∙ proposal_compared f (w ++ t) s word_sized (omega (arith, length-append w t, count)) p.there
      ∙ ap (compared w) (take_at w t (z + 32) count) ∙ compared_no_code w w (none_code none)

  pub proposed_judged : ((k : ℕ) × ((k ≤ 16) × (proposal_of f m s ≡ Ok k)))
      ⊎ (proposal_of f m s ≡ Err Refusal.NotCode)
  proposed_judged =
      ⊎_elim (λ near. inl (apart w c, (near.few, near_taken near))) (λ (none, same). inr (none_refused none same))
      (nearest_is 16 w (bytes-received z s bytes))
