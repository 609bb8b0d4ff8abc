-- Words compared, and the test of a code word.
--     Counting          n bytes differ before place i: the invariant of the count, with its start, turn and end
--     code_tested       fresh check bytes differ nowhere from those that stand there exactly where the word is a code
--                       word
--     code_compared     and so they do where the two are compared at once
--     clean_tested      and so is their sum with those 0
--     sum_next, sum_end    that sum, in place
--     words_differ      two words compared in two parts
-- Assumes nothing.
use mathlib.Core.Bool.{Bool, true, false, cond}
use mathlib.Core.List.{List, ◌++◌, append-nil}
use mathlib.Core.Path.{◌≡◌, refl, sym, ap, ap₂, ◌∙◌}
use Prim.Native.Nat.{ℕ, ◌+◌, ◌-◌, ◌≤◌, ◌<◌}
use native.Mathlib.Nat.{zero-add, add-zero}
use native.Mathlib.Numerals.{add-one}
use native.Mathlib.Omega.{arith}
use borrow.Author.Tests.{eq-eqb}
use lib.Dec.{eqb}
use Rattle.std.proofs.Common.{Result, get_or-drop}
use Rattle.std.specs.Int.{from_bool}
use Rattle.std.specs.Prelude.{not}
use Rattle.std.specs.Cmp.Lexicographic.{pointwise}
use Rattle.std.proofs.lemmas.Bool.{eqb-true}
use Rattle.std.proofs.lemmas.Bool.Decides.{Decides-eqb, same_from_decides}
use Rattle.std.proofs.lemmas.Slice.Eq.{slice_eq-Decides}
use lib.Bits.{bit_xor, xor_comm}
use lib.ListN.{length, get_or, take, drop, set, length-drop, take-append-drop, drop_of_length-le, replicate}
use lib.Seq.{drop-cons, length-take-le, take_all, take-add}
use Rattle.answers.specs.Outcome.{Outcome, leaving}
use Rattle.answers.specs.declared.Refusal.{Refusal}
use Rattle.ground.specs.Apart.{apart}
use Rattle.ground.specs.Bytes.{Bytes}
use Rattle.ground.specs.Sums.{xors}
use Rattle.ground.proofs.ApartLaws.{apart_self, apart-zero, apart-append}
use Rattle.ground.proofs.InPlaceLaws.{elements, InPlace, in_place_next, in_place_end}
use Rattle.ground.proofs.SumLaws.{length-xors, xors_self, xors_equal, get_or-xors}
use Rattle.ground.proofs.ByteLaws.{bytes_take, bytes_drop}
use Rattle.codewords.specs.CheckBytes.{checks_of}
use Rattle.codewords.specs.Corrections.{checking_of}
use Rattle.codewords.proofs.DivisionLaws.{length-checks_of}
use Rattle.codewords.proofs.OutcomeLaws.{checking_done}
use Rattle.proposals.specs.Received.{received}
use Rattle.proposals.specs.Near.{is_code_block}
use Rattle.proposals.proofs.CodeLaws.{is_code_block_code, code-is_code_block, checks_code, code_checks}

-- ---- the count

pub record Counting (u v : List ℕ) (n i : ℕ) : Type 0 where
  pub within : i ≤ length u
  pub few : n ≤ i
  pub sum : n + apart (drop i u) (drop i v) ≡ apart u v

-- a byte that differs counts 1
one_apart : (t : Bool) → from_bool (not t) ≡ cond t 0 1
one_apart true = refl
one_apart false = refl

one_most : (t : Bool) → from_bool t ≤ 1
one_most true = omega arith
one_most false = omega arith

module _ (u v : List ℕ) where
  pub counting_start : Counting u v 0 0
  counting_start = record { within = omega arith; few = omega arith; sum = zero-add (apart u v) }

  apart-drop : (i : ℕ) → i < length u → i < length v
      → apart (drop i u) (drop i v)
      ≡ cond (eqb (get_or u i 0) (get_or v i 0)) 0 1 + apart (drop (i + 1) u) (drop (i + 1) v)
  unfolding apart
  apart-drop i hu hv = rw (add-one, drop-cons u i 0, drop-cons v i 0)

  pub counting_next : {n i r : ℕ} → length u ≡ length v → Counting u v n i → i < length u
      → r ≡ from_bool (not (eqb (get_or u i 0) (get_or v i 0))) → Counting u v (n + r) (i + 1)
  counting_next {n} {i} {r} e c h is =
      let same = eqb (get_or u i 0) (get_or v i 0) in
      record {
        within = omega arith;
        few = omega (arith, c.few, is, one_most (not same));
        sum = omega (arith, c.sum, apart-drop i h (omega arith), is ∙ one_apart same);
      }

  pub counting_few : {n i r : ℕ} → Counting u v n i → r ≡ from_bool (not (eqb (get_or u i 0) (get_or v i 0)))
      → n + r ≤ i + 1
  counting_few {n} {i} c is = omega (arith, c.few, is, one_most (not (eqb (get_or u i 0) (get_or v i 0))))

  pub counting_end : {n i : ℕ} → Counting u v n i → length u ≤ i → n ≡ apart u v
  unfolding apart
  counting_end {n} {i} c h =
      let none : n + apart (drop i u) (drop i v) ≡ n = rw (drop_of_length-le u h) (add-zero n) in
      sym none ∙ c.sum

-- ---- the test of a code word

module _ (w : List ℕ) (end : ℕ) (bytes : Bytes w) (size : end + 32 ≡ length w) where
  length_end : length (drop end w) ≡ 32
  length_end = omega (arith, length-drop end w)

  checks_here : is_code_block w ≡ true → drop end w ≡ checks_of (take end w)
  checks_here t =
      code_checks (take end w) (bytes_take end w bytes) (bytes_drop end w bytes) length_end
      (rw (take-append-drop end w) (is_code_block_code w t))

  here_code : drop end w ≡ checks_of (take end w) → is_code_block w ≡ true
  here_code e =
      code-is_code_block w
      (rw (take-append-drop end w) at (checks_code (take end w) {c = drop end w} (bytes_take end w bytes) e))

  tail_part : take (length w - end) (drop end w) ≡ drop end w
  tail_part = take_all (length w - end) (drop end w) (omega (arith, length-drop end w))

  same_length : length (drop end w) ≡ length (checks_of (take end w))
  same_length = length_end ∙ sym (length-checks_of (take end w))

  -- what the writer of check bytes leaves in 32 bytes of memory
  fresh_checks : {a : Result ℕ Refusal} {m : List ℕ} (d : List ℕ) → length d ≡ 32 → end ≤ 223
      → leaving a m ≡ checking_of (take end w) d → m ≡ checks_of (take end w)
  fresh_checks d room most e =
      let c = checks_of (take end w) in
      let long = checking_done (take end w) d (rw (length-take-le end w (omega arith)) most) (omega arith) in
      ap (λ (o : Outcome (Result ℕ Refusal)). o.memory) (e ∙ long)
      ∙ ap (λ (l : List ℕ). c ++ l) (drop_of_length-le d {i = 32} (omega arith)) ∙ append-nil c

  none_apart : {n : ℕ} → n ≡ apart (drop end w) (checks_of (take end w)) → eqb n 0 ≡ is_code_block w
  none_apart {n} is =
      let c = checks_of (take end w) in
      same_from_decides (eqb n 0) (is_code_block w) (
        λ t. apart-zero (drop end w) c same_length (omega (arith, is, eqb-true n 0 t)),
        λ e. eq-eqb n 0 (is ∙ ap (apart (drop end w)) (sym e) ∙ apart_self (drop end w)),
      )
      (checks_here, here_code)

  pub code_tested : {n : ℕ} {a : Result ℕ Refusal} {m : List ℕ} (d : List ℕ) → length d ≡ 32 → end ≤ 223
      → leaving a m ≡ checking_of (take (end - 0) w) d
      → n ≡ apart (take (length w - end) (drop end w)) m → eqb n 0 ≡ is_code_block w
  code_tested d room most made is =
      let all : end - 0 ≡ end = omega arith in
      none_apart (is ∙ ap₂ apart tail_part (fresh_checks d room most (rw all at made)))

  pub code_compared : {r : Bool} {m : List ℕ} → m ≡ checks_of (take end w)
      → r ≡ pointwise eqb (take (length w - end) (drop end w)) m → r ≡ is_code_block w
  code_compared {r} fresh is =
      let same = is ∙ ap₂ (pointwise eqb) tail_part fresh in
      same_from_decides r (is_code_block w) (slice_eq-Decides Decides-eqb _ _ r same) (checks_here, here_code)

  none_left : is_code_block w ≡ true → xors (drop end w) (checks_of (take end w)) ≡ replicate 32 0
  none_left t =
      ap (λ (l : List ℕ). xors l (checks_of (take end w))) (checks_here t) ∙ xors_self (checks_of (take end w))
      ∙ ap (λ (n : ℕ). replicate n 0) (length-checks_of (take end w))

  left_none : xors (drop end w) (checks_of (take end w)) ≡ replicate 32 0 → is_code_block w ≡ true
  left_none e =
      here_code (xors_equal _ _ same_length (e ∙ ap (λ (n : ℕ). replicate n 0) (sym length_end)))

  pub clean_tested : {r : Bool} {m : List ℕ} → m ≡ xors (drop end w) (checks_of (take end w))
      → r ≡ pointwise eqb m (replicate 32 0) → r ≡ is_code_block w
  clean_tested {r} made is =
      let same = is ∙ ap (λ (l : List ℕ). pointwise eqb l (replicate 32 0)) made in
      same_from_decides r (is_code_block w) (slice_eq-Decides Decides-eqb _ _ r same) (none_left, left_none)

-- ---- the remainder, added in place

pub sum_next : (w v : List ℕ) (end : ℕ) {d : List ℕ} {i : ℕ} → length (drop end w) ≡ length v
    → InPlace (elements (xors (drop end w) v)) v d i → i < length v
    → InPlace (elements (xors (drop end w) v)) v (set d i (bit_xor (get_or d i 0) (get_or w (end + i) 0))) (i + 1)
sum_next w v end {d} {i} same p h =
    in_place_next _ _ p h
    (ap₂ bit_xor (p.left i (omega arith)) (sym (get_or-drop end w i 0))
    ∙ xor_comm (get_or v i 0) (get_or (drop end w) i 0) ∙ sym (get_or-xors (drop end w) v i same))

pub sum_end : (w v : List ℕ) (end : ℕ) {d : List ℕ} {i : ℕ} → length (drop end w) ≡ length v
    → InPlace (elements (xors (drop end w) v)) v d i → length v ≤ i → d ≡ xors (drop end w) v
sum_end w v end same p h = in_place_end p (length-xors (drop end w) v same ∙ same) h

-- ---- two words compared in two parts, as the code cuts them

pub words_differ :
    (p s : List ℕ) (z : ℕ) → z ≤ 223 → z + 32 ≤ length p → z + 34 ≤ length s → {a b : ℕ}
    → a ≡ apart (take z s) (take z p)
    → b ≡ apart (take (z + 2 + 32 - (z + 2)) (drop (z + 2) s)) (take (z + 32 - z) (drop z p))
    → a + b ≡ apart (received z s) (take (z + 32) p)
words_differ p s z most whole there ea eb =
    let here : z + 32 - z ≡ 32 = omega arith in
    let behind : z + 2 + 32 - (z + 2) ≡ 32 = omega arith in
    let same = length-take-le z s (omega arith) ∙ sym (length-take-le z p (omega arith)) in
    ap₂ ◌+◌ ea (rw (here, behind) at eb) ∙ sym (apart-append (take z s) (take z p) _ _ same)
    ∙ ap (apart (received z s)) (sym (take-add z 32 p))
