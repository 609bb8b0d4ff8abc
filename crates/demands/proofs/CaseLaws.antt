-- That a test of a definition says whether a case of document 01 holds (specs/Cases), and that a case which shows a
-- value holds of one value alone.
--     range_kept, range_left                    10: the test of a buffer and a place
--     first_same                               two first places of one kind are the same
--     first_no_word, no_first_word, -same       6: where the run of code words ends
--     allowed_announces, announces_allowed      2: the test of a length byte
--     first_wrong_block, no_wrong_block, -same  3: the walk over the blocks
use mathlib.Core.Bool.{Bool, true, false, cond, false≢true}
use mathlib.Core.List.{List, [], ◌∷◌, ◌++◌}
use mathlib.Core.Logic.{inl, inr, ⊎_elim}
use mathlib.Core.Path.{◌≡◌, refl, sym, ◌∙◌, ap, subst}
use Prim.Native.Nat.{ℕ, zero, suc, ◌+◌, ◌-◌, ◌*◌, ◌^◌, ◌≤◌, ◌<◌}
use native.Mathlib.Nat.{not-suc-le-zero, le_of_suc-le-suc, eq-or-lt_of_le}
use native.Mathlib.Omega.{arith}
use borrow.Author.Tests.{ltb-true, ltb-false, leb-false, eqb-true, eqb-false}
use lib.Dec.{ltb, leb, eqb}
use lib.ListN.{length, get_or, take, drop, length-drop, take-append-drop}
use lib.Seq.{drop-drop, length-take-le}
use Rattle.std.specs.Prelude.{Option, Some, None}
use Rattle.chips.specs.Chips.{word_at, chip_count, room_limit, in_range}
use Rattle.chips.proofs.RangeLaws.{in_range_true}
use Rattle.line.specs.Codes.{LineCode, number_for, word_value}
use Rattle.line.specs.Decoding.{value_at, is_word, good_run}
use Rattle.line.proofs.CodeLaws.{word_value_is}
use Rattle.line.proofs.GoodRunLaws.{good_run-le, good_run-all}
use Rattle.blocks.specs.Spans.{sealed, block_ok, first_wrong, size_of}
use Rattle.blocks.proofs.SealLaws.{block_ok_sealed, sealed-take}
use Rattle.frame.specs.declared.Format.{Format}
use Rattle.frame.specs.Formats.{form_of}
use Rattle.frame.proofs.FormatLaws.{allowed-length_byte, content_length-length_byte, length_byte-content_length, within-content_length, true_within}
use Rattle.demands.specs.Cases.{OutOfRange, CodeWord, FirstNoWord, Announces, RightBlock, FirstWrongBlock}

-- 10 for chips
module _ (s : List ℕ) (at : ℕ) where
  pub range_kept : in_range s at ≡ true → OutOfRange s at → ⊥
  range_kept e (inl h) = omega (arith, in_range_true {s = s} {at = at} e)
  range_kept e (inr h) = omega (arith, in_range_true {s = s} {at = at} e)

  pub range_left : in_range s at ≡ false → OutOfRange s at
  range_left e = by (leb (length s) room_limit) refl e where
    by :
        (t : Bool) → leb (length s) room_limit ≡ t → cond t (leb at (chip_count s)) false ≡ false → OutOfRange s at
    by true a b = inr (omega (arith, leb-false at (chip_count s) b))
    by false a b = inl (omega (arith, leb-false (length s) room_limit a))

-- two first places of one kind are the same: neither comes before the other
pub first_same :
    {P : ℕ → Type 0} {i j : ℕ} → (P i → ⊥) → ((k : ℕ) → k < i → P k) → (P j → ⊥) → ((k : ℕ) → k < j → P k)
    → i ≡ j
first_same {i = i} {j} not-i below-i not-j below-j = by (ltb i j) (ltb j i) refl refl where
  by : (a b : Bool) → ltb i j ≡ a → ltb j i ≡ b → i ≡ j
  by true b p q = absurd (not-i (below-j i (ltb-true i j p)))
  by false true p q = absurd (not-j (below-i j (ltb-true j i q)))
  by false false p q = omega (arith, ltb-false i j p, ltb-false j i q)

-- a number is found for each code word
number_for_some : (f : ℕ → ℕ) (y n x : ℕ) → x < n → f x ≡ y → is_word (number_for f y n) ≡ true
unfolding number_for
number_for_some f y zero x l e = absurd (omega arith)
number_for_some f y (suc n) x l e = by (eqb (f n) y) refl (λ p. number_for_some f y n x p e) where
  by :
      (t : Bool) → eqb (f n) y ≡ t → (x < n → is_word (number_for f y n) ≡ true)
      → is_word (cond t (Some n) (number_for f y n)) ≡ true
  by true h rest = refl
  by false h rest =
      ⊎_elim (λ (p : x ≡ n). absurd (eqb-false (f n) y h (rw p at e))) rest (eq-or-lt_of_le (le_of_suc-le-suc l))

module _ (κ : LineCode) (y : ℕ) where
  pub word_some : CodeWord κ y → is_word (word_value κ y) ≡ true
  word_some (x, (l, e)) = number_for_some κ.word_of y (2 ^ κ.bits) x l e

  pub some_word : (v : Option ℕ) → word_value κ y ≡ v → is_word v ≡ true → CodeWord κ y
  some_word (Some x) e t = (x, word_value_is κ y x e)
  some_word None e t = absurd (false≢true t)

  pub no_word : (v : Option ℕ) → word_value κ y ≡ v → is_word v ≡ false → CodeWord κ y → ⊥
  no_word v e t c = false≢true (sym t ∙ (ap is_word (sym e) ∙ word_some c))

-- where the run of code words is broken, the word behind it is none, and all before it are
Broken : (ℕ → Option ℕ) → ℕ → Type 0
Broken f g = (is_word (f g) ≡ false) × ((j : ℕ) → j < g → is_word (f j) ≡ true)

good_run_ends : (f : ℕ → Option ℕ) (m : ℕ) → good_run f m < m → Broken f (good_run f m)
unfolding good_run Broken
good_run_ends f zero l = absurd (not-suc-le-zero l)
good_run_ends f (suc m) l = by (eqb (good_run f m) m) refl (is_word (f m)) refl (good_run_ends f m) l where
  by :
      (t : Bool) → eqb (good_run f m) m ≡ t → (u : Bool) → is_word (f m) ≡ u
      → (good_run f m < m → Broken f (good_run f m)) → let g = cond t (cond u (suc m) m) (good_run f m) in
      g < suc m → Broken f g
  by true e true w rest h = absurd (omega arith)
  by true e false w rest h = (w, good_run-all f m (eqb-true (good_run f m) m e))
  by false e u w rest h = rest (omega (arith, good_run-le f m, eqb-false (good_run f m) m e))

-- 6, of m words from chip `at` on
module _ (κ : LineCode) (s : List ℕ) (at m : ℕ) where
  pub first_no_word :
      good_run (value_at κ s at) m < m → FirstNoWord κ s at m (good_run (value_at κ s at) m)
  unfolding Broken
  first_no_word l =
      let g = good_run (value_at κ s at) m in
      let ends = good_run_ends (value_at κ s at) m l in
      record {
        among = l;
        none = no_word κ (word_at s (at + g * κ.chips) κ.chips) (value_at κ s at g) refl ends.0;
        before = λ j b. some_word κ (word_at s (at + j * κ.chips) κ.chips) (value_at κ s at j) refl (ends.1 j b);
      }

  pub no_first_word : (i : ℕ) → m ≤ good_run (value_at κ s at) m → FirstNoWord κ s at m i → ⊥
  no_first_word i l p =
      let run : good_run (value_at κ s at) m ≡ m = omega (arith, good_run-le (value_at κ s at) m) in
      p.none (some_word κ (word_at s (at + i * κ.chips) κ.chips) (value_at κ s at i) refl
      (good_run-all (value_at κ s at) m run i p.among))

  pub first_word_same : (i j : ℕ) → FirstNoWord κ s at m i → FirstNoWord κ s at m j → i ≡ j
  first_word_same i j p q =
      first_same {P = λ k. CodeWord κ (word_at s (at + k * κ.chips) κ.chips)} p.none p.before q.none
      q.before

-- 2
module _ (f : Format) (l : ℕ) where
  pub allowed_announces : (form_of f).allowed l ≡ true → Announces f l ((form_of f).content_length l)
  allowed_announces e =
      let n = (form_of f).content_length l in
      let both = true_within (form_of f).shortest (form_of f).longest n (within-content_length f l e) in
      record { low = both.0; high = both.1; byte = length_byte-content_length f l e }

  pub announces_allowed : (n : ℕ) → Announces f l n → (form_of f).allowed l ≡ true
  announces_allowed n a = rw a.byte at (allowed-length_byte f n a.low a.high)

  pub announces_same : (n : ℕ) → Announces f l n → n ≡ (form_of f).content_length l
  announces_same n a = sym (rw a.byte at (content_length-length_byte f n a.low a.high))

-- 3, for the blocks over the spans ks, which are all there
block_right : (k : ℕ) (s : List ℕ) → k + 2 ≤ length s → take (k + 2) s ≡ sealed (take k s) → block_ok k s ≡ true
block_right k s fits e =
    let whole : s ≡ sealed (take k s) ++ drop (k + 2) s
    = sym (take-append-drop (k + 2) s) ∙ ap (λ (p : List ℕ). p ++ drop (k + 2) s) e in
    ap (block_ok k) whole ∙ block_ok_sealed (take k s) (drop (k + 2) s) (length-take-le k s (omega arith))

-- the blocks behind the first, counted from it
module _ (k : ℕ) (ks s : List ℕ) (i : ℕ) where
  block_later : drop (size_of (take i ks)) (drop (k + 2) s) ≡ drop (size_of (take (suc i) (k ∷ ks))) s
  unfolding size_of
  block_later = drop-drop (size_of (take i ks)) (k + 2) s

  right_later : RightBlock ks (drop (k + 2) s) i → RightBlock (k ∷ ks) s (suc i)
  right_later = subst (λ (b : List ℕ). take (get_or ks i 0 + 2) b ≡ sealed (take (get_or ks i 0) b)) block_later

  later_right : RightBlock (k ∷ ks) s (suc i) → RightBlock ks (drop (k + 2) s) i
  later_right = subst (λ (b : List ℕ). take (get_or ks i 0 + 2) b ≡ sealed (take (get_or ks i 0) b)) (sym block_later)

-- block i is the first wrong one, from 0
record WrongAt (ks s : List ℕ) (i : ℕ) : Type 0 where
  among : i < length ks
  wrong : RightBlock ks s i → ⊥
  before : (j : ℕ) → j < i → RightBlock ks s j

module _ (k : ℕ) (ks s : List ℕ) (fits : k + 2 ≤ length s) where
  wrong_here : block_ok k s ≡ false → WrongAt (k ∷ ks) s 0
  unfolding size_of
  wrong_here e =
      record {
        among = omega arith;
        wrong = λ h. false≢true (sym e ∙ block_right k s fits h);
        before = λ j l. absurd (not-suc-le-zero l);
      }

  right_first : block_ok k s ≡ true → RightBlock (k ∷ ks) s 0
  unfolding size_of
  right_first ok = sym (sealed-take k s ok fits)

  right_below : block_ok k s ≡ true → (i : ℕ) → ((j : ℕ) → j < i → RightBlock ks (drop (k + 2) s) j)
      → (j : ℕ) → j < suc i → RightBlock (k ∷ ks) s j
  right_below ok i rest zero l = right_first ok
  right_below ok i rest (suc j) l = right_later k ks s j (rest j (le_of_suc-le-suc l))

  wrong_later : block_ok k s ≡ true → (i : ℕ) → WrongAt ks (drop (k + 2) s) i → WrongAt (k ∷ ks) s (suc i)
  wrong_later ok i w =
      record {
        among = omega (arith, w.among);
        wrong = λ h. w.wrong (later_right k ks s i h);
        before = right_below ok i w.before;
      }

-- what the walk over the blocks says of them, b blocks having been passed before
abbrev Judges : ℕ → List ℕ → List ℕ → Option ℕ → Type 0
Judges b ks s None = (i : ℕ) → i < length ks → RightBlock ks s i
Judges b ks s (Some c) = (i : ℕ) × ((c ≡ b + i) × WrongAt ks s i)

judges_cons :
    (b k : ℕ) (ks s : List ℕ) → k + 2 ≤ length s → block_ok k s ≡ true → (w : Option ℕ)
    → Judges (b + 1) ks (drop (k + 2) s) w → Judges b (k ∷ ks) s w
judges_cons b k ks s fits ok None all = right_below k ks s fits ok (length ks) all
judges_cons b k ks s fits ok (Some c) (i, (e, w)) = (suc i, (omega arith, wrong_later k ks s fits ok i w))

first_wrong_judges : (b : ℕ) (ks s : List ℕ) → size_of ks ≤ length s → Judges b ks s (first_wrong b ks s)
unfolding first_wrong size_of
first_wrong_judges b [] s fits = λ i l. absurd (not-suc-le-zero l)
first_wrong_judges b (k ∷ ks) s fits =
    by (block_ok k s) refl (first_wrong_judges (b + 1) ks (drop (k + 2) s) (rw (length-drop (k + 2) s) (omega arith)))
  where
    by :
        (t : Bool) → block_ok k s ≡ t
        → Judges (b + 1) ks (drop (k + 2) s) (first_wrong (b + 1) ks (drop (k + 2) s))
        → Judges b (k ∷ ks) s (cond t (first_wrong (b + 1) ks (drop (k + 2) s)) (Some b))
    by true e rest = judges_cons b k ks s (omega arith) e (first_wrong (b + 1) ks (drop (k + 2) s)) rest
    by false e rest = (0, (omega arith, wrong_here k ks s (omega arith) e))

module _ (ks s : List ℕ) (fits : size_of ks ≤ length s) where
  pub first_wrong_block : (b : ℕ) → first_wrong 1 ks s ≡ Some b → FirstWrongBlock ks s b
  first_wrong_block b e = by (subst (Judges 1 ks s) e (first_wrong_judges 1 ks s fits)) where
    by : ((i : ℕ) × ((b ≡ 1 + i) × WrongAt ks s i)) → FirstWrongBlock ks s b
    by (i, (e, w)) =
        let same : b - 1 ≡ i = omega arith in
        record {
          one = omega arith;
          among = omega (arith, w.among);
          wrong = rw same w.wrong;
          before = λ j l. w.before j (omega arith);
        }

  pub no_wrong_block : (b : ℕ) → first_wrong 1 ks s ≡ None → FirstWrongBlock ks s b → ⊥
  no_wrong_block b e p =
      p.wrong (subst (Judges 1 ks s) e (first_wrong_judges 1 ks s fits) (b - 1) (omega (arith, p.one, p.among)))

pub wrong_block_same : (ks s : List ℕ) (b c : ℕ) → FirstWrongBlock ks s b → FirstWrongBlock ks s c → b ≡ c
wrong_block_same ks s b c p q =
    let same = first_same {P = RightBlock ks s} p.wrong p.before q.wrong q.before in
    omega (arith, same, p.one, q.one)
