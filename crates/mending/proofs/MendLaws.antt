-- A word with one wrong byte, mended (`Points`; specs/Inner `Tried`).
--     clean_nearest    a code word is itself proposed
--     remains          the remainder of a word has its values at the roots
--     points_located   the values of the remainder at the first two roots tell where the wrong byte is, if one is
--     fault_points     as the code has them
--     none_nearest     where none is, the word itself is proposed
--     still_nearest    and so it is where none but the first could be wrong
--     tried_nearest    where one may be, what comes out of trying
-- Assumes nothing.
use mathlib.Core.Bool.{Bool, true, false, cond}
use mathlib.Core.List.{List}
use mathlib.Core.Logic.{⊎_elim}
use mathlib.Core.Path.{◌≡◌, refl, sym, ap, subst, ◌∙◌}
use Prim.Native.Nat.{ℕ, suc, ◌+◌, ◌-◌, ◌≤◌, ◌<◌}
use native.Mathlib.Omega.{arith}
use lib.Bits.{bit_xor, xor_lt}
use lib.ListN.{length, get_or, take, drop, set, length-set, length-drop, take-append-drop}
use lib.Seq.{set-get_or, get_or-set_same, get_or-set_other}
use Rattle.std.specs.Prelude.{Option, Some, None}
use Rattle.ground.specs.Bytes.{Bytes}
use Rattle.ground.specs.Sums.{xors}
use Rattle.ground.proofs.ApartLaws.{apart-set}
use Rattle.ground.proofs.ByteLaws.{bytes_take, bytes-set}
use Rattle.field.specs.Field.{alpha_to}
use Rattle.field.specs.Polynomials.{value_at}
use Rattle.codewords.specs.CodeBlocks.{root, CodeBlock}
use Rattle.codewords.specs.CheckBytes.{checks_of}
use Rattle.codewords.proofs.RootLaws.{low_root, root_low}
use Rattle.proposals.specs.Near.{Near, is_code_block, nearest_of}
use Rattle.proposals.proofs.CodeLaws.{is_code_block_code, not_code_block_not}
use Rattle.proposals.proofs.NearestLaws.{near, near_self, nearest_is, nearest_near}
use Rattle.proposals.proofs.OneByteLaws.{remainder_value, Differ, differ_one, error, place, error-lt, error_positive, one_value, mended, front_place}
use Rattle.repairing.specs.Inner.{added}
use Rattle.repairing.specs.Remains.{Remains}
use Rattle.mending.specs.declared.single.Fault.{Fault}
use Rattle.mending.specs.Inner.{remainder_of, Inside, Locates, Tried}

-- w with the error of r added at its place
abbrev pub with_fault : List ℕ → Option Fault → List ℕ
with_fault w None = w
with_fault w (Some a) = added w a.place a.error

-- the code word near w is w with the error of r added at its place
pub record Points (w : List ℕ) (r : Option Fault) : Type 0 where
  pub inside : Inside (length w) r
  pub near : (c : List ℕ) → Near 1 w c → c ≡ with_fault w r

pub clean_nearest : (k : ℕ) (w : List ℕ) → Bytes w → length w ≤ 255 → k ≤ 16 → is_code_block w ≡ true
    → w ≡ nearest_of k w
clean_nearest k w b most low t = sym (nearest_near k w low most b w (near_self k w b (is_code_block_code w t)))

pub remains : (w : List ℕ) {rest : List ℕ} → Bytes w → 32 ≤ length w → rest ≡ remainder_of w → Remains w rest
remains w b long is k h =
    let end = length w - 32 in
    ap (value_at (root k)) is
    ∙ sym (remainder_value k h (take end w) (drop end w) (bytes_take end w b) (omega (arith, length-drop end w)))
    ∙ ap (value_at (root k)) (take-append-drop end w)

-- ---- where the wrong byte is

module _ (w : List ℕ) (end : ℕ) (bytes : Bytes w) (size : end + 32 ≡ length w) (most : length w ≤ 255) where
  abbrev rest : List ℕ
  rest = xors (drop end w) (checks_of (take end w))

  -- the value of the word at a root is that of the remainder
  word_value : (k : ℕ) → k < 32 → value_at (root k) w ≡ value_at (low_root k) rest
  word_value k h =
      ap (value_at (root k)) (sym (take-append-drop end w))
      ∙ remainder_value k h (take end w) (drop end w) (bytes_take end w bytes) (omega (arith, length-drop end w))
      ∙ ap (λ (r : ℕ). value_at r rest) (root_low k)

  module _ {x y : ℕ} {r : Option Fault} (first : x ≡ value_at (alpha_to 212) rest)
      (second : y ≡ value_at (alpha_to 223) rest)
      (at : Locates x y (length w) r) where
    first_value : x ≡ value_at (root 0) w
    unfolding low_root
    first_value = first ∙ sym (word_value 0 (omega arith))

    second_value : y ≡ value_at (root 1) w
    unfolding low_root
    second_value = second ∙ sym (word_value 1 (omega arith))

    same_word : (c : List ℕ) → CodeBlock c → w ≡ c → c ≡ with_fault w r
    same_word c code e =
        let zero : x ≡ 0 = first_value ∙ ap (value_at (root 0)) e ∙ code 0 (omega arith) in
        sym e ∙ sym (ap (with_fault w) (at.none zero))

    one_byte : (c : List ℕ) → Near 1 w c → Differ w c → c ≡ with_fault w r
    one_byte c n d =
        let b = n.bytes in
        let code = n.code_word in
        let long = front_place d bytes b code in
        let found = at.one (error d bytes b code) (place d bytes b code) (error_positive d bytes b code)
        (error-lt d bytes b code) (omega (arith, long)) (omega arith)
        (first_value ∙ one_value d bytes b code 0 (omega arith))
        (second_value ∙ one_value d bytes b code 1 (omega arith)) in
        let here : length d.front ≡ length w - suc (place d bytes b code) = omega (arith, long) in
        sym (mended d bytes b code) ∙ ap (λ (i : ℕ). added w i (error d bytes b code)) here
        ∙ sym (ap (with_fault w) found)

    pub points_located : Points w r
    points_located =
        record {
          inside = at.inside;
          near = λ c n.
              ⊎_elim (same_word c n.code_word) (one_byte c n) (differ_one w c (sym n.count) n.few);
        }

-- the fault as the code finds it, from the remainder
pub fault_points : (w : List ℕ) {rest : List ℕ} {r : Option Fault} → Bytes w → 32 ≤ length w → length w ≤ 255
    → rest ≡ remainder_of w
    → Locates (value_at (alpha_to 212) rest) (value_at (alpha_to 223) rest) (length w) r → Points w r
fault_points w bytes long most is at =
    points_located w (length w - 32) bytes (omega arith) most (ap (value_at (alpha_to 212)) is)
    (ap (value_at (alpha_to 223)) is) at

-- ---- what is proposed

module _ (w : List ℕ) (bytes : Bytes w) where
  pub none_nearest : Points w None → w ≡ nearest_of 1 w
  none_nearest points =
      ⊎_elim (λ n. sym (points.near (nearest_of 1 w) n)) (λ p. sym p.1) (nearest_is 1 w bytes)

module _ (w : List ℕ) {r : Fault} (points : Points w (Some r)) (bytes : Bytes w) (most : length w ≤ 255) where
  abbrev i : ℕ
  i = r.place

  abbrev v : List ℕ
  v = added w r.place r.error

  -- with the first byte as it was, a change of it is none
  first_stays : i ≡ 0 → (c : List ℕ) → Near 1 w c → c ≡ w
  first_stays z c n =
      let e : c ≡ added w 0 r.error = points.near c n ∙ ap (λ (k : ℕ). added w k r.error) z in
      let same : bit_xor (get_or w 0 0) r.error ≡ get_or w 0 0 =
      sym (get_or-set_same w 0 (bit_xor (get_or w 0 0) r.error) 0 (omega (arith, points.inside.0)))
      ∙ ap (λ (l : List ℕ). get_or l 0 0) (sym e) ∙ n.first in
      e ∙ ap (set w 0) same ∙ set-get_or w 0 0

  pub still_nearest : i ≡ 0 → w ≡ nearest_of 1 w
  still_nearest z =
      ⊎_elim (λ n. sym (first_stays z (nearest_of 1 w) n)) (λ p. sym p.1) (nearest_is 1 w bytes)

  module _ (behind : 0 < i) where
    tried_near : is_code_block v ≡ true → Near 1 w v
    tried_near t =
        near (bytes-set w i _ bytes (xor_lt 8 (get_or w i 0) r.error (bytes i) points.inside.1))
        (is_code_block_code v t) (length-set w i _) (get_or-set_other w i 0 _ 0 (λ e. omega arith)) (apart-set w i _)

    pub tried_nearest : {m : List ℕ} → Tried w r m → m ≡ nearest_of 1 w
    tried_nearest {m} e = e ∙ by (is_code_block v) refl
      where
        by : (t : Bool) → is_code_block v ≡ t → cond t v w ≡ nearest_of 1 w
        by true t = sym (nearest_near 1 w (omega arith) most bytes v (tried_near t))
        by false t =
            ⊎_elim
            (λ n. absurd (not_code_block_not v t (subst CodeBlock (points.near (nearest_of 1 w) n) n.code_word)))
            (λ p. sym p.1) (nearest_is 1 w bytes)
