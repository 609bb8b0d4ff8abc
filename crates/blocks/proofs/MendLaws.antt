-- Mending is writing (document 01, "Changing a byte"): where all checks are right, a byte with its updated check is
-- what writing the changed payload afresh gives. And mending touches three bytes.
--     updated_at_sealed        the update finds the check of the changed span
--     mended_sealed           a byte of one block
--     mended_behind           what stands in front is left alone and not looked at
--     mended_framed-append    a byte of a frame
--     mended_framed           THE law: a byte of bytes whose checks are all right
--     mended_touches          what mending leaves as it was, and what it puts where
use mathlib.Core.Bool.{Bool, true, false}
use mathlib.Core.List.{List, [], ◌∷◌, ◌++◌, append_assoc}
use mathlib.Core.Path.{◌≡◌, refl, ap, ◌∙◌}
use Prim.Native.Nat.{ℕ, suc, ◌+◌, ◌-◌, ◌/◌, ◌%◌, ◌≤◌, ◌<◌}
use native.Mathlib.Nat.{not-suc-le-zero}
use native.Mathlib.Omega.{arith}
use borrow.Author.Tests.{ltb-true, ltb-false}
use lib.Dec.{ltb}
use lib.ListN.{length, take, drop, get_or, set, length-set, length-drop, take-append-drop, get_or-append}
use lib.Seq.{split_at, set_split, set-append_left, length-take-le, take-set-lt, drop-set-lt, take-set-le, drop-set-add, get_or-append-add, get_or-set_same, get_or-set_other}
use Rattle.std.specs.Prelude.{None}
use Rattle.ground.proofs.BehindLaws.{set-append-add}
use Rattle.crc.specs.Check.{check_of}
use Rattle.crc.specs.CheckUpdate.{updated_check}
use Rattle.crc.proofs.CheckLaws.{check_of_changed}
use Rattle.blocks.specs.Spans.{sealed, framed, payload, first_wrong, size_of}
use Rattle.blocks.specs.Places.{place_in, check_in, check_at, updated_at, mended}
use Rattle.blocks.proofs.SealLaws.{length_sealed, sealed-append, sealed_stores, get_or_sealed_high, get_or_sealed_low}
use Rattle.blocks.proofs.SpanLaws.{total, length-payload, framed-payload}

-- one block
module _ (q t : List ℕ) (j v : ℕ) (there : j < length q) where
  check_at_sealed : check_at (sealed q ++ t) (length q) ≡ check_of q
  check_at_sealed = rw (get_or_sealed_high q t refl, get_or_sealed_low q t refl) (omega arith)

  get_or_sealed : get_or (sealed q ++ t) j 0 ≡ get_or q j 0
  get_or_sealed = rw (sealed-append q t) (get_or-append q (check_of q / 256 ∷ check_of q % 256 ∷ t) 0 j there)

  check_of-set : check_of (set q j v) ≡ updated_check (check_of q) (get_or q j 0) v (length q - 1 - j)
  check_of-set =
      let size : length (drop (suc j) q) ≡ length q - 1 - j = rw (length-drop (suc j) q) (omega arith) in
      rw (set_split q j v there)
      (rw (← split_at q j 0 there, size) at (check_of_changed (get_or q j 0) v (take j q) (drop (suc j) q)))

  updated_at_sealed : updated_at (sealed q ++ t) j (length q) v ≡ check_of (set q j v)
  unfolding updated_at
  updated_at_sealed = rw (check_at_sealed, get_or_sealed, check_of-set)

  set_sealed : set (sealed q ++ t) j v ≡ set q j v ++ check_of q / 256 ∷ check_of q % 256 ∷ t
  set_sealed = rw (sealed-append q t) (set-append_left q (check_of q / 256 ∷ check_of q % 256 ∷ t) j v there)

  mended_sealed : mended (sealed q ++ t) j (length q) v ≡ sealed (set q j v) ++ t
  unfolding mended
  mended_sealed =
      rw (updated_at_sealed, set_sealed)
      (rw (length-set q j v) at (sealed_stores (set q j v) t (check_of q / 256) (check_of q % 256)))

mended_behind : (b r : List ℕ) (p q v : ℕ) → mended (b ++ r) (length b + p) (length b + q) v ≡ b ++ mended r p q v
unfolding mended updated_at
mended_behind b r p q v =
    let e : length b + q + 1 ≡ length b + (q + 1) = omega arith in
    let d : length b + q - 1 - (length b + p) ≡ q - 1 - p = omega arith in
    simp (e, d, get_or-append-add, set-append-add)

-- a block in front of others: the byte stands in it, or behind it
module _ (k : ℕ) (ks p t : List ℕ) (j v : ℕ) (size : k ≤ length p) where
  mended_here : j < k → mended (framed (k ∷ ks) p ++ t) j k v ≡ framed (k ∷ ks) (set p j v) ++ t
  unfolding framed
  mended_here near =
      let e : length (take k p) ≡ k = length-take-le k p size in
      rw (append_assoc, append_assoc, take-set-lt k p j v near, drop-set-lt k p j v near)
      (rw e at (mended_sealed (take k p) (framed ks (drop k p) ++ t) j v (rw e near)))

  drop-set-le : k ≤ j → drop k (set p j v) ≡ set (drop k p) (j - k) v
  drop-set-le far =
      let e : j ≡ k + (j - k) = omega arith in
      ap (λ (i : ℕ). drop k (set p i v)) e ∙ drop-set-add k p (j - k) v

  mended_later :
      (m c : ℕ) → k ≤ j → mended (framed ks (drop k p) ++ t) m c v ≡ framed ks (set (drop k p) (j - k) v) ++ t
      → mended (framed (k ∷ ks) p ++ t) (k + 2 + m) (k + 2 + c) v ≡ framed (k ∷ ks) (set p j v) ++ t
  unfolding framed
  mended_later m c far rest =
      let e : length (sealed (take k p)) ≡ k + 2 = rw (length_sealed, length-take-le k p size) in
      rw (append_assoc, append_assoc, take-set-le k p j v far, drop-set-le far, ← rest)
      (rw e at (mended_behind (sealed (take k p)) (framed ks (drop k p) ++ t) m c v))

  mended-cons :
      (a : Bool) → ltb j k ≡ a
      → (k ≤ j
      → mended (framed ks (drop k p) ++ t) (place_in ks (j - k)) (check_in ks (j - k)) v
      ≡ framed ks (set (drop k p) (j - k) v) ++ t)
      → mended (framed (k ∷ ks) p ++ t) (place_in (k ∷ ks) j) (check_in (k ∷ ks) j) v ≡ framed (k ∷ ks) (set p j v) ++ t
  unfolding place_in check_in
  mended-cons true e rest = rw e (mended_here (ltb-true j k e))
  mended-cons false e rest =
      let far = ltb-false j k e in
      rw e (mended_later (place_in ks (j - k)) (check_in ks (j - k)) far (rest far))

-- mending a frame is writing the changed payload afresh
mended_framed-append :
    (ks p t : List ℕ) (j v : ℕ) → length p ≡ total ks → j < total ks
    → mended (framed ks p ++ t) (place_in ks j) (check_in ks j) v ≡ framed ks (set p j v) ++ t
unfolding total
mended_framed-append [] p t j v size there = absurd (not-suc-le-zero there)
mended_framed-append (k ∷ ks) p t j v size there =
    mended-cons k ks p t j v (omega arith) (ltb j k) refl
    (λ far. mended_framed-append ks (drop k p) t (j - k) v (simp length-drop (omega arith)) (omega arith))

-- THE law of changing: where all checks are right, there is a frame to mend
pub mended_framed :
    (b : ℕ) (ks s : List ℕ) (j v : ℕ) → size_of ks ≤ length s → first_wrong b ks s ≡ None → j < total ks
    → mended s (place_in ks j) (check_in ks j) v ≡ framed ks (set (payload ks s) j v) ++ drop (size_of ks) s
mended_framed b ks s j v fits right there =
    let whole : framed ks (payload ks s) ++ drop (size_of ks) s ≡ s
    = rw (framed-payload b ks s fits right) (take-append-drop (size_of ks) s) in
    rw whole at (mended_framed-append ks (payload ks s) (drop (size_of ks) s) j v (length-payload ks s fits) there)

-- three stores: what stands at the first place, and at the second
module _ (s : List ℕ) {p q : ℕ} (v high low : ℕ) (before : p < q) (inside : q + 2 ≤ length s) where
  get_or_stores_byte : get_or (set (set (set s p v) q high) (q + 1) low) p 0 ≡ v
  get_or_stores_byte =
      let not-high : p ≡ q → ⊥ = λ e. omega arith in
      let not_low : p ≡ q + 1 → ⊥ = λ e. omega arith in
      rw (get_or-set_other, get_or-set_other) (get_or-set_same s p v 0 (omega arith))

  get_or_stores_high : get_or (set (set (set s p v) q high) (q + 1) low) q 0 ≡ high
  get_or_stores_high =
      let not_low : q ≡ q + 1 → ⊥ = λ e. omega arith in
      rw get_or-set_other (get_or-set_same (set s p v) q high 0 (simp length-set (omega arith)))

-- how m differs from s: v at place p, the updated check at place q, and all else as it was
pub record Touches (s m : List ℕ) (p q v : ℕ) : Type 0 where
  pub size : length m ≡ length s
  pub byte : get_or m p 0 ≡ v
  pub high : get_or m q 0 ≡ updated_at s p q v / 256
  pub low : get_or m (q + 1) 0 ≡ updated_at s p q v % 256
  pub others : (i : ℕ) → (i ≡ p → ⊥) → (i ≡ q → ⊥) → (i ≡ q + 1 → ⊥) → get_or m i 0 ≡ get_or s i 0

pub mended_touches : (s : List ℕ) (p q v : ℕ) → p < q → q + 2 ≤ length s → Touches s (mended s p q v) p q v
unfolding mended
mended_touches s p q v before inside =
    let u = updated_at s p q v in
    record {
      size = simp length-set;
      byte = get_or_stores_byte s v (u / 256) (u % 256) before inside;
      high = get_or_stores_high s v (u / 256) (u % 256) before inside;
      low = get_or-set_same (set (set s p v) q (u / 256)) (q + 1) (u % 256) 0 (simp length-set (omega arith));
      others = λ i np nq nl. rw (get_or-set_other, get_or-set_other, get_or-set_other);
    }
