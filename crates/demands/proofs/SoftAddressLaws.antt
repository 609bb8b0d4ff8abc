-- Soft addresses (document 02, 2/14): the top bit of M where it stands in a content and in a header, what filter and
-- settings store make of it. The filter's laws hold for every filter that keeps the promise of the page (`filtering`).
--     top_in_content, others_in-content    a content whose bit was turned: M has its top bit turned, all else stays
--     receiver_place_lem      M2 is bytes 3 and 4 of the body
--     names_differ        the content whose bit was turned bears another name
--     keys_differ         and has another number in the settings store
--     says                a content that is judged is wanted if an entry in use is its name, and else not
--     listed_alone        the one on the list is wanted, and the other is not
--     entries_apart       where both are wanted, each has an entry of its own
-- Assumes nothing.
use mathlib.Core.Bool.{Bool, true, false}
use mathlib.Core.List.{List, []}
use mathlib.Core.Logic.{◌⊎◌, inl, inr}
use mathlib.Core.Path.{◌≡◌, refl, sym, ◌∙◌, ap}
use Prim.Native.Nat.{ℕ, ◌+◌, ◌*◌, ◌^◌, ◌≤◌, ◌<◌}
use native.Mathlib.Omega.{arith}
use borrow.Author.Tests.{ltb-true, ltb-false}
use lib.Bits.{bit_xor, xor_lt, xor_block, xor_zero_r}
use lib.Dec.{ltb}
use lib.ListN.{length, get_or, drop, length-set}
use lib.Seq.{get_or-set_same, get_or-set_other}
use Rattle.std.specs.Prelude.{Result, Ok, Err}
use Rattle.answers.specs.declared.Refusal.{Refusal}
use Rattle.ground.specs.Bytes.{Bytes}
use Rattle.ground.proofs.ByteLaws.{bytes_take, bytes_drop, bytes-set}
use Rattle.ground.proofs.CaseLaws.{by_test, zero_not_one}
use Rattle.address.specs.Names.{two_at, name_of}
use Rattle.address.specs.Keys.{key_bytes, key_at}
use Rattle.address.proofs.NameLaws.{length_name_of, get_or_name_of}
use Rattle.address.proofs.MakerLaws.{turned_none}
use Rattle.header.specs.declared.layout.Header.{Header}
use Rattle.header.specs.Layout.{addressed}
use Rattle.header.specs.HeaderReads.{header_reading_of}
use Rattle.header.proofs.HeaderReadsLaws.{header_reading_of_whole}
use Rattle.demands.specs.Rules.{Gives, Passes, Judged}
use Rattle.demands.specs.Cases.{InUse}
use Rattle.demands.specs.TopBit.{top_turned}
use Rattle.demands.specs.Ladders.{filter_rule}

module _ (s : List ℕ) (there : 2 < length s) where
  turned_byte : get_or (top_turned s) 2 0 ≡ bit_xor (get_or s 2 0) 0x80
  turned_byte = get_or-set_same s 2 (bit_xor (get_or s 2 0) 0x80) 0 there

  pub others_in-content : (i : ℕ) → (i ≡ 2 → ⊥) → get_or (top_turned s) i 0 ≡ get_or s i 0
  others_in-content i = get_or-set_other s 2 i (bit_xor (get_or s 2 0) 0x80) 0

  -- M of a content, the second byte as a block of its own
  in_blocks : bit_xor (two_at s 1) 0x8000 ≡ bit_xor (get_or s 2 0 * 2 ^ 8 + get_or s 1 0) (0x80 * 2 ^ 8 + 0)
  in_blocks =
      let m : two_at s 1 ≡ get_or s 2 0 * 2 ^ 8 + get_or s 1 0 = omega arith in
      ap (λ (x : ℕ). bit_xor x 0x8000) m

  pub top_in_content : Bytes s → two_at (top_turned s) 1 ≡ bit_xor (two_at s 1) 0x8000
  top_in_content bytes =
      let first = others_in-content 1 (λ e. omega arith) in
      let turned = in_blocks ∙ xor_block 8 (get_or s 2 0) 0x80 (get_or s 1 0) 0 (bytes 1) (omega arith) in
      omega (arith, first, turned_byte, turned, xor_zero_r (get_or s 1 0))

  pub names_differ : name_of s ≡ name_of (top_turned s) → ⊥
  names_differ e =
      let second = sym (get_or_name_of s 1 (omega arith)) ∙ ap (λ (x : List ℕ). get_or x 1 0) e
      ∙ get_or_name_of (top_turned s) 1 (omega arith) in
      omega (arith, turned_none (get_or s 2 0) 0x80 (sym (second ∙ turned_byte)))

turned_long : (s : List ℕ) → 9 ≤ length s → 9 ≤ length (top_turned s)
turned_long s long = rw (length-set s 2 (bit_xor (get_or s 2 0) 0x80)) long

-- eight bytes that stand for one number are the same bytes: the store's promise (`as_received`)
pub keys_differ :
    ((name : List ℕ) → Bytes name → length name ≡ 8 → key_bytes (key_at name 0) ≡ name)
    → (s : List ℕ) → Bytes s → 9 ≤ length s → key_at (name_of s) 0 ≡ key_at (name_of (top_turned s)) 0 → ⊥
keys_differ received s bytes long e =
    let t = top_turned s in
    let turned : Bytes t = bytes-set s 2 _ bytes (xor_lt 8 (get_or s 2 0) 0x80 (bytes 2) (omega arith)) in
    let name = received (name_of s) (bytes_take 8 (drop 1 s) (bytes_drop 1 s bytes)) (length_name_of s (omega arith)) in
    let whole = length_name_of t (turned_long s long) in
    let other = received (name_of t) (bytes_take 8 (drop 1 t) (bytes_drop 1 t turned)) whole in
    names_differ s (omega arith) (sym name ∙ ap key_bytes e ∙ other)

pub receiver_place_lem :
    (s : List ℕ) (h : Header) (n : ℕ) → header_reading_of s ≡ Ok (h, n) → addressed h.kind ≡ true
    → h.receiver.m ≡ two_at s 3
receiver_place_lem s h n e a =
    let w = header_reading_of_whole s e in
    let kind : addressed w.kind ≡ true = ap (λ (g : Header). addressed g.kind) w.header ∙ a in
    ap (λ (g : Header). g.receiver.m) (sym w.header) ∙ rw kind

module _
    (filter : List (List ℕ) → ℕ → List ℕ → Result Bool Refusal) (promise :
    (es : List (List ℕ)) (n : ℕ) (s : List ℕ) → length es ≡ 16
    → Judged Err (filter_rule es n s) (filter es n s))
    (es : List (List ℕ)) (n : ℕ) (sixteen : length es ≡ 16) where
  abbrev Says : List ℕ → Type 0
  Says s =
      (InUse es n (name_of s) × (filter es n s ≡ Ok true))
      ⊎ ((InUse es n (name_of s) → ⊥) × (filter es n s ≡ Ok false))

  says : (s : List ℕ) → n ≤ 16 → 9 ≤ length s → Says s
  says s few long =
      (promise es n s sixteen).accepted_exactly.1 (λ w over. omega arith, (λ w short. omega arith, refl))

  module _ (s : List ℕ) (long : 9 ≤ length s) where
    pub listed_alone :
        n ≤ 16 → InUse es n (name_of s) → (InUse es n (name_of (top_turned s)) → ⊥)
        → (filter es n s ≡ Ok true) × (filter es n (top_turned s) ≡ Ok false)
    listed_alone few here gone = (one (says s few long), other (says (top_turned s) few (turned_long s long)))
      where
        one : Says s → filter es n s ≡ Ok true
        one (inl h) = h.1
        one (inr h) = absurd (h.0 here)

        other : Says (top_turned s) → filter es n (top_turned s) ≡ Ok false
        other (inl h) = absurd (gone h.0)
        other (inr h) = h.1

  -- what is wanted is long enough, and an entry in use is its name
  wanted_in_use : (s : List ℕ) → filter es n s ≡ Ok true → (9 ≤ length s) × InUse es n (name_of s)
  wanted_in_use s e = by (promise es n s sixteen).ends
    where
      at_least : Passes (filter_rule es n s) → 9 ≤ length s
      at_least p =
          by_test (ltb (length s) 9) (λ t. absurd (p.1.0 0 (ltb-true (length s) 9 t, refl)))
          (λ t. ltb-false (length s) 9 t)

      there : Says s → InUse es n (name_of s)
      there (inl h) = h.0
      there (inr h) = absurd (zero_not_one (let no = h.1 in cc))

      by :
          ((k : ℕ) × ((v : ℕ) × Gives (filter_rule es n s) k v)) ⊎ Passes (filter_rule es n s)
          → (9 ≤ length s) × InUse es n (name_of s)
      by (inl g) =
          let r = ((promise es n s sixteen).refused_exactly g.0 g.1.0).1 g.1.1 in
          absurd (zero_not_one (let no = r.1.0 in cc))
      by (inr p) = (at_least p, there ((promise es n s sixteen).accepted_exactly.1 p))

  pub entries_apart :
      (s : List ℕ) → filter es n s ≡ Ok true → filter es n (top_turned s) ≡ Ok true
      → (i : ℕ) × ((j : ℕ) × ((i ≡ j → ⊥) × (((i < n) × (get_or es i [] ≡ name_of s))
      × ((j < n) × (get_or es j [] ≡ name_of (top_turned s))))))
  entries_apart s one other =
      let u = wanted_in_use s one in
      let v = (wanted_in_use (top_turned s) other).1 in
      let apart : u.1.0 ≡ v.0 → ⊥ = λ same. names_differ s (omega (arith, u.0))
      (sym u.1.1.1 ∙ ap (λ (i : ℕ). get_or es i []) same ∙ v.1.1) in
      (u.1.0, (v.0, (apart, (u.1.1, v.1))))
