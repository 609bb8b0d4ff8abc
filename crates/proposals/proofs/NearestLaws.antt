-- What is proposed for a word (specs/Near): the search finds what `Nearest` says, and of that there is just one.
--     nearest_is        what the search finds is what the page says
--     near_same        two code words near one word are one, if k is at most 16
--     nearest_only      so what is proposed is settled
--     nearest_near      where a code word is near, it is proposed
--     nearest_none      where none is, the word itself
--     near             what makes a code word near
--     near_self        a code word is near itself
-- Assumes nothing.
use mathlib.Core.List.{List, [], ◌∷◌, map}
use mathlib.Core.Logic.{inl, inr, ⊎_elim}
use mathlib.Core.Path.{◌≡◌, refl, sym, ap, subst, ◌∙◌}
use Prim.Native.Nat.{ℕ, suc, ◌≤◌}
use native.Mathlib.Omega.{arith}
use lib.ListN.{length, get_or}
use Rattle.ground.specs.Apart.{apart}
use Rattle.ground.specs.Bytes.{Bytes}
use Rattle.ground.proofs.ApartLaws.{apart_self, same_first}
use Rattle.ground.proofs.ByteLaws.{bytes-cons}
use Rattle.field.specs.Polynomials.{eval_from}
use Rattle.codewords.specs.CodeBlocks.{CodeBlock}
use Rattle.codewords.proofs.NearLaws.{near_one}
use Rattle.proposals.specs.Near.{Near, Nearest, around, nearest_of}
use Rattle.proposals.proofs.CodeLaws.{is_code_block_code, code-is_code_block}
use Rattle.proposals.proofs.AroundLaws.{Among, among-map, map_among, Around, around_are, around-all, rest_kept, Found, NoneOf, first_code_block_is}

pub near :
    {k : ℕ} {w c : List ℕ} → Bytes c → CodeBlock c → length c ≡ length w → get_or c 0 0 ≡ get_or w 0 0 → apart w c ≤ k
    → Near k w c
near b code count first few = record { bytes = b; code_word = code; count = count; first = first; few = few }

pub near_self : (k : ℕ) (w : List ℕ) → Bytes w → CodeBlock w → Near k w w
near_self k w b code = near b code refl refl (omega (arith, apart_self w))

module _ (k l : ℕ) (w : List ℕ) (b : Bytes (l ∷ w)) where
  abbrev candidates : List (List ℕ)
  candidates = map (λ (v : List ℕ). l ∷ v) (around k w)

  found_near : (c : List ℕ) → Found c candidates → Near k (l ∷ w) c
  found_near c f =
      let p = map_among l c (around k w) f.among in
      let a = around_are k w p.rest (λ j. b (suc j)) p.among in
      subst (Near k (l ∷ w)) (sym p.is)
      (near (bytes-cons l p.rest (b 0) a.bytes) (subst CodeBlock p.is (is_code_block_code c f.code))
      (ap suc a.count) refl (omega (arith, same_first l l w p.rest refl, a.few)))

  near_among : (c : List ℕ) → Near k (l ∷ w) c → Among c candidates
  near_among [] n = absurd (omega (arith, n.count))
  near_among (x ∷ v) n =
      let same : l ≡ x = sym n.first in
      let a : Around k (l ∷ w) (x ∷ v) = record { count = n.count; bytes = n.bytes; few = n.few } in
      subst (λ (y : ℕ). Among (y ∷ v) candidates) same
      (among-map l v (around k w) (around-all k w v (rest_kept k l x w v same a)))

  none_near : NoneOf candidates → (c : List ℕ) → Near k (l ∷ w) c → ⊥
  none_near none c n = none c (near_among c n) (code-is_code_block c n.code_word)

pub nearest_is : (k : ℕ) (w : List ℕ) → Bytes w → Nearest k w (nearest_of k w)
unfolding nearest_of eval_from
nearest_is k [] b = inl (near_self k [] b (λ j h. refl))
nearest_is k (l ∷ w) b =
    ⊎_elim (λ f. inl (found_near k l w b _ f)) (λ p. inr (none_near k l w b p.0, p.1))
    (first_code_block_is (l ∷ w) (candidates k l w b))

module _ (k : ℕ) (w : List ℕ) (few : k ≤ 16) (most : length w ≤ 255) where
  pub near_same : (c d : List ℕ) → Near k w c → Near k w d → c ≡ d
  near_same c d p q =
      near_one w c d (sym p.count) (sym q.count) most p.bytes q.bytes p.code_word q.code_word
      (omega (arith, p.few)) (omega (arith, q.few))

  pub nearest_only : (m n : List ℕ) → Nearest k w m → Nearest k w n → m ≡ n
  nearest_only m n (inl p) (inl q) = near_same m n p q
  nearest_only m n (inl p) (inr (none, e)) = absurd (none m p)
  nearest_only m n (inr (none, e)) (inl q) = absurd (none n q)
  nearest_only m n (inr (none, e)) (inr (also, f)) = e ∙ sym f

  pub nearest_near : Bytes w → (c : List ℕ) → Near k w c → nearest_of k w ≡ c
  nearest_near b c p = nearest_only (nearest_of k w) c (nearest_is k w b) (inl p)

  pub nearest_none : Bytes w → ((c : List ℕ) → Near k w c → ⊥) → nearest_of k w ≡ w
  nearest_none b none = nearest_only (nearest_of k w) w (nearest_is k w b) (inr (none, refl))
