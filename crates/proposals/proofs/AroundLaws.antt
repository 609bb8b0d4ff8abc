-- The words around a word (specs/Near).
--     Among c ws      c is one of ws
--     around_are      they have its length, are bytes if it is, and differ from it at no more than k places
--     around-all      and all such words are among them
--     rest_kept       what is left of such a word behind a first element that stays
--     first_code_block_is    the first code word of a list is one of it, and a code word; or there is none
-- Assumes nothing.
use mathlib.Core.Bool.{Bool, true, false, cond, false≢true}
use mathlib.Core.List.{List, [], ◌∷◌, ◌++◌, map}
use mathlib.Core.Logic.{◌⊎◌, inl, inr, ⊎_elim}
use mathlib.Core.Path.{◌≡◌, refl, sym, ap, subst, ◌∙◌}
use Prim.Native.Nat.{ℕ, zero, suc, ◌≤◌, ◌<◌}
use native.Mathlib.Nat.{le_of_suc-le-suc, not-suc-le-zero, eq-or-lt_of_le}
use native.Mathlib.Omega.{arith}
use borrow.Author.Tests.{eqb-true, eqb-false}
use lib.Dec.{eqb}
use lib.ListN.{length}
use Rattle.ground.specs.Apart.{apart}
use Rattle.ground.specs.Bytes.{Bytes}
use Rattle.ground.proofs.ApartLaws.{apart_self, apart-zero, same_first, other_first, first_most}
use Rattle.ground.proofs.ByteLaws.{bytes-cons}
use Rattle.ground.proofs.CaseLaws.{by_test}
use Rattle.proposals.specs.Near.{is_code_block, before, around, first_code_block}

-- ---- one of a list

unfoldable pub Among : List ℕ → List (List ℕ) → Type 0
Among c [] = ⊥
Among c (w ∷ ws) = (c ≡ w) ⊎ Among c ws

among_left : (c : List ℕ) (us vs : List (List ℕ)) → Among c us → Among c (us ++ vs)
unfolding Among
among_left c [] vs h = absurd h
among_left c (w ∷ us) vs (inl e) = inl e
among_left c (w ∷ us) vs (inr h) = inr (among_left c us vs h)

among_right : (c : List ℕ) (us vs : List (List ℕ)) → Among c vs → Among c (us ++ vs)
unfolding Among
among_right c [] vs h = h
among_right c (w ∷ us) vs h = inr (among_right c us vs h)

among-append : (c : List ℕ) (us vs : List (List ℕ)) → Among c (us ++ vs) → Among c us ⊎ Among c vs
unfolding Among
among-append c [] vs h = inr h
among-append c (w ∷ us) vs (inl e) = inl (inl e)
among-append c (w ∷ us) vs (inr h) = ⊎_elim (λ p. inl (inr p)) inr (among-append c us vs h)

-- a list that begins with x and goes on with one of ws
pub record Begins (x : ℕ) (c : List ℕ) (ws : List (List ℕ)) : Type 0 where
  pub rest : List ℕ
  pub is : c ≡ x ∷ rest
  pub among : Among rest ws

pub among-map : (x : ℕ) (v : List ℕ) (ws : List (List ℕ)) → Among v ws → Among (x ∷ v) (map (λ (u : List ℕ). x ∷ u) ws)
unfolding Among
among-map x v [] h = h
among-map x v (w ∷ ws) (inl e) = inl (ap {B = List ℕ} (λ (u : List ℕ). x ∷ u) e)
among-map x v (w ∷ ws) (inr h) = inr (among-map x v ws h)

pub map_among :
    (x : ℕ) (c : List ℕ) (ws : List (List ℕ)) → Among c (map (λ (u : List ℕ). x ∷ u) ws) → Begins x c ws
unfolding Among
map_among x c [] h = absurd h
map_among x c (w ∷ ws) (inl e) = record { rest = w; is = e; among = inl refl }
map_among x c (w ∷ ws) (inr h) =
    let b = map_among x c ws h in
    record { rest = b.rest; is = b.is; among = inr b.among }

among_before : (n y : ℕ) (v : List ℕ) (ws : List (List ℕ)) → y < n → Among v ws → Among (y ∷ v) (before n ws)
unfolding before
among_before zero y v ws h m = absurd (not-suc-le-zero h)
among_before (suc n) y v ws h m =
    ⊎_elim
    (λ e. among_left (y ∷ v) (map (λ (u : List ℕ). n ∷ u) ws) (before n ws)
    (subst (λ (x : ℕ). Among (y ∷ v) (map (λ (u : List ℕ). x ∷ u) ws)) e (among-map y v ws m)))
    (λ l. among_right (y ∷ v) (map (λ (u : List ℕ). n ∷ u) ws) (before n ws) (among_before n y v ws l m))
    (eq-or-lt_of_le (le_of_suc-le-suc h))

before_among : (n : ℕ) (c : List ℕ) (ws : List (List ℕ)) → Among c (before n ws) → (y : ℕ) × ((y < n) × Begins y c ws)
unfolding before Among
before_among zero c ws h = absurd h
before_among (suc n) c ws h =
    ⊎_elim (λ m. (n, (omega arith, map_among n c ws m)))
    (λ m. let (y, (l, b)) = before_among n c ws m in (y, (omega arith, b)))
    (among-append c (map (λ (u : List ℕ). n ∷ u) ws) (before n ws) h)

-- ---- the words around a word

pub record Around (k : ℕ) (w c : List ℕ) : Type 0 where
  pub count : length c ≡ length w
  pub bytes : Bytes c
  pub few : apart w c ≤ k

kept : (k x : ℕ) (w v : List ℕ) → x < 256 → Around k w v → Around k (x ∷ w) (x ∷ v)
kept k x w v h a =
    record {
      count = ap suc a.count;
      bytes = bytes-cons x v h a.bytes;
      few = omega (arith, same_first x x w v refl, a.few);
    }

changed : (k x y : ℕ) (w v : List ℕ) → y < 256 → Around k w v → Around (suc k) (x ∷ w) (y ∷ v)
changed k x y w v h a =
    record {
      count = ap suc a.count;
      bytes = bytes-cons y v h a.bytes;
      few = omega (arith, first_most x y w v, a.few);
    }

nothing_apart : (w : List ℕ) → Bytes w → (k : ℕ) → Around k w w
nothing_apart w b k = record { count = refl; bytes = b; few = omega (arith, apart_self w) }

pub around_are : (k : ℕ) (w c : List ℕ) → Bytes w → Among c (around k w) → Around k w c
unfolding around Among
around_are k [] c b (inl e) = subst (Around k []) (sym e) (nothing_apart [] b k)
around_are k [] c b (inr h) = absurd h
around_are zero (x ∷ w) c b (inl e) = subst (Around zero (x ∷ w)) (sym e) (nothing_apart (x ∷ w) b zero)
around_are zero (x ∷ w) c b (inr h) = absurd h
around_are (suc k) (x ∷ w) c b h =
    ⊎_elim
    (λ m. let p = map_among x c (around (suc k) w) m in
    subst (Around (suc k) (x ∷ w)) (sym p.is)
    (kept (suc k) x w p.rest (b 0) (around_are (suc k) w p.rest (λ j. b (suc j)) p.among)))
    (λ m. let (y, (l, p)) = before_among 256 c (around k w) m in
    subst (Around (suc k) (x ∷ w)) (sym p.is)
    (changed k x y w p.rest l (around_are k w p.rest (λ j. b (suc j)) p.among)))
    (among-append c (map (λ (u : List ℕ). x ∷ u) (around (suc k) w)) (before 256 (around k w)) h)

-- what is left of a word near x ∷ w that begins with y
pub rest_kept : (k x y : ℕ) (w v : List ℕ) → x ≡ y → Around k (x ∷ w) (y ∷ v) → Around k w v
rest_kept k x y w v same a =
    record {
      count = omega (arith, a.count);
      bytes = λ j. a.bytes (suc j);
      few = omega (arith, same_first x y w v same, a.few);
    }

rest_changed : (k x y : ℕ) (w v : List ℕ) → (x ≡ y → ⊥) → Around (suc k) (x ∷ w) (y ∷ v) → Around k w v
rest_changed k x y w v other a =
    record {
      count = omega (arith, a.count);
      bytes = λ j. a.bytes (suc j);
      few = omega (arith, other_first x y w v other, a.few);
    }

pub around-all : (k : ℕ) (w c : List ℕ) → Around k w c → Among c (around k w)
unfolding around Among
around-all k [] [] a = inl refl
around-all k [] (y ∷ v) a = absurd (omega (arith, a.count))
around-all k (x ∷ w) [] a = absurd (omega (arith, a.count))
around-all zero (x ∷ w) (y ∷ v) a = inl (sym (apart-zero (x ∷ w) (y ∷ v) (sym a.count) a.few))
around-all (suc k) (x ∷ w) (y ∷ v) a =
    let keeping = map (λ (u : List ℕ). x ∷ u) (around (suc k) w) in
    by_test (eqb x y)
    (λ t. let same = eqb-true x y t in
    among_left (y ∷ v) keeping (before 256 (around k w))
    (subst (λ (z : ℕ). Among (z ∷ v) keeping) same
    (among-map x v (around (suc k) w) (around-all (suc k) w v (rest_kept (suc k) x y w v same a)))))
    (λ t. among_right (y ∷ v) keeping (before 256 (around k w))
    (among_before 256 y v (around k w) (a.bytes 0)
    (around-all k w v (rest_changed k x y w v (eqb-false x y t) a))))

-- ---- the first code word of a list

pub record Found (c : List ℕ) (ws : List (List ℕ)) : Type 0 where
  pub among : Among c ws
  pub code : is_code_block c ≡ true

abbrev pub NoneOf : List (List ℕ) → Type 0
NoneOf ws = (c : List ℕ) → Among c ws → is_code_block c ≡ true → ⊥

none_more : (c : List ℕ) (ws : List (List ℕ)) → is_code_block c ≡ false → NoneOf ws → NoneOf (c ∷ ws)
unfolding Among
none_more c ws f none d (inl e) t = false≢true (sym f ∙ ap is_code_block (sym e) ∙ t)
none_more c ws f none d (inr m) t = none d m t

pub first_code_block_is :
    (w : List ℕ) (ws : List (List ℕ)) → Found (first_code_block w ws) ws ⊎ (NoneOf ws × (first_code_block w ws ≡ w))
unfolding first_code_block Among
first_code_block_is w [] = inr (λ c m t. m, refl)
first_code_block_is w (c ∷ ws) = by (is_code_block c) refl (first_code_block_is w ws)
  where
    by :
        (t : Bool) → is_code_block c ≡ t → Found (first_code_block w ws) ws ⊎ (NoneOf ws × (first_code_block w ws ≡ w))
        → Found (cond t c (first_code_block w ws)) (c ∷ ws) ⊎ (NoneOf (c ∷ ws) × (cond t c (first_code_block w ws) ≡ w))
    by true t later = inl (record { among = inl refl; code = t })
    by false t (inl f) = inl (record { among = inr f.among; code = f.code })
    by false t (inr none) = inr (none_more c ws t none.0, none.1)
