-- Which answer a body gets (document 01, "Extended headers and names", "Answer numbers").
--     header_reading_of_named, header_reading_as-lt, header_reading_as-le    the answer by the tests that decide it
--     header_kind_of_ci_of, header_kind_of_is    a CI byte stands for a kind exactly when it is that kind's
--     WholeHeader s h n, CutHeader s    the body s starts with a whole header, and it ends before its header does
--     HeaderGrounds s r            the grounds on which s gets the answer r
--     header_reading_of_unknown, header_reading_of_short    the two refusals, each exactly in its case and in their
--                                                           order
--     header_reading_of_whole        what is accepted is a whole header
use mathlib.Core.List.{List}
use mathlib.Core.Path.{◌≡◌, refl, ◌∙◌, sym, ap, subst}
use mathlib.Core.Logic.{◌↔◌, ◌⊎◌, inl, inr, ⊎_elim}
use mathlib.Core.Bool.{Bool, true, false, cond}
use Prim.Native.Nat.{ℕ, ◌≤◌, ◌<◌}
use lib.Dec.{eqb, ltb}
use lib.ListN.{length, get_or}
use borrow.Author.Tests.{eqb-true, eqb-false, eq-eqb, ne_eqb, ltb-true, ltb-false, lt-ltb, le-ltb}
use Rattle.std.specs.Prelude.{Result, Ok, Err}
use Rattle.answers.specs.declared.Refusal.{Refusal}
use Rattle.answers.specs.declared.Refusal.TheVariants.{UnknownCi, ShortBody}
use Rattle.header.specs.Layout.{ci_of, header_length}
use Rattle.header.specs.HeaderReads.{header_kind_of, header_in, header_reading_as, header_reading_of}
use Rattle.header.specs.declared.layout.HeaderKind.{HeaderKind}
use Rattle.header.specs.declared.layout.HeaderKind.TheVariants.{Plain, Secured, Addressed, AddressedSecured}
use Rattle.header.specs.declared.layout.Header.{Header}

module _ (s : List ℕ) where
  pub header_reading_of_named :
      (length s ≡ 0 → ⊥) → {c : Result HeaderKind Refusal} → header_kind_of (get_or s 0 0) ≡ c
      → header_reading_of s ≡ header_reading_as c s
  header_reading_of_named there e =
      rw (ne_eqb (length s) 0 there) (ap (λ (c : Result HeaderKind Refusal). header_reading_as c s) e)

  module _ (k : HeaderKind) where
    pub header_reading_as-lt : length s < header_length k → header_reading_as (Ok k) s ≡ Err ShortBody
    header_reading_as-lt h = rw (lt-ltb (length s) (header_length k) h)

    pub header_reading_as-le :
        header_length k ≤ length s → header_reading_as (Ok k) s ≡ Ok (header_in k s, header_length k)
    header_reading_as-le h = rw (le-ltb (length s) (header_length k) h)

pub header_kind_of_ci_of : (k : HeaderKind) → header_kind_of (ci_of k) ≡ Ok k
header_kind_of_ci_of Plain = refl
header_kind_of_ci_of Secured = refl
header_kind_of_ci_of Addressed = refl
header_kind_of_ci_of AddressedSecured = refl

-- what a byte that stands for c is
data StandsFor (ci : ℕ) : Result HeaderKind Refusal → Type 0 where
  is_kind : {k : HeaderKind} → ci ≡ ci_of k → StandsFor ci (Ok k)
  no_kind : StandsFor ci (Err UnknownCi)

header_kind_of_stands : (ci : ℕ) → StandsFor ci (header_kind_of ci)
header_kind_of_stands ci = or Plain (or Secured (or Addressed (or AddressedSecured no_kind)))
  where
    by_test :
        (k : HeaderKind) {c : Result HeaderKind Refusal} (t : Bool) → eqb ci (ci_of k) ≡ t → StandsFor ci c
        → StandsFor ci (cond t (Ok k) c)
    by_test k true p n = is_kind (eqb-true ci (ci_of k) p)
    by_test k false p n = n

    or :
        (k : HeaderKind) {c : Result HeaderKind Refusal} → StandsFor ci c
        → StandsFor ci (cond (eqb ci (ci_of k)) (Ok k) c)
    or k n = by_test k (eqb ci (ci_of k)) refl n

unknown_ci : {ci : ℕ} {r : Refusal} → StandsFor ci (Err r) → r ≡ UnknownCi
unknown_ci no_kind = refl

pub header_kind_of_is : (ci : ℕ) (k : HeaderKind) → header_kind_of ci ≡ Ok k ↔ ci ≡ ci_of k
header_kind_of_is ci k =
    (λ e. there (subst (StandsFor ci) e (header_kind_of_stands ci)), λ e. ap header_kind_of e ∙ header_kind_of_ci_of k)
  where
    there : StandsFor ci (Ok k) → ci ≡ ci_of k
    there (is_kind e) = e

pub record WholeHeader (s : List ℕ) (h : Header) (n : ℕ) : Type 0 where
  pub kind : HeaderKind
  pub there : length s ≡ 0 → ⊥
  pub named : header_kind_of (get_or s 0 0) ≡ Ok kind
  pub fits : header_length kind ≤ length s
  pub header : header_in kind s ≡ h
  pub size : header_length kind ≡ n

pub record CutHeader (s : List ℕ) : Type 0 where
  pub kind : HeaderKind
  pub there : length s ≡ 0 → ⊥
  pub named : header_kind_of (get_or s 0 0) ≡ Ok kind
  pub short : length s < header_length kind

-- three grounds, so that no other refusal is ever given
pub data HeaderGrounds (s : List ℕ) : Result (Header × ℕ) Refusal → Type 0 where
  unknown : (length s ≡ 0 → ⊥) → header_kind_of (get_or s 0 0) ≡ Err UnknownCi → HeaderGrounds s (Err UnknownCi)
  short : (length s ≡ 0) ⊎ CutHeader s → HeaderGrounds s (Err ShortBody)
  whole : {h : Header} {n : ℕ} → WholeHeader s h n → HeaderGrounds s (Ok (h, n))

module _ (s : List ℕ) where
  header_reading_as_grounds :
      (length s ≡ 0 → ⊥) → (c : Result HeaderKind Refusal) → header_kind_of (get_or s 0 0) ≡ c
      → HeaderGrounds s (header_reading_as c s)
  header_reading_as_grounds there (Err r) p =
      let e = unknown_ci (subst (StandsFor (get_or s 0 0)) p (header_kind_of_stands (get_or s 0 0))) in
      subst (λ (x : Refusal). HeaderGrounds s (Err x)) (sym e) (unknown there (p ∙ ap Err e))
  header_reading_as_grounds there (Ok k) p = by_room (ltb (length s) (header_length k)) refl
    where
      by_room :
          (t : Bool) → ltb (length s) (header_length k) ≡ t
          → HeaderGrounds s (cond t (Err ShortBody) (Ok (header_in k s, header_length k)))
      by_room true q = short (inr (record { kind = k; there = there; named = p; short = ltb-true _ _ q }))
      by_room false q =
          whole (record { kind = k; there = there; named = p; fits = ltb-false _ _ q; header = refl; size = refl })

  pub header_reading_of_grounds : HeaderGrounds s (header_reading_of s)
  header_reading_of_grounds = by_length (eqb (length s) 0) refl
    where
      by_length :
          (e : Bool) → eqb (length s) 0 ≡ e
          → HeaderGrounds s (cond e (Err ShortBody) (header_reading_as (header_kind_of (get_or s 0 0)) s))
      by_length true p = short (inl (eqb-true (length s) 0 p))
      by_length false p = header_reading_as_grounds (eqb-false (length s) 0 p) (header_kind_of (get_or s 0 0)) refl

  header_grounds : {r : Result (Header × ℕ) Refusal} → header_reading_of s ≡ r → HeaderGrounds s r
  header_grounds e = subst (HeaderGrounds s) e header_reading_of_grounds

  pub header_reading_of_unknown :
      header_reading_of s ≡ Err UnknownCi ↔ ((length s ≡ 0 → ⊥) × (header_kind_of (get_or s 0 0) ≡ Err UnknownCi))
  header_reading_of_unknown = (λ e. there (header_grounds e), λ m. header_reading_of_named s m.0 m.1)
    where
      there : HeaderGrounds s (Err UnknownCi) → (length s ≡ 0 → ⊥) × (header_kind_of (get_or s 0 0) ≡ Err UnknownCi)
      there (unknown p q) = (p, q)

  cut_short : CutHeader s → header_reading_of s ≡ Err ShortBody
  cut_short c = header_reading_of_named s c.there c.named ∙ header_reading_as-lt s c.kind c.short

  pub header_reading_of_short : header_reading_of s ≡ Err ShortBody ↔ ((length s ≡ 0) ⊎ CutHeader s)
  header_reading_of_short = (λ e. there (header_grounds e), ⊎_elim (λ e. rw (eq-eqb (length s) 0 e)) cut_short)
    where
      there : HeaderGrounds s (Err ShortBody) → (length s ≡ 0) ⊎ CutHeader s
      there (short m) = m

  pub header_reading_of_whole : {h : Header} {n : ℕ} → header_reading_of s ≡ Ok (h, n) → WholeHeader s h n
  header_reading_of_whole {h} {n} e = there (header_grounds e)
    where
      there : HeaderGrounds s (Ok (h, n)) → WholeHeader s h n
      there (whole w) = w
