-- Channels and the lines of a band: 13 exactly where there is none (specs/Demands).
use mathlib.Core.Bool.{Bool, true, false, cond, ◌&&◌, false≢true}
use mathlib.Core.List.{List, [], ◌∷◌, map}
use mathlib.Core.Logic.{◌↔◌, ◌⊎◌, inl, inr}
use mathlib.Core.Path.{◌≡◌, refl, sym, ◌∙◌, ap}
use Prim.Native.Nat.{ℕ, zero, suc, ◌≤◌, ◌<◌}
use native.Mathlib.Nat.{not-suc-le-zero, le_of_suc-le-suc}
use native.Mathlib.Omega.{arith}
use borrow.Author.Tests.{ltb-true, ltb-false, lt-ltb, le-ltb, eqb-true, eqb-false, ne_eqb}
use lib.Dec.{ltb, eqb}
use lib.Ieee.{Float}
use lib.ListN.{length, get_or}
use Rattle.std.specs.Prelude.{Option, Some, None, slice_get}
use Rattle.std.proofs.lemmas.Option.{slice_get_past, slice_get-get_or}
use Rattle.ground.proofs.CaseLaws.{by_test, zero_not_one}
use Rattle.chips.specs.Packing.{tabulate}
use Rattle.channels.specs.declared.listing.Band.{Band}
use Rattle.channels.specs.declared.listing.Line.{Line}
use Rattle.channels.specs.Table21.{Entry, table, entry_of, channels_of, quarters_of}
use Rattle.channels.proofs.Table21Laws.{entry_of_past}
use Rattle.channels.specs.Plan.{float, centre_of}
use Rattle.channels.specs.Listing.{letter_of, band_of, channels_up_to, lines_from, lines_of, line_at, channel_line}
use Rattle.kusikhut.specs.Told.{Told, told, told_line, told_centre}

module _ (i c : ℕ) where
  abbrev centre : Bool → Told Float
  centre t = told_centre (cond t (Some (float (quarters_of i c))) None)

  pub there : c < channels_of i → centre_of i c ≡ Some (float (quarters_of i c))
  there h = rw (lt-ltb c (channels_of i) h)

  pub no_channel : (told_centre (centre_of i c) ≡ told 13 (float 0 ∷ [])) ↔ (channels_of i ≤ c)
  no_channel = (by (ltb c (channels_of i)) refl, λ h. rw (le-ltb c (channels_of i) h)) where
    by : (t : Bool) → ltb c (channels_of i) ≡ t → centre t ≡ told 13 (float 0 ∷ []) → channels_of i ≤ c
    by true p e = absurd (zero_not_one (let n = ap (λ (x : Told Float). x.number) e in cc))
    by false p e = ltb-false c (channels_of i) p

  pub a_channel : (told_centre (centre_of i c) ≡ told 0 (float (quarters_of i c) ∷ [])) ↔ (c < channels_of i)
  a_channel = (by (ltb c (channels_of i)) refl, λ h. rw (lt-ltb c (channels_of i) h)) where
    by :
        (t : Bool) → ltb c (channels_of i) ≡ t → centre t ≡ told 0 (float (quarters_of i c) ∷ []) → c < channels_of i
    by true p e = ltb-true c (channels_of i) p
    by false p e = absurd (zero_not_one (let n = ap (λ (x : Told Float). x.number) e in cc))

told_none : (x : Option Line) → told_line x ≡ told 13 (0 ∷ 0 ∷ 0 ∷ []) → x ≡ None
told_none (Some x) e = absurd (zero_not_one (let n = ap (λ (t : Told ℕ). t.number) e in cc))
told_none None e = refl

pub no_line :
    (b : Option Band) (k : ℕ) → (told_line (line_at b k) ≡ told 13 (0 ∷ 0 ∷ 0 ∷ [])) ↔ (length (lines_of b) ≤ k)
no_line b k = (λ e. by (told_none (line_at b k) e), λ h. ap told_line (slice_get_past (lines_of b) k h)) where
  by : slice_get (lines_of b) k ≡ None → length (lines_of b) ≤ k
  by none =
      by_test (ltb k (length (lines_of b)))
      (λ t. let some = slice_get-get_or (lines_of b) k (channel_line 0 0 0) (ltb-true k (length (lines_of b)) t) in
      absurd (zero_not_one (let clash = sym some ∙ none in cc)))
      (λ t. ltb-false k (length (lines_of b)) t)

-- a line is its three parts
line_same :
    {i j c d h g : ℕ} → i ≡ j → c ≡ d → h ≡ g → channel_line i c h ≡ channel_line j d g
line_same p q r = rw (p, q, r)

pub a_line : (x : Option Line) (i c h : ℕ) → (told_line x ≡ told 0 (i ∷ c ∷ h ∷ [])) ↔ (x ≡ Some (channel_line i c h))
a_line x i c h = (there x, λ e. ap told_line e) where
  there : (x : Option Line) → told_line x ≡ told 0 (i ∷ c ∷ h ∷ []) → x ≡ Some (channel_line i c h)
  there (Some x) e =
      let row = ap (λ (t : Told ℕ). t.results) e in
      let index : x.index ≡ i = cc in
      let channel : x.channel ≡ c = cc in
      let hertz : x.hertz ≡ h = cc in
      ap Some (line_same index channel hertz)
  there None e = absurd (zero_not_one (let n = ap (λ (t : Told ℕ). t.number) e in cc))

letter_some : (x : ℕ) → 65 ≤ x → x ≤ 68 → letter_of x ≡ None → ⊥
letter_some x low high = by (eqb x 65) (eqb x 66) (eqb x 67) (eqb x 68) refl refl refl refl where
  by :
      (a b c d : Bool) → eqb x 65 ≡ a → eqb x 66 ≡ b → eqb x 67 ≡ c → eqb x 68 ≡ d
      → cond a (Some Band.A) (cond b (Some Band.B) (cond c (Some Band.C) (cond d (Some Band.D) None))) ≡ None → ⊥
  by true b c d p q r s e = zero_not_one (cc)
  by false true c d p q r s e = zero_not_one (cc)
  by false false true d p q r s e = zero_not_one (cc)
  by false false false true p q r s e = zero_not_one (cc)
  by false false false false p q r s e =
      omega (arith, eqb-false x 65 p, eqb-false x 66 q, eqb-false x 67 r, eqb-false x 68 s)

letter_none : (x : ℕ) → (65 ≤ x → x ≤ 68 → ⊥) → letter_of x ≡ None
letter_none x none =
    rw (
      ne_eqb x 65 (λ e. none (omega arith) (omega arith)),
      ne_eqb x 66 (λ e. none (omega arith) (omega arith)),
      ne_eqb x 67 (λ e. none (omega arith) (omega arith)),
      ne_eqb x 68 (λ e. none (omega arith) (omega arith)),
    )

-- s is a capital letter A to D, alone or with a line feed behind it
abbrev Named : List ℕ → ℕ → Type 0
Named s x = (s ≡ x ∷ []) ⊎ (s ≡ x ∷ 10 ∷ [])

pub no_band : (s : List ℕ) → (band_of s ≡ None) ↔ ((x : ℕ) → 65 ≤ x → x ≤ 68 → Named s x → ⊥)
unfolding band_of
no_band s = (there, back s) where
  there : band_of s ≡ None → (x : ℕ) → 65 ≤ x → x ≤ 68 → Named s x → ⊥
  there e x low high (inl h) = letter_some x low high (ap band_of (sym h) ∙ e)
  there e x low high (inr h) = letter_some x low high (ap band_of (sym h) ∙ e)

  back : (s : List ℕ) → ((x : ℕ) → 65 ≤ x → x ≤ 68 → Named s x → ⊥) → band_of s ≡ None
  back [] none = refl
  back (x ∷ []) none = letter_none x (λ low high. none x low high (inl refl))
  back (x ∷ (y ∷ [])) none = by (eqb y 10) refl where
    by : (t : Bool) → eqb y 10 ≡ t → cond t (letter_of x) None ≡ None
    by true e = letter_none x (λ low high. none x low high (inr (rw (eqb-true y 10 e))))
    by false e = refl
  back (x ∷ (y ∷ (z ∷ s))) none = refl

pub a_band :
    map band_of ((65 ∷ []) ∷ (66 ∷ []) ∷ (67 ∷ []) ∷ (68 ∷ []) ∷ [])
    ≡ Some Band.A ∷ Some Band.B ∷ Some Band.C ∷ Some Band.D ∷ []
unfolding band_of
a_band = refl

pub with_a_line_feed : (x : ℕ) → band_of (x ∷ 10 ∷ []) ≡ band_of (x ∷ [])
unfolding band_of
with_a_line_feed x = refl

-- document 01's own list of band B
pub band_b :
    (line_at (Some Band.B) 0 ≡ Some (channel_line 5 0 169481250))
    × ((line_at (Some Band.B) 1 ≡ Some (channel_line 6 0 169481250)) × (line_at (Some Band.B) 2 ≡ None))
unfolding lines_from channels_up_to entry_of table
band_b = (refl, (refl, refl))

pub channels_listed :
    (tabulate channels_of 14 ≡ 0 ∷ 6 ∷ 6 ∷ 6 ∷ 1 ∷ 1 ∷ 1 ∷ 8 ∷ 8 ∷ 8 ∷ 18 ∷ 18 ∷ 18 ∷ 4 ∷ [])
    × ((i : ℕ) → 14 ≤ i → channels_of i ≡ 0)
unfolding tabulate entry_of table
channels_listed = (refl, λ i h. ap (λ (e : Entry). e.channels) (entry_of_past i h))

pub band_lines :
    map (λ (b : Option Band). length (lines_of b))
    (Some Band.A ∷ Some Band.B ∷ Some Band.C ∷ Some Band.D ∷ None ∷ [])
    ≡ 19 ∷ 2 ∷ 24 ∷ 58 ∷ 0 ∷ []
unfolding lines_from channels_up_to entry_of table
band_lines = refl
