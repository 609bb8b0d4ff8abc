-- What the list of a band holds, one line at a time (document 01, "Mode N channels").
--     band_of_one, band_of_two, band_of_other    the band of an input, by the input's length
--     slice_get_lines_from-lt                    a channel of the first index is its own line
--     slice_get_lines_from-le                    behind them the list goes on with the next index
--     slice_get_lines_from-nil                   no indices, no lines
-- Assumes nothing.
use mathlib.Core.Path.{◌≡◌, refl, ap, ◌∙◌}
use mathlib.Core.Bool.{cond}
use mathlib.Core.Logic.{⊎_elim}
use mathlib.Core.List.{List, [], ◌∷◌, ◌++◌}
use Prim.Native.Nat.{ℕ, zero, suc, ◌+◌, ◌-◌, ◌*◌, ◌<◌, ◌≤◌}
use native.Mathlib.Nat.{zero-add, add-zero, suc-add, not-suc-le-zero, le_of_suc-le-suc, eq-or-lt_of_le}
use native.Mathlib.Numerals.{add-one}
use native.Mathlib.Omega.{arith}
use lib.Dec.{eqb}
use lib.ListN.{length, get_or, length-append}
use Rattle.std.specs.Prelude.{Some, None}
use Rattle.std.specs.List.{slice_get}
use Rattle.channels.specs.Table21.{channels_of, quarters_of}
use Rattle.channels.specs.Listing.{letter_of, band_of, channel_line, channels_up_to, lines_from}

pub band_of_one : (s : List ℕ) → length s ≡ 1 → band_of s ≡ letter_of (get_or s 0 0)
unfolding band_of
band_of_one [] h = absurd (omega arith)
band_of_one (x ∷ []) h = refl
band_of_one (x ∷ (y ∷ s)) h = absurd (omega arith)

pub band_of_two : (s : List ℕ) → length s ≡ 2
    → band_of s ≡ cond (eqb (get_or s 1 0) 10) (letter_of (get_or s 0 0)) None
unfolding band_of
band_of_two [] h = absurd (omega arith)
band_of_two (x ∷ []) h = absurd (omega arith)
band_of_two (x ∷ (y ∷ [])) h = refl
band_of_two (x ∷ (y ∷ (z ∷ s))) h = absurd (omega arith)

pub band_of_other : (s : List ℕ) → (length s ≡ 1 → ⊥) → (length s ≡ 2 → ⊥) → band_of s ≡ None
unfolding band_of
band_of_other [] one two = refl
band_of_other (x ∷ []) one two = absurd (one refl)
band_of_other (x ∷ (y ∷ [])) one two = absurd (two refl)
band_of_other (x ∷ (y ∷ (z ∷ s))) one two = refl

length-channels_up_to : (i n : ℕ) → length (channels_up_to i n) ≡ n
unfolding channels_up_to
length-channels_up_to i zero = refl
length-channels_up_to i (suc n) =
    let ih : length (channels_up_to i n) ≡ n = length-channels_up_to i n in
    simp length-append (omega arith)

slice_get_front : {A : Type 0} (xs ys : List A) (k : ℕ) → k < length xs → slice_get (xs ++ ys) k ≡ slice_get xs k
slice_get_front [] ys k h = absurd (not-suc-le-zero h)
slice_get_front (x ∷ xs) ys zero h = refl
slice_get_front (x ∷ xs) ys (suc k) h = slice_get_front xs ys k (le_of_suc-le-suc h)

slice_get_behind : {A : Type 0} (xs ys : List A) (k : ℕ) → slice_get (xs ++ ys) (length xs + k) ≡ slice_get ys k
slice_get_behind [] ys k = rw (zero-add k)
slice_get_behind (x ∷ xs) ys k = rw (suc-add (length xs) k) (slice_get_behind xs ys k)

slice_get_channels_up_to :
    (i n c : ℕ) → c < n → slice_get (channels_up_to i n) c ≡ Some (channel_line i c (250 * quarters_of i c))
unfolding channels_up_to
slice_get_channels_up_to i zero c h = absurd (not-suc-le-zero h)
slice_get_channels_up_to i (suc n) c h =
    let s = channels_up_to i n in
    let x = channel_line i n (250 * quarters_of i n) in
    let size : length s ≡ n = length-channels_up_to i n in
    ⊎_elim (λ e. rw e (rw (add-zero, size) at (slice_get_behind s (x ∷ []) 0)))
    (λ l. slice_get_front s (x ∷ []) c (omega arith) ∙ slice_get_channels_up_to i n c l)
    (eq-or-lt_of_le (le_of_suc-le-suc h))

pub slice_get_lines_from-lt :
    (i n c : ℕ) → 0 < n → c < channels_of i
    → slice_get (lines_from i n) c ≡ Some (channel_line i c (250 * quarters_of i c))
unfolding lines_from
slice_get_lines_from-lt i zero c p h = absurd (not-suc-le-zero p)
slice_get_lines_from-lt i (suc n) c p h =
    slice_get_front (channels_up_to i (channels_of i)) (lines_from (suc i) n) c (rw length-channels_up_to h)
    ∙ slice_get_channels_up_to i (channels_of i) c h

slice_get_lines_from-suc :
    (i n c : ℕ) → channels_of i ≤ c
    → slice_get (lines_from i (suc n)) c ≡ slice_get (lines_from (suc i) n) (c - channels_of i)
unfolding lines_from
slice_get_lines_from-suc i n c h =
    let s = channels_up_to i (channels_of i) in
    let e : c ≡ length s + (c - channels_of i) = omega (arith, length-channels_up_to i (channels_of i)) in
    ap (λ (m : ℕ). slice_get (s ++ lines_from (suc i) n) m) e ∙ slice_get_behind s _ (c - channels_of i)

pub slice_get_lines_from-le :
    (i n c : ℕ) → 0 < n → channels_of i ≤ c
    → slice_get (lines_from i n) c ≡ slice_get (lines_from (i + 1) (n - 1)) (c - channels_of i)
slice_get_lines_from-le i zero c p h = absurd (not-suc-le-zero p)
slice_get_lines_from-le i (suc n) c p h =
    let e : suc n - 1 ≡ n = omega arith in
    rw (e, add-one) (slice_get_lines_from-suc i n c h)

pub slice_get_lines_from-nil : (i n c : ℕ) → n ≤ 0 → slice_get (lines_from i n) c ≡ None
unfolding lines_from
slice_get_lines_from-nil i zero c h = refl
slice_get_lines_from-nil i (suc n) c h = absurd (not-suc-le-zero h)
