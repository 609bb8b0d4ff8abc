-- Every frequency of the channel plan is exact (document 01, "Mode N channels": four times each centre is the whole
-- number worked out from Table 21).
--     float_exact               below 2^53 quarters of a kilohertz, a float is exactly so many quarters
--     float-quarters_of_exact    so is the centre of each channel
--     row_of_exact               so are the three numbers of each row
--     Sound i c                 what the code's float arithmetic gives for channel c of index i: the centre as a sum of
--                               floats, and in hertz
--     channel_sound             it holds of all 103 channels, by one computed test
-- Assumes nothing.
use mathlib.Core.Path.{◌≡◌, refl, sym, ap, ◌∙◌}
use mathlib.Core.Bool.{Bool, true, false, ◌&&◌}
use Prim.Native.Nat.{ℕ, ◌*◌, ◌^◌, ◌<◌}
use native.Mathlib.Nat.{mul_assoc, lt_of_lt_of_le}
use lib.Dec.{T, eqb, ltb, eqb→eq, ltb→lt, lit<, lit≤}
use lib.Pow.{shl_lt}
use lib.IntN.{pos}
use borrow.Author.Tests.{ltb-true, ltb-false}
use lib.Count.{count_trailing_zeros}
use lib.Ieee.{Float, binary64, round, add, sum, mul, of_int, of_bits, of_fields, to_bits, to_unsigned, in_unsigned, in_float, whole, fits, size, span, climb, units, odd}
use lib.Ieee.Bits.{of_bits-to_bits}
use lib.Ieee.Exact.{HasValue, round_exact}
use lib.Ieee.Fits.{add-fits, round-fits}
use Rattle.ground.proofs.TableLaws.{all_below, all_below_at}
use Rattle.channels.proofs.Table21Laws.{entry_of_past, index_lt}
use Rattle.channels.specs.Table21.{Entry, table, entry_of, channels_of, quarters_of}
use Rattle.channels.specs.Plan.{float, row_of}

pub float_exact : (q : ℕ) → q < 2 ^ 53 → HasValue (float q) false q 4
unfolding float
float_exact q h =
    round_exact binary64 false q 4 q 1072 (lit< tt) h (lt_of_lt_of_le (shl_lt 53 1072 h) (lit≤ tt))
    (sym (mul_assoc q (2 ^ 1072) 4))

-- the sum that the code makes
abbrev pub sum_of : ℕ → ℕ → Float
sum_of i c = add binary64 (row_of i).centre (mul binary64 (row_of i).spacing (of_int binary64 (pos c)))

-- the product that the code makes; the constant is 1000.0
abbrev pub thousandfold : ℕ → Float
thousandfold q = mul binary64 (float q) (of_bits binary64 4652007308841189376)

pub record Sound (i c : ℕ) : Type 0 where
  pub quarters_lt : quarters_of i c < 2 ^ 53
  pub channel_in_float : T (in_float binary64 (pos c))
  pub sum_of_float : sum_of i c ≡ float (quarters_of i c)
  pub hertz_in_unsigned : T (in_unsigned binary64 64 (thousandfold (quarters_of i c)))
  pub hertz_quarters : to_unsigned 64 (thousandfold (quarters_of i c)) ≡ 250 * quarters_of i c

-- the parts of `Sound`, as tests
small? : ℕ → ℕ → Bool
small? i c = ltb (quarters_of i c) (2 ^ 53)

countable? : ℕ → Bool
countable? c = in_float binary64 (pos c)

summed? : ℕ → ℕ → Bool
summed? i c = eqb (to_bits binary64 (sum_of i c)) (to_bits binary64 (float (quarters_of i c)))

representable? : ℕ → ℕ → Bool
representable? i c = in_unsigned binary64 64 (thousandfold (quarters_of i c))

hertz? : ℕ → ℕ → Bool
hertz? i c = eqb (to_unsigned 64 (thousandfold (quarters_of i c))) (250 * quarters_of i c)

sound? : ℕ → ℕ → Bool
sound? i c = small? i c && (countable? c && (summed? i c && (representable? i c && hertz? i c)))

T_and : (a b : Bool) → T (a && b) → T a × T b
T_and true true t = (tt, tt)
T_and true false t = absurd t
T_and false b t = absurd t

-- the one computed test
all_sound : T (all_below (λ i. all_below (sound? i) (channels_of i)) 14)
unfolding sound? small? countable? summed? representable? hertz? entry_of table float row_of
    round size span climb units odd count_trailing_zeros add sum mul of_int of_bits of_fields
    to_bits to_unsigned in_unsigned whole in_float
all_sound = tt

to_bits_injective :
    (x y : Float) → T (fits binary64 x) → T (fits binary64 y) → to_bits binary64 x ≡ to_bits binary64 y → x ≡ y
to_bits_injective x y fx fy e =
    sym (of_bits-to_bits binary64 x fx) ∙ ap (of_bits binary64) e ∙ of_bits-to_bits binary64 y fy

summed_sum_of : (i c : ℕ) → T (summed? i c) → sum_of i c ≡ float (quarters_of i c)
unfolding summed? float
summed_sum_of i c t =
    to_bits_injective (sum_of i c) (float (quarters_of i c))
    (add-fits binary64 _ _) (round-fits binary64 false (quarters_of i c) 4) (eqb→eq _ _ t)

all_sound_at : (i c : ℕ) → c < channels_of i → T (sound? i c)
all_sound_at i c h =
    let row = all_below_at (λ i. all_below (sound? i) (channels_of i)) 14 all_sound i (index_lt i c h) in
    all_below_at (sound? i) (channels_of i) row c h

pub channel_sound : (i c : ℕ) → c < channels_of i → Sound i c
unfolding sound? small? countable? representable? hertz?
channel_sound i c h =
    let (small, u) = T_and (small? i c) _ (all_sound_at i c h) in
    let (countable, v) = T_and (countable? c) _ u in
    let (summed, w) = T_and (summed? i c) _ v in
    let (representable, hertz) = T_and (representable? i c) _ w in
    record {
      quarters_lt = ltb→lt _ (2 ^ 53) small;
      channel_in_float = countable;
      sum_of_float = summed_sum_of i c summed;
      hertz_in_unsigned = representable;
      hertz_quarters = eqb→eq _ _ hertz;
    }

pub float-quarters_of_exact :
    (i c : ℕ) → c < channels_of i → HasValue (float (quarters_of i c)) false (quarters_of i c) 4
float-quarters_of_exact i c h = float_exact (quarters_of i c) (channel_sound i c h).quarters_lt

-- the three numbers of a row are exact too, also the zeros where there is no row
pub record RowExact (i : ℕ) : Type 0 where
  pub centre : HasValue (row_of i).centre false (entry_of i).centre 4
  pub spacing : HasValue (row_of i).spacing false (entry_of i).spacing 4
  pub tolerance : HasValue (row_of i).tolerance false (entry_of i).tolerance 4

small_entry? : Entry → Bool
small_entry? e = ltb e.centre (2 ^ 53) && (ltb e.spacing (2 ^ 53) && ltb e.tolerance (2 ^ 53))

all_small : T (all_below (λ i. small_entry? (entry_of i)) 14)
unfolding small_entry? entry_of table
all_small = tt

entry_of_small : (i : ℕ) (b : Bool) → ltb i 14 ≡ b → T (small_entry? (entry_of i))
unfolding small_entry?
entry_of_small i true e = all_below_at (λ j. small_entry? (entry_of j)) 14 all_small i (ltb-true i 14 e)
entry_of_small i false e = rw (entry_of_past i (ltb-false i 14 e)) tt

float_small : (q : ℕ) → T (ltb q (2 ^ 53)) → HasValue (float q) false q 4
float_small q t = float_exact q (ltb→lt q (2 ^ 53) t)

pub row_of_exact : (i : ℕ) → RowExact i
unfolding small_entry? row_of
row_of_exact i =
    let (centre, rest) = T_and (ltb (entry_of i).centre (2 ^ 53)) _ (entry_of_small i (ltb i 14) refl) in
    let (spacing, tolerance) = T_and (ltb (entry_of i).spacing (2 ^ 53)) _ rest in
    record {
      centre = float_small _ centre;
      spacing = float_small _ spacing;
      tolerance = float_small _ tolerance;
    }
