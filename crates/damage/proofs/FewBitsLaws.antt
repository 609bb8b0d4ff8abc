-- Few inverted bits, and odd numbers of them, are always seen (specs/Promise).
--     ones-append    ones behind ones
--     five_seen      up to five in format A; near_seen: in both formats, near each other, behind the length byte
--     odd_seen       odd numbers, behind the length byte
--     few_bits       the promise: for these numbers, and for no others
--     one_block      one block with such damage is enough, or with a burst
--     block_named    and the first block that differs is named
-- Assumes nothing.
use mathlib.Core.List.{List, [], ◌∷◌, ◌++◌}
use mathlib.Core.Logic.{◌↔◌}
use mathlib.Core.Path.{◌≡◌, refl}
use Prim.Native.Nat.{ℕ, ◌+◌, ◌*◌, ◌%◌, ◌≤◌, ◌<◌}
use native.Mathlib.Omega.{arith}
use lib.ListN.{take}
use Rattle.ground.specs.Apart.{apart}
use Rattle.blocks.proofs.CutLaws.{widest, widest_spans}
use Rattle.frame.specs.declared.Format.{Format}
use Rattle.frame.specs.declared.Format.TheVariants.{A, B}
use Rattle.frame.specs.Formats.{spans_of}
use Rattle.patterns.proofs.Patterns.{Zeros, ones, InWindow}
use Rattle.patterns.proofs.ZerosLaws.{inside}
use Rattle.patterns.proofs.WindowLaws.{window_front, window_back}
use Rattle.patterns.proofs.OddLaws.{even_ones}
use Rattle.patterns.proofs.FewLaws.{few_zeros, ones_none}
use Rattle.damage.specs.Damage.{bits_of, Burst, inverted, Few, Odd, Behind, InBlock}
use Rattle.damage.specs.Seen.{AlwaysSeen, AlwaysNamed}
use Rattle.damage.specs.Frames as it
use Rattle.damage.specs.Promise.{few_anywhere, FewBitsSeen, OneBlockSeen, BlockNamed}
use Rattle.damage.proofs.BitsLaws.{pattern, pattern_ones, damaged-pattern}
use Rattle.damage.proofs.WalkLaws.{Telling, telling_zeros}
use Rattle.damage.proofs.InBlockLaws.{block_seen}
use Rattle.damage.proofs.NamedLaws.{always_named}
use Rattle.damage.proofs.SeenLaws.{always_seen, narrow, kept_a, kept-length}
use Rattle.damage.proofs.BurstLaws.{burst_window, windows_tell, exactly}
use Rattle.damage.proofs.Unseen.{limits, unseen_wider, burst_wider}

ones-append : (u v : List ℕ) → ones (u ++ v) ≡ ones u + ones v
unfolding ones
ones-append [] v = omega arith
ones-append (t ∷ u) v = omega (arith, ones-append u v)

-- ---- up to five

abbrev UpToFive : List ℕ → Type 0
UpToFive u = ones u ≤ 5

few_front : (u v : List ℕ) → UpToFive (u ++ v) → UpToFive u
few_front u v few = omega (arith, ones-append u v)

few_back : (u v : List ℕ) → UpToFive (u ++ v) → UpToFive v
few_back u v few = omega (arith, ones-append u v)

-- a block of format A is shorter than 151 bits
blocks_tell : Telling 144 UpToFive Zeros
blocks_tell =
    telling_zeros 144 UpToFive few_front few_back
    (λ u short d few. few_zeros u d (0, λ p one. (omega arith, omega (arith, inside u p one))) few)

narrow_a : (n : ℕ) → 8 * (widest (spans_of A n) + 2) ≤ 144
narrow_a n = omega (arith, widest_spans 16 10 16 (n + 1) (omega arith) (omega arith))

few-pattern : {m : ℕ} → m ≤ 5 → (old new : List ℕ) → Few m old new → UpToFive (pattern old new)
few-pattern five old new b = omega (arith, b.1, pattern_ones old new b.0.count)

five_seen : {m : ℕ} → m ≤ 5 → AlwaysSeen A (Few m)
five_seen {m} five =
    always_seen A blocks_tell narrow_a (Few m) (λ old new b. b.0.count) (few-pattern five)
    (λ old new b. damaged-pattern b.0) (kept_a blocks_tell (omega arith) (Few m) (few-pattern five))

-- damage has an inverted bit
few_none : (f : Format) {m : ℕ} → m ≤ 0 → AlwaysSeen f (Few m)
few_none f le s d z n bs accepted new rest bt (damaged, few) =
    absurd (damaged-pattern damaged
    (ones_none (pattern (take z s) new) (omega (arith, pattern_ones (take z s) new damaged.count))))

near_tell : (limit : ℕ) → Telling limit (λ u. InWindow 151 u × UpToFive u) Zeros
near_tell limit =
    telling_zeros limit (λ u. InWindow 151 u × UpToFive u)
    (λ u v q. (window_front 151 u v q.0, few_front u v q.1))
    (λ u v q. (window_back 151 u v q.0, few_back u v q.1)) (λ u short d q. few_zeros u d q.0 q.1)

abbrev Near : ℕ → List ℕ → List ℕ → Type 0
Near m old new = Burst 151 old new × Few m old new

near-pattern :
    {m : ℕ} → m ≤ 5 → (old new : List ℕ) → Near m old new
    → InWindow 151 (pattern old new) × UpToFive (pattern old new)
near-pattern five old new b =
    (burst_window b.0, omega (arith, b.1.1, pattern_ones old new b.0.damaged.count))

near_seen : (f : Format) {m : ℕ} → m ≤ 5 → AlwaysSeen f (Behind (Near m))
near_seen f {m} five =
    always_seen f (near_tell 1024) (narrow f) (Behind (Near m)) (λ old new b. b.0.0.damaged.count)
    (λ old new b. near-pattern five old new b.0) (λ old new b. damaged-pattern b.0.0.damaged)
    (kept-length f (Behind (Near m)) (λ old new b. b.1))

-- ---- odd numbers

abbrev Even : List ℕ → Type 0
Even u = ones u % 2 ≡ 0

even-append : (u v : List ℕ) → Even u → Even v → Even (u ++ v)
even-append u v e f = omega (arith, ones-append u v)

odd_tell : (limit : ℕ) → Telling limit (λ u. u ≡ u) Even
unfolding ones
odd_tell limit =
    let all : (u v : List ℕ) → u ++ v ≡ u ++ v → u ≡ u = λ u v q. refl in
    record { front = all; back = λ u v q. refl; none = refl; join = even-append; block = λ u s d q. even_ones u d }

odd-pattern : (old new : List ℕ) → Odd old new → Even (pattern old new) → ⊥
odd-pattern old new b even = omega (arith, b.1, pattern_ones old new b.0.count)

odd_seen : (f : Format) → AlwaysSeen f (Behind Odd)
odd_seen f =
    always_seen f (odd_tell 1024) (narrow f) (Behind Odd) (λ old new b. b.0.0.count) (λ old new b. refl)
    (λ old new b. odd-pattern old new b.0)
    (kept-length f (Behind Odd) (λ old new b. b.1))

-- ---- exactly

six_near :
    {m : ℕ} {old new : List ℕ} → 5 < m → Behind (λ u v. Burst 23 u v × Few 6 u v) old new → Behind (Near m) old new
six_near more b = ((burst_wider (omega arith) b.0.0, (b.0.1.0, omega (arith, b.0.1.1))), b.1)

not_six : (f : Format) (m : ℕ) → 5 < m → AlwaysSeen f (Behind (Near m)) → ⊥
not_six A m more =
    unseen_wider A (Behind (λ old new. Burst 23 old new × Few 6 old new)) (Behind (Near m)) it.sent_a it.six_a
    (six_near more) limits.six_bits.0
not_six B m more =
    unseen_wider B (Behind (λ old new. Burst 23 old new × Few 6 old new)) (Behind (Near m)) it.sent_b it.six_b
    (six_near more) limits.six_bits.1

near_few : (f : Format) (m : ℕ) → AlwaysSeen f (Few m) → AlwaysSeen f (Behind (Near m))
near_few f m always s d z n bs accepted new rest bt damage = always s d z n bs accepted new rest bt damage.0.1

one-inverted : inverted it.sent_long it.one_bit ≡ 1
unfolding bits_of apart
one-inverted = refl

not_one : (m : ℕ) → 0 < m → AlwaysSeen B (Few m) → ⊥
not_one m more =
    unseen_wider B (Burst 1) (Few m) it.sent_long it.one_bit (λ b. (b.damaged, omega (arith, one-inverted)))
    limits.one_bit

few-anywhere : (f : Format) (m : ℕ) → AlwaysSeen f (Few m) ↔ (m ≤ few_anywhere f)
few-anywhere A m = exactly 5 m (omega arith) (λ more always. not_six A m more (near_few A m always)) five_seen
few-anywhere B m = exactly 0 m (omega arith) (not_one m) (few_none B)

pub few_bits : FewBitsSeen
few_bits =
    record {
      anywhere = few-anywhere;
      behind_the_length = λ f m. exactly 5 m (omega arith) (not_six f m) (near_seen f);
      odd = odd_seen;
    }

-- ---- one block is enough

burst_in_block : (f : Format) {w : ℕ} → w ≤ 16 → AlwaysSeen f (Behind (InBlock f (Burst w)))
burst_in_block f {w} le =
    block_seen (windows_tell w 1024 le) (Burst w) (λ old new b. burst_window b)
    (λ old new b. damaged-pattern b.damaged) f (narrow f)

near_in_block : (f : Format) → AlwaysSeen f (Behind (InBlock f (Near 5)))
near_in_block f =
    block_seen (near_tell 1024) (Near 5) (near-pattern (omega arith))
    (λ old new b. damaged-pattern b.0.damaged) f (narrow f)

odd_in_block : (f : Format) → AlwaysSeen f (Behind (InBlock f Odd))
odd_in_block f = block_seen (odd_tell 1024) Odd (λ old new b. refl) odd-pattern f (narrow f)

pub one_block : OneBlockSeen
one_block = record { bursts = λ f. burst_in_block f (omega arith); few_bits = near_in_block; odd = odd_in_block }

-- ---- and is named

burst_named : (f : Format) → AlwaysNamed f (Behind (Burst 16))
burst_named f =
    always_named f (windows_tell 16 1024 (omega arith)) (narrow f) (Burst 16) (λ old new b. burst_window b)
    (λ old new b. b.damaged)

near_named : (f : Format) → AlwaysNamed f (Behind (Near 5))
near_named f =
    always_named f (near_tell 1024) (narrow f) (Near 5) (near-pattern (omega arith)) (λ old new b. b.0.damaged)

few_named : AlwaysNamed A (Behind (Few 5))
few_named = always_named A blocks_tell narrow_a (Few 5) (few-pattern (omega arith)) (λ old new b. b.0)

pub block_named : BlockNamed
block_named = record { bursts = burst_named; few_bits = near_named; few_in_format_a = few_named }
