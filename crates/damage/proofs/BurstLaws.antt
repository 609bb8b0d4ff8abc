-- Damage within sixteen consecutive bits is always seen (specs/Promise).
--     burst_window    the pattern of a burst lies within its window
--     burst_seen      in format A, for every width up to 16; burst_behind: in both, behind the length byte
--     bursts          the promise: for these widths, and for no others
-- Assumes nothing.
use mathlib.Core.List.{List}
use mathlib.Core.Logic.{◌↔◌}
use mathlib.Core.Path.{◌≡◌}
use Prim.Native.Nat.{ℕ, ◌≤◌, ◌<◌}
use native.Mathlib.Omega.{arith}
use borrow.Author.Tests.{ltb-true, ltb-false}
use lib.Dec.{ltb}
use Rattle.ground.proofs.CaseLaws.{by_test}
use Rattle.frame.specs.declared.Format.{Format}
use Rattle.frame.specs.declared.Format.TheVariants.{A, B}
use Rattle.damage.specs.Damage.{Burst, Behind}
use Rattle.damage.specs.Seen.{AlwaysSeen}
use Rattle.damage.specs.Frames as it
use Rattle.damage.specs.Promise.{bits_anywhere, BurstsSeen}
use Rattle.patterns.proofs.Patterns.{Zeros, InWindow}
use Rattle.patterns.proofs.WindowLaws.{window_front, window_back, window_zeros}
use Rattle.damage.proofs.BitsLaws.{pattern, pattern-inverted, damaged-pattern}
use Rattle.damage.proofs.WalkLaws.{Telling, telling_zeros}
use Rattle.damage.proofs.SeenLaws.{always_seen, narrow, kept_a, kept-length}
use Rattle.damage.proofs.Unseen.{limits, unseen_wider, burst_wider}

pub burst_window : {w : ℕ} {old new : List ℕ} → Burst w old new → InWindow w (pattern old new)
burst_window {w} {old} {new} b =
    (b.first, λ p one. b.within p (pattern-inverted old new b.damaged.count p one))

-- a block of any length tells
pub windows_tell : (w limit : ℕ) → w ≤ 16 → Telling limit (InWindow w) Zeros
windows_tell w limit le =
    telling_zeros limit (InWindow w) (window_front w) (window_back w) (λ u short. window_zeros w le u)

burst_seen : {w : ℕ} → w ≤ 16 → AlwaysSeen A (Burst w)
burst_seen {w} le =
    let tells = windows_tell w 1024 le in
    always_seen A tells (narrow A) (Burst w) (λ old new b. b.damaged.count)
    (λ old new b. burst_window b) (λ old new b. damaged-pattern b.damaged)
    (kept_a tells (omega arith) (Burst w) (λ old new b. burst_window b))

burst_behind : (f : Format) {w : ℕ} → w ≤ 16 → AlwaysSeen f (Behind (Burst w))
burst_behind f {w} le =
    always_seen f (windows_tell w 1024 le) (narrow f) (Behind (Burst w)) (λ old new b. b.0.damaged.count)
    (λ old new b. burst_window b.0) (λ old new b. damaged-pattern b.0.damaged)
    (kept-length f (Behind (Burst w)) (λ old new b. b.1))

-- no damage lies within 0 bits
burst_none : (f : Format) {w : ℕ} → w ≤ 0 → AlwaysSeen f (Burst w)
burst_none f le s d z n bs accepted new rest bt b =
    let at = b.within b.damaged.place b.damaged.differs in
    absurd (omega (arith, at.0, at.1))

-- a promise P of w that holds up to k, which is n, and fails above
pub exactly :
    {k : ℕ} {P : Type 0} (n w : ℕ) → k ≡ n → (n < w → P → ⊥) → (w ≤ n → P) → P ↔ (w ≤ k)
exactly n w same above below = (
  λ p. by_test (ltb n w) (λ t. absurd (above (ltb-true n w t) p)) (λ t. omega (arith, ltb-false n w t)),
  λ le. below (omega arith),
)

-- ---- exactly

not-seventeen : (f : Format) (w : ℕ) → 16 < w → AlwaysSeen f (Behind (Burst w)) → ⊥
not-seventeen A w more =
    unseen_wider A (Behind (Burst 17)) (Behind (Burst w)) it.sent_a it.seventeen_a (λ b. (burst_wider more b.0, b.1))
    limits.seventeen_bits.0
not-seventeen B w more =
    unseen_wider B (Behind (Burst 17)) (Behind (Burst w)) it.sent_b it.seventeen_b (λ b. (burst_wider more b.0, b.1))
    limits.seventeen_bits.1

-- what is seen wherever it lies is seen behind the length byte
anywhere_behind : (f : Format) (kind : List ℕ → List ℕ → Type 0) → AlwaysSeen f kind → AlwaysSeen f (Behind kind)
anywhere_behind f kind always s d z n bs accepted new rest bt damage =
    always s d z n bs accepted new rest bt damage.0

not_one : (w : ℕ) → 0 < w → AlwaysSeen B (Burst w) → ⊥
not_one w more = unseen_wider B (Burst 1) (Burst w) it.sent_long it.one_bit (burst_wider more) limits.one_bit

bursts-anywhere : (f : Format) (w : ℕ) → AlwaysSeen f (Burst w) ↔ (w ≤ bits_anywhere f)
bursts-anywhere A w =
    exactly 16 w (omega arith) (λ more always. not-seventeen A w more (anywhere_behind A (Burst w) always)) burst_seen
bursts-anywhere B w = exactly 0 w (omega arith) (not_one w) (burst_none B)

pub bursts : BurstsSeen
bursts =
    record {
      anywhere = bursts-anywhere;
      behind_the_length = λ f w. exactly 16 w (omega arith) (not-seventeen f w) (burst_behind f);
    }
