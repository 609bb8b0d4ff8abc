-- What is promised of damaged frames (document 02, 13/14), and that none of these numbers can be larger. They are
-- written out: the promise is measured by them.
--     bits_anywhere f   within so many consecutive bits damage is always seen wherever it lies, block borders and the
--                      length byte included: 16 in format A; 0 in format B, where nothing is promised then
--     BurstsSeen       so it is, exactly; and in both formats within 16 where the length byte is not among the changed
--     few_anywhere f    so many inverted bits are always seen wherever they lie: five in format A, none in format B
--     FewBitsSeen      so they are, exactly; and where the length byte is not among the changed, in both formats:
--                      within 151 consecutive bits five, exactly; and every odd number of bits, wherever they lie
--     OneBlockSeen     it is enough that one block has such damage, whatever the others have, where the length byte is
--                      not among the changed
--     BlockNamed       and of bursts and few bits behind the length byte the first block with a wrong byte is named
--     Limits           what can go unseen, with frames (specs/Frames). The length byte unchanged: damage within 17
--                      bits, six bits, two bytes with another one between them, in format B two bits that are 151
--                      places apart. With the length byte: one bit in format B, an odd number of bits in format A
use Rattle.std.specs.Prelude.{List, ◌↔◌, ◌≡◌, ℕ, ◌≤◌}
use Rattle.ground.specs.Apart.{apart}
use Rattle.frame.specs.declared.Format.{Format}
use Rattle.frame.specs.declared.Format.TheVariants.{A, B}
use Rattle.damage.specs.Damage.{Burst, Few, Odd, Behind, InBlock}
use Rattle.damage.specs.Frames as it
use Rattle.damage.specs.Seen.{AlwaysSeen, AlwaysNamed, Unseen}

abbrev pub bits_anywhere : Format → ℕ
bits_anywhere A = 16
bits_anywhere B = 0

pub record BurstsSeen : Type 0 where
  pub anywhere : (f : Format) (w : ℕ) → AlwaysSeen f (Burst w) ↔ (w ≤ bits_anywhere f)
  pub behind_the_length : (f : Format) (w : ℕ) → AlwaysSeen f (Behind (Burst w)) ↔ (w ≤ 16)

abbrev pub few_anywhere : Format → ℕ
few_anywhere A = 5
few_anywhere B = 0

pub record FewBitsSeen : Type 0 where
  pub anywhere : (f : Format) (m : ℕ) → AlwaysSeen f (Few m) ↔ (m ≤ few_anywhere f)
  pub behind_the_length :
      (f : Format) (m : ℕ) → AlwaysSeen f (Behind (λ old new. Burst 151 old new × Few m old new)) ↔ (m ≤ 5)
  pub odd : (f : Format) → AlwaysSeen f (Behind Odd)

pub record OneBlockSeen : Type 0 where
  pub bursts : (f : Format) → AlwaysSeen f (Behind (InBlock f (Burst 16)))
  pub few_bits : (f : Format) → AlwaysSeen f (Behind (InBlock f (λ old new. Burst 151 old new × Few 5 old new)))
  pub odd : (f : Format) → AlwaysSeen f (Behind (InBlock f Odd))

pub record BlockNamed : Type 0 where
  pub bursts : (f : Format) → AlwaysNamed f (Behind (Burst 16))
  pub few_bits : (f : Format) → AlwaysNamed f (Behind (λ old new. Burst 151 old new × Few 5 old new))
  pub few_in_format_a : AlwaysNamed A (Behind (Few 5))

pub record Limits : Type 0 where
  pub seventeen_bits :
      Unseen A (Behind (Burst 17)) it.sent_a it.seventeen_a × Unseen B (Behind (Burst 17)) it.sent_b it.seventeen_b
  pub six_bits :
      let six : List ℕ → List ℕ → Type 0 = λ old new. Burst 23 old new × Few 6 old new in
      Unseen A (Behind six) it.sent_a it.six_a × Unseen B (Behind six) it.sent_b it.six_b
  pub two_bytes :
      let two : List ℕ → List ℕ → Type 0 = λ old new. Burst 24 old new × (apart old new ≡ 2) in
      Unseen A (Behind two) it.sent_a it.two_bytes_a × Unseen B (Behind two) it.sent_b it.two_bytes_b
  pub two_bits : Unseen B (Behind (λ old new. Burst 152 old new × Few 2 old new)) it.sent_b it.two_bits
  pub one_bit : Unseen B (Burst 1) it.sent_long it.one_bit
  pub odd_bits : Unseen A Odd it.sent_odd it.seven_bits
