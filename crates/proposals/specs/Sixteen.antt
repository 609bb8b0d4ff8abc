-- What is promised of the proposer for up to sixteen wrong bytes (document 02, 12/14; 12.8.3.2: E = 16), in words: a
-- received word w, a word c that was written, and what is proposed for w, which is `Nearest 16 w m` (specs/Near). The
-- numbers are written out: the promise is measured by them.
--     MendsSixteen    every word that differs from a code word in at most 16 bytes, but not in the length byte, is
--                     mended; where no such code word is near, w is proposed; the length byte always stays; and
--                     whatever came, what is proposed is a code word within 16 bytes, or w itself, which then is none
use Rattle.std.specs.Prelude.{List, ◌⊎◌, ◌≡◌, ℕ, ◌≤◌, length, get_or}
use Rattle.ground.specs.Apart.{apart}
use Rattle.ground.specs.Bytes.{Bytes}
use Rattle.codewords.specs.CodeBlocks.{CodeBlock}
use Rattle.proposals.specs.Near.{Near, Nearest}

pub record MendsSixteen : Type 0 where
  pub sixteen_wrong_bytes :
      (c w : List ℕ) → Bytes c → CodeBlock c → length w ≡ length c → length c ≤ 255
      → get_or w 0 0 ≡ get_or c 0 0 → apart w c ≤ 16
      → (m : List ℕ) → Nearest 16 w m → m ≡ c
  pub else_received : (w : List ℕ) → ((c : List ℕ) → Near 16 w c → ⊥) → (m : List ℕ) → Nearest 16 w m → m ≡ w
  pub length_byte_stays : (w m : List ℕ) → Nearest 16 w m → get_or m 0 0 ≡ get_or w 0 0
  pub whatever_came :
      (w : List ℕ) → Bytes w → (m : List ℕ) → Nearest 16 w m
      → (CodeBlock m × (apart w m ≤ 16)) ⊎ ((m ≡ w) × (CodeBlock w → ⊥))
