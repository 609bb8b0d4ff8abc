-- What is promised of the proposer for up to sixteen wrong bytes (specs/Sixteen), kept.
--     nearest_first    the length byte stays, however many wrong bytes are looked for
--     nearest_else     where no code word is near, the word itself is proposed
--     mends            the promise
-- Assumes nothing.
use mathlib.Core.List.{List}
use mathlib.Core.Logic.{◌⊎◌, inl, inr, ⊎_elim}
use mathlib.Core.Path.{◌≡◌, ap, sym}
use Prim.Native.Nat.{ℕ, ◌≤◌}
use native.Mathlib.Omega.{arith}
use lib.ListN.{get_or}
use Rattle.ground.specs.Apart.{apart}
use Rattle.ground.specs.Bytes.{Bytes}
use Rattle.codewords.specs.CodeBlocks.{CodeBlock}
use Rattle.proposals.specs.Near.{Near, Nearest}
use Rattle.proposals.specs.Sixteen.{MendsSixteen}
use Rattle.proposals.proofs.NearestLaws.{near, near_self, nearest_only}

pub nearest_first : (k : ℕ) (w m : List ℕ) → Nearest k w m → get_or m 0 0 ≡ get_or w 0 0
nearest_first k w m is = ⊎_elim (λ n. n.first) (λ p. ap (λ (l : List ℕ). get_or l 0 0) p.1) is

pub nearest_else :
    (k : ℕ) (w : List ℕ) → ((c : List ℕ) → Near k w c → ⊥) → (m : List ℕ) → Nearest k w m → m ≡ w
nearest_else k w none m is = ⊎_elim (λ n. absurd (none m n)) (λ p. p.1) is

code_or-received :
    (w : List ℕ) → Bytes w → (m : List ℕ) → Nearest 16 w m
    → (CodeBlock m × (apart w m ≤ 16)) ⊎ ((m ≡ w) × (CodeBlock w → ⊥))
code_or-received w bytes m is =
    ⊎_elim (λ n. inl (n.code_word, n.few)) (λ p. inr (p.1, λ code. p.0 w (near_self 16 w bytes code))) is

pub mends : MendsSixteen
mends =
    record {
      sixteen_wrong_bytes = λ c w bytes code size most first few m is.
          nearest_only 16 w (omega arith) (omega arith) m c is
          (inl (near bytes code (sym size) (sym first) (omega arith)));
      else_received = nearest_else 16;
      length_byte_stays = nearest_first 16;
      whatever_came = code_or-received;
    }
