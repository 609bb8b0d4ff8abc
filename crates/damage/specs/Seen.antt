-- When damage is seen (document 02, 13/14: "The result is always refused, whatever stands behind the frame"), over
-- demand 2's own definitions.
--     Refuses f old t      reading refuses t, whose first bytes were sent as old: with one of 1, 2 and 3, whatever
--                          memory is lent, and leaves this memory as it was; no content at all has its frame at the
--                          start of t; and where the length byte is still that of old, the number is 3
--     AlwaysSeen f kind    take any frame that reading accepts in format f, in a buffer s: whatever damage of this kind
--                          its bytes have, and whatever bytes stand behind them, it is refused
--     AlwaysNamed f kind   for damage of this kind the number is 3, and the block that is named is the first that has a
--                          byte that came wrong
--     Unseen f kind old new    what refutes this: old is a frame, and new, which it became by damage of this kind,
--                          begins with a frame again, of another content, if the right bytes stand behind it
use Rattle.std.specs.Prelude.{List, ◌++◌, ◌≡◌, ℕ, ◌≤◌, length, take, Ok, Err}
use Rattle.answers.specs.declared.Refusal.{Refusal}
use Rattle.answers.specs.Outcome.{leaving}
use Rattle.answers.specs.Refusals.{number_of}
use Rattle.ground.specs.Bytes.{Bytes}
use Rattle.frame.specs.declared.Format.{Format}
use Rattle.frame.specs.Formats.{spans_of, sizes}
use Rattle.frame.specs.Frames.{FrameAt}
use Rattle.frame.specs.Reads.{reading_of}
use Rattle.damage.specs.Damage.{LengthStays, first_damaged}

pub record Refuses (f : Format) (old t : List ℕ) : Type 0 where
  pub number :
      (r : Refusal) × (((1 ≤ number_of r) × (number_of r ≤ 3))
      × ((d : List ℕ) → reading_of f t d ≡ leaving (Err r) d))
  pub no_frame : (z : ℕ) (c : List ℕ) → FrameAt f t z c → ⊥
  pub three :
      LengthStays old t
      → (b : ℕ) × ((d : List ℕ) → reading_of f t d ≡ leaving (Err (Refusal.WrongCheck b)) d)

abbrev pub AlwaysSeen : Format → (List ℕ → List ℕ → Type 0) → Type 0
AlwaysSeen f kind =
    (s d : List ℕ) (z n : ℕ) → Bytes s → (reading_of f s d).answer ≡ Ok (sizes z n)
    → (new rest : List ℕ) → Bytes (new ++ rest) → kind (take z s) new → Refuses f (take z s) (new ++ rest)

abbrev pub AlwaysNamed : Format → (List ℕ → List ℕ → Type 0) → Type 0
AlwaysNamed f kind =
    (s d : List ℕ) (z n : ℕ) → Bytes s → (reading_of f s d).answer ≡ Ok (sizes z n)
    → (new rest : List ℕ) → Bytes (new ++ rest) → kind (take z s) new
    → (e : List ℕ)
    → let b = first_damaged 1 (spans_of f n) s (new ++ rest) in
    reading_of f (new ++ rest) e ≡ leaving (Err (Refusal.WrongCheck b)) e

pub record Unseen (f : Format) (kind : List ℕ → List ℕ → Type 0) (old new : List ℕ) : Type 0 where
  pub damage : kind old new
  pub rest : List ℕ
  pub bytes : Bytes old × Bytes (new ++ rest)
  pub content : List ℕ
  pub sent : FrameAt f old (length old) content
  pub other : List ℕ
  pub size : ℕ
  pub came : FrameAt f (new ++ rest) size other
  pub differs : other ≡ content → ⊥
