-- The check of a span in which one byte was changed (document 01, "Changing a byte"), found without the span.
--     share_of x k                what a byte x with k bytes behind it adds to the register: that of x and k zero bytes
--     updated_check c old new k   the new check for the old check c, the old and the new byte, and k bytes behind them
--     farthest                   at most so many bytes stand behind the changed one (01: distance 0 to 125)
--     updating c old new k       the answer: the new check, or refusal 10 where k is greater than that
--     Mends c old new k r        01's own words: whatever the span, if it has the check c and the byte `old` with k
--                                bytes behind it, then r is the check of the same span with the byte `new` there
-- That `updating` mends, and that nothing else does, are theorems: proofs/UpdateLaws, proofs/BackwardLaws.
use Rattle.std.specs.Prelude.{cond, List, ◌∷◌, ◌++◌, ◌≡◌, ℕ, leb, length, replicate, Result, Ok, Err}
use Rattle.std.specs.Int.Bits.{bit_xor}
use Rattle.answers.specs.declared.Refusal.{Refusal}
use Rattle.crc.specs.Check.{reg_of, check_of}

unfoldable pub share_of : ℕ → ℕ → ℕ
share_of x k = reg_of 0 (x ∷ replicate k 0)

abbrev pub updated_check : ℕ → ℕ → ℕ → ℕ → ℕ
updated_check c old new k = bit_xor c (share_of (bit_xor old new) k)

abbrev pub farthest : ℕ
farthest = 125

abbrev pub updating : ℕ → ℕ → ℕ → ℕ → Result ℕ Refusal
updating c old new k = cond (leb k farthest) (Ok (updated_check c old new k)) (Err Refusal.OutOfRange)

abbrev pub Mends : ℕ → ℕ → ℕ → ℕ → Result ℕ Refusal → Type 0
Mends c old new k r =
    (pre post : List ℕ) → length post ≡ k → check_of (pre ++ (old ∷ post)) ≡ c
    → r ≡ Ok (check_of (pre ++ (new ∷ post)))
