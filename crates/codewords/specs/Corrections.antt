-- Writing correction bytes and reading their header (EN 13757-4:2019, 12.8.2, 12.8.3; document 02, 11/14).
--     header_of id         the header of an ID: its five bits three times, bit 15 zero, low byte first (12.8.2.2)
--     corrected w         what is sent of a word: its bytes, the header with ID 1, the check bytes. No fill is sent
--     put_corrected s d j  what is written where the frame that s begins with was judged as j
--     correcting_of f s d  the frame's own refusals 1, 2, 1, 3; TooLong if it has over 223 bytes (house); NoRoom; else
--                         the frame and its correction from d's first byte on, the bytes after stay
--     checking_of w d      the check bytes alone, of any bytes: TooLong, NoRoom; else 32 bytes from d's first byte on
--     bit_of i h           the bit i of the ID in the header h: what two or three of its copies say
--     id_of h              the ID in the header h; bit 15 is not looked at
--     announced_of s       what the two bytes at the start of s announce: Reed-Solomon, the one code there is, or Short
--                         if they are not there, UnknownCode if the ID is not 1
-- A refusal leaves d as it was.
use Rattle.std.specs.Prelude.{cond, Result, Ok, Err, ⊤, List, [], ◌∷◌, ◌++◌, ℕ, ◌+◌, ◌*◌, ◌/◌, ◌%◌, ◌^◌, ltb, eqb, length, take, drop}
use Rattle.answers.specs.Outcome.{Outcome, leaving}
use Rattle.answers.specs.declared.Refusal.{Refusal}
use Rattle.frame.specs.declared.Format.{Format}
use Rattle.frame.specs.declared.Frame.{Frame}
use Rattle.frame.specs.Judging.{judge_of}
use Rattle.codewords.specs.CheckBytes.{checks_of}

abbrev pub header_of : ℕ → List ℕ
header_of id = let h = id + id * 32 + id * 1024 in h % 256 ∷ h / 256 ∷ []

abbrev pub corrected : List ℕ → List ℕ
corrected w = w ++ (header_of 1 ++ checks_of w)

unfoldable pub put_corrected : List ℕ → List ℕ → Result Frame Refusal → Outcome (Result ℕ Refusal)
put_corrected s d (Ok a) =
    cond (ltb 223 a.size)
    (leaving (Err Refusal.TooLong) d)
    (cond (ltb (length d) (a.size + 34))
    (leaving (Err Refusal.NoRoom) d)
    (leaving (Ok (a.size + 34)) (corrected (take a.size s) ++ drop (a.size + 34) d)))
put_corrected s d (Err r) = leaving (Err r) d

unfoldable pub correcting_of : Format → List ℕ → List ℕ → Outcome (Result ℕ Refusal)
correcting_of f s d = put_corrected s d (judge_of f s)

unfoldable pub checking_of : List ℕ → List ℕ → Outcome (Result ℕ Refusal)
checking_of w d =
    cond (ltb 223 (length w))
    (leaving (Err Refusal.TooLong) d)
    (cond (ltb (length d) 32)
    (leaving (Err Refusal.NoRoom) d)
    (leaving (Ok 32) (checks_of w ++ drop 32 d)))

unfoldable pub bit_of : ℕ → ℕ → ℕ
bit_of i h = (h / 2 ^ i % 2 + h / 2 ^ (i + 5) % 2 + h / 2 ^ (i + 10) % 2) / 2

abbrev pub id_of : ℕ → ℕ
id_of h = bit_of 0 h + 2 * bit_of 1 h + 4 * bit_of 2 h + 8 * bit_of 3 h + 16 * bit_of 4 h

unfoldable pub announced_of : List ℕ → Result ⊤ Refusal
announced_of [] = Err Refusal.Short
announced_of (l ∷ []) = Err Refusal.Short
announced_of (l ∷ h ∷ s) =
    cond (eqb (id_of (l + 256 * h)) 1) (Ok tt) (Err Refusal.UnknownCode)
