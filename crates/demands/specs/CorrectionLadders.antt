-- The orders of document 02, 11/14, a ladder for each call on correction bytes: specs/Rules says how a ladder is read,
-- specs/CorrectionCases what the ID of a header is, and codewords/specs/CodeBlocks which 32 bytes correct a word: those
-- that make it, with zero fill up to 223 bytes before it, a code word by the generator's roots.
--     write_rule f s d       a frame with its correction: the frame's 1, 2, 1, 3; 23; 4. Then the frame, the header of
--                           ID 1, low byte first, and the check bytes; the bytes of d after them stay
--     check_bytes_rule w d    the check bytes of any bytes alone: 23; 4
--     announce_rule s        what a header announces, its low byte first: 1; 24
use Rattle.std.specs.Prelude.{List, ◌∷◌, ◌++◌, ◌≡◌, ℕ, ◌+◌, ◌*◌, ◌<◌, length, get_or, take, drop, Result, Ok, ⊤}
use Rattle.answers.specs.declared.Refusal.{Refusal}
use Rattle.answers.specs.Outcome.{Outcome}
use Rattle.frame.specs.declared.Format.{Format}
use Rattle.frame.specs.Formats.{frame_size}
use Rattle.codewords.specs.CodeBlocks.{Corrects}
use Rattle.demands.specs.Rules.{Rule, ◌when◌else◌, given, accept}
use Rattle.demands.specs.Ladders.{judge_steps}
use Rattle.demands.specs.CorrectionCases.{IdIs}

abbrev pub write_rule : Format → List ℕ → List ℕ → Rule (Outcome (Result ℕ Refusal))
write_rule f s d =
    judge_steps f s (λ n. let z = frame_size f n in
    let w = take z s in
    23 when 223 < z
    else 4 when length d < z + 34
    else given (Corrects w) (λ c. accept (λ o.
    o ≡ record { answer = Ok (z + 34); memory = (w ++ (0x21 ∷ 0x04 ∷ c)) ++ drop (z + 34) d })))

abbrev pub check_bytes_rule : List ℕ → List ℕ → Rule (Outcome (Result ℕ Refusal))
check_bytes_rule w d =
    23 when 223 < length w
    else 4 when length d < 32
    else given (Corrects w) (λ c. accept (λ o.
    o ≡ record { answer = Ok 32; memory = c ++ drop 32 d }))

abbrev pub announce_rule : List ℕ → Rule (Result ⊤ Refusal)
announce_rule s =
    1 when length s < 2
    else 24 when (IdIs (get_or s 0 0 + 256 * get_or s 1 0) 1 → ⊥)
    else accept (λ r. r ≡ Ok tt)
