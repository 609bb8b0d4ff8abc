-- The orders of document 02, 12/14, a ladder for each call on proposals: specs/Rules says how a ladder is read,
-- codewords/specs/CodeBlocks which 32 bytes correct a word, proposals/specs/Near which word is proposed. z is the size
-- of the frame by the length byte of the proposal, or of what was received where one is made.
--     size_steps f s sized    1 if s is empty; 2; 23; then whatever is judged knowing z
--     judge_rule f p s        a proposal p, which is a frame and 32 check bytes, for the received bytes s, where the
--                            header of two bytes stands between them and is skipped: the size by the length byte of
--                            p; 1 if either has too few bytes; then compare_steps
--     compare_steps z p s     25; 26 if over 16 bytes differ. Else it is taken, with the number of those that do
--     propose_rule k f s d    a proposal for the received bytes s: the size by their length byte; then propose_steps
--     propose_steps k z s d   1; 4. Then the code word near what was received, which differs in k bytes or fewer, or
--                            the received word; the bytes of d after it stay
use Rattle.std.specs.Prelude.{List, ◌++◌, ◌⊎◌, ◌≡◌, ℕ, ◌+◌, ◌<◌, length, get_or, take, drop, Result, Ok}
use Rattle.answers.specs.declared.Refusal.{Refusal}
use Rattle.answers.specs.Outcome.{Outcome}
use Rattle.ground.specs.Apart.{apart}
use Rattle.frame.specs.declared.Format.{Format}
use Rattle.frame.specs.Formats.{frame_size}
use Rattle.codewords.specs.CodeBlocks.{Corrects}
use Rattle.proposals.specs.Near.{Nearest}
use Rattle.demands.specs.Rules.{Rule, ◌when◌else◌, given, accept}
use Rattle.demands.specs.Cases.{Announces, NotAllowed}

abbrev pub size_steps : {B : Type 0} → Format → List ℕ → (ℕ → Rule B) → Rule B
size_steps f s sized =
    1 when length s ≡ 0
    else 2 when NotAllowed f (get_or s 0 0)
    else given (Announces f (get_or s 0 0)) (λ n. let z = frame_size f n in
    23 when 223 < z
    else sized z)

abbrev pub compare_steps : ℕ → List ℕ → List ℕ → Rule (Result ℕ Refusal)
compare_steps z p s =
    let d = apart (take z s ++ take 32 (drop (z + 2) s)) (take (z + 32) p) in
    25 when (Corrects (take z p) (take 32 (drop z p)) → ⊥)
    else 26 when 16 < d
    else accept (λ r. r ≡ Ok d)

abbrev pub judge_rule : Format → List ℕ → List ℕ → Rule (Result ℕ Refusal)
judge_rule f p s =
    size_steps f p (λ z.
    1 when (length p < z + 32) ⊎ (length s < z + 34)
    else compare_steps z p s)

abbrev pub propose_steps : ℕ → ℕ → List ℕ → List ℕ → Rule (Outcome (Result ℕ Refusal))
propose_steps k z s d =
    1 when length s < z + 34
    else 4 when length d < z + 32
    else given (Nearest k (take z s ++ take 32 (drop (z + 2) s))) (λ m. accept (λ o.
    o ≡ record { answer = Ok (z + 32); memory = m ++ drop (z + 32) d }))

abbrev pub propose_rule : ℕ → Format → List ℕ → List ℕ → Rule (Outcome (Result ℕ Refusal))
propose_rule k f s d = size_steps f s (λ z. propose_steps k z s d)
