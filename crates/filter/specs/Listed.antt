-- The meter filter (document 01, "Meter filter", "Answer numbers").
--     entry_limit          entries that the filter has room for
--     listed b es         whether b is one of es
--     verdict_of es n s    the answer for the content s, the first n of es in use: 10, 5, else yes or no
-- All eight bytes of a name are compared as received, the top bit of M among them.
use Rattle.std.specs.Prelude.{List, [], ◌∷◌, Bool, false, cond, ◌||◌, ℕ, ltb, length, take, Result, Ok, Err}
use Rattle.answers.specs.declared.Refusal.{Refusal}
use Rattle.answers.specs.declared.Refusal.TheVariants.{OutOfRange, BadContent}
use Rattle.address.specs.Names.{name_of, same_bytes}

abbrev pub entry_limit : ℕ
entry_limit = 16

unfoldable pub listed : List ℕ → List (List ℕ) → Bool
listed b [] = false
listed b (e ∷ es) = same_bytes e b || listed b es

abbrev pub verdict_of : List (List ℕ) → ℕ → List ℕ → Result Bool Refusal
verdict_of es n s =
    cond (ltb entry_limit n) (Err OutOfRange)
    (cond (ltb (length s) 9) (Err BadContent) (Ok (listed (name_of s) (take n es))))
