-- Chips written into bytes (document 01, "Chips and line codes": first chip highest, unused chips of the last byte 0).
--     spread w v k    chip k of the numbers v 0, v 1, v 2, .. written one after the other, w chips each, highest first
--     up_to t f k      chip k of the first t chips that f gives; behind them every chip is 0
--     tabulate f n    the list f 0, f 1, .. , f (n - 1)
--     packed t f      the bytes that hold the first t chips that f gives, as few as will do
--     bytes_at s at n    the n bytes that the chips of s make from place `at` on
use Rattle.std.specs.Prelude.{cond, List, [], ◌∷◌, ◌++◌, ℕ, zero, suc, ◌+◌, ◌*◌, ◌-◌, ◌/◌, ◌%◌, ◌^◌, ltb}
use Rattle.chips.specs.Chips.{gather, word_at}

abbrev pub spread : ℕ → (ℕ → ℕ) → ℕ → ℕ
spread w v k = v (k / w) / 2 ^ (w - 1 - k % w) % 2

abbrev pub up_to : ℕ → (ℕ → ℕ) → ℕ → ℕ
up_to t f k = cond (ltb k t) (f k) 0

unfoldable pub tabulate : (ℕ → ℕ) → ℕ → List ℕ
tabulate f zero = []
tabulate f (suc n) = tabulate f n ++ (f n ∷ [])

unfoldable pub packed : ℕ → (ℕ → ℕ) → List ℕ
packed t f = tabulate (λ j. gather (up_to t f) (8 * j) 8) ((t + 7) / 8)

abbrev pub bytes_at : List ℕ → ℕ → ℕ → List ℕ
bytes_at s at n = tabulate (λ k. word_at s (at + 8 * k) 8) n
