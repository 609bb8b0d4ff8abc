-- NRZ, whose code words are all numbers of eight chips: decoding takes the chips as they stand.
--     nrz_value    what a word stands for is the word
--     nrz_words    each is a code word
--     nrz_bytes    the decoded bytes are the chips
use mathlib.Core.Path.{◌≡◌, ap, sym, ◌∙◌}
use mathlib.Core.List.{List}
use Prim.Native.Nat.{ℕ, ◌+◌, ◌*◌}
use native.Mathlib.Omega.{arith}
use Rattle.std.specs.Prelude.{Some}
use Rattle.chips.proofs.PackingLaws.{tabulate_same, packed_whole}
use Rattle.chips.proofs.WindowLaws.{word_at_lt}
use Rattle.chips.specs.Chips.{gather, word_at}
use Rattle.chips.specs.Packing.{bytes_at}
use Rattle.line.proofs.CodeLaws.{lawful}
use Rattle.line.proofs.DecodingLaws.{gather-decoded_chip}
use Rattle.line.proofs.GoodRunLaws.{good_run_whole}
use Rattle.line.specs.Codes.{code_of, words_in}
use Rattle.line.specs.Decoding.{value_at, is_word, number_in, decoded_chip, decoding}
use Rattle.line.specs.Inner.{AllWords}
use Rattle.line.specs.declared.codes.Code.TheVariants.{Nrz}

module _ (s : List ℕ) (start : ℕ) where
  pub nrz_value : (i : ℕ) → value_at (code_of Nrz) s start i ≡ Some (word_at s (start + i * 8) 8)
  nrz_value i = (lawful Nrz).back _ (word_at_lt s (start + i * 8) 8)

  pub nrz_words : (n : ℕ) → AllWords (code_of Nrz) s start n
  nrz_words n =
      good_run_whole (value_at (code_of Nrz) s start) (words_in (code_of Nrz) n) (λ i h. ap is_word (nrz_value i))

  pub nrz_bytes : (n : ℕ) → bytes_at s start n ≡ decoding (code_of Nrz) s start n
  unfolding decoding
  nrz_bytes n =
      tabulate_same (λ k. word_at s (start + 8 * k) 8) (λ k. gather (decoded_chip (code_of Nrz) s start) (8 * k) 8) n
      (λ k h.
      let turned : k * 8 ≡ 8 * k = omega arith in
      let read : gather (decoded_chip (code_of Nrz) s start) (k * 8) 8 ≡ word_at s (start + k * 8) 8
      = gather-decoded_chip (code_of Nrz) s start k ∙ ap number_in (nrz_value k) in
      sym (rw turned at read))
      ∙ sym (packed_whole n (decoded_chip (code_of Nrz) s start))
