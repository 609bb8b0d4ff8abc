-- The calls that concern no single meter (document 02, 9/14): the allowance, writing; and adding by numbers.
--     allow_set                      the allowance, set
--     take_kept                      the bytes of the store
--     write_all                      writing it
--     add_listed                     adding by numbers
-- Assumes nothing.
use Rattle.sessions.specs.Meters.{Store}
use Rattle.std.specs.Prelude.{Result, Ok, Err}
use mathlib.Core.List.{List, ◌++◌}
use mathlib.Core.Path.{◌≡◌, ◌∙◌, ap, sym}
use Prim.Native.Nat.{ℕ, ◌+◌, ◌*◌, ◌≤◌}
use borrow.Author.Tests.{le-ltb}
use lib.ListN.{length, take, drop}
use lib.Seq.{sets, take_at}
use Rattle.answers.specs.Outcome.{Outcome, leaving}
use Rattle.answers.specs.declared.Refusal.{Refusal}
use Rattle.modes.specs.Tables.{mode_of, format_of}
use Rattle.address.specs.Keys.{four_bytes}
use Rattle.sessions.specs.Changes.{allowing}
use Rattle.sessions.specs.StoreFile.{bytes_of, size_of}
use Rattle.sessions.specs.StoreCalls.{◌and_then◌, kept, leaves, setting_allowance, copied, writing_store, adding, adding_by}
use Rattle.sessions.proofs.LeavesLaws.{length_bytes_of}
use Rattle.store.proofs.KeptLaws.{Kept}

module _ (a mode format : ℕ) (s : List ℕ) where
  pub add_listed : mode ≤ 5 → format ≤ 1 → adding a (mode_of mode) (format_of format) s ≡ adding_by a mode format s
  add_listed five one = rw (le-ltb 5 mode five, le-ltb 1 format one)

module _ {s : List ℕ} {count : ℕ} (k : Kept s count) where
  pub allow_set :
      (n : ℕ) {t : List ℕ} →
      t ≡ sets s 2 (four_bytes n) → leaving (Ok (8 + 20 * count)) t ≡ setting_allowance n s
  allow_set n {t} is =
      let st = k.store in
      let leaves-set : t ≡ leaves (record { meters = st.meters; allowance = n }) s =
      is ∙ sym (ap (λ (l : List ℕ). sets l 2 (four_bytes n)) k.same) in
      let call : Result Store Refusal → Outcome (Result ℕ Refusal) =
      λ r. kept Err (λ x. Ok (size_of x)) s (r and_then allowing n) in
      sym (ap call k.read ∙ rw (leaves-set, k.size))

  take_kept : take (8 + 20 * count) s ≡ bytes_of k.store
  take_kept =
      let st = k.store in
      sym (ap (take (8 + 20 * count)) k.same)
      ∙ take_at (bytes_of st) (drop (size_of st) s) (8 + 20 * count) (length_bytes_of st ∙ rw k.size)

  module _ (d : List ℕ) where
    pub write_all :
        {t : List ℕ} → 8 + 20 * count ≤ length d → t ≡ take (8 + 20 * count) s →
        leaving (Ok (8 + 20 * count)) (t ++ drop (8 + 20 * count) d) ≡ writing_store s d
    write_all room is =
        sym (ap (λ (r : Result Store Refusal). copied r d) k.read
        ∙ rw (is, take_kept, k.size, le-ltb (length d) (8 + 20 * count) room))
