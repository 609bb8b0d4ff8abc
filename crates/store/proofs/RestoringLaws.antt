-- A restore, case by case, as the code leaves the memory.
--     file_refused    a file that is none
--     restore_full    too many meters
--     restore_all     all of it: the meters brought in, the allowance, the count
-- Assumes nothing.
use Rattle.std.specs.Prelude.{Result, Ok, Err}
use mathlib.Core.List.{List}
use mathlib.Core.Path.{◌≡◌, ◌∙◌, ap, sym}
use Prim.Native.Nat.{ℕ, ◌+◌, ◌*◌, ◌≤◌, ◌<◌}
use native.Mathlib.Omega.{arith}
use borrow.Author.Tests.{lt-ltb, le-ltb}
use lib.ListN.{length, get_or, set}
use lib.Seq.{sets}
use Rattle.answers.specs.Outcome.{Outcome, leaving}
use Rattle.answers.specs.declared.Refusal.{Refusal}
use Rattle.answers.specs.declared.Refusal.TheVariants.{StoreFull}
use Rattle.address.specs.Keys.{four_bytes}
use Rattle.sessions.specs.Changes.{within}
use Rattle.sessions.specs.StoreFile.{size_of, file_of}
use Rattle.sessions.specs.StoreCalls.{kept, leaves, restoring}
use Rattle.store.specs.Inner.{first_of, allowance_of, restored_to, merging}
use Rattle.store.proofs.KeptLaws.{Kept}
use Rattle.store.proofs.BackupLaws.{Backup}
use Rattle.store.proofs.MergingLaws.{leaves-merging}

byte_kept : {s : List ℕ} {count : ℕ} (k : Kept s count) (i : ℕ) → get_or s i 0 ≡ get_or (leaves k.store s) i 0
byte_kept k i = ap (λ (t : List ℕ). get_or t i 0) (sym k.same)

module _ {s : List ℕ} {count : ℕ} (k : Kept s count) (file : List ℕ) where
  pub file_refused : {why : Refusal} → file_of file ≡ Err why → leaving (Err why) s ≡ restoring file s
  file_refused none = rw (k.read, none)

  module _ {n first : ℕ} (b : Backup file n) (at : first ≡ first_of file) where
    restoring_is :
        restoring file s
        ≡ kept Err (λ st. Ok (size_of st)) s
        (within (record { meters = restored_to s count file first n; allowance = allowance_of file }))
    restoring_is = rw (at, k.read, b.read, k.meters, b.meters, b.allowance)

    -- as many as there are then
    module _ {total : ℕ} (counted : total ≡ length (restored_to s count file first n)) where
      pub restore_full : 64 < total → leaving (Err StoreFull) s ≡ restoring file s
      restore_full many = sym (restoring_is ∙ rw (lt-ltb 64 (length (restored_to s count file first n)) (omega arith)))

      -- the memory after the calls
      module _
          {t u : List ℕ}
          (few : total ≤ 64)
          (brought : t ≡ merging s (restored_to s count file first n))
          (allowed : u ≡ sets t 2 (four_bytes (allowance_of file)))
        where
          memory-all :
              set u 7 total
              ≡ leaves (record { meters = restored_to s count file first n; allowance = allowance_of file }) s
          memory-all =
              let R = restored_to s count file first n in
              rw (counted, allowed, brought)
              (leaves-merging s R (omega (arith, k.room)) (allowance_of file) (byte_kept k 0) (byte_kept k 1)
              (byte_kept k 6))

          pub restore_all :
              ◌≡◌ {A = Outcome (Result ℕ Refusal)} (record { answer = Ok (8 + 20 * total); memory = set u 7 total })
              (restoring file s)
          restore_all =
              let R = restored_to s count file first n in
              rw (memory-all, counted) (sym (restoring_is ∙ rw (le-ltb 64 (length R) (omega arith))))
