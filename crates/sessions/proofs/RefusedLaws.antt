-- Which refusal reading memory or a file answers, case by case in their order (document 02, 9/14: 17, 18, 17).
--     memoryOf-short, memory_of_unknown    memory that is too small; memory in another version
--     memory_of_else, memory_of_bad         else a store, or 17 exactly where no store stands at its start
--     file_of_empty, file_of_unknown        an empty file; a file in another version
--     file_of_else, file_of_bad             else a store, or 17 exactly where the file is of no store
-- Assumes nothing.
use Rattle.std.specs.Prelude.{Result, Ok, Err}
use mathlib.Core.Bool.{Bool, true, false, ◌&&◌}
use mathlib.Core.List.{List}
use mathlib.Core.Logic.{◌⊎◌, inl, inr, ⊎_elim, ◌↔◌}
use mathlib.Core.Path.{◌≡◌, refl}
use Prim.Native.Nat.{ℕ, ◌<◌}
use native.Mathlib.Omega.{arith}
use borrow.Author.Tests.{eq-eqb, ne_eqb}
use lib.Dec.{eqb, leb}
use lib.ListN.{length, get_or}
use Rattle.answers.specs.declared.Refusal.{Refusal}
use Rattle.ground.specs.Bytes.{Bytes}
use Rattle.ground.proofs.CaseLaws.{zero_not_one}
use Rattle.answers.specs.declared.Refusal.TheVariants.{BadStore, UnknownVersion}
use Rattle.address.specs.Keys.{four_at}
use Rattle.sessions.specs.Meters.{Store}
use Rattle.sessions.specs.StoreFile.{right_body, whole, store_in, if_right, file_of, memory_size, memory_of}
use Rattle.sessions.specs.Valid.{Within, IsFile}
use Rattle.sessions.proofs.ExactLaws.{memory_of_exactly, file_of_exactly}

-- 17, or a store
abbrev pub BadOrKept : Result Store Refusal → Type 0
BadOrKept r = (r ≡ Err BadStore) ⊎ ((st : Store) × (r ≡ Ok st))

if_right_else : (ok : Bool) (st : Store) → BadOrKept (if_right ok st)
if_right_else true st = inr (st, refl)
if_right_else false st = inl refl

-- 17 exactly where nothing is kept
bad_none :
    {r : Result Store Refusal} {P : Store → Type 0} → ((st : Store) → (r ≡ Ok st) ↔ P st) → BadOrKept r
    → (r ≡ Err BadStore) ↔ ((st : Store) → P st → ⊥)
bad_none exactly either = (
  λ e st p. zero_not_one (let k = (exactly st).1 p in cc),
  λ none. ⊎_elim (λ e. e) (λ k. absurd (none k.0 ((exactly k.0).0 k.1))) either,
)

module _ (s : List ℕ) where
  pub memory_of_empty : length s ≡ 0 → memory_of s ≡ Err BadStore
  memory_of_empty h = rw (eq-eqb (length s) 0 h)

  module _ (some : 0 < length s) where
    filled : eqb (length s) 0 ≡ false
    filled = ne_eqb (length s) 0 (λ e. omega arith)

    pub memory_of_unknown : (get_or s 0 0 ≡ 2 → ⊥) → memory_of s ≡ Err UnknownVersion
    memory_of_unknown h = rw (filled, ne_eqb (get_or s 0 0) 2 h)

    module _ (two : get_or s 0 0 ≡ 2) where
      pub memory_of_else : BadOrKept (memory_of s)
      memory_of_else =
          rw (filled, two)
          (if_right_else (leb memory_size (length s) && (eqb (get_or s 1 0) 4 && right_body 6 s))
          (store_in 6 (four_at s 2) s))

      pub memory_of_bad : Bytes s → (memory_of s ≡ Err BadStore) ↔ ((st : Store) → Within s st → ⊥)
      memory_of_bad bytes = bad_none (λ st. memory_of_exactly s st bytes) memory_of_else

  pub file_of_empty : length s ≡ 0 → file_of s ≡ Err BadStore
  file_of_empty h = rw (eq-eqb (length s) 0 h)

  module _ (some : 0 < length s) where
    not_empty : length s ≡ 0 → ⊥
    not_empty e = omega arith

    pub file_of_unknown : (get_or s 0 0 ≡ 1 → ⊥) → (get_or s 0 0 ≡ 2 → ⊥) → file_of s ≡ Err UnknownVersion
    file_of_unknown h k = rw (ne_eqb (length s) 0 not_empty, ne_eqb (get_or s 0 0) 2 k, ne_eqb (get_or s 0 0) 1 h)

    module _ (known : (get_or s 0 0 ≡ 1) ⊎ (get_or s 0 0 ≡ 2)) where
      pub file_of_else : BadOrKept (file_of s)
      file_of_else =
          rw (ne_eqb (length s) 0 not_empty)
          (⊎_elim (λ one. rw one (if_right_else (right_body 1 s && whole 1 s) (store_in 1 16384 s)))
          (λ two. rw two (if_right_else (eqb (get_or s 1 0) 4 && (right_body 6 s && whole 6 s))
          (store_in 6 (four_at s 2) s)))
          known)

      pub file_of_bad : Bytes s → (file_of s ≡ Err BadStore) ↔ ((st : Store) → IsFile s st → ⊥)
      file_of_bad bytes = bad_none (λ st. file_of_exactly s st bytes) file_of_else
