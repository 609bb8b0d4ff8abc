-- One call c of a history (specs/History), on the store st.
--     on_store c st        what the call makes of it
--     store_after c st     the store that is held then: st itself if the call was refused
--     store_after_by       what holds of st, and of what c leaves if it is not refused, holds of it
--     added_by_added       one that is added by numbers is added
--     on_store_restore     a restore that is not refused has read its file
--     store_after_last     no call lowers a number
--     store_after_unsure   none makes a meter sure but hearing one of its numbers
-- Assumes nothing.
use Rattle.std.specs.Prelude.{Result, Ok, Err}
use mathlib.Core.Bool.{true, ◌||◌}
use mathlib.Core.List.{List}
use mathlib.Core.Path.{◌≡◌, refl, ap, sym}
use Prim.Native.Nat.{ℕ, ◌≤◌}
use native.Mathlib.Omega.{arith}
use lib.Dec.{ltb}
use Rattle.answers.specs.declared.Refusal.{Refusal}
use Rattle.ground.proofs.CaseLaws.{zero_not_one}
use Rattle.modes.specs.Tables.{mode_of, format_of}
use Rattle.sessions.specs.Meters.{Store}
use Rattle.sessions.specs.Changes.{added, hearing, issued, allowing, restored_by}
use Rattle.sessions.specs.StoreFile.{file_of}
use Rattle.sessions.specs.StoreCalls.{◌and_then◌, added_by}
use Rattle.sessions.specs.History.{Call, Add, AddBy, Hear, Issue, Restore, Allow}
use Rattle.sessions.proofs.TestLaws.{cond_refuse}
use Rattle.sessions.proofs.KeepingLaws as keeping

abbrev pub on_store : Call → Store → Result Store Refusal
on_store (Add a mode format) st = added a mode format st
on_store (AddBy a k j) st = added_by a k j st
on_store (Hear a n) st = hearing a n st
on_store (Issue a) st = issued a st
on_store (Restore file) st = file_of file and_then (λ backup. restored_by backup st)
on_store (Allow n) st = allowing n st

abbrev pub held_after : Store → Result Store Refusal → Store
held_after st (Err why) = st
held_after st (Ok after) = after

abbrev pub store_after : Call → Store → Store
store_after c st = held_after st (on_store c st)

held_after_by :
    (P : Store → Type 0) (st : Store) (r : Result Store Refusal) → P st → ((after : Store) → r ≡ Ok after → P after)
    → P (held_after st r)
held_after_by P st (Err why) p f = p
held_after_by P st (Ok after) p f = f after refl

pub store_after_by :
    (P : Store → Type 0) (c : Call) (st : Store) → P st → ((after : Store) → on_store c st ≡ Ok after → P after)
    → P (store_after c st)
store_after_by P c st = held_after_by P st (on_store c st)

and_then_keep :
    (r : Result Store Refusal) (call : Store → Result Store Refusal) {after : Store} → r and_then call ≡ Ok after
    → (st : Store) × ((r ≡ Ok st) × (call st ≡ Ok after))
and_then_keep (Err why) call h = absurd (zero_not_one (cc))
and_then_keep (Ok st) call h = (st, (refl, h))

-- a meter that is added by numbers is added
pub added_by_added :
    (a k j : ℕ) (st : Store) {after : Store} → added_by a k j st ≡ Ok after
    → added a (mode_of k) (format_of j) st ≡ Ok after
added_by_added a k j st h = (cond_refuse (ltb 5 k || ltb 1 j) _ _ h).1

module _ (b : ℕ) (st : Store) where
  on_store_last : (c : Call) (after : Store) → on_store c st ≡ Ok after → keeping.last b st ≤ keeping.last b after
  on_store_last (Add a mode format) after h = keeping.added_last b st after a mode format h
  on_store_last (AddBy a k j) after h =
      keeping.added_last b st after a (mode_of k) (format_of j) (added_by_added a k j st h)
  on_store_last (Hear a n) after h = keeping.hearing_last b st after a n h
  on_store_last (Issue a) after h = keeping.issued_last b st after a h
  on_store_last (Restore file) after h =
      let p = and_then_keep (file_of file) _ h in
      keeping.restored_by_last b st after p.0 p.1.1
  on_store_last (Allow n) after h = keeping.allowing_last b st after n h

  pub store_after_last : (c : Call) → keeping.last b st ≤ keeping.last b (store_after c st)
  store_after_last c =
      store_after_by (λ after. keeping.last b st ≤ keeping.last b after) c st (omega arith) (on_store_last c)

  on_store_unsure :
      (c : Call) → ((n : ℕ) → c ≡ Hear b n → ⊥) → keeping.unsure b st ≡ true → (after : Store)
      → on_store c st ≡ Ok after → keeping.unsure b after ≡ true
  on_store_unsure (Add a mode format) none u after h = keeping.added_unsure b st after a mode format h u
  on_store_unsure (AddBy a k j) none u after h =
      keeping.added_unsure b st after a (mode_of k) (format_of j) (added_by_added a k j st h) u
  on_store_unsure (Hear a n) none u after h =
      keeping.hearing_unsure b st after a n h (λ e. none n (ap (λ x. Hear x n) (sym e))) u
  on_store_unsure (Issue a) none u after h = keeping.issued_unsure b st after a h u
  on_store_unsure (Restore file) none u after h =
      let p = and_then_keep (file_of file) _ h in
      keeping.restored_by_unsure b st after p.0 p.1.1 u
  on_store_unsure (Allow n) none u after h = keeping.allowing_unsure b st after n h u

  pub store_after_unsure :
      (c : Call) → ((n : ℕ) → c ≡ Hear b n → ⊥) → keeping.unsure b st ≡ true
      → keeping.unsure b (store_after c st) ≡ true
  store_after_unsure c none u = store_after_by (λ after. keeping.unsure b after ≡ true) c st u
      (on_store_unsure c none u)

pub on_store_restore :
    (file : List ℕ) (st : Store) {after : Store} → on_store (Restore file) st ≡ Ok after
    → (backup : Store) × ((file_of file ≡ Ok backup) × (restored_by backup st ≡ Ok after))
on_store_restore file st h = and_then_keep (file_of file) _ h
