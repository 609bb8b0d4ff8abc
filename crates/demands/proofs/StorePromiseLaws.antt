-- What the page says of the memory that a store is kept in, before a call and after it (specs/Demands).
--     emptying_within      a store that was made is one, and holds no meter
--     written_read         reading what was written gives the same store
--     restoring-restores   what a restore that was accepted leaves
--     after_all_within      memory that holds a valid store holds one after any calls
-- Assumes nothing.
use mathlib.Core.Bool.{Bool, true, false, cond}
use mathlib.Core.List.{List, [], ◌∷◌}
use mathlib.Core.Path.{◌≡◌, refl, sym, ◌∙◌, ap}
use Prim.Native.Nat.{ℕ, ◌≤◌}
use native.Mathlib.Omega.{arith}
use borrow.Author.Tests.{ltb-false}
use lib.Dec.{ltb}
use lib.ListN.{length, take, drop}
use lib.Seq.{take-append_seam}
use Rattle.std.specs.Prelude.{Result, Ok, Err}
use Rattle.answers.specs.declared.Refusal.{Refusal}
use Rattle.answers.specs.Outcome.{Outcome, leaving}
use Rattle.ground.specs.Bytes.{Bytes}
use Rattle.ground.proofs.CaseLaws.{by_test, zero_not_one}
use Rattle.sessions.specs.Meters.{Store, holds}
use Rattle.sessions.specs.Changes.{empty_store, restored, restored_by}
use Rattle.sessions.specs.StoreFile.{bytes_of, size_of, memory_size, memory_of, file_of}
use Rattle.sessions.specs.StoreCalls.{◌and_then◌, leaves, kept, emptying, copied, writing_store, restoring, found}
use Rattle.sessions.specs.Valid.{Valid, Within, IsFile}
use Rattle.sessions.specs.History.{Call, after, after_all, InRange, InRanges, NoneHeld}
use Rattle.sessions.proofs.ExactLaws.{memory_of_exactly, file_of_exactly}
use Rattle.sessions.proofs.LeavesLaws.{length_bytes_of, bytes_leaves, memory_of_leaves, file_of-written}
use Rattle.sessions.proofs.ValidLaws.{restored_by_valid}
use Rattle.sessions.proofs.MemoryStepLaws.{left, after_kept}
use Rattle.sessions.proofs.StepLaws.{on_store}
use Rattle.sessions.proofs.HistoryLaws.{on_store_valid}
use Rattle.demands.specs.StoreAfter.{Restores}
use Rattle.demands.proofs.StorePutLaws.{restored-restores}

-- a copy that was accepted begins with the store's bytes
module _ (st : Store) (d : List ℕ) (size : ℕ) where
  abbrev copy : Bool → Outcome (Result ℕ Refusal)
  copy t =
      cond t (leaving (Err Refusal.NoRoom) d)
      (record { answer = Ok (size_of st); memory = leaves st d })

  copy_begins : (t : Bool) → (copy t).answer ≡ Ok size → take size (copy t).memory ≡ bytes_of st
  copy_begins true e = absurd (zero_not_one (cc))
  copy_begins false e =
      let same : size_of st ≡ size = cc in
      ap (λ k. take k (leaves st d)) (sym (length_bytes_of st ∙ same))
      ∙ take-append_seam (bytes_of st) (drop (size_of st) d)

leaves_within :
    (s : List ℕ) (new : Store) → Bytes s → memory_size ≤ length s → Valid new → Within (leaves new s) new
leaves_within s new bytes room v =
    (memory_of_exactly (leaves new s) new (bytes_leaves s v bytes)).0 (memory_of_leaves s v room)

empty_store_valid : Valid empty_store
empty_store_valid =
    record {
      few = omega arith;
      fit = λ i h. absurd (omega arith);
      once = λ i j h. absurd (omega arith);
      allows = omega arith;
    }

empty_store_none : (s : List ℕ) → memory_size ≤ length s → NoneHeld (leaves empty_store s)
unfolding holds
empty_store_none s room a m e =
    zero_not_one (let is = ap (found a) (memory_of_leaves s empty_store_valid room) in cc)

pub emptying_within :
    (s : List ℕ) (size : ℕ) → Bytes s → (emptying s).answer ≡ Ok size
    → Within (emptying s).memory empty_store × NoneHeld (emptying s).memory
emptying_within s size bytes e =
    by_test (ltb (length s) memory_size) (λ t. absurd (zero_not_one (let no = rw t at e in cc)))
    (λ t. let room = ltb-false (length s) memory_size t in
    rw t (leaves_within s empty_store bytes room empty_store_valid, empty_store_none s room))

module _ (s : List ℕ) (st : Store) (bytes : Bytes s) (w : Within s st) where
  is : memory_of s ≡ Ok st
  is = (memory_of_exactly s st bytes).1 w

  pub written_read :
      (d : List ℕ) (size : ℕ) → (writing_store s d).answer ≡ Ok size
      → file_of (take size (writing_store s d).memory) ≡ Ok st
  written_read d size e =
      let same = ap (λ r. copied r d) is in
      let begins = copy_begins st d size (ltb (length d) (size_of st)) (rw same at e) in
      rw same (ap file_of begins ∙ file_of-written w.valid)

  module _ (f : List ℕ) (file : Store) (read : Bytes f) (p : IsFile f file) (size : ℕ) where
    abbrev new : Store
    new = record { meters = restored st.meters file.meters; allowance = file.allowance }

    abbrev told : Result Store Refusal → Outcome (Result ℕ Refusal)
    told r = kept Err (λ x. Ok (size_of x)) s r

    restored-accepted :
        (t : Bool) → ltb 64 (length new.meters) ≡ t
        → let o = told (cond t (Err Refusal.StoreFull) (Ok new)) in
        o.answer ≡ Ok size → (x : Store) × (Within o.memory x × Restores st file x)
    restored-accepted true e a = absurd (zero_not_one (cc))
    restored-accepted false e a =
        let valid = restored_by_valid st new w.valid file p.valid (rw e) in
        (new, (leaves_within s new bytes w.room valid, restored-restores st file w.valid p.valid))

    pub restoring-restores :
        (restoring f s).answer ≡ Ok size
        → (x : Store) × (Within (restoring f s).memory x × Restores st file x)
    restoring-restores a =
        let held = ap (λ r. told (r and_then (λ x. file_of f and_then (λ b. restored_by b x)))) is in
        let same = held ∙ ap (λ r. told (r and_then (λ b. restored_by b st))) ((file_of_exactly f file read).1 p) in
        rw same (restored-accepted (ltb 64 (length new.meters)) refl (rw same at a))

  left_within :
      (r : Result Store Refusal) → ((x : Store) → r ≡ Ok x → Valid x)
      → Bytes (left s r) × ((x : Store) × Within (left s r) x)
  left_within (Err why) valid = (bytes, (st, w))
  left_within (Ok x) valid =
      let v = valid x refl in (bytes_leaves s v bytes, (x, leaves_within s x bytes w.room v))

  after_within : (c : Call) → InRange c → Bytes (after s c) × ((x : Store) × Within (after s c) x)
  after_within c range =
      rw (after_kept s st is c) (left_within (on_store c st) (λ x e. on_store_valid c st x range w.valid e))

pub after_all_within :
    (s : List ℕ) (st : Store) (cs : List Call) → Bytes s → InRanges cs → Within s st
    → (new : Store) × Within (after_all s cs) new
unfolding after_all InRanges
after_all_within s st [] bytes range w = (st, w)
after_all_within s st (c ∷ cs) bytes range w =
    let p = after_within s st bytes w c range.0 in
    after_all_within (after s c) p.1.0 cs p.0 range.1 p.1.1
