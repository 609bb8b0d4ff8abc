-- Files that hold a store: the meters in their bytes.
--     Backup, opened_backup    the meters of a file, and its allowance
-- Assumes nothing.
use Rattle.std.specs.Prelude.{Result, Ok, Err}
use mathlib.Core.List.{List, [], ◌++◌, append-nil}
use mathlib.Core.Logic.{◌⊎◌, inl, inr}
use mathlib.Core.Path.{◌≡◌, refl, sym}
use Prim.Native.Nat.{ℕ, ◌+◌, ◌*◌, ◌≤◌}
use native.Mathlib.Omega.{arith}
use lib.ListN.{length, drop}
use Rattle.answers.specs.declared.Refusal.{Refusal}
use Rattle.ground.specs.Bytes.{Bytes}
use Rattle.ground.proofs.CaseLaws.{zero_not_one}
use Rattle.address.proofs.KeyLaws.{four_at-append}
use Rattle.sessions.specs.Meters.{Store}
use Rattle.sessions.specs.StoreFile.{meters_bytes, meters_in, version_one, bytes_of, file_of}
use Rattle.sessions.specs.Valid.{Valid, IsFile}
use Rattle.sessions.proofs.ExactLaws.{file_of_exactly}
use Rattle.sessions.proofs.LeavesLaws.{length_bytes_of, file_of-written}
use Rattle.sessions.proofs.MeterBytesLaws.{length-meters_bytes}
use Rattle.sessions.proofs.MetersInLaws.{meters_in_bytes, all_right_bytes}
use Rattle.sessions.proofs.OnceLaws.{unlike_once}
use Rattle.store.specs.declared.index.Index.{Index}
use Rattle.store.specs.Inner.{held_by, MetersFrom, first_of, allowance_of}
use Rattle.store.specs.InnerOpened.{Opened}

-- the meters of a store that can stand in bytes, where they stand
module _
    {st : Store}
    (v : Valid st)
    (s : List ℕ)
    (first : ℕ)
    (rest : List ℕ)
    (there : drop first s ≡ meters_bytes st.meters ++ rest)
  where
    meters_in_there : meters_in (length st.meters) (drop first s) ≡ st.meters
    meters_in_there = rw there (meters_in_bytes st.meters rest v.fit)

    from_there : first + 20 * length st.meters ≤ length s → MetersFrom first (length st.meters) s
    from_there room =
        record {
          few = v.few;
          room = room;
          right = rw there (all_right_bytes st.meters rest);
          once = rw meters_in_there ((unlike_once st.meters).1 v.once);
        }

pub record Backup (file : List ℕ) (n : ℕ) : Type 0 where
  pub store : Store
  pub read : file_of file ≡ Ok store
  pub from : MetersFrom (first_of file) n file
  pub meters : meters_in n (drop (first_of file) file) ≡ store.meters
  pub allowance : allowance_of file ≡ store.allowance
  pub low : first_of file ≤ 8
  pub some : 3 ≤ first_of file

module _ {st : Store} (v : Valid st) where
  backup_two : Backup (bytes_of st) (length st.meters)
  backup_two =
      let there = sym (append-nil (meters_bytes st.meters)) in
      record {
        store = st;
        read = file_of-written v;
        from = from_there v (bytes_of st) 8 [] there (omega (arith, length_bytes_of st));
        meters = meters_in_there v (bytes_of st) 8 [] there;
        allowance = four_at-append [] [] st.allowance v.allows;
        low = omega arith;
        some = omega arith;
      }

  backup_one :
      st.allowance ≡ 16384 → file_of (version_one st.meters) ≡ Ok st
      → Backup (version_one st.meters) (length st.meters)
  backup_one allows read =
      let there = sym (append-nil (meters_bytes st.meters)) in
      record {
        store = st;
        read = read;
        from = from_there v (version_one st.meters) 3 [] there (omega (arith, length-meters_bytes st.meters));
        meters = meters_in_there v (version_one st.meters) 3 [] there;
        allowance = sym allows;
        low = omega arith;
        some = omega arith;
      }

backup_of : (file : List ℕ) (st : Store) → file_of file ≡ Ok st → IsFile file st → Backup file (length st.meters)
backup_of file st read f = by_version f.bytes
  where
    by_version :
        (file ≡ bytes_of st) ⊎ ((file ≡ version_one st.meters) × (st.allowance ≡ 16384))
        → Backup file (length st.meters)
    by_version (inl is) = rw is (backup_two f.valid)
    by_version (inr (is, allows)) = rw is (backup_one f.valid allows (rw is at read))

module _ (file : List ℕ) (n : ℕ) (bytes : Bytes file) where
  backup_kept : (r : Result Store Refusal) → file_of file ≡ r → held_by r ≡ Ok n → Backup file n
  backup_kept (Err why) e h = absurd (zero_not_one (cc))
  backup_kept (Ok st) e h =
      let size : length st.meters ≡ n = cc in
      rw (← size) (backup_of file st e ((file_of_exactly file st bytes).0 e))

  pub backup_file : held_by (file_of file) ≡ Ok n → Backup file n
  backup_file h = backup_kept (file_of file) refl h

pub opened_backup : {file : List ℕ} {m : Index} → Opened (file_of file) file (first_of file) m → Backup file m.count
opened_backup {file} {m} o = backup_file file m.count (rw o.over at m.octets) o.held
