-- A meter as its twenty bytes, and meters one behind the other (specs/StoreFile), written and read back.
--     length-meter_bytes, bytes-meter_bytes    they are twenty, and bytes
--     meter_in_bytes, right_meter_bytes        the meter that is read where it was written, and that it is one
--     fits-meter_in                           what is read fits its bytes
--     take-meter_bytes                        the bytes of a meter that was read are those that stood there
--     length-meters_bytes, meters_bytes-append, bytes-meters_bytes    the same of many, and of two lists of them
-- Assumes nothing.
use mathlib.Core.Bool.{Bool, true, false}
use mathlib.Core.List.{List, [], ◌∷◌, ◌++◌, append_assoc}
use mathlib.Core.Path.{◌≡◌, refl, sym, ◌∙◌}
use Prim.Native.Nat.{ℕ, zero, suc, ◌*◌, ◌<◌, ◌≤◌}
use native.Mathlib.Omega.{arith}
use borrow.Author.Tests.{eqb-true, ltb-true}
use lib.Dec.{eqb, ltb}
use lib.ListN.{length, get_or, take, length-append}
use Rattle.ground.specs.Bytes.{Bytes}
use Rattle.ground.proofs.ByteLaws.{bytes-nil, bytes-cons, bytes-append}
use Rattle.ground.proofs.CaseLaws.{and_left, and_right}
use Rattle.modes.specs.Tables.{mode_number, format_number}
use Rattle.modes.proofs.TablesLaws.{mode_of_number, format_of_number, mode_number-lt, format_number-lt, mode_number_of, format_number_of}
use Rattle.address.specs.Keys.{four_bytes, key_bytes}
use Rattle.address.proofs.NameLaws.{take-drop}
use Rattle.address.proofs.KeyLaws.{four_at-append, key_at_append, four_at-lt, key_at_lt, four_bytes-four_at, key_bytes_key_at, bytes-four_bytes, bytes-key_bytes}
use Rattle.sessions.specs.declared.Meter.{Meter}
use Rattle.sessions.specs.StoreFile.{mark_of, meter_bytes, meters_bytes, meter_in, right_meter}
use Rattle.sessions.specs.Valid.{Fits}

pub length-meter_bytes : (m : Meter) → length (meter_bytes m) ≡ 20
length-meter_bytes m = refl

mark_of_one : (unsure : Bool) → eqb (mark_of unsure) 1 ≡ unsure
mark_of_one true = refl
mark_of_one false = refl

pub meter_in_bytes : (m : Meter) (rest : List ℕ) → Fits m → meter_in (meter_bytes m ++ rest) ≡ m
meter_in_bytes m rest fit =
    let address = key_at_append [] [] m.address fit.address in
    let number = four_at-append [] [] m.number fit.number in
    rw (address, mode_of_number m.mode, format_of_number m.format, number, mark_of_one m.unsure)

mark_of-lt : (unsure : Bool) → ltb (mark_of unsure) 2 ≡ true
mark_of-lt true = refl
mark_of-lt false = refl

pub right_meter_bytes : (m : Meter) (rest : List ℕ) → right_meter (meter_bytes m ++ rest) ≡ true
right_meter_bytes m rest = rw (mode_number-lt m.mode, format_number-lt m.format, mark_of-lt m.unsure)

mark_of_eqb : (k : ℕ) → k < 2 → mark_of (eqb k 1) ≡ k
mark_of_eqb zero h = refl
mark_of_eqb (suc zero) h = refl
mark_of_eqb (suc (suc k)) h = absurd (omega arith)

record MeterFields (s : List ℕ) : Type 0 where
  address : get_or s 0 0 ≡ 8
  mode : (get_or s 9 0 ≡ 1) × (get_or s 10 0 < 6)
  format : (get_or s 11 0 ≡ 1) × (get_or s 12 0 < 2)
  number : get_or s 13 0 ≡ 4
  mark : (get_or s 18 0 ≡ 1) × (get_or s 19 0 < 2)

right_meter_lem : (s : List ℕ) → right_meter s ≡ true → MeterFields s
right_meter_lem s right =
    let from9 = and_right (eqb (get_or s 0 0) 8) _ right in
    let from10 = and_right (eqb (get_or s 9 0) 1) _ from9 in
    let from11 = and_right (ltb (get_or s 10 0) 6) _ from10 in
    let from12 = and_right (eqb (get_or s 11 0) 1) _ from11 in
    let from13 = and_right (ltb (get_or s 12 0) 2) _ from12 in
    let from18 = and_right (eqb (get_or s 13 0) 4) _ from13 in
    record {
      address = eqb-true _ _ (and_left _ _ right);
      mode = (eqb-true _ _ (and_left _ _ from9), ltb-true _ _ (and_left _ _ from10));
      format = (eqb-true _ _ (and_left _ _ from11), ltb-true _ _ (and_left _ _ from12));
      number = eqb-true _ _ (and_left _ _ from13);
      mark = (eqb-true _ _ (and_left _ _ from18), ltb-true _ _ (and_right (eqb (get_or s 18 0) 1) _ from18));
    }

module _ (s : List ℕ) (bytes : Bytes s) where
  pub fits-meter_in : Fits (meter_in s)
  fits-meter_in = record { address = key_at_lt s bytes 1; number = four_at-lt s bytes 14 }

  pub take-meter_bytes : 20 ≤ length s → right_meter s ≡ true → take 20 s ≡ meter_bytes (meter_in s)
  take-meter_bytes room right =
      let r = right_meter_lem s right in
      let mode = mode_number_of (get_or s 10 0) r.mode.1 in
      let format = format_number_of (get_or s 12 0) r.format.1 in
      let mark = mark_of_eqb (get_or s 19 0) r.mark.1 in
      cc (take-drop 20 s 0 room, key_bytes_key_at s bytes 1, four_bytes-four_at s bytes 14)

-- a field: its length byte, its value, and what stands behind it
bytes_field : (n : ℕ) (v t : List ℕ) → n < 256 → Bytes v → Bytes t → Bytes ((n ∷ v) ++ t)
bytes_field n v t h b c = bytes-append (n ∷ v) t (bytes-cons n v h b) c

bytes_one : (x k : ℕ) (t : List ℕ) → ltb x k ≡ true → k ≤ 256 → Bytes t → Bytes ((1 ∷ x ∷ []) ++ t)
bytes_one x k t e h b =
    bytes_field 1 (x ∷ []) t (omega arith) (bytes-cons x [] (omega (arith, ltb-true x k e)) bytes-nil) b

pub bytes-meter_bytes : (m : Meter) → Bytes (meter_bytes m)
bytes-meter_bytes m =
    let mark : List ℕ = 1 ∷ mark_of m.unsure ∷ [] in
    let number : List ℕ = (4 ∷ four_bytes m.number) ++ mark in
    let format : List ℕ = (1 ∷ format_number m.format ∷ []) ++ number in
    bytes_field 8 (key_bytes m.address) ((1 ∷ mode_number m.mode ∷ []) ++ format) (omega arith)
    (bytes-key_bytes m.address)
    (bytes_one (mode_number m.mode) 6 format (mode_number-lt m.mode) (omega arith)
    (bytes_one (format_number m.format) 2 number (format_number-lt m.format) (omega arith)
    (bytes_field 4 (four_bytes m.number) mark (omega arith) (bytes-four_bytes m.number)
    (bytes_one (mark_of m.unsure) 2 [] (mark_of-lt m.unsure) (omega arith) bytes-nil))))

pub length-meters_bytes : (ms : List Meter) → length (meters_bytes ms) ≡ 20 * length ms
unfolding meters_bytes
length-meters_bytes [] = refl
length-meters_bytes (m ∷ ms) =
    length-append (meter_bytes m) (meters_bytes ms) ∙ omega (arith, length-meters_bytes ms)

pub meters_bytes-append : (ms fs : List Meter) → meters_bytes (ms ++ fs) ≡ meters_bytes ms ++ meters_bytes fs
unfolding meters_bytes
meters_bytes-append [] fs = refl
meters_bytes-append (m ∷ ms) fs =
    rw (meters_bytes-append ms fs) (sym (append_assoc (meter_bytes m) (meters_bytes ms) (meters_bytes fs)))

pub bytes-meters_bytes : (ms : List Meter) → Bytes (meters_bytes ms)
unfolding meters_bytes
bytes-meters_bytes [] = bytes-nil
bytes-meters_bytes (m ∷ ms) =
    bytes-append (meter_bytes m) (meters_bytes ms) (bytes-meter_bytes m) (bytes-meters_bytes ms)
