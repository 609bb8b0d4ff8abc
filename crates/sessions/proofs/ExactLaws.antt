-- A store is read exactly where its bytes stand (specs/Valid), in memory and in a file (document 02, 9/14, "On disk").
--     memory_of_exactly, file_of_exactly    in memory; in a file
--     memory_of_room        memory that holds a store is large enough for every store
--     memory_of_is                         the store that was read, by its fields
--     leaves_same                         so leaving the store that was read leaves all of the memory
--     within_only, file_only              no bytes are two stores
-- Assumes nothing.
use Rattle.std.specs.Prelude.{Result, Ok, Err}
use mathlib.Core.Bool.{Bool, true, false, cond, not, ◌&&◌, and_assoc}
use mathlib.Core.List.{List, ◌∷◌, ◌++◌}
use mathlib.Core.Logic.{◌↔◌, inl, inr, ⊎_elim}
use mathlib.Core.Path.{◌≡◌, refl, ap, sym, ◌∙◌, subst}
use Prim.Native.Nat.{ℕ, ◌+◌, ◌*◌, ◌≤◌}
use native.Mathlib.Omega.{arith}
use borrow.Author.Tests.{eqb-true, leb-true, not-false}
use lib.Dec.{eqb, leb}
use lib.ListN.{length, get_or, take, drop, take-append-drop}
use lib.Seq.{take_all}
use Rattle.answers.specs.declared.Refusal.{Refusal}
use Rattle.ground.specs.Bytes.{Bytes}
use Rattle.ground.proofs.CaseLaws.{and_left, and_right, zero_not_one}
use Rattle.answers.specs.declared.Refusal.TheVariants.{UnknownVersion}
use Rattle.address.specs.Keys.{four_bytes, four_at}
use Rattle.address.proofs.NameLaws.{take-drop}
use Rattle.address.proofs.KeyLaws.{four_at-lt, four_bytes-four_at}
use Rattle.sessions.specs.Meters.{Store}
use Rattle.sessions.specs.StoreFile.{bytes_of, version_one, size_of, right_body, whole, store_in, if_right, file_of, memory_size, memory_of}
use Rattle.sessions.specs.StoreCalls.{leaves}
use Rattle.sessions.specs.Valid.{Valid, Within, IsFile}
use Rattle.sessions.proofs.MetersInLaws.{length-meters_in}
use Rattle.sessions.proofs.BodyLaws.{room_body, valid_body, take_body}
use Rattle.sessions.proofs.LeavesLaws.{memory_of_bytes_of, file_of-written, file_of-version_one}
use Rattle.sessions.proofs.TestLaws.{cond_refuse}

if_right_kept : (ok : Bool) (x : Store) {st : Store} → if_right ok x ≡ Ok st → (ok ≡ true) × (x ≡ st)
if_right_kept true x h = (refl, cc)
if_right_kept false x h = absurd (zero_not_one (cc))

-- what is read as version 2, and as version 1
module _ (s : List ℕ) (bytes : Bytes s) where
  module _ (ok : eqb (get_or s 1 0) 4 && right_body 6 s ≡ true) where
    right_two : right_body 6 s ≡ true
    right_two = and_right (eqb (get_or s 1 0) 4) _ ok

    valid_two : Valid (store_in 6 (four_at s 2) s)
    valid_two = valid_body 6 s right_two bytes (four_at s 2) (four_at-lt s bytes 2)

    take_head : get_or s 0 0 ≡ 2 → take 6 s ≡ 2 ∷ 4 ∷ four_bytes (four_at s 2)
    take_head two =
        let long : 6 ≤ length s = omega (arith, room_body 6 s right_two) in
        cc (
          take-drop 6 s 0 long,
          four_bytes-four_at s bytes 2,
          eqb-true (get_or s 1 0) 4
              (and_left _ (right_body 6 s) ok),
        )

    take_two : get_or s 0 0 ≡ 2 → take (8 + 20 * get_or s 7 0) s ≡ bytes_of (store_in 6 (four_at s 2) s)
    take_two two =
        rw (length-meters_in (get_or s 7 0) (drop 8 s)) (take_body 6 s right_two bytes ∙ rw (take_head two))

  take_one :
      get_or s 0 0 ≡ 1 → right_body 1 s ≡ true
      → take (3 + 20 * get_or s 2 0) s ≡ version_one (store_in 1 16384 s).meters
  take_one one right =
      let long : 1 ≤ length s = omega (arith, room_body 1 s right) in
      rw (length-meters_in (get_or s 2 0) (drop 3 s)) (take_body 1 s right bytes ∙ rw (take-drop 1 s 0 long, one))

take_whole : (k : ℕ) (s : List ℕ) → whole k s ≡ true → take (k + 2 + 20 * get_or s (k + 1) 0) s ≡ s
take_whole k s h =
    let size = k + 2 + 20 * get_or s (k + 1) 0 in
    take_all size s (omega (arith, eqb-true (length s) size h))

module _ {s : List ℕ} {st : Store} where
  leaves_within : Within s st → leaves st s ≡ s
  leaves_within w =
      ap (λ (t : List ℕ). t ++ drop (size_of st) s) (sym w.bytes) ∙ take-append-drop (size_of st) s

  within_kept : Within s st → memory_of s ≡ Ok st
  within_kept w =
      let same = leaves_within w in
      sym (ap memory_of same)
      ∙ memory_of_bytes_of (drop (size_of st) s) w.valid (omega (arith, ap length same, w.room))

  kept_within : Bytes s → memory_of s ≡ Ok st → Within s st
  kept_within bytes h =
      let (some, rest) = cond_refuse (eqb (length s) 0) _ _ h in
      let (known, body) = cond_refuse (not (eqb (get_or s 0 0) 2)) _ _ rest in
      let (right, is) = if_right_kept (leb memory_size (length s) && (eqb (get_or s 1 0) 4 && right_body 6 s)) _ body in
      let room = leb-true _ _ (and_left (leb memory_size (length s)) _ right) in
      let ok = and_right (leb memory_size (length s)) _ right in
      let size = ap (λ (n : ℕ). take (8 + 20 * n) s) (length-meters_in (get_or s 7 0) (drop 8 s)) in
      let begins = size ∙ take_two s bytes ok (eqb-true _ _ (not-false _ known)) in
      subst (Within s) is (record { room = room; valid = valid_two s bytes ok; bytes = begins })

pub memory_of_exactly : (s : List ℕ) (st : Store) → Bytes s → (memory_of s ≡ Ok st) ↔ Within s st
memory_of_exactly s st bytes = (kept_within bytes, within_kept)

pub memory_of_is : (s : List ℕ) {st : Store} → memory_of s ≡ Ok st → store_in 6 (four_at s 2) s ≡ st
memory_of_is s h =
    let (some, rest) = cond_refuse (eqb (length s) 0) _ _ h in
    let (known, body) = cond_refuse (not (eqb (get_or s 0 0) 2)) _ _ rest in
    (if_right_kept (leb memory_size (length s) && (eqb (get_or s 1 0) 4 && right_body 6 s)) _ body).1

pub memory_of_room : (s : List ℕ) {st : Store} → memory_of s ≡ Ok st → memory_size ≤ length s
memory_of_room s h =
    let (some, rest) = cond_refuse (eqb (length s) 0) _ _ h in
    let (known, body) = cond_refuse (not (eqb (get_or s 0 0) 2)) _ _ rest in
    let right = (if_right_kept (leb memory_size (length s) && (eqb (get_or s 1 0) 4 && right_body 6 s)) _ body).0 in
    leb-true _ _ (and_left (leb memory_size (length s)) _ right)

pub leaves_same : {s : List ℕ} {st : Store} → Bytes s → memory_of s ≡ Ok st → leaves st s ≡ s
leaves_same bytes h = leaves_within (kept_within bytes h)

pub within_only : {s : List ℕ} {st other : Store} → Within s st → Within s other → st ≡ other
within_only p q = let same = sym (within_kept p) ∙ within_kept q in cc

-- a file of each version
abbrev file_two : List ℕ → Result Store Refusal
file_two s = if_right (eqb (get_or s 1 0) 4 && (right_body 6 s && whole 6 s)) (store_in 6 (four_at s 2) s)

abbrev file_one : List ℕ → Result Store Refusal
file_one s = if_right (right_body 1 s && whole 1 s) (store_in 1 16384 s)

module _ {s : List ℕ} {st : Store} where
  one_kept : Valid st → s ≡ version_one st.meters → st.allowance ≡ 16384 → file_of s ≡ Ok st
  one_kept v e allows =
      let same : st ≡ record { meters = st.meters; allowance = 16384 } =
      ap (λ (n : ℕ). record { meters = st.meters; allowance = n }) allows in
      ap file_of e ∙ file_of-version_one (rw same at v) ∙ ap Ok (sym same)

  file_kept : IsFile s st → file_of s ≡ Ok st
  file_kept f =
      ⊎_elim (λ e. ap file_of e ∙ file_of-written f.valid) (λ e. one_kept f.valid e.0 e.1) f.bytes

  module _ (bytes : Bytes s) where
    two_file : get_or s 0 0 ≡ 2 → file_two s ≡ Ok st → IsFile s st
    two_file two h =
        let (all, is) = if_right_kept (eqb (get_or s 1 0) 4 && (right_body 6 s && whole 6 s)) _ h in
        let both = and_assoc (eqb (get_or s 1 0) 4) (right_body 6 s) (whole 6 s) ∙ all in
        let ok = and_left (eqb (get_or s 1 0) 4 && right_body 6 s) _ both in
        let end = take_whole 6 s (and_right (eqb (get_or s 1 0) 4 && right_body 6 s) _ both) in
        subst (IsFile s) is (record { valid = valid_two s bytes ok; bytes = inl (sym end ∙ take_two s bytes ok two) })

    one_file : get_or s 0 0 ≡ 1 → file_one s ≡ Ok st → IsFile s st
    one_file one h =
        let (ok, is) = if_right_kept (right_body 1 s && whole 1 s) _ h in
        let right = and_left (right_body 1 s) _ ok in
        let all = sym (take_whole 1 s (and_right (right_body 1 s) _ ok)) ∙ take_one s bytes one right in
        subst (IsFile s) is
        (record { valid = valid_body 1 s right bytes 16384 (omega arith); bytes = inr (all, refl) })

    versions_file :
        (two one : Bool) → eqb (get_or s 0 0) 2 ≡ two → eqb (get_or s 0 0) 1 ≡ one
        → cond two (file_two s) (cond one (file_one s) (Err UnknownVersion)) ≡ Ok st → IsFile s st
    versions_file true one p q h = two_file (eqb-true _ _ p) h
    versions_file false true p q h = one_file (eqb-true _ _ q) h
    versions_file false false p q h = absurd (zero_not_one (cc))

    kept_file : file_of s ≡ Ok st → IsFile s st
    kept_file h =
        versions_file (eqb (get_or s 0 0) 2) (eqb (get_or s 0 0) 1) refl refl (cond_refuse (eqb (length s) 0) _ _ h).1

pub file_of_exactly : (s : List ℕ) (st : Store) → Bytes s → (file_of s ≡ Ok st) ↔ IsFile s st
file_of_exactly s st bytes = (kept_file bytes, file_kept)

pub file_only : {s : List ℕ} {st other : Store} → IsFile s st → IsFile s other → st ≡ other
file_only p q = let same = sym (file_kept p) ∙ file_kept q in cc
