-- The promises over any calls (specs/History), by going through the calls one by one. Memory that holds no store holds
-- none after any call; memory that holds a valid store holds a valid one after each.
--     running            in a running collector
--     restored_afresh    after a restore into an empty store
-- Assumes nothing.
use Rattle.std.specs.Prelude.{Result, Ok, Err}
use mathlib.Core.Bool.{true, false}
use mathlib.Core.List.{List, [], ◌∷◌, ◌++◌}
use mathlib.Core.Path.{◌≡◌, refl, ap, ◌∙◌}
use Prim.Native.Nat.{ℕ, ◌<◌}
use native.Mathlib.Omega.{arith}
use Rattle.answers.specs.declared.Refusal.{Refusal}
use Rattle.ground.specs.Bytes.{Bytes}
use Rattle.ground.proofs.CaseLaws.{by_test, zero_not_one}
use Rattle.modes.specs.Tables.{mode_of, format_of}
use Rattle.sessions.specs.Meters.{Store, meter_of, holds}
use Rattle.sessions.specs.StoreFile.{memory_of}
use Rattle.sessions.specs.StoreCalls.{issuing, looking_up, found}
use Rattle.sessions.specs.Valid.{Valid}
use Rattle.sessions.specs.History.{Call, Add, AddBy, Hear, Issue, Restore, Allow, after, after_all, heard_by, told_by, over}
use Rattle.sessions.specs.History.{InRange, InRanges, Above, Sure, NoneHeld, IssuedAfter, Running, Restored}
use Rattle.sessions.proofs.AboveLaws.{above-nil, above-append, above-le}
use Rattle.sessions.proofs.KeepingLaws.{last, unsure, issued_above}
use Rattle.sessions.proofs.CallLaws.{issued_issues}
use Rattle.sessions.proofs.ExactLaws.{memory_of_exactly, file_of_exactly, memory_of_room}
use Rattle.sessions.proofs.LeavesLaws.{memory_of_leaves}
use Rattle.sessions.proofs.MemoryStepLaws.{left, after_refused, after_kept}
use Rattle.sessions.proofs.PutLaws.{meter_of-stranger}
use Rattle.sessions.proofs.StepLaws.{on_store, held_after, store_after, store_after_by, store_after_last, on_store_restore, added_by_added}
use Rattle.sessions.proofs.ToldLaws.{issuing_refused, issuing_issued, told_by_last, heard_by_unsure}
use Rattle.sessions.proofs.ValidLaws.{added_valid, hearing_valid, issued_valid, allowing_valid, restored_by_valid}

-- the memory s holds the store st
record Held (s : List ℕ) (st : Store) : Type 0 where
  is : memory_of s ≡ Ok st
  valid : Valid st

after_all_refused : (s : List ℕ) (why : Refusal) → memory_of s ≡ Err why → (cs : List Call) → after_all s cs ≡ s
unfolding after_all
after_all_refused s why e [] = refl
after_all_refused s why e (c ∷ cs) = rw (after_refused s why e c) (after_all_refused s why e cs)

refused_none :
    (s : List ℕ) (why : Refusal) → memory_of s ≡ Err why → (cs : List Call) (a n : ℕ) → IssuedAfter s cs a n → ⊥
refused_none s why e cs a n h =
    let same = ap (λ t. (issuing a t).answer) (after_all_refused s why e cs) in
    let no = issuing_refused s why e a in
    zero_not_one (cc)

by_result :
    {P : Type 0} (r : Result Store Refusal) → ((why : Refusal) → r ≡ Err why → P) → ((st : Store) → r ≡ Ok st → P) → P
by_result (Err why) f g = f why refl
by_result (Ok st) f g = g st refl

module _ (s : List ℕ) (st : Store) (is : memory_of s ≡ Ok st) (a : ℕ) where
  looking_up_held : holds a st.meters ≡ true → looking_up a s ≡ Ok (meter_of a st.meters)
  looking_up_held h = ap (found a) is ∙ rw h

  stranger_unsure : holds a st.meters ≡ false → unsure a st ≡ true
  stranger_unsure h = ap (λ m. m.unsure) (meter_of-stranger a st.meters h)

  -- a meter that is not sure is unsure, or not held
  sure_unsure : (Sure a s → ⊥) → unsure a st ≡ true
  sure_unsure none =
      by_test (holds a st.meters)
      (λ h. by_test (unsure a st) (λ u. u) (λ u. absurd (none (meter_of a st.meters, (looking_up_held h, u)))))
      stranger_unsure

  none_held_unsure : NoneHeld s → unsure a st ≡ true
  none_held_unsure none =
      by_test (holds a st.meters) (λ h. absurd (none a (meter_of a st.meters) (looking_up_held h))) stranger_unsure

append-nil_both : (k l : List ℕ) → k ++ l ≡ [] → (k ≡ []) × (l ≡ [])
append-nil_both [] l h = (refl, h)
append-nil_both (x ∷ k) l h = absurd (zero_not_one (cc))

pub on_store_valid : (c : Call) (st after : Store) → InRange c → Valid st → on_store c st ≡ Ok after → Valid after
on_store_valid (Add a mode format) st after range v h = added_valid st after v a range mode format h
on_store_valid (AddBy a k j) st after range v h =
    added_valid st after v a range (mode_of k) (format_of j) (added_by_added a k j st h)
on_store_valid (Hear a n) st after range v h = hearing_valid st after v a range.0 n range.1 h
on_store_valid (Issue a) st after range v h = issued_valid st after v a range h
on_store_valid (Restore file) st after range v h =
    let p = on_store_restore file st h in
    restored_by_valid st after v p.0 ((file_of_exactly file p.0 range).0 p.1.0).valid p.1.1
on_store_valid (Allow n) st after range v h = allowing_valid st after v n range h

left_held :
    (s : List ℕ) (st : Store) → memory_of s ≡ Ok st → (r : Result Store Refusal) → Valid (held_after st r)
    → memory_of (left s r) ≡ Ok (held_after st r)
left_held s st is (Err why) v = is
left_held s st is (Ok after) v = memory_of_leaves s v (memory_of_room s is)

after_held : {s : List ℕ} {st : Store} → Held s st → (c : Call) → InRange c → Held (after s c) (store_after c st)
after_held {s} {st} h c range =
    let v = store_after_by Valid c st h.valid (λ after e. on_store_valid c st after range h.valid e) in
    record { is = ap memory_of (after_kept s st h.is c) ∙ left_held s st h.is (on_store c st) v; valid = v }

module _ (a n : ℕ) where
  after_all_above :
      (cs : List Call) (s : List ℕ) (st : Store) → Held s st → InRanges cs → IssuedAfter s cs a n
      → (last a st < n) × Above n (over (told_by a) s cs)
  unfolding after_all InRanges over
  after_all_above [] s st h range i =
      let p = issuing_issued s st h.is a n i in
      (omega (arith, issued_above a st p.0 p.1.0, p.1.1), above-nil n)
  after_all_above (c ∷ cs) s st h range i =
      let p = after_all_above cs (after s c) (store_after c st) (after_held h c range.0) range.1 i in
      let told = above-le _ n (told_by a s c) p.0 (told_by_last s st h.is a c) in (
        omega (arith, store_after_last a st c, p.0),
        above-append n (told_by a s c) (over (told_by a) (after s c) cs) told p.1,
      )

  after_all_silent :
      (cs : List Call) (s : List ℕ) (st : Store) → Held s st → InRanges cs → unsure a st ≡ true → IssuedAfter s cs a n
      → over (heard_by a) s cs ≡ [] → ⊥
  unfolding after_all InRanges over
  after_all_silent [] s st h range u i none =
      let p = issuing_issued s st h.is a n i in
      let q = issued_issues a p.1.0 in
      zero_not_one (cc (u, q.sure))
  after_all_silent (c ∷ cs) s st h range u i none =
      let p = append-nil_both (heard_by a s c) _ none in
      after_all_silent cs (after s c) (store_after c st) (after_held h c range.0) range.1
      (heard_by_unsure s st h.is a c p.0 u) i p.1

held : (s : List ℕ) (st : Store) → Bytes s → memory_of s ≡ Ok st → Held s st
held s st bytes e = record { is = e; valid = ((memory_of_exactly s st bytes).0 e).valid }

pub running : Running
running =
    record {
      above =
          λ s cs a n bytes range i. by_result (memory_of s) (λ why e. absurd (refused_none s why e cs a n i))
          (λ st e. (after_all_above a n cs s st (held s st bytes e) range i).1);
      silent =
          λ s cs a n bytes range none i. by_result (memory_of s) (λ why e q. refused_none s why e cs a n i)
          (λ st e. after_all_silent a n cs s st (held s st bytes e) range (sure_unsure s st e a none) i);
    }

-- an empty store, a restore, and the calls behind it: no meter is sure when they begin
afresh_kept :
    (s file : List ℕ) (st : Store) (cs : List Call) (a n : ℕ) → Held s st → Bytes file → InRanges cs → NoneHeld s
    → IssuedAfter (after s (Restore file)) cs a n
    → (over (heard_by a) (after s (Restore file)) cs ≡ [] → ⊥) × Above n (over (told_by a) (after s (Restore file)) cs)
afresh_kept s file st cs a n h bytes range none i =
    let begun = after_held h (Restore file) bytes in
    let first = store_after (Restore file) st in
    let u = heard_by_unsure s st h.is a (Restore file) refl (none_held_unsure s st h.is a none) in (
      after_all_silent a n cs (after s (Restore file)) first begun range u i,
      (after_all_above a n cs (after s (Restore file)) first begun range i).1,
    )

pub restored_afresh : Restored
unfolding after_all
restored_afresh =
    record {
      afresh =
          λ s file size cs a n bytes file_bytes range none accepted i.
          by_result (memory_of s) (λ why e. absurd (refused_none s why e (Restore file ∷ cs) a n i))
          (λ st e. afresh_kept s file st cs a n (held s st bytes e) file_bytes range none i);
    }
