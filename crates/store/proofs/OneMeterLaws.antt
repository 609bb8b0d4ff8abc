-- The calls on one meter (document 02, 9/14), in a memory that was judged, by the place where it was found.
--     add_full, add_put            adding
--     hear_none, hear_held         hearing
--     issue_none, issue_unsure, issue_last, issue_held    issuing
--     look_none, look_held         looking up
-- Assumes nothing.
use Rattle.std.specs.Prelude.{Option, Result, Ok, Err}
use Rattle.std.specs.Option.{ok_or}
use mathlib.Core.Bool.{true, false}
use mathlib.Core.List.{List}
use mathlib.Core.Path.{◌≡◌, refl, ◌∙◌, ap, sym}
use Prim.Native.Nat.{ℕ, ◌+◌, ◌*◌, ◌≤◌, ◌<◌, max}
use native.Mathlib.Omega.{arith}
use borrow.Author.Tests.{lt-ltb, le-ltb, lt-leb, le-leb}
use lib.ListN.{length, drop, set}
use lib.Seq.{sets}
use Rattle.answers.specs.Outcome.{leaving}
use Rattle.answers.specs.declared.Refusal.{Refusal}
use Rattle.answers.specs.declared.Refusal.TheVariants.{NotHeld, Unsure, NumbersUsedUp, StoreFull}
use Rattle.frame.specs.declared.Format.{Format}
use Rattle.modes.specs.declared.Mode.{Mode}
use Rattle.sessions.specs.declared.Meter.{Meter}
use Rattle.sessions.specs.Meters.{Store, meter_of, holds, put}
use Rattle.sessions.specs.Changes.{with_meter, set_to, heard, added, hearing, issued}
use Rattle.sessions.specs.StoreFile.{meter_bytes, meter_in, meters_in, memory_of, size_of}
use Rattle.sessions.specs.StoreCalls.{◌and_then◌, kept, storing, adding, hearing_in, issuing, looking_up, found}
use Rattle.sessions.proofs.PutLaws.{meter_of_put, meter_of-address}
use Rattle.store.specs.declared.index.Index.{Index}
use Rattle.store.specs.Inner.{place_of, FoundAt, known_at}
use Rattle.store.specs.InnerOpened.{Opened}
use Rattle.store.proofs.HeldLaws.{found_place, not_found}
use Rattle.store.proofs.PutBytesLaws.{length_put}
use Rattle.store.proofs.KeptLaws.{Kept, opened_kept, at_place, held, none, meter_there, memory_put, meter_known}

-- m with the number n
abbrev pub with_number : ℕ → Meter → Meter
with_number n m =
    record { address = m.address; mode = m.mode; format = m.format; number = n; unsure = m.unsure }

-- what the code leaves where it puts m at the place p
abbrev pub put_at : List ℕ → ℕ → ℕ → Meter → List ℕ
put_at s count p m = set (sets s (8 + 20 * p) (meter_bytes m)) 7 (max count (p + 1))

module _ {s : List ℕ} {count : ℕ} (k : Kept s count) (a p : ℕ) (at : p ≡ place_of a (meters_in count (drop 8 s))) where
  refused_by :
      {B : Type 0} (told : Store → Result B Refusal) (call : Store → Result Store Refusal) {why : Refusal} →
      call k.store ≡ Err why → leaving (Err why) s ≡ kept Err told s (memory_of s and_then call)
  refused_by told call is = sym (ap (kept Err told s) (ap (λ (r : Result Store Refusal). r and_then call) k.read ∙ is))

  put_by_lem :
      {B : Type 0} (told : Store → Result B Refusal) (call : Store → Result Store Refusal) (m : Meter) {t : List ℕ} →
      call k.store ≡ Ok (with_meter a m k.store) → p < 64 → t ≡ put_at s count p m →
      leaving (told (with_meter a m k.store)) t ≡ kept Err told s (memory_of s and_then call)
  put_by_lem told call m called low is =
      ap (leaving (told (with_meter a m k.store))) (is ∙ memory_put k a p at m low)
      ∙ sym (ap (kept Err told s) (ap (λ (r : Result Store Refusal). r and_then call) k.read ∙ called))

  stored :
      (call : Store → Result Store Refusal) (m : Meter) {n : ℕ} {t : List ℕ} →
      call k.store ≡ Ok (with_meter a m k.store) → p < 64 → n ≡ 8 + 20 * max count (p + 1) →
      t ≡ put_at s count p m → leaving (Ok n) t ≡ storing call s
  stored call m {n} called low size is =
      let there = length_put a m k.store.meters in
      let same : n ≡ size_of (with_meter a m k.store) = omega (arith, there, at_place k a p at, k.size) in
      rw same (put_by_lem (λ st. Ok (size_of st)) call m called low is)

  pub add_full :
      (mode : Mode) (format : Format) → 64 ≤ p → leaving (Err StoreFull) s ≡ adding a mode format s
  add_full mode format high =
      let m = set_to mode format (meter_of a k.store.meters) in
      let many : 64 < length (put a m k.store.meters) =
      omega (arith, length_put a m k.store.meters, at_place k a p at) in
      refused_by _ (added a mode format) (rw (lt-ltb 64 (length (put a m k.store.meters)) many))

  pub add_put :
      (mode : Mode) (format : Format) {own : Meter} {n : ℕ} {t : List ℕ} →
      p < 64 → own ≡ known_at s count p a → n ≡ 8 + 20 * max count (p + 1) →
      t ≡ put_at s count p (set_to mode format own) → leaving (Ok n) t ≡ adding a mode format s
  add_put mode format {own} low knows size leaves =
      let st = k.store in
      let m = set_to mode format own in
      let there : m ≡ set_to mode format (meter_of a st.meters) = rw (knows, meter_known k a p at) in
      let few : length (put a m st.meters) ≤ 64 =
      omega (arith, length_put a m st.meters, at_place k a p at, k.size, k.few) in
      let called : added a mode format st ≡ Ok (with_meter a m st) =
      rw (← there, le-ltb 64 (length (put a m st.meters)) few) in
      stored (added a mode format) m called low size leaves

module _
    {s : List ℕ}
    {m : Index}
    (o : Opened (memory_of s) s 8 m)
    (a : ℕ)
    (asked : Option ℕ)
    (answer : FoundAt asked m.count (place_of a (meters_in m.count (drop m.first m.bytes.now))))
  where
    k : Kept s m.count
    k = opened_kept o

    here : FoundAt asked m.count (place_of a (meters_in m.count (drop 8 s)))
    here = rw (o.over, o.begins) at answer

    -- none was found
    module _ {why : Refusal} (is : ◌≡◌ {A = Result ℕ Refusal} (Err why) (ok_or asked NotHeld)) where
      nowhere : holds a k.store.meters ≡ false
      nowhere = none k a _ refl (not_found asked here is).0

      nineteen : why ≡ NotHeld
      nineteen = (not_found asked here is).1

      pub hear_none : (n : ℕ) → leaving (Err why) s ≡ hearing_in a n s
      hear_none n = refused_by k a _ refl _ (hearing a n) (rw (nowhere, nineteen))

      pub issue_none : leaving (Err why) s ≡ issuing a s
      issue_none = refused_by k a _ refl _ (issued a) (rw (nowhere, nineteen))

      pub look_none : Err why ≡ looking_up a s
      look_none = sym (ap (found a) k.read ∙ rw (nowhere, nineteen))

    -- it was found at p, and read there
    module _
        {p : ℕ}
        {own : Meter}
        (is : ◌≡◌ {A = Result ℕ Refusal} (Ok p) (ok_or asked NotHeld))
        (reads : own ≡ meter_in (drop (m.first + 20 * p) m.bytes.now))
      where
        low : p < m.count
        low = (found_place asked here is).0

        at : p ≡ place_of a (meters_in m.count (drop 8 s))
        at = (found_place asked here is).1

        there : meter_of a k.store.meters ≡ own
        there = sym (rw (o.over, o.begins) at reads ∙ meter_there k a p at low)

        pub hear_held :
            (n : ℕ) {size : ℕ} {t : List ℕ} → size ≡ 8 + 20 * max m.count (p + 1)
            → t ≡ put_at s m.count p (heard n own) → leaving (Ok size) t ≡ hearing_in a n s
        hear_held n size leaves =
            stored k a p at (hearing a n) (heard n own) (rw (held k a p at low, there)) (omega (arith, low, k.few)) size
            leaves

        pub issue_unsure : own.unsure ≡ true → leaving (Err Unsure) s ≡ issuing a s
        issue_unsure unsure = refused_by k a p at _ (issued a) (rw (held k a p at low, there, unsure))

        module _ (sure : own.unsure ≡ false) where
          pub issue_last : 4294967296 ≤ own.number + 1 → leaving (Err NumbersUsedUp) s ≡ issuing a s
          issue_last last =
              refused_by k a p at _ (issued a)
              (rw (held k a p at low, there, sure, le-leb 4294967295 own.number (omega arith)))

          pub issue_held :
              {t : List ℕ} → own.number + 1 < 4294967296
              → t ≡ put_at s m.count p (with_number (own.number + 1) own)
              → leaving (Ok (own.number + 1)) t ≡ issuing a s
          issue_held more leaves =
              let new = with_number (own.number + 1) own in
              let called : issued a k.store ≡ Ok (with_meter a new k.store) =
              rw (held k a p at low, there, sure, lt-leb 4294967295 own.number (omega arith)) in
              let address : own.address ≡ a = rw (← there) (meter_of-address a k.store.meters) in
              let number : own.number + 1 ≡ (meter_of a (put a new k.store.meters)).number =
              sym (ap (λ (x : Meter). x.number) (meter_of_put a new address k.store.meters)) in
              rw number
              (put_by_lem k a p at (λ st. Ok (meter_of a st.meters).number) (issued a) new called
              (omega (arith, low, k.few)) leaves)

        pub look_held : Ok own ≡ looking_up a s
        look_held = sym (ap (found a) k.read ∙ rw (held k a p at low, there))
