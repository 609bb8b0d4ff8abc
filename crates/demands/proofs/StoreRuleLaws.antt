-- The calls of the settings store are judged as document 02, 9/14, says (specs/StoreLadders).
-- Assumes nothing.
use mathlib.Core.Bool.{Bool, true, false, cond, not, ◌||◌, true≢false}
use mathlib.Core.List.{List}
use mathlib.Core.Path.{◌≡◌, refl, sym, ◌∙◌}
use Prim.Native.Nat.{ℕ, ◌≤◌}
use native.Mathlib.Omega.{arith}
use borrow.Author.Tests.{leb-true, leb-false}
use lib.Dec.{leb, ltb}
use lib.ListN.{length}
use Rattle.std.specs.Prelude.{Result, Ok, Err}
use Rattle.answers.specs.declared.Refusal.{Refusal}
use Rattle.answers.specs.Outcome.{Outcome, leaving}
use Rattle.answers.specs.Refusals.{number_of, value_of}
use Rattle.ground.specs.Bytes.{Bytes}
use Rattle.ground.proofs.CaseLaws.{zero_not_one}
use Rattle.frame.specs.declared.Format.{Format}
use Rattle.modes.specs.declared.Mode.{Mode}
use Rattle.modes.specs.Tables.{mode_of, format_of}
use Rattle.sessions.specs.declared.Meter.{Meter}
use Rattle.sessions.specs.Meters.{Store, meter_of}
use Rattle.sessions.specs.Changes.{with_meter, set_to, heard, next, added, hearing, issued, allowing, restored, restored_by}
use Rattle.sessions.specs.StoreFile.{size_of, memory_size}
use Rattle.sessions.specs.StoreCalls.{◌and_then◌, kept, storing, emptying, adding, adding_by, hearing_in, issuing, restoring, setting_allowance, copied, writing_store, found, looking_up, allowed, allowance_in}
use Rattle.sessions.specs.Valid.{Valid, Within}
use Rattle.sessions.proofs.PutLaws.{meter_of-address, meter_of_put}
use Rattle.demands.specs.Rules.{Rule, ◌when◌else◌, Judged, JudgedLent}
use Rattle.demands.specs.StoreLadders.{empty_rule, add_steps, add_rule, add_by_rule, hear_rule, issue_steps, issue_rule, full_steps, restore_rule, write_store_rule, look_up_rule, allowance_rule, set_allowance_rule, store_steps}
use Rattle.demands.proofs.RuleLaws.{Follows, Tells, judged, judged_err, taken_bare, passed_bare, follows-lt, never_refused, unchanged}
use Rattle.demands.proofs.StoreCaseLaws.{known_is, meter_of_known, tells_full, tells_unlisted, tells_over}
use Rattle.demands.proofs.StoreStepLaws.{store_follows, file_follows, held_follows}

pub empty_judged : (s : List ℕ) → JudgedLent Err s (empty_rule s) (emptying s)
empty_judged s =
    judged_err never_refused
    (follows-lt (length s) memory_size Refusal.NoRoom refl refl (λ room. Follows.ended refl))

-- a call on the memory s that is refused where a test says so
module _ {A : Type 0} (told : Store → Result A Refusal) (s : List ℕ) where
  kept_when :
      {n : ℕ} {case : Type 0} {rest : Rule (Outcome (Result A Refusal))} (t : Bool) (why : Refusal)
      (r : Result Store Refusal) → Tells t case → number_of why ≡ n → value_of why ≡ 0
      → (t ≡ false → Follows (unchanged s) rest (kept Err told s r))
      → Follows (unchanged s) (n when case else rest) (kept Err told s (cond t (Err why) r))
  kept_when true why r tells number value go = taken_bare why (tells.yes refl) number value
  kept_when false why r tells number value go = passed_bare (tells.not refl) (go refl)

-- what the calls answer that change the store
abbrev stored : Store → Result ℕ Refusal
stored st = Ok (size_of st)

abbrev number : ℕ → Store → Result ℕ Refusal
number a st = Ok (meter_of a st.meters).number

-- the tests of issuing
tells_true : (t : Bool) → Tells t (t ≡ true)
tells_true t = record { yes = λ e. e; not = λ e h. true≢false (sym h ∙ e) }

tells-le : (n m : ℕ) → Tells (leb n m) (n ≤ m)
tells-le n m = record { yes = leb-true n m; not = λ e h. omega (arith, leb-false n m e) }

module _ (s : List ℕ) (bytes : Bytes s) where
  -- a call on the store that s holds, judged by a ladder that goes on from there
  stored_follows :
      (call : Store → Result Store Refusal) (rest : Store → Rule (Outcome (Result ℕ Refusal)))
      → ((st : Store) → Within s st
      → Follows (unchanged s) (rest st) (kept Err stored s (call st)))
      → Follows (unchanged s) (store_steps s rest) (storing call s)
  stored_follows call rest go =
      store_follows (λ r. kept Err stored s (r and_then call)) (λ r. refl) s bytes rest go

  add_follows :
      (a : ℕ) (mode : Mode) (format : Format) (st : Store) → Valid st
      → Follows (unchanged s) (add_steps a mode format s st)
      (kept Err stored s (added a mode format st))
  add_follows a mode format st v =
      let m = set_to mode format (meter_of a st.meters) in
      kept_when stored s _ Refusal.StoreFull (Ok (with_meter a m st)) (tells_full a st v m) refl refl
      (λ room. Follows.found _ (meter_of_known a st) (known_is a st v) (Follows.ended refl))

  pub add_judged :
      (a : ℕ) (mode : Mode) (format : Format)
      → JudgedLent Err s (add_rule a mode format s) (adding a mode format s)
  add_judged a mode format =
      judged_err (λ x r w. never_refused x r w.1.1.1.1)
      (stored_follows (added a mode format) _ (λ st w. add_follows a mode format st w.valid))

  pub add_by_judged : (a k j : ℕ) → JudgedLent Err s (add_by_rule a k j s) (adding_by a k j s)
  add_by_judged a k j =
      judged_err (λ x r w. never_refused x r w.1.1.1.1)
      (stored_follows _ _
      (λ st w. kept_when stored s (ltb 5 k || ltb 1 j) Refusal.BadStore
      (added a (mode_of k) (format_of j) st) (tells_unlisted k j) refl refl
      (λ listed. add_follows a (mode_of k) (format_of j) st w.valid)))

  pub hear_judged : (a n : ℕ) → JudgedLent Err s (hear_rule a n s) (hearing_in a n s)
  hear_judged a n =
      judged_err (λ x r w. never_refused x r w.1.1.1.1)
      (stored_follows (hearing a n) _
      (λ st w. held_follows (λ t. kept Err stored s
      (cond (not t) (Err Refusal.NotHeld) (Ok (with_meter a (heard n (meter_of a st.meters)) st))))
      refl a _ w.valid (λ p. Follows.ended refl)))

  restored_follows :
      (st file : Store) → Valid file
      → Follows (unchanged s) (full_steps s st file)
      (kept Err stored s (restored_by file st))
  restored_follows st file v =
      let new : Store = record { meters = restored st.meters file.meters; allowance = file.allowance } in
      kept_when stored s (ltb 64 (length new.meters)) Refusal.StoreFull (Ok new)
      (tells_over st.meters file v) refl refl (λ room. Follows.ended refl)

  pub restore_judged : (f : List ℕ) → Bytes f → JudgedLent Err s (restore_rule f s) (restoring f s)
  restore_judged f is =
      judged_err (λ x r w. never_refused x r w.1.1.1.1)
      (stored_follows _ _
      (λ st w. file_follows (λ r. kept Err stored s (r and_then (λ file. restored_by file st))) (λ r. refl)
      f is _ (λ file p. restored_follows st file p.valid)))

  pub set-allowance_judged : (n : ℕ) → JudgedLent Err s (set_allowance_rule n s) (setting_allowance n s)
  set-allowance_judged n =
      judged_err (λ x r w. never_refused x r w.1.1)
      (stored_follows (allowing n) _ (λ st w. Follows.ended refl))

  pub write_judged : (d : List ℕ) → JudgedLent Err d (write_store_rule s d) (writing_store s d)
  write_judged d =
      judged_err (λ x r w. never_refused x r w.1.1)
      (store_follows (λ r. copied r d) (λ r. refl) s bytes _
      (λ st w. follows-lt (length d) (size_of st) Refusal.NoRoom refl refl (λ room. Follows.ended refl)))

  pub look_up_judged : (a : ℕ) → Judged Err (look_up_rule a s) (looking_up a s)
  look_up_judged a =
      judged (λ p q e. cc) (λ r w. zero_not_one (let e = w.1.1.1.1 in cc))
      (store_follows (found a) (λ r. refl) s bytes _
      (λ st w. held_follows (λ t. cond t (Ok (meter_of a st.meters)) (Err Refusal.NotHeld))
      refl a _ w.valid (λ p. Follows.ended refl)))

  pub allowance_judged : Judged Err (allowance_rule s) (allowance_in s)
  allowance_judged =
      judged (λ p q e. cc) (λ r w. zero_not_one (let e = w.1.1 in cc))
      (store_follows allowed (λ r. refl) s bytes _ (λ st w. Follows.ended refl))

  -- 20, 21, then the number that is in the store then
  module _ (a : ℕ) (st : Store) where
    abbrev m : Meter
    m = meter_of a st.meters

    abbrev below : Result Store Refusal
    below = cond (leb 4294967295 m.number) (Err Refusal.NumbersUsedUp) (Ok (with_meter a (next m) st))

    number_follows :
        Follows (unchanged s) (issue_steps a s st m)
        (kept Err (number a) s (cond m.unsure (Err Refusal.Unsure) below))
    number_follows =
        let is = meter_of_put a (next m) (meter_of-address a st.meters) st.meters in
        kept_when (number a) s m.unsure Refusal.Unsure below (tells_true m.unsure) refl refl
        (λ sure. kept_when (number a) s (leb 4294967295 m.number) Refusal.NumbersUsedUp
        (Ok (with_meter a (next m) st)) (tells-le 4294967295 m.number) refl refl (λ more. Follows.ended (rw is)))

  pub issue_judged : (a : ℕ) → JudgedLent Err s (issue_rule a s) (issuing a s)
  issue_judged a =
      judged_err (λ x r w. never_refused x r w.1.1.1.1)
      (store_follows (λ r. kept Err (number a) s (r and_then issued a)) (λ r. refl) s bytes _
      (λ st w. held_follows (λ t. kept Err (number a) s
      (cond (not t) (Err Refusal.NotHeld) (cond (m a st).unsure (Err Refusal.Unsure) (below a st))))
      refl a _ w.valid (λ p. number_follows a st)))
