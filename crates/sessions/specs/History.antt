-- What the store promises over any calls (document 02, 9/14), said of the memory that the caller owns. Any memory may
-- be there at the beginning, any calls follow, refused ones and restores of any bytes among them.
--     Call              a call that may change the store, adding with mode and format as such or by their numbers. Not
--                       among them: emptying, which begins a new one
--     after s c         the memory s after the call c
--     after_all s cs     after one call behind the other
--     heard_by a s c     the number that c tells was heard from the meter a; none if c is another call or was refused
--     issued_by a s c    the number that c issues for the meter a, or none
--     told_by a s c      either
--     over f s cs       what f gives of the calls, in their order
--     InRange c         c's numbers are those that a caller can hand over, and a file is bytes
--     Above n l         n is above every number of l
--     Sure a s          the meter a is held and is sure
--     NoneHeld s        no meter is held
--     Running           in a running collector each number that is issued for a meter is above every one that was
--                       issued for it or heard from it before; and a meter that is not sure gets none until one of
--                       its own is heard
--     Restored          after a restore into an empty store: no number for a meter until one of its own is heard, and
--                       then each is above all heard and all issued since
-- Not promised: what a store that was not saved, or that was restored from a copy, no longer knows
-- (proofs/NotPromised).
use Rattle.std.specs.Prelude.{cond, false, List, [], ◌∷◌, ◌++◌, ◌≡◌, ℕ, ◌<◌, eqb, length, get_or, Result, Ok, Err}
use Rattle.answers.specs.declared.Refusal.{Refusal}
use Rattle.frame.specs.declared.Format.{Format}
use Rattle.modes.specs.declared.Mode.{Mode}
use Rattle.ground.specs.Bytes.{Bytes}
use Rattle.sessions.specs.declared.Meter.{Meter}
use Rattle.sessions.specs.StoreCalls.{adding, adding_by, hearing_in, issuing, restoring, setting_allowance, looking_up}

pub data Call : Type 0 where
  Add : ℕ → Mode → Format → Call
  AddBy : ℕ → ℕ → ℕ → Call
  Hear : ℕ → ℕ → Call
  Issue : ℕ → Call
  Restore : List ℕ → Call
  Allow : ℕ → Call

abbrev pub after : List ℕ → Call → List ℕ
after s (Add a mode format) = (adding a mode format s).memory
after s (AddBy a k j) = (adding_by a k j s).memory
after s (Hear a n) = (hearing_in a n s).memory
after s (Issue a) = (issuing a s).memory
after s (Restore file) = (restoring file s).memory
after s (Allow n) = (setting_allowance n s).memory

unfoldable pub after_all : List ℕ → List Call → List ℕ
after_all s [] = s
after_all s (c ∷ cs) = after_all (after s c) cs

abbrev pub if_accepted : ℕ → Result ℕ Refusal → List ℕ
if_accepted n (Ok size) = n ∷ []
if_accepted n (Err why) = []

abbrev pub if_issued : Result ℕ Refusal → List ℕ
if_issued (Ok n) = n ∷ []
if_issued (Err why) = []

abbrev pub heard_by : ℕ → List ℕ → Call → List ℕ
heard_by a s (Add b mode format) = []
heard_by a s (AddBy b k j) = []
heard_by a s (Hear b n) = cond (eqb b a) (if_accepted n (hearing_in b n s).answer) []
heard_by a s (Issue b) = []
heard_by a s (Restore file) = []
heard_by a s (Allow n) = []

abbrev pub issued_by : ℕ → List ℕ → Call → List ℕ
issued_by a s (Add b mode format) = []
issued_by a s (AddBy b k j) = []
issued_by a s (Hear b n) = []
issued_by a s (Issue b) = cond (eqb b a) (if_issued (issuing b s).answer) []
issued_by a s (Restore file) = []
issued_by a s (Allow n) = []

abbrev pub told_by : ℕ → List ℕ → Call → List ℕ
told_by a s c = heard_by a s c ++ issued_by a s c

unfoldable pub over : (List ℕ → Call → List ℕ) → List ℕ → List Call → List ℕ
over f s [] = []
over f s (c ∷ cs) = f s c ++ over f (after s c) cs

abbrev pub InRange : Call → Type 0
InRange (Add a mode format) = a < 18446744073709551616
InRange (AddBy a k j) = a < 18446744073709551616
InRange (Hear a n) = (a < 18446744073709551616) × (n < 4294967296)
InRange (Issue a) = a < 18446744073709551616
InRange (Restore file) = Bytes file
InRange (Allow n) = n < 4294967296

unfoldable pub InRanges : List Call → Type 0
InRanges [] = ◌≡◌ {A = ℕ} 0 0
InRanges (c ∷ cs) = InRange c × InRanges cs

abbrev pub Above : ℕ → List ℕ → Type 0
Above n l = (i : ℕ) → i < length l → get_or l i 0 < n

abbrev pub Sure : ℕ → List ℕ → Type 0
Sure a s = (m : Meter) × ((looking_up a s ≡ Ok m) × (m.unsure ≡ false))

abbrev pub NoneHeld : List ℕ → Type 0
NoneHeld s = (a : ℕ) (m : Meter) → looking_up a s ≡ Ok m → ⊥

-- the number n is issued for the meter a after the calls cs
abbrev pub IssuedAfter : List ℕ → List Call → ℕ → ℕ → Type 0
IssuedAfter s cs a n = (issuing a (after_all s cs)).answer ≡ Ok n

pub record Running : Type 0 where
  pub above :
      (s : List ℕ) (cs : List Call) (a n : ℕ) →
      Bytes s →
      InRanges cs →
      IssuedAfter s cs a n →
      Above n (over (told_by a) s cs)
  pub silent :
      (s : List ℕ) (cs : List Call) (a n : ℕ) →
      Bytes s →
      InRanges cs →
      (Sure a s → ⊥) →
      IssuedAfter s cs a n →
      over (heard_by a) s cs ≡ [] →
      ⊥

pub record Restored : Type 0 where
  pub afresh :
      (s file : List ℕ) (size : ℕ) (cs : List Call) (a n : ℕ) →
      Bytes s →
      Bytes file →
      InRanges cs →
      NoneHeld s →
      (restoring file s).answer ≡ Ok size →
      IssuedAfter (restoring file s).memory cs a n →
      (over (heard_by a) (restoring file s).memory cs ≡ [] → ⊥)
      × Above n (over (told_by a) (restoring file s).memory cs)
