-- The search and the sync tail are judged as document 01 says (specs/Ladders), in calls that go on from what they found
-- too: `told` makes of their answer what the call answers, and hands on a refusal as it is.
use mathlib.Core.Bool.{Bool, true, false, cond}
use mathlib.Core.List.{List}
use mathlib.Core.Path.{◌≡◌, refl, sym, ◌∙◌, ap₂, subst}
use Prim.Native.Nat.{ℕ, ◌+◌, ◌-◌, ◌^◌, ◌/◌, ◌≤◌}
use native.Mathlib.Omega.{arith}
use borrow.Author.Tests.{ltb-true, ltb-false, eqb-true, eqb-false}
use lib.Dec.{ltb, eqb}
use lib.ListN.{length}
use Rattle.std.specs.Prelude.{Result, Ok, Err}
use Rattle.answers.specs.declared.Refusal.{Refusal}
use Rattle.ground.proofs.CaseLaws.{zero_not_one}
use Rattle.chips.specs.Chips.{chip_at, word_at, chip_count, in_range, room_limit}
use Rattle.chips.proofs.GatherLaws.{gather-add, gather-lt, chip_at-lt}
use Rattle.chips.proofs.RangeLaws.{InBuffer, in_range_true, in_range_inside}
use Rattle.sync.specs.declared.Found.{Found}
use Rattle.sync.specs.declared.Kind.{Kind}
use Rattle.sync.specs.FirstMatch.{FirstAt}
use Rattle.sync.specs.SyncSearch.{positions, search_of, found}
use Rattle.sync.specs.Tails.{kind_for, tail_of}
use Rattle.sync.proofs.TailLaws.{TailFits, kind_for_fits, fits-kind_for, kind_for_unknown, tail_of_outside}
use Rattle.sync.proofs.SearchLaws.{Ends, search_for_ends, gone, nowhere_passed, passed-lt_first}
use Rattle.demands.specs.Rules.{Rule, ◌showing◌else◌, given, accept, Judged}
use Rattle.demands.specs.Cases.{NoSyncIn, UnknownTail, TailIs}
use Rattle.demands.specs.Ladders.{search_steps, search_rule, tail_steps, tail_rule}
use Rattle.demands.proofs.RuleLaws.{Follows, judged, taken_bare, taken_showing, passed_bare, tells-lt}
use Rattle.demands.proofs.CaseLaws.{range_kept, range_left, first_same}

-- two matches that are both the first are one
same_match :
    {s : List ℕ} {start a j t k u : ℕ} → FirstAt 0x543D 16 s start a j t → FirstAt 0x543D 16 s start a k u
    → (j ≡ k) × (t ≡ u)
same_match {s} {start} p q =
    let same = first_same {P = λ i. start ≤ i → word_at s i 16 ≡ 0x543D → ⊥} (λ none. none p.behind p.stands)
    (λ i l from. p.first i from l) (λ none. none q.behind q.stands) (λ i l from. q.first i from l) in
    (same, omega (arith, p.counted, q.counted, same))

-- where the word stands first, it is missing from no run of places that reaches so far
first_there :
    {s : List ℕ} {start a k t : ℕ} → FirstAt 0x543D 16 s start a k t → (m : ℕ) → t ≤ m → NoSyncIn s start m → ⊥
first_there {start = start} {k = k} f m l none =
    let here : start + (k - start) ≡ k = omega (arith, f.behind) in
    none (k - start) (omega (arith, f.counted)) (rw here f.stands)

module _ {B : Type 0} {refused : Refusal → B} (told : Result Found Refusal → B)
    (passes : (r : Refusal) → told (Err r) ≡ refused r) (s : List ℕ) (start a : ℕ)
    (matched : ℕ → ℕ → Rule B) where
  abbrev Ladder : Result Found Refusal → Type 1
  Ladder x = Follows refused (search_steps s start a matched) (told x)

  -- what follows from a match
  abbrev Matched : Type 1
  Matched =
      (k t : ℕ) → InBuffer s start → FirstAt 0x543D 16 s start a k t
      → Follows refused (matched k t) (told (Ok (found k t)))

  -- the word stands at none of the first m places, where all of them were passed over
  none_passed : (m : ℕ) → m ≤ gone 0x543D 16 s start a → NoSyncIn s start m
  none_passed m l i h = nowhere_passed 0x543D 16 s start a (start + i) (omega arith) (omega arith)

  refused_there : (r : Refusal) → Follows refused (search_steps s start a matched) (refused r) → Ladder (Err r)
  refused_there r = subst (Follows refused (search_steps s start a matched)) (sym (passes r))

  first_follows :
      in_range s start ≡ true → (k t : ℕ) → FirstAt 0x543D 16 s start a k t
      → Follows refused (matched k t) (told (Ok (found k t))) → Ladder (Ok (found k t))
  first_follows inside k t f rest =
      passed_bare (range_kept s start inside)
      (Follows.passed (λ w h. first_there f (positions 16 s start) (omega (arith, f)) h.1.1)
      (Follows.passed (λ w h. first_there f a f.allowed h.1.1)
      (Follows.found (k, t) f (λ u g. let same = same_match g f in ap₂ (λ (x y : ℕ). (x, y)) same.0 same.1) rest)))

  search_ends : Matched → (x : Result Found Refusal) → Ends 0x543D 16 s start a x → Ladder x
  search_ends go x (Ends.outside e) =
      refused_there Refusal.OutOfRange (taken_bare Refusal.OutOfRange (range_left s start e) refl refl)
  search_ends go x (Ends.stops inside l) =
      let f = passed-lt_first 0x543D 16 s start a l in
      first_follows inside _ _ f (go _ _ (in_range_true inside) f)
  search_ends go x (Ends.tries_all inside all l) =
      refused_there (Refusal.NoSync (positions 16 s start))
      (passed_bare (range_kept s start inside)
      (taken_showing (Refusal.NoSync _) (refl, (l, none_passed _ (omega arith))) (λ w h. h.0) refl))
  search_ends go x (Ends.tries_some inside all l) =
      refused_there (Refusal.UsedUp a)
      (passed_bare (range_kept s start inside)
      (Follows.passed (λ w h. omega (arith, h.1.0))
      (taken_showing (Refusal.UsedUp a) (refl, (l, none_passed a (omega arith))) (λ w h. h.0) refl)))

  pub search_follows : Matched → Ladder (search_of s start a)
  search_follows go = search_ends go (search_of s start a) (search_for_ends 0x543D 16 s start a)

pub search_judged : (s : List ℕ) (start a : ℕ) → Judged Err (search_rule s start a) (search_of s start a)
search_judged s start a =
    judged (λ p q e. cc) (λ r w. zero_not_one (let e = w.1.1 in cc))
    (search_follows (λ x. x) (λ r. refl) s start a (λ k t. accept (λ r. r ≡ Ok (found k t)))
    (λ k t within f. Follows.ended refl))

-- the first six of sixteen chips
word_at_six : (s : List ℕ) (at : ℕ) → word_at s at 16 / 2 ^ 10 ≡ word_at s at 6
word_at_six s at =
    let split = gather-add (chip_at s) at 6 10 in
    let low = gather-lt (chip_at s) (chip_at-lt s) (at + 6) 10 in
    omega (arith, split, low)

-- a tail that is unknown begins no frame
unknown_begins :
    {s : List ℕ} {place : ℕ} {k : Kind} → UnknownTail s place
    → kind_for place (word_at s (place + 16) 16) ≡ Ok k → ⊥
unknown_begins {s} {place} u e =
    let begins = word_at_six s (place + 16) ∙ u.begins in
    let clash = sym (kind_for_unknown place (word_at s (place + 16) 16) u.not_a u.not_b begins) ∙ e in
    zero_not_one (cc)

-- the one refusal that a tail gives, and when
kind_for_only :
    (k t : ℕ) (r : Refusal) → kind_for k t ≡ Err r → kind_for k t ≡ Err (Refusal.UnknownTail k)
kind_for_only k t r = by (eqb t 0x54CD) (eqb t 0x543D) (eqb (t / 2 ^ 10) 0b010101) where
  by :
      (a b c : Bool) → let x = cond a (Ok Kind.CWithA) (cond b (Ok Kind.CWithB)
      (cond c (Err (Refusal.UnknownTail k)) (Ok Kind.TWithA))) in
      x ≡ Err r → x ≡ Err (Refusal.UnknownTail k)
  by true b c e = absurd (zero_not_one (cc))
  by false true c e = absurd (zero_not_one (cc))
  by false false true e = refl
  by false false false e = absurd (zero_not_one (cc))

kind_for_refused :
    (s : List ℕ) (k : ℕ) → kind_for k (word_at s (k + 16) 16) ≡ Err (Refusal.UnknownTail k)
    → UnknownTail s k
kind_for_refused s k = by (eqb t 0x54CD) (eqb t 0x543D) (eqb (t / 2 ^ 10) 0b010101) refl refl refl where
  t : ℕ
  t = word_at s (k + 16) 16

  by :
      (a b c : Bool) → eqb t 0x54CD ≡ a → eqb t 0x543D ≡ b → eqb (t / 2 ^ 10) 0b010101 ≡ c
      → cond a (Ok Kind.CWithA) (cond b (Ok Kind.CWithB)
      (cond c (Err (Refusal.UnknownTail k)) (Ok Kind.TWithA))) ≡ Err (Refusal.UnknownTail k)
      → UnknownTail s k
  by true b c p q r e = absurd (zero_not_one (cc))
  by false true c p q r e = absurd (zero_not_one (cc))
  by false false true p q r e =
      record {
        begins = sym (word_at_six s (k + 16)) ∙ eqb-true (t / 2 ^ 10) 0b010101 r;
        not_a = eqb-false t 0x54CD p;
        not_b = eqb-false t 0x543D q;
      }
  by false false false p q r e = absurd (zero_not_one (cc))

module _ {B : Type 0} {refused : Refusal → B} (told : Result Kind Refusal → B)
    (passes : (r : Refusal) → told (Err r) ≡ refused r) (s : List ℕ) (place : ℕ) (begins : Kind → Rule B) where
  abbrev tail : ℕ
  tail = word_at s (place + 16) 16

  fits_tail : (k : Kind) → TailIs s place k → TailFits k tail
  fits_tail Kind.TWithA e = λ h. e (sym (word_at_six s (place + 16)) ∙ h)
  fits_tail Kind.CWithA e = e
  fits_tail Kind.CWithB e = e
  fits_tail Kind.ManchesterWithA e = e

  tail_fits : (k : Kind) → TailFits k tail → TailIs s place k
  tail_fits Kind.TWithA e = λ h. e (word_at_six s (place + 16) ∙ h)
  tail_fits Kind.CWithA e = e
  tail_fits Kind.CWithB e = e
  tail_fits Kind.ManchesterWithA e = e

  -- a tail tells one kind
  tail_same : (k j : Kind) → kind_for place tail ≡ Ok k → TailIs s place j → j ≡ k
  tail_same k j e h =
      let told : Ok j ≡ Ok k = sym (fits-kind_for place tail j (fits_tail j h)) ∙ e in
      cc

  -- what the sixteen chips decide: 8, or the kind
  abbrev kind_steps : Rule B
  kind_steps = 8 showing (λ p. (p ≡ place) × UnknownTail s place) else given (TailIs s place) begins

  kind_begins :
      (k : Kind) → kind_for place tail ≡ Ok k → Follows refused (begins k) (told (Ok k))
      → Follows refused kind_steps (told (Ok k))
  kind_begins k e rest =
      Follows.passed (λ w (h : (w ≡ place) × UnknownTail s place). unknown_begins h.1 e)
      (Follows.found k (tail_fits k (kind_for_fits place tail k e)) (λ j h. tail_same k j e h) rest)

  kind_unknown : UnknownTail s place → Follows refused kind_steps (told (Err (Refusal.UnknownTail place)))
  kind_unknown u =
      subst (Follows refused kind_steps) (sym (passes (Refusal.UnknownTail place)))
      (Follows.taken (Refusal.UnknownTail place) refl (refl, u) (λ w h. h.0))

  abbrev Goes : Type 1
  Goes = (k : Kind) → kind_for place tail ≡ Ok k → Follows refused (begins k) (told (Ok k))

  abbrev unknown_tail : Result Kind Refusal
  unknown_tail = Err (Refusal.UnknownTail place)

  kind_told :
      Goes → (x : Result Kind Refusal) → kind_for place tail ≡ x → (x ≡ unknown_tail → UnknownTail s place)
      → ((r : Refusal) → x ≡ Err r → x ≡ unknown_tail) → Follows refused kind_steps (told x)
  kind_told go (Ok k) e unknown only = kind_begins k e (go k e)
  kind_told go (Err r) e unknown only =
      let is = only r refl in
      subst (λ (x : Result Kind Refusal). Follows refused kind_steps (told x)) (sym is) (kind_unknown (unknown is))

  kind_follows : Goes → Follows refused kind_steps (told (kind_for place tail))
  kind_follows go =
      kind_told go (kind_for place tail) refl (kind_for_refused s place) (λ r e. kind_for_only place tail r e)

  pub tail_follows :
      length s ≤ room_limit → place ≤ chip_count s → (place + 32 ≤ chip_count s → Goes)
      → Follows refused (tail_steps s place begins) (told (tail_of s place))
  unfolding tail_of
  tail_follows small inside go =
      rw (in_range_inside (record { small = small; inside = inside }))
      (by (ltb (chip_count s) (place + 32)) refl)
    where
      by :
          (t : Bool) → ltb (chip_count s) (place + 32) ≡ t
          → Follows refused (tail_steps s place begins)
          (told (cond t (Err Refusal.Short) (kind_for place tail)))
      by true e =
          subst (Follows refused (tail_steps s place begins)) (sym (passes Refusal.Short))
          (taken_bare Refusal.Short (ltb-true (chip_count s) (place + 32) e) refl refl)
      by false e =
          passed_bare ((tells-lt (chip_count s) (place + 32)).not e)
          (kind_follows (go (ltb-false (chip_count s) (place + 32) e)))

pub tail_judged : (s : List ℕ) (place : ℕ) → Judged Err (tail_rule s place) (tail_of s place)
tail_judged s place =
    judged (λ p q e. cc) (λ r w. zero_not_one (let e = w.1.1 in cc)) (by (in_range s place) refl)
  where
    by : (t : Bool) → in_range s place ≡ t → Follows Err (tail_rule s place) (tail_of s place)
    by true e =
        let within : InBuffer s place = in_range_true e in
        passed_bare (range_kept s place e)
        (tail_follows (λ x. x) (λ r. refl) s place (λ k. accept (λ r. r ≡ Ok k)) within.small
        within.inside (λ there k h. Follows.ended refl))
    by false e =
        subst (Follows Err (tail_rule s place)) (sym (tail_of_outside s place e))
        (taken_bare Refusal.OutOfRange (range_left s place e) refl refl)
