-- The sync search (specs/SyncSearch) is the first match (specs/FirstMatch), for any sync word v of w chips.
--     Nowhere v w s start m            the word stands at none of the m places from `start` on
--     search_for_outside                the buffer is too long, or the start lies behind it
--     search_for_found, -all, -used     its answer by what was passed over: as a search has it at hand
--     search_for_ends                   every way in which a search ends, with its answer
--     found_first, first_found         Found exactly where the word stands first, within the allowance
--     nosync_nowhere, nowhere_nosync   NoSync exactly where the word stands at no position and all are allowed
--     usedup_nowhere, nowhere_usedup   UsedUp exactly where it stands at none of those allowed, and some are left
use mathlib.Core.Bool.{true, false}
use mathlib.Core.Path.{◌≡◌, refl, sym, ◌∙◌}
use mathlib.Core.List.{List}
use Prim.Native.Nat.{ℕ, ◌+◌, ◌-◌, ◌≤◌, ◌<◌, min}
use native.Mathlib.Omega.{arith}
use borrow.Author.Tests.{lt-ltb, le-ltb, le-leb, lt-leb, ltb-true, ltb-false, leb-true, leb-false, eqb-true, eqb-false, eq-eqb, ne_eqb}
use lib.Dec.{ltb, leb}
use lib.ListN.{length}
use Rattle.std.specs.Prelude.{Result, Ok, Err}
use Rattle.answers.specs.declared.Refusal.{Refusal}
use Rattle.answers.specs.declared.Refusal.TheVariants.{NoSync, UsedUp, OutOfRange}
use Rattle.ground.proofs.CaseLaws.{by_test}
use Rattle.chips.specs.Chips.{word_at, room_limit, in_range}
use Rattle.chips.proofs.RangeLaws.{InBuffer, in_range_inside}
use Rattle.sync.specs.SyncSearch.{passed, stands_at, positions, found, answer_after, search_for}
use Rattle.sync.specs.FirstMatch.{FirstAt}
use Rattle.sync.specs.declared.Found.{Found}
use Rattle.sync.proofs.PassedLaws.{passed_stands, passed_misses, passed_first, passed_none}

abbrev pub Nowhere : ℕ → ℕ → List ℕ → ℕ → ℕ → Type 0
Nowhere v w s start m = (j : ℕ) → start ≤ j → j < start + m → word_at s j w ≡ v → ⊥

-- what a search has at hand when its walk is over: p positions, m of them allowed, i passed over
pub record Scanned (v w : ℕ) (s : List ℕ) (start a p m i : ℕ) : Type 0 where
  pub within : InBuffer s start
  pub there : p ≡ positions w s start
  pub most : m ≡ min a p
  pub over : i ≡ passed (stands_at v w s) start m

module _ {v w : ℕ} {s : List ℕ} {start a p m i : ℕ} (q : Scanned v w s start a p m i) where
  search_for_after : search_for v w s start a ≡ answer_after start a p i
  unfolding search_for
  search_for_after = rw (in_range_inside q.within, ← q.there, ← q.most, ← q.over)

  pub search_for_found : i < m → search_for v w s start a ≡ Ok (found (start + i) (i + 1))
  search_for_found l = search_for_after ∙ rw (← q.most, lt-ltb i m l)

  pub search_for-all : m ≤ i → p ≤ a → search_for v w s start a ≡ Err (NoSync p)
  search_for-all l k = search_for_after ∙ rw (← q.most, le-ltb i m l, le-leb p a k)

  pub search_for_used : m ≤ i → a < p → search_for v w s start a ≡ Err (UsedUp a)
  search_for_used l k = search_for_after ∙ rw (← q.most, le-ltb i m l, lt-leb p a k)

module _ (v w : ℕ) (s : List ℕ) (start a : ℕ) where
  pub search_for_outside : in_range s start ≡ false → search_for v w s start a ≡ Err OutOfRange
  unfolding search_for
  search_for_outside e = rw e

  -- the positions, how many of them may be tried, and how many of those are passed over
  abbrev there : ℕ
  there = positions w s start

  abbrev most : ℕ
  most = min a there

  abbrev pub gone : ℕ
  gone = passed (stands_at v w s) start most

  pub data Ends : Result Found Refusal → Type 0 where
    outside : in_range s start ≡ false → Ends (Err OutOfRange)
    stops : in_range s start ≡ true → gone < most → Ends (Ok (found (start + gone) (gone + 1)))
    tries_all : in_range s start ≡ true → most ≤ gone → there ≤ a → Ends (Err (NoSync there))
    tries_some : in_range s start ≡ true → most ≤ gone → a < there → Ends (Err (UsedUp a))

  answer_ends : in_range s start ≡ true → Ends (answer_after start a there gone)
  answer_ends inside =
      by_test (ltb gone most) (λ e. rw e (stops inside (ltb-true gone most e)))
      (λ e.
      let all : most ≤ gone = ltb-false gone most e in
      by_test (leb there a) (λ d. rw (e, d) (tries_all inside all (leb-true there a d)))
      (λ d. rw (e, d) (tries_some inside all (leb-false there a d))))

  pub search_for_ends : Ends (search_for v w s start a)
  unfolding search_for
  search_for_ends = by_test (in_range s start) (λ e. rw e (answer_ends e)) (λ e. rw e (outside e))

  -- the word stands at no place that was passed over
  pub nowhere_passed : Nowhere v w s start gone
  nowhere_passed j l m d =
      let q : start + (j - start) ≡ j = omega arith in
      eqb-false (word_at s j w) v (rw q at (passed_misses (stands_at v w s) start most (j - start) (omega arith))) d

  passed_scanned : {i : ℕ} → InBuffer s start → i ≡ gone → Scanned v w s start a there most i
  passed_scanned b over = record { within = b; there = refl; most = refl; over = over }

  pub passed-lt_first : gone < most → FirstAt v w s start a (start + gone) (gone + 1)
  passed-lt_first l =
      record {
        behind = omega arith;
        whole = omega arith;
        stands = eqb-true (word_at s (start + gone) w) v (passed_stands (stands_at v w s) start most l);
        first = nowhere_passed;
        counted = omega arith;
        allowed = omega arith;
      }

  found_end : {k t : ℕ} → Ends (Ok (found k t)) → FirstAt v w s start a k t
  found_end (stops inside l) = passed-lt_first l

  pub found_first : (k t : ℕ) → search_for v w s start a ≡ Ok (found k t) → FirstAt v w s start a k t
  found_first k t e = found_end (rw e at search_for_ends)

  passed_to : {k t : ℕ} → FirstAt v w s start a k t → k - start ≡ gone
  passed_to {k} f =
      let here : start + (k - start) ≡ k = omega (arith, f) in
      let stands = eq-eqb (word_at s (start + (k - start)) w) v (rw here f.stands) in
      sym (passed_first (stands_at v w s) start most (k - start) (omega (arith, f)) stands
      (λ j l. ne_eqb (word_at s (start + j) w) v (f.first (start + j) (omega arith) (omega arith))))

  pub first_found :
      (k t : ℕ) → length s ≤ room_limit → FirstAt v w s start a k t
      → search_for v w s start a ≡ Ok (found k t)
  first_found k t h f =
      let here : start + (k - start) ≡ k = omega (arith, f) in
      let tried : k - start + 1 ≡ t = omega (arith, f) in
      let in_buffer : InBuffer s start = record { small = h; inside = omega (arith, f) } in
      search_for_found (passed_scanned in_buffer (passed_to f)) (omega (arith, f)) ∙ rw (here, tried)

  nosync_end : {t : ℕ} → Ends (Err (NoSync t)) → (t ≡ there) × ((t ≤ a) × Nowhere v w s start t)
  nosync_end (tries_all inside l h) = (refl, (h, λ j b m. nowhere_passed j b (omega arith)))

  pub nosync_nowhere : (t : ℕ) → search_for v w s start a ≡ Err (NoSync t)
      → (t ≡ positions w s start) × ((t ≤ a) × Nowhere v w s start t)
  nosync_nowhere t e = nosync_end (rw e at search_for_ends)

  usedup_end : {t : ℕ} → Ends (Err (UsedUp t)) → (t ≡ a) × ((a < there) × Nowhere v w s start t)
  usedup_end (tries_some inside l h) = (refl, (h, λ j b m. nowhere_passed j b (omega arith)))

  pub usedup_nowhere : (t : ℕ) → search_for v w s start a ≡ Err (UsedUp t)
      → (t ≡ a) × ((a < positions w s start) × Nowhere v w s start t)
  usedup_nowhere t e = usedup_end (rw e at search_for_ends)

  passed_nowhere : Nowhere v w s start most → gone ≡ most
  passed_nowhere miss =
      passed_none (stands_at v w s) start most
      (λ j l. ne_eqb (word_at s (start + j) w) v (miss (start + j) (omega arith) (omega arith)))

  pub nowhere_nosync : InBuffer s start → positions w s start ≤ a → Nowhere v w s start (positions w s start)
      → search_for v w s start a ≡ Err (NoSync (positions w s start))
  nowhere_nosync within l miss =
      let m : most ≡ there = omega arith in
      search_for-all (passed_scanned within (sym (passed_nowhere (rw m miss)))) (omega arith) l

  pub nowhere_usedup : InBuffer s start → a < positions w s start → Nowhere v w s start a
      → search_for v w s start a ≡ Err (UsedUp a)
  nowhere_usedup within l miss =
      let m : most ≡ a = omega arith in
      search_for_used (passed_scanned within (sym (passed_nowhere (rw m miss)))) (omega arith) l
