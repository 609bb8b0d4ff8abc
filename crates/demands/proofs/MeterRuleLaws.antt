-- Headers and the meter filter are judged as document 01 says (specs/Ladders).
use mathlib.Core.Bool.{Bool, true, false, cond, false≢true}
use mathlib.Core.List.{List}
use mathlib.Core.Logic.{◌⊎◌, inl, inr}
use mathlib.Core.Path.{◌≡◌, refl, sym, ◌∙◌}
use Prim.Native.Nat.{ℕ, ◌≤◌, ◌<◌}
use native.Mathlib.Omega.{arith}
use lib.ListN.{length, get_or, take}
use Rattle.std.specs.Prelude.{Result, Ok, Err}
use Rattle.answers.specs.declared.Refusal.{Refusal}
use Rattle.ground.proofs.CaseLaws.{zero_not_one}
use Rattle.address.specs.Names.{name_of}
use Rattle.header.specs.declared.layout.Header.{Header}
use Rattle.header.specs.declared.layout.HeaderKind.{HeaderKind}
use Rattle.header.specs.Layout.{ci_of, header_length}
use Rattle.header.specs.HeaderReads.{header_in, header_reading_of}
use Rattle.header.specs.HeaderWrites.{header_writing_of}
use Rattle.header.proofs.HeaderReadsLaws.{header_kind_of_is, HeaderGrounds, header_reading_of_grounds}
use Rattle.filter.specs.Listed.{listed, verdict_of}
use Rattle.filter.proofs.ListedLaws.{in_use_listed, listed_in_use}
use Rattle.demands.specs.Rules.{Rule, ◌when◌else◌, accept, Judged, JudgedLent}
use Rattle.demands.specs.Cases.{InUse}
use Rattle.demands.specs.Ladders.{header_read_rule, header_write_rule, filter_rule}
use Rattle.demands.proofs.RuleLaws.{Follows, judged, judged_err, taken_bare, passed_bare, follows-lt, never_refused}

pub header_write_judged :
    (h : Header) (d : List ℕ) → JudgedLent Err d (header_write_rule h d) (header_writing_of h d)
header_write_judged h d =
    judged_err never_refused
    (follows-lt (length d) (header_length h.kind) Refusal.NoRoom refl refl (λ room. Follows.ended refl))

-- two kinds with one CI byte are one
ci_same : (x : ℕ) (j k : HeaderKind) → ci_of j ≡ x → ci_of k ≡ x → j ≡ k
ci_same x j k e h =
    let one = (header_kind_of_is x j).1 (sym e) in
    let two = (header_kind_of_is x k).1 (sym h) in
    cc

module _ (s : List ℕ) where
  -- the kind that the CI byte names, then the rest
  abbrev kind_steps : HeaderKind → Rule (Result (Header × ℕ) Refusal)
  kind_steps k =
      12 when length s < header_length k
      else accept (λ r. r ≡ Ok (header_in k s, header_length k))

  named_follows :
      {r : Result (Header × ℕ) Refusal} (k : HeaderKind) → (length s ≡ 0 → ⊥) → ci_of k ≡ get_or s 0 0
      → Follows Err (kind_steps k) r → Follows Err (header_read_rule s) r
  named_follows k some ci rest =
      passed_bare some
      (passed_bare (λ none. none k ci) (Follows.found k ci (λ j h. ci_same (get_or s 0 0) j k h ci) rest))

  grounds_follow : {r : Result (Header × ℕ) Refusal} → HeaderGrounds s r → Follows Err (header_read_rule s) r
  grounds_follow (HeaderGrounds.unknown some e) =
      passed_bare some
      (taken_bare Refusal.UnknownCi
      (λ k h. let told = (header_kind_of_is (get_or s 0 0) k).1 (sym h) in zero_not_one (cc)) refl refl)
  grounds_follow (HeaderGrounds.short (inl e)) = taken_bare Refusal.ShortBody e refl refl
  grounds_follow (HeaderGrounds.short (inr cut)) =
      named_follows cut.kind cut.there (sym ((header_kind_of_is (get_or s 0 0) cut.kind).0 cut.named))
      (taken_bare Refusal.ShortBody cut.short refl refl)
  grounds_follow (HeaderGrounds.whole w) =
      named_follows w.kind w.there (sym ((header_kind_of_is (get_or s 0 0) w.kind).0 w.named))
      (passed_bare (λ h. omega (arith, w.fits)) (Follows.ended (rw (← w.header, ← w.size))))

  pub header_read_judged : Judged Err (header_read_rule s) (header_reading_of s)
  header_read_judged =
      judged (λ p q e. cc) (λ r w. zero_not_one (let e = w.1.1 in cc)) (grounds_follow (header_reading_of_grounds s))

-- the filter has sixteen entries, whatever the count says
module _ (es : List (List ℕ)) (n : ℕ) (s : List ℕ) (sixteen : length es ≡ 16) where
  abbrev Says : Result Bool Refusal → Type 0
  Says v = (InUse es n (name_of s) × (v ≡ Ok true)) ⊎ ((InUse es n (name_of s) → ⊥) × (v ≡ Ok false))

  listed_says : n ≤ 16 → (t : Bool) → listed (name_of s) (take n es) ≡ t → Says (Ok t)
  listed_says small true e =
      let u = listed_in_use es n (name_of s) (omega arith) e in
      inl ((u.at, (u.used, u.is)), refl)
  listed_says small false e =
      inr (
        λ u.
            false≢true (sym e ∙ in_use_listed es n (name_of s) (omega arith)
            (record { at = u.0; used = u.1.0; is = u.1.1 })),
        refl,
      )

  refused_says : (r : Refusal) → Says (Err r) → ⊥
  refused_says r (inl h) = zero_not_one (let e = h.1 in cc)
  refused_says r (inr h) = zero_not_one (let e = h.1 in cc)

  pub filter_judged : Judged Err (filter_rule es n s) (verdict_of es n s)
  filter_judged =
      judged (λ p q e. cc) refused_says
      (follows-lt 16 n Refusal.OutOfRange refl refl
      (λ small. follows-lt (length s) 9 Refusal.BadContent refl refl
      (λ long. Follows.ended (listed_says small (listed (name_of s) (take n es)) refl))))
