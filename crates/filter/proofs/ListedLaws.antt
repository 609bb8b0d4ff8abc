-- Lists of entries: what it is to be listed.
--     any_listed          b is listed exactly if the comparison with it finds some entry
--     InUse es n b        one of the first n of es is b: which one, that it is in use, that it is b
--     in_use_listed, listed_in_use    the first n of es list b exactly then
use mathlib.Core.List.{List, [], ◌∷◌}
use mathlib.Core.Path.{◌≡◌, refl, ◌∙◌, sym}
use mathlib.Core.Bool.{Bool, true, false, ◌||◌, false≢true, or-true}
use Prim.Native.Nat.{ℕ, zero, suc, ◌<◌, ◌≤◌}
use native.Mathlib.Omega.{arith}
use lib.ListN.{length, get_or, take}
use lib.Seq.{length-take-le, get_or-take}
use Rattle.address.specs.Names.{same_bytes}
use Rattle.std.specs.Str.{bytes_eq}
use Rattle.std.specs.List.{list_any}
use Rattle.address.proofs.NameLaws.{same_bytes_self, same_bytes_equal, bytes_eq-same_bytes}
use Rattle.filter.specs.Listed.{listed}

pub record InUse (es : List (List ℕ)) (n : ℕ) (b : List ℕ) : Type 0 where
  pub at : ℕ
  pub used : at < n
  pub is : get_or es at [] ≡ b

pub any_listed : (b : List ℕ) (es : List (List ℕ)) → list_any (λ e. bytes_eq e b) es ≡ listed b es
unfolding listed
any_listed b [] = refl
any_listed b (e ∷ es) = rw (bytes_eq-same_bytes e b, any_listed b es)

-- an entry that is there is found
listed_has : (b : List ℕ) (es : List (List ℕ)) (k : ℕ) → k < length es → get_or es k [] ≡ b → listed b es ≡ true
unfolding listed
listed_has b [] k p q = absurd (omega arith)
listed_has b (e ∷ es) zero p q = rw (q, same_bytes_self b)
listed_has b (e ∷ es) (suc k) p q = rw (listed_has b es k (omega arith) q, or-true (same_bytes e b))

-- what is found is there: at the front, or behind it
in_use_cons :
    (b f : List ℕ) (es : List (List ℕ)) (v : Bool) → same_bytes f b ≡ v
    → (listed b es ≡ true → InUse es (length es) b) → (v || listed b es) ≡ true → InUse (f ∷ es) (suc (length es)) b
in_use_cons b f es true same rest e = record { at = 0; used = omega arith; is = same_bytes_equal f b same }
in_use_cons b f es false same rest e =
    record { at = suc (rest e).at; used = omega (arith, (rest e).used); is = (rest e).is }

listed_found : (b : List ℕ) (es : List (List ℕ)) → listed b es ≡ true → InUse es (length es) b
unfolding listed
listed_found b [] e = absurd (false≢true e)
listed_found b (f ∷ es) e = in_use_cons b f es (same_bytes f b) refl (listed_found b es) e

-- the first n of es are in use
module _ (es : List (List ℕ)) (n : ℕ) (b : List ℕ) (fits : n ≤ length es) where
  length_in_use : length (take n es) ≡ n
  length_in_use = length-take-le n es fits

  pub in_use_listed : InUse es n b → listed b (take n es) ≡ true
  in_use_listed u =
      listed_has b (take n es) u.at (rw length_in_use u.used) (get_or-take n es u.at [] u.used ∙ u.is)

  pub listed_in_use : listed b (take n es) ≡ true → InUse es n b
  listed_in_use e =
      let u = listed_found b (take n es) e in
      let below : u.at < n = rw length_in_use at u.used in
      record { at = u.at; used = below; is = sym (get_or-take n es u.at [] below) ∙ u.is }
