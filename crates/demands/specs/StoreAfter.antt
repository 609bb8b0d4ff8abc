-- What becomes of the meters of a store (document 02, 9/14), meter by meter: st is the store before a call, new the one
-- that it leaves.
--     addresses st            the addresses of its meters, in their order
--     Puts a m st new         m is held of the meter a, in its place or behind the last; all else stays
--     Restores st file new    a file was restored: a meter of both keeps its own mark and the larger number, the rest
--                             is the file's; one that is not in the file stays; one that was not held comes in
--                             unsure; no other is held. Those that were held keep their places, the newcomers follow
use Rattle.std.specs.Prelude.{true, List, [], ◌∷◌, ◌++◌, map, ◌↔◌, ◌≡◌, ℕ, max}
use Rattle.sessions.specs.declared.Meter.{Meter}
use Rattle.sessions.specs.Meters.{Store}
use Rattle.demands.specs.StoreCases.{HeldAs, Held, newcomers}

abbrev pub addresses : Store → List ℕ
addresses st = map (λ (m : Meter). m.address) st.meters

pub record Puts (a : ℕ) (m : Meter) (st new : Store) : Type 0 where
  pub this : HeldAs a new m
  pub others : (b : ℕ) (x : Meter) → (b ≡ a → ⊥) → HeldAs b st x ↔ HeldAs b new x
  pub in_its_place : Held a st → addresses new ≡ addresses st
  pub behind_the_last : (Held a st → ⊥) → addresses new ≡ addresses st ++ (a ∷ [])
  pub allowance : new.allowance ≡ st.allowance

pub record Restores (st file new : Store) : Type 0 where
  pub in_both :
      (a : ℕ) (own m : Meter) → HeldAs a st own → HeldAs a file m
      → HeldAs a new (record {
        address = a;
        mode = m.mode;
        format = m.format;
        number = max own.number m.number;
        unsure = own.unsure;
      })
  pub only_held : (a : ℕ) (own : Meter) → HeldAs a st own → (Held a file → ⊥) → HeldAs a new own
  pub only_in_the_file :
      (a : ℕ) (m : Meter) → (Held a st → ⊥) → HeldAs a file m
      → HeldAs a new (record {
        address = a;
        mode = m.mode;
        format = m.format;
        number = m.number;
        unsure = true;
      })
  pub in_neither : (a : ℕ) → (Held a st → ⊥) → (Held a file → ⊥) → Held a new → ⊥
  pub order : addresses new ≡ addresses st ++ newcomers st.meters file.meters
  pub allowance : new.allowance ≡ file.allowance
