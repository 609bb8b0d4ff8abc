-- The cases of document 02's refusals for the settings store (9/14), each said of the memory, the file and the meters
-- place by place.
--     HeldAs a st m           m is what st holds of the meter a: it stands at some place and has this address
--     Held a st               st holds something of the meter a
--     KnownAs a st m          so it does of m; or it holds nothing of a, and m is a stranger: unsure, at number 0
--     NoStore s, NoFile f     17: the memory s begins with no store's bytes; the file f is no store's
--     Unlisted k j            17: no mode has the number k, or no format the number j
--     FullFor a st            22: the meter a is not held, and 64 others are
--     newcomers ms fs         the addresses of the meters fs that are not among ms, in their order
use Rattle.std.specs.Prelude.{cond, List, [], ◌∷◌, ◌⊎◌, ◌≡◌, ℕ, ◌≤◌, ◌<◌, length, get_or}
use Rattle.sessions.specs.declared.Meter.{Meter}
use Rattle.sessions.specs.Meters.{Store, stranger, holds}
use Rattle.sessions.specs.Valid.{Within, IsFile}

pub record HeldAs (a : ℕ) (st : Store) (m : Meter) : Type 0 where
  pub at : ℕ
  pub inside : at < length st.meters
  pub is : get_or st.meters at (stranger 0) ≡ m
  pub address : m.address ≡ a

abbrev pub Held : ℕ → Store → Type 0
Held a st = (m : Meter) × HeldAs a st m

abbrev pub KnownAs : ℕ → Store → Meter → Type 0
KnownAs a st m = HeldAs a st m ⊎ ((Held a st → ⊥) × (m ≡ stranger a))

abbrev pub NoStore : List ℕ → Type 0
NoStore s = (st : Store) → Within s st → ⊥

abbrev pub NoFile : List ℕ → Type 0
NoFile f = (st : Store) → IsFile f st → ⊥

abbrev pub Unlisted : ℕ → ℕ → Type 0
Unlisted k j = (5 < k) ⊎ (1 < j)

abbrev pub FullFor : ℕ → Store → Type 0
FullFor a st = (Held a st → ⊥) × (64 ≤ length st.meters)

unfoldable pub newcomers : List Meter → List Meter → List ℕ
newcomers ms [] = []
newcomers ms (f ∷ fs) = cond (holds f.address ms) (newcomers ms fs) (f.address ∷ newcomers ms fs)
