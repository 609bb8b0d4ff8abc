-- What a store must be to stand in a file, and what a file must be to be a store (document 02, 9/14), each in a line.
--     Fits m         the numbers of m are those of eight and of four bytes
--     Valid st       at most 64 meters, none of them twice, all numbers within their bytes
--     Within s st    the memory s begins with the bytes of st
--     IsFile s st    the file s is what writing st gives, or its version 1 form
use Rattle.std.specs.Prelude.{List, ◌⊎◌, ◌≡◌, ℕ, ◌<◌, ◌≤◌, length, get_or, take}
use Rattle.sessions.specs.declared.Meter.{Meter}
use Rattle.sessions.specs.Meters.{Store, stranger}
use Rattle.sessions.specs.StoreFile.{bytes_of, version_one, size_of, memory_size}

pub record Fits (m : Meter) : Type 0 where
  pub address : m.address < 18446744073709551616
  pub number : m.number < 4294967296

pub record Valid (st : Store) : Type 0 where
  pub few : length st.meters ≤ 64
  pub fit : (i : ℕ) → i < length st.meters → Fits (get_or st.meters i (stranger 0))
  pub once :
      (i j : ℕ) →
      i < length st.meters →
      j < length st.meters →
      (get_or st.meters i (stranger 0)).address ≡ (get_or st.meters j (stranger 0)).address →
      i ≡ j
  pub allows : st.allowance < 4294967296

pub record Within (s : List ℕ) (st : Store) : Type 0 where
  pub room : memory_size ≤ length s
  pub valid : Valid st
  pub bytes : take (size_of st) s ≡ bytes_of st

pub record IsFile (s : List ℕ) (st : Store) : Type 0 where
  pub valid : Valid st
  pub bytes : (s ≡ bytes_of st) ⊎ ((s ≡ version_one st.meters) × (st.allowance ≡ 16384))
