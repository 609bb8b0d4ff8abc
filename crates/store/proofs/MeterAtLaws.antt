-- A meter behind a place, read field by field.
--     four_at-drop, key_at_drop    numbers behind a place
--     meter_in-drop               the meter of these fields
-- Assumes nothing.
use mathlib.Core.List.{List}
use mathlib.Core.Path.{◌≡◌}
use Prim.Native.Nat.{ℕ, ◌+◌}
use native.Mathlib.Nat.{add_assoc}
use lib.Dec.{eqb}
use lib.ListN.{get_or, drop}
use lib.Seq.{get_or-drop}
use Rattle.frame.specs.declared.Format.{Format}
use Rattle.modes.specs.declared.Mode.{Mode}
use Rattle.modes.specs.Tables.{mode_of, format_of}
use Rattle.address.specs.Keys.{four_at, key_at}
use Rattle.sessions.specs.declared.Meter.{Meter}
use Rattle.sessions.specs.StoreFile.{meter_in}

module _ (s : List ℕ) (at : ℕ) where
  byte : (k : ℕ) → get_or (drop at s) k 0 ≡ get_or s (at + k) 0
  byte k = get_or-drop at s k 0

  pub four_at-drop : (k : ℕ) → four_at (drop at s) k ≡ four_at s (at + k)
  four_at-drop k =
      rw (byte k, byte (k + 1), byte (k + 2), byte (k + 3), add_assoc at k 1, add_assoc at k 2, add_assoc at k 3)

  pub key_at_drop : (k : ℕ) → key_at (drop at s) k ≡ key_at s (at + k)
  key_at_drop k = rw (four_at-drop k, four_at-drop (k + 4), add_assoc at k 4)

  pub meter_in-drop :
      {a n : ℕ} {mode : Mode} {format : Format} →
      a ≡ key_at s (at + 1) →
      mode ≡ mode_of (get_or s (at + 10) 0) →
      format ≡ format_of (get_or s (at + 12) 0) →
      n ≡ four_at s (at + 14) →
      ◌≡◌ {A = Meter}
      (record { address = a; mode = mode; format = format; number = n; unsure = eqb (get_or s (at + 19) 0) 1 })
      (meter_in (drop at s))
  meter_in-drop p q r t =
      rw (p, q, r, t, ← key_at_drop 1, ← byte 10, ← byte 12, ← four_at-drop 14, ← byte 19)
