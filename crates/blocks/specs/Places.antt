-- Changing one byte among sealed spans (document 01, "Changing a byte"; EN 13757-4:2019, 12.3, 12.4).
--     place_in ks j         the place of byte j of the payload
--     check_in ks j         the place of the high byte of the check over it; the span ends just before it
--     check_at s q          the check whose high byte stands at place q
--     updated_at s p q v    that check after byte p became v: by the old check, the old and the new byte, and the count
--                          of bytes between p and the end of the span. Nothing else of s is looked at
--     mended s p q v       s with v at place p and the updated check at place q
-- That what is mended touches three bytes, and is the changed payload written afresh, are theorems: proofs/MendLaws.
-- Assumes nothing.
use Rattle.std.specs.Prelude.{cond, List, [], ◌∷◌, ℕ, ◌+◌, ◌-◌, ◌*◌, ◌/◌, ◌%◌, ltb, get_or, set}
use Rattle.crc.specs.CheckUpdate.{updated_check}

unfoldable pub place_in : List ℕ → ℕ → ℕ
place_in [] j = j
place_in (k ∷ ks) j = cond (ltb j k) j (k + 2 + place_in ks (j - k))

unfoldable pub check_in : List ℕ → ℕ → ℕ
check_in [] j = j
check_in (k ∷ ks) j = cond (ltb j k) k (k + 2 + check_in ks (j - k))

abbrev pub check_at : List ℕ → ℕ → ℕ
check_at s q = get_or s q 0 * 256 + get_or s (q + 1) 0

unfoldable pub updated_at : List ℕ → ℕ → ℕ → ℕ → ℕ
updated_at s p q v = updated_check (check_at s q) (get_or s p 0) v (q - 1 - p)

unfoldable pub mended : List ℕ → ℕ → ℕ → ℕ → List ℕ
mended s p q v = set (set (set s p v) q (updated_at s p q v / 256)) (q + 1) (updated_at s p q v % 256)
