-- What one accepted change does to a frame (document 01, "Changing a byte"): m is what s became.
--     InSpan ks p q              place p lies in one of the spans ks, which ends before place q: there its check stands
--     Touched f s m c k b p q    place p has byte k of the content, of c in s and of any content of that length in its
--                                frame; its span ends before place q. m has b at p and the updated check at q, and else
--                                what s had. The new check is the update by the old one, the old and the new byte, and
--                                how many bytes stand between p and the span's end
use Rattle.std.specs.Prelude.{List, ◌≡◌, ℕ, ◌+◌, ◌-◌, ◌≤◌, ◌<◌, length, get_or, take, Ok}
use Rattle.crc.specs.CheckUpdate.{updating}
use Rattle.blocks.specs.Spans.{size_of}
use Rattle.blocks.specs.Places.{check_at}
use Rattle.frame.specs.declared.Format.{Format}
use Rattle.frame.specs.Formats.{spans_of}
use Rattle.frame.specs.Frames.{frame_of}

pub record InSpan (ks : List ℕ) (p q : ℕ) : Type 0 where
  pub span : ℕ
  pub among : span < length ks
  pub begins : size_of (take span ks) ≤ p
  pub before : p < q
  pub ends : q ≡ size_of (take span ks) + get_or ks span 0

pub record Touched (f : Format) (s m c : List ℕ) (k b p q : ℕ) : Type 0 where
  pub in_span : InSpan (spans_of f (length c)) p q
  pub place : (x : List ℕ) → length x ≡ length c → get_or (frame_of f x) p 0 ≡ get_or x k 0
  pub held : get_or s p 0 ≡ get_or c k 0
  pub byte : get_or m p 0 ≡ b
  pub check : updating (check_at s q) (get_or s p 0) b (q - (p + 1)) ≡ Ok (check_at m q)
  pub others : (i : ℕ) → (i ≡ p → ⊥) → (i ≡ q → ⊥) → (i ≡ q + 1 → ⊥) → get_or m i 0 ≡ get_or s i 0
  pub size : length m ≡ length s
