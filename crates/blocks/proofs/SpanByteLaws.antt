-- Spans of bytes are bytes, their checks with them, and so is what is read out of them (specs/Spans).
use mathlib.Core.List.{List, [], ◌∷◌}
use Prim.Native.Nat.{ℕ, ◌+◌, ◌/◌, ◌%◌}
use native.Mathlib.Omega.{arith}
use lib.ListN.{take, drop}
use Rattle.ground.specs.Bytes.{Bytes}
use Rattle.ground.proofs.ByteLaws.{bytes-nil, bytes-cons, bytes-append, bytes_take, bytes_drop}
use Rattle.crc.specs.Check.{check_of}
use Rattle.crc.proofs.CheckLaws.{check_of-lt}
use Rattle.blocks.specs.Spans.{sealed, framed, payload}

pub sealed_bytes : (q : List ℕ) → Bytes q → Bytes (sealed q)
unfolding sealed
sealed_bytes q b =
    bytes-append q (check_of q / 256 ∷ check_of q % 256 ∷ []) b
    (bytes-cons (check_of q / 256) (check_of q % 256 ∷ []) (omega (arith, check_of-lt q))
    (bytes-cons (check_of q % 256) [] (omega arith) bytes-nil))

pub framed_bytes : (ks p : List ℕ) → Bytes p → Bytes (framed ks p)
unfolding framed
framed_bytes [] p b = bytes-nil
framed_bytes (k ∷ ks) p b =
    bytes-append (sealed (take k p)) (framed ks (drop k p))
    (sealed_bytes (take k p) (bytes_take k p b))
    (framed_bytes ks (drop k p) (bytes_drop k p b))

pub payload_bytes : (ks s : List ℕ) → Bytes s → Bytes (payload ks s)
unfolding payload
payload_bytes [] s b = bytes-nil
payload_bytes (k ∷ ks) s b =
    bytes-append (take k s) (payload ks (drop (k + 2) s))
    (bytes_take k s b)
    (payload_bytes ks (drop (k + 2) s) (bytes_drop (k + 2) s b))
