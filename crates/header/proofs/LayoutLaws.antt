-- Lengths of extended headers and of their parts.
--     session_place-addressed                     where SN starts behind A2
--     header_length-secured, session_place-le     what comes behind that place
--     opening h            what is sent before SN
--     length-opening, length-header_bytes    bytes of a header, and of what is sent before SN
use mathlib.Core.List.{List, [], ◌∷◌, ◌++◌}
use mathlib.Core.Path.{◌≡◌, refl, ◌∙◌}
use mathlib.Core.Bool.{Bool, true, false, cond}
use Prim.Native.Nat.{ℕ, ◌+◌, ◌≤◌}
use native.Mathlib.Omega.{arith}
use lib.ListN.{length, length-append}
use Rattle.address.specs.Names.{name_bytes}
use Rattle.header.specs.Layout.{ci_of, addressed, secured, session_place, header_length, session_bytes, receiver_part, session_part, header_bytes}
use Rattle.header.specs.declared.layout.Header.{Header}
use Rattle.header.specs.declared.layout.HeaderKind.{HeaderKind}

module _ (k : HeaderKind) where
  pub session_place-addressed : addressed k ≡ true → session_place k ≡ 11
  session_place-addressed e = rw e

  pub header_length-secured : secured k ≡ true → header_length k ≡ session_place k + 6
  header_length-secured e = rw e

  -- what comes before the session's fields is part of the header
  pub session_place-le : session_place k ≤ header_length k
  session_place-le = omega arith

length-cond : (b : Bool) (xs : List ℕ) → length (cond b xs []) ≡ cond b (length xs) 0
length-cond true xs = refl
length-cond false xs = refl

abbrev pub opening : Header → List ℕ
opening h = (ci_of h.kind ∷ h.cc ∷ h.acc ∷ []) ++ receiver_part h.kind h.receiver

pub length-opening : (h : Header) → length (opening h) ≡ session_place h.kind
length-opening h = omega (arith, length-cond (addressed h.kind) (name_bytes h.receiver))

pub length-header_bytes : (h : Header) → length (header_bytes h) ≡ header_length h.kind
length-header_bytes h =
    length-append (opening h) (session_part h.kind h.session)
    ∙ omega (arith, length-opening h, length-cond (secured h.kind) (session_bytes h.session))
