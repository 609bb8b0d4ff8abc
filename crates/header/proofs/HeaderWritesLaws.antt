-- What writing a header leaves behind.
--     sets-header_bytes           the writer's stores leave the header at the start of the lent bytes
--     header_writing_of-le        the outcome where the header fits
use mathlib.Core.List.{List, [], ◌∷◌, ◌++◌}
use mathlib.Core.Path.{◌≡◌, refl, ◌∙◌, ap, sym}
use Prim.Native.Nat.{ℕ, ◌+◌, ◌≤◌}
use native.Mathlib.Nat.{zero-add}
use native.Mathlib.Omega.{arith}
use borrow.Author.Tests.{le-ltb}
use lib.ListN.{length, drop}
use lib.Seq.{sets}
use Rattle.std.specs.Prelude.{Ok}
use Rattle.answers.specs.Outcome.{leaving}
use Rattle.ground.proofs.StoresLaws.{sets_then, sets_start}
use Rattle.header.specs.Layout.{ci_of, receiver_place, session_place, header_length, receiver_part, session_part, header_bytes}
use Rattle.header.specs.HeaderWrites.{header_writing_of}
use Rattle.header.specs.declared.layout.Header.{Header}
use Rattle.header.proofs.LayoutLaws.{opening, length-opening, length-header_bytes}

module _ (h : Header) (d : List ℕ) where
  -- the first three bytes, then M2 A2, then SN PayloadCRC, each run where the one before it ends
  sets_runs :
      {m n : List ℕ}
      → m ≡ sets (sets d 0 (ci_of h.kind ∷ h.cc ∷ h.acc ∷ [])) receiver_place (receiver_part h.kind h.receiver)
      → n ≡ sets m (session_place h.kind) (session_part h.kind h.session)
      → n ≡ sets d 0 (header_bytes h)
  sets_runs {m} p q =
      let behind : 0 + length (opening h) ≡ session_place h.kind = zero-add (length (opening h)) ∙ length-opening h in
      sets_then (opening h) (session_part h.kind h.session) d 0
      (sets_then (ci_of h.kind ∷ h.cc ∷ h.acc ∷ []) (receiver_part h.kind h.receiver) d 0 refl p)
      (q ∙ ap (λ (k : ℕ). sets m k (session_part h.kind h.session)) (sym behind))

  pub sets-header_bytes : {m n : List ℕ} → header_length h.kind ≤ length d
      → m ≡ sets (sets d 0 (ci_of h.kind ∷ h.cc ∷ h.acc ∷ [])) receiver_place (receiver_part h.kind h.receiver)
      → n ≡ sets m (session_place h.kind) (session_part h.kind h.session)
      → n ≡ header_bytes h ++ drop (header_length h.kind) d
  sets-header_bytes fits p q =
      let room : length (header_bytes h) ≤ length d = omega (arith, length-header_bytes h) in
      sets_runs p q ∙ sets_start (header_bytes h) d room
      ∙ ap (λ (k : ℕ). header_bytes h ++ drop k d) (length-header_bytes h)

  pub header_writing_of-le :
      {a : ℕ} {m : List ℕ} → header_length h.kind ≤ length d → a ≡ header_length h.kind
      → m ≡ header_bytes h ++ drop (header_length h.kind) d
      → leaving (Ok a) m ≡ header_writing_of h d
  header_writing_of-le fits p q = rw (le-ltb (length d) (header_length h.kind) fits, p, q)
