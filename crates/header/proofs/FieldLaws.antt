-- A header's fields as bytes: sent and read back, and read and sent again. Said over the two parts, each there or not:
-- no kind is named.
--     session_at-append          SN and PayloadCRC that are read where they were sent
--     session_bytes-session_at    the bytes of what was read are those that stood there
--     header_equal              a header with an equal receiver and an equal session
--     header_in-opening          the header that is read where one was sent
--     header_bytes-header_in      the bytes of a header that was read are those that stood there
use mathlib.Core.List.{List, [], ◌∷◌, ◌++◌}
use mathlib.Core.Path.{◌≡◌, refl, ◌∙◌, sym}
use mathlib.Core.Bool.{Bool, true, false, cond}
use Prim.Native.Nat.{ℕ, ◌+◌, ◌*◌, ◌/◌, ◌%◌, ◌≤◌}
use native.Mathlib.Numerals.{add-one, add-two, add-four, add_five}
use native.Mathlib.Omega.{arith}
use lib.ListN.{length, get_or, take, drop}
use lib.Seq.{get_or-append_seam, get_or-append-add, take-add}
use Rattle.ground.specs.Bytes.{Bytes}
use Rattle.address.specs.declared.Name.{Name}
use Rattle.address.specs.Names.{two_at, name_at, name_bytes}
use Rattle.address.proofs.NameLaws.{two_at-two_bytes, two_at-mod, two_at-div, name_at_append, take-drop, name_bytes_name_at}
use Rattle.header.specs.Layout.{ci_of, addressed, secured, session_place, header_length, session_bytes, session_part, header_bytes}
use Rattle.header.specs.HeaderReads.{four_at, session_at, trimmed, header_in}
use Rattle.header.specs.declared.layout.HeaderKind.{HeaderKind}
use Rattle.header.specs.declared.layout.Session.{Session}
use Rattle.header.specs.declared.layout.Header.{Header}
use Rattle.header.proofs.LayoutLaws.{opening, length-opening, session_place-addressed, session_place-le, header_length-secured}

four_at-four_bytes : (x : ℕ) → x % 65536 + 65536 * (x / 65536) ≡ x
four_at-four_bytes x = omega arith

pub session_at-append :
    (xs : List ℕ) (s : Session) (t : List ℕ) → session_at (xs ++ (session_bytes s ++ t)) (length xs) ≡ s
session_at-append xs s t =
    let e : length xs + 2 + 1 ≡ length xs + 3 = omega arith in
    simp (e, get_or-append_seam, get_or-append-add, two_at-two_bytes, four_at-four_bytes)

-- a part that is read where it was sent, if it was
part_read :
    {A : Type 0} (b : Bool) (at : List ℕ → A) (front part t : List ℕ) (none : A) {x : A}
    → at (front ++ (part ++ t)) ≡ x → cond b (at (front ++ (cond b part [] ++ t))) none ≡ cond b x none
part_read true at front part t none e = e
part_read false at front part t none e = refl

pub header_equal :
    (k : HeaderKind) (x y : ℕ) {n o : Name} {s v : Session} → n ≡ o → s ≡ v
    → ◌≡◌ {A = Header} (record { kind = k; cc = x; acc = y; receiver = n; session = s })
    (record { kind = k; cc = x; acc = y; receiver = o; session = v })
header_equal k x y p q = rw (p, q)

pub header_in-opening :
    (h : Header) (t : List ℕ) → header_in h.kind (opening h ++ (session_part h.kind h.session ++ t)) ≡ trimmed h
header_in-opening h t =
    let k = h.kind in
    let front : List ℕ = ci_of k ∷ h.cc ∷ h.acc ∷ [] in
    let rest : List ℕ = session_part k h.session ++ t in
    header_equal k h.cc h.acc
    (part_read (addressed k) (λ s. name_at s 3) front (name_bytes h.receiver) rest _
    (name_at_append front h.receiver rest))
    (rw (← length-opening h)
    (part_read (secured k) (λ s. session_at s (length (opening h))) (opening h) (session_bytes h.session) t _
    (session_at-append (opening h) h.session t)))

-- a part that is sent where it was read, if it was
part_sent :
    {A : Type 0} (b : Bool) (bytes : A → List ℕ) (x none : A) (n k : ℕ) (s : List ℕ)
    → (b ≡ true → bytes x ≡ take n (drop k s)) → cond b (bytes (cond b x none)) [] ≡ take (cond b n 0) (drop k s)
part_sent true bytes x none n k s e = e refl
part_sent false bytes x none n k s e = refl

append_equal : {x u y v : List ℕ} → x ≡ u → y ≡ v → x ++ y ≡ u ++ v
append_equal p q = rw (p, q)

take_parts : (s : List ℕ) (a b : ℕ) → take 3 s ++ take a (drop 3 s) ++ take b (drop (3 + a) s) ≡ take (3 + a + b) s
take_parts s a b = rw (take-add (3 + a) b s, take-add 3 a s)

module _ (s : List ℕ) (bytes : Bytes s) where
  pub session_bytes-session_at : (k : ℕ) → k + 6 ≤ length s → session_bytes (session_at s k) ≡ take 6 (drop k s)
  session_bytes-session_at k h =
      let low : four_at s k % 65536 ≡ two_at s k = omega (arith, bytes k, bytes (k + 1)) in
      let high : four_at s k / 65536 ≡ two_at s (k + 2) = omega (arith, bytes k, bytes (k + 1)) in
      rw (low, high, two_at-mod s bytes k, two_at-div s bytes k)
      (rw (two_at-mod s bytes (k + 2), two_at-div s bytes (k + 2), take-drop 6 s k h)
      (simp (add-one, add-two, add-four, add_five)))

  header_in_front :
      (k : HeaderKind) → get_or s 0 0 ≡ ci_of k → 3 ≤ length s → ci_of k ∷ get_or s 1 0 ∷ get_or s 2 0 ∷ [] ≡ take 3 s
  header_in_front k is h = rw (← is) (sym (take-drop 3 s 0 h))

  pub header_bytes-header_in :
      (k : HeaderKind) → get_or s 0 0 ≡ ci_of k → header_length k ≤ length s
      → header_bytes (header_in k s) ≡ take (header_length k) s
  header_bytes-header_in k is h =
      append_equal
      (append_equal (header_in_front k is (omega arith))
      (part_sent (addressed k) name_bytes (name_at s 3) _ 8 3 s
      (λ e. name_bytes_name_at s bytes 3 (omega (arith, session_place-addressed k e, session_place-le k)))))
      (part_sent (secured k) session_bytes (session_at s (session_place k)) _ 6 (session_place k) s
      (λ e. session_bytes-session_at (session_place k) (omega (arith, header_length-secured k e))))
      ∙ take_parts s (cond (addressed k) 8 0) (cond (secured k) 6 0)
