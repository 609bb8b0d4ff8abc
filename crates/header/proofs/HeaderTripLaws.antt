-- Headers written and read, read and written (document 01, "Extended headers and names").
--     header_reading_of-header_bytes    a header's bytes are read as that header, whatever stands behind them
--     header_read_write     reading what was written gives the header, with zeros in the fields that its kind lacks
--     Starts s h n          the body s starts with the n bytes of the header h, whose absent fields are zero
--     header_reading_of_accepts    a body is accepted exactly then
--     header_write_read     writing what was read gives back the bytes
use mathlib.Core.List.{List, ◌++◌, append_assoc}
use mathlib.Core.Path.{◌≡◌, refl, ◌∙◌, ap, sym, subst}
use mathlib.Core.Logic.{◌↔◌}
use mathlib.Core.Bool.{Bool, true, false, cond}
use Prim.Native.Nat.{ℕ, ◌≤◌}
use native.Mathlib.Omega.{arith}
use borrow.Author.Tests.{le-ltb}
use lib.ListN.{length, get_or, take, drop, length-append, take-append-drop}
use Rattle.std.specs.Prelude.{Result, Ok}
use Rattle.answers.specs.Outcome.{leaving}
use Rattle.answers.specs.declared.Refusal.{Refusal}
use Rattle.ground.specs.Bytes.{Bytes}
use Rattle.header.specs.Layout.{addressed, secured, header_length, session_part, header_bytes}
use Rattle.header.specs.HeaderReads.{trimmed, header_in, header_reading_of}
use Rattle.header.specs.HeaderWrites.{header_writing_of}
use Rattle.header.specs.declared.layout.HeaderKind.{HeaderKind}
use Rattle.header.specs.declared.layout.Header.{Header}
use Rattle.header.proofs.LayoutLaws.{opening, length-header_bytes}
use Rattle.header.proofs.FieldLaws.{header_equal, header_in-opening, header_bytes-header_in}
use Rattle.header.proofs.HeaderReadsLaws.{header_reading_of_named, header_reading_as-le, header_kind_of_ci_of, header_kind_of_is, header_reading_of_whole}
use Rattle.header.proofs.HeaderWritesLaws.{header_writing_of-le}

header_in-header_bytes : (h : Header) (t : List ℕ) → header_in h.kind (header_bytes h ++ t) ≡ trimmed h
header_in-header_bytes h t =
    ap (header_in h.kind) (append_assoc (opening h) (session_part h.kind h.session) t) ∙ header_in-opening h t

header_length-append : (h : Header) (t : List ℕ) → header_length h.kind ≤ length (header_bytes h ++ t)
header_length-append h t = omega (arith, length-append (header_bytes h) t, length-header_bytes h)

pub header_reading_of-header_bytes :
    (h : Header) (t : List ℕ) → header_reading_of (header_bytes h ++ t) ≡ Ok (trimmed h, header_length h.kind)
header_reading_of-header_bytes h t =
    header_reading_of_named (header_bytes h ++ t) (λ e. omega arith) (header_kind_of_ci_of h.kind)
    ∙ header_reading_as-le (header_bytes h ++ t) h.kind (header_length-append h t)
    ∙ ap (λ (x : Header). let r : Result (Header × ℕ) Refusal = Ok (x, header_length h.kind) in r)
    (header_in-header_bytes h t)

pub header_read_write :
    (h : Header) (d : List ℕ) → header_length h.kind ≤ length d
    → header_reading_of (header_writing_of h d).memory ≡ Ok (trimmed h, header_length h.kind)
header_read_write h d fits =
    rw (le-ltb (length d) (header_length h.kind) fits)
    (header_reading_of-header_bytes h (drop (header_length h.kind) d))

pub record Starts (s : List ℕ) (h : Header) (n : ℕ) : Type 0 where
  pub shown : trimmed h ≡ h
  pub size : header_length h.kind ≡ n
  pub sent : take n s ≡ header_bytes h

cond_twice : {A : Type 0} (b : Bool) (x none : A) → cond b (cond b x none) none ≡ cond b x none
cond_twice true x none = refl
cond_twice false x none = refl

trimmed-header_in : (k : HeaderKind) (s : List ℕ) → trimmed (header_in k s) ≡ header_in k s
trimmed-header_in k s =
    header_equal k (get_or s 1 0) (get_or s 2 0) (cond_twice (addressed k) _ _) (cond_twice (secured k) _ _)

module _ (s : List ℕ) (bytes : Bytes s) (h : Header) (n : ℕ) where
  accepted_starts : header_reading_of s ≡ Ok (h, n) → Starts s h n
  accepted_starts e =
      let w = header_reading_of_whole s e in
      let k = w.kind in
      let ci = (header_kind_of_is (get_or s 0 0) k).0 w.named in
      subst (λ (x : Header). Starts s x n) w.header
      (subst (λ (m : ℕ). Starts s (header_in k s) m) w.size
      (record { shown = trimmed-header_in k s; size = refl; sent = sym (header_bytes-header_in s bytes k ci w.fits) }))

  starts_accepted : Starts s h n → header_reading_of s ≡ Ok (h, n)
  starts_accepted m =
      ap header_reading_of (sym (take-append-drop n s) ∙ ap (λ (b : List ℕ). b ++ drop n s) m.sent)
      ∙ header_reading_of-header_bytes h (drop n s) ∙ rw (m.shown, m.size)

  pub header_reading_of_accepts : header_reading_of s ≡ Ok (h, n) ↔ Starts s h n
  header_reading_of_accepts = (accepted_starts, starts_accepted)

  pub header_write_read :
      (d : List ℕ) → header_reading_of s ≡ Ok (h, n) → n ≤ length d
      → header_writing_of h d ≡ leaving (Ok n) (take n s ++ drop n d)
  header_write_read d e fits =
      let m = accepted_starts e in
      let room : header_length h.kind ≤ length d = omega (arith, m.size) in
      sym (header_writing_of-le h d room (sym m.size) (rw (m.sent, m.size)))
