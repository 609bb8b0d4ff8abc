-- What a slice holds once bytes were copied into a part of it: `paste` of lib.Seq, n bytes from the start of a list put
-- at a place of another.
--     copied        a part that was lent and came back as these bytes
--     begun d s i   d with the first i bytes of s over its own
--     begun_next    one more byte, read where it stands
--     begun_more    bytes behind bytes that were copied
--     begun_all     all bytes, in two loops
--     copied_all, copied_part    what was copied over as many bytes is what stands there
-- Assumes nothing.
use mathlib.Core.List.{List, ◌++◌, append_assoc, append-nil}
use mathlib.Core.Path.{◌≡◌, refl, sym, ap, ◌∙◌}
use Prim.Native.Nat.{ℕ, zero, suc, ◌+◌, ◌-◌, ◌<◌, ◌≤◌}
use native.Mathlib.Nat.{zero-add, add-zero}
use native.Mathlib.Omega.{arith}
use borrow.Rule.Slice.PartMut.{put_mid}
use lib.ListN.{length, get_or, take, drop, set, length-drop, drop_of_length-le}
use lib.Seq.{paste, paste-zero, paste-suc, length-paste, length-take-le, drop-append-add, drop-drop, get_or-drop}
use Rattle.std.proofs.lemmas.List.Edits.{sets, paste_more, paste_all}
use Rattle.ground.proofs.StoresLaws.{sets_start}

pub copied : (d s : List ℕ) (at k : ℕ) {ys : List ℕ} → ys ≡ take k s → put_mid at k d ys ≡ paste d at s k
copied d s at k e = rw (e, drop-drop k at d) (sym (append_assoc (take at d) (take k s) (drop (at + k) d)))

-- the first i bytes of s stand over those of d
abbrev pub begun : List ℕ → List ℕ → ℕ → List ℕ
begun d s i = paste d 0 s i

pub begun_next : (d s : List ℕ) (i : ℕ) → i < length s → i < length d
    → set (begun d s i) i (get_or s i 0) ≡ begun d s (i + 1)
begun_next d s i hs hd =
    let here : 0 + i < length d = omega arith in
    ap (λ (at : ℕ). set (begun d s i) at (get_or s i 0)) (sym (zero-add i)) ∙ paste_more d 0 s i 0 here hs

pub begun_more : (d s : List ℕ) (i n : ℕ) → i + n ≤ length s → i + n ≤ length d
    → paste (begun d s i) i (drop i s) n ≡ begun d s (i + n)
begun_more d s i zero hs hd = sym (paste-zero (begun d s i) i (drop i s)) ∙ ap (begun d s) (sym (add-zero i))
begun_more d s i (suc n) hs hd =
    let e : i + n + 1 ≡ i + suc n = omega arith in
    let long = length-paste d 0 s i (omega arith) (omega arith) in
    sym (paste-suc (begun d s i) i (drop i s) n 0 (rw long (omega arith)) (omega (arith, length-drop i s)))
    ∙ ap (λ (x : List ℕ). set x (i + n) (get_or (drop i s) n 0)) (begun_more d s i n (omega arith) (omega arith))
    ∙ ap (set (begun d s (i + n)) (i + n)) (get_or-drop i s n 0)
    ∙ begun_next d s (i + n) (omega arith) (omega arith)
    ∙ ap (begun d s) e

-- behind what was copied all bytes stand as they stood
drop_begun : (d s : List ℕ) (i n : ℕ) → i ≤ n → i ≤ length s → drop n (begun d s i) ≡ drop n d
drop_begun d s i n most h =
    let size : length (take i s) + (n - i) ≡ n = omega (arith, length-take-le i s h) in
    let place : 0 + i + (n - i) ≡ n = omega arith in
    ap (λ (m : ℕ). drop m (begun d s i)) (sym size)
    ∙ drop-append-add (take i s) (drop (0 + i) d) (n - i)
    ∙ (drop-drop (n - i) (0 + i) d ∙ ap (λ (m : ℕ). drop m d) place)

pub begun_all : (d s : List ℕ) (i : ℕ) {l : List ℕ} → i ≤ length s → length s ≤ length d
    → l ≡ begun (begun d s i) s (length s) → l ≡ sets d 0 s
begun_all d s i few room is =
    let first = begun d s i in
    let behind : drop (0 + length s) first ≡ drop (length s) d
    = ap (λ (m : ℕ). drop m first) (zero-add (length s)) ∙ drop_begun d s i (length s) few few in
    is ∙ paste_all first 0 s (length s) refl ∙ ap (λ (t : List ℕ). s ++ t) behind ∙ sym (sets_start s d room)

-- as many bytes as the part has
pub copied_all : (d s : List ℕ) {l : List ℕ} → l ≡ sets d 0 s → length s ≡ length d → l ≡ s
copied_all d s is same =
    is ∙ sets_start s d (omega arith) ∙ ap (λ (t : List ℕ). s ++ t) (drop_of_length-le d (omega arith)) ∙ append-nil s

pub copied_part : (d s : List ℕ) (at k : ℕ) {l : List ℕ} → k ≤ length s → at + k ≤ length d
    → l ≡ sets (take k (drop at d)) 0 (take k s) → l ≡ take k s
copied_part d s at k hs hd is =
    copied_all (take k (drop at d)) (take k s) is
    (length-take-le k s hs ∙ sym (length-take-le k (drop at d) (omega (arith, length-drop at d))))
