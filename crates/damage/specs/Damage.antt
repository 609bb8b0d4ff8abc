-- Damage of a frame (document 02, 13/14: "invert at least one bit, .. of the frame (highest bit of a byte first)"). A
-- frame is the bytes `old` as they were sent, and `new` as they came.
--     places               the places of a byte's bits in the order in which they are counted, the highest first
--     bits_of s             the bits of the bytes s, first byte first
--     Inverted old new p   bit p came inverted, the frame's first bit counted as 0
--     Damaged old new      as many bytes came as were sent, and at least one bit of them came inverted
--     Burst w old new      they are damaged, and all inverted bits lie within w consecutive bits
--     inverted old new     how many bits came inverted
--     Few m old new        they are damaged, with at most m inverted bits
--     Odd old new          they are damaged, with an odd number of inverted bits
--     LengthStays old new  the length byte came as it was sent
--     Behind kind          damage of this kind, the length byte not among the changed
--     InSome kind ks       there is a block whose bytes have damage of this kind, where the frame has the spans ks; the
--                          others may have any
--     InBlock f kind       so it is in a frame of format f, whose length byte says which spans it has
--     first_damaged b ks old new    the first block that has a byte that differs, the first one counted as b
use Rattle.std.specs.Prelude.{cond, List, [], ◌∷◌, ◌++◌, map, ◌⊎◌, ◌≡◌, ℕ, ◌+◌, ◌/◌, ◌%◌, ◌^◌, ◌≤◌, ◌<◌, eqb, length, get_or, take, drop}
use Rattle.ground.specs.Apart.{apart}
use Rattle.frame.specs.declared.Format.{Format}
use Rattle.frame.specs.Formats.{form_of, spans_of}

abbrev pub places : List ℕ
places = 7 ∷ 6 ∷ 5 ∷ 4 ∷ 3 ∷ 2 ∷ 1 ∷ 0 ∷ []

unfoldable pub bits_of : List ℕ → List ℕ
bits_of [] = []
bits_of (b ∷ s) = map (λ k. b / 2 ^ k % 2) places ++ bits_of s

abbrev pub Inverted : List ℕ → List ℕ → ℕ → Type 0
Inverted old new p = get_or (bits_of new) p 0 ≡ get_or (bits_of old) p 0 → ⊥

pub record Damaged (old new : List ℕ) : Type 0 where
  pub count : length new ≡ length old
  pub place : ℕ
  pub differs : Inverted old new place

pub record Burst (w : ℕ) (old new : List ℕ) : Type 0 where
  pub damaged : Damaged old new
  pub first : ℕ
  pub within : (p : ℕ) → Inverted old new p → (first ≤ p) × (p < first + w)

abbrev pub inverted : List ℕ → List ℕ → ℕ
inverted old new = apart (bits_of old) (bits_of new)

abbrev pub Few : ℕ → List ℕ → List ℕ → Type 0
Few m old new = Damaged old new × (inverted old new ≤ m)

abbrev pub Odd : List ℕ → List ℕ → Type 0
Odd old new = Damaged old new × (inverted old new % 2 ≡ 1)

abbrev pub LengthStays : List ℕ → List ℕ → Type 0
LengthStays old new = get_or new 0 0 ≡ get_or old 0 0

abbrev pub Behind : (List ℕ → List ℕ → Type 0) → List ℕ → List ℕ → Type 0
Behind kind old new = kind old new × LengthStays old new

abbrev pub InSome : (List ℕ → List ℕ → Type 0) → List ℕ → List ℕ → List ℕ → Type 0
InSome kind [] old new = ⊥
InSome kind (k ∷ ks) old new =
    kind (take (k + 2) old) (take (k + 2) new) ⊎ InSome kind ks (drop (k + 2) old) (drop (k + 2) new)

pub record InBlock (f : Format) (kind : List ℕ → List ℕ → Type 0) (old new : List ℕ) : Type 0 where
  pub count : length new ≡ length old
  pub block : InSome kind (spans_of f ((form_of f).content_length (get_or old 0 0))) old new

unfoldable pub first_damaged : ℕ → List ℕ → List ℕ → List ℕ → ℕ
first_damaged b [] old new = b
first_damaged b (k ∷ ks) old new =
    cond (eqb (apart (take (k + 2) old) (take (k + 2) new)) 0)
    (first_damaged (b + 1) ks (drop (k + 2) old) (drop (k + 2) new))
    b
