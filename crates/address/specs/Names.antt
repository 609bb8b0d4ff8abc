-- What a meter, or whoever else sends, is called (EN 13757-4:2019, 12.5.5, 12.5.6; byte order 12.2): M, two bytes, and
-- A, six bytes.
--     two_bytes x       x as two bytes, least significant first
--     two_at s k        the number in two bytes of s from place k on, least significant first
--     name_bytes n      M, then A as it stands
--     name_at s k       M and A from place k of s on
--     name_of s         M and A of the content s as they stand: its bytes 1 to 8
--     same_bytes a b    whether a and b are the same bytes
-- Not here: what A says of the meter.
use Rattle.std.specs.Prelude.{List, [], ◌∷◌, ◌++◌, Bool, true, false, ◌&&◌, ℕ, ◌+◌, ◌*◌, ◌/◌, ◌%◌, eqb, get_or, take, drop}
use Rattle.address.specs.declared.Name.{Name}

abbrev pub two_bytes : ℕ → List ℕ
two_bytes x = x % 256 ∷ x / 256 ∷ []

abbrev pub two_at : List ℕ → ℕ → ℕ
two_at s k = get_or s k 0 + 256 * get_or s (k + 1) 0

abbrev pub name_bytes : Name → List ℕ
name_bytes n = two_bytes n.m ++ (n.a.0 ∷ n.a.1 ∷ n.a.2 ∷ n.a.3 ∷ n.a.4 ∷ n.a.5 ∷ [])

abbrev pub name_at : List ℕ → ℕ → Name
name_at s k =
    record {
      m = two_at s k;
      a = (
        get_or s (k + 2) 0,
        get_or s (k + 3) 0,
        get_or s (k + 4) 0,
        get_or s (k + 5) 0,
        get_or s (k + 6) 0,
        get_or s (k + 7) 0,
      );
    }

abbrev pub name_of : List ℕ → List ℕ
name_of s = take 8 (drop 1 s)

unfoldable pub same_bytes : List ℕ → List ℕ → Bool
same_bytes [] [] = true
same_bytes [] (y ∷ b) = false
same_bytes (x ∷ a) [] = false
same_bytes (x ∷ a) (y ∷ b) = eqb x y && same_bytes a b
