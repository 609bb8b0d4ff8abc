-- The two frame formats as numbers (EN 13757-4:2019, 12.3, 12.4, 12.5.3; document 01, "Frames").
--     Form             what one format settles: n is the length of the content, l the length byte L
--     form_a, form_b     formats A and B
--     form_of f         the one that f names
--     spans_of f n      the lengths of the spans that L and n bytes of content are cut into, each with its own check
--     frame_size f n    bytes of the whole frame: L, content and checks
--     sizes z n         a frame of z bytes whose content has n
--     size_for f l      by the length byte: the frame's size and its content's length, or BadLength
-- Everything else in this crate is said once over f. Content of fewer than 10 bytes has no body (house), and
-- L 128 and 129 of format B would be an empty last block (house; 12.4's own two ranges of size leave them out too).
use Rattle.std.specs.Prelude.{Bool, cond, ◌&&◌, ◌||◌, List, ℕ, ◌+◌, ◌-◌, leb, Result, Ok, Err}
use Rattle.blocks.specs.Spans.{spans, size_of}
use Rattle.answers.specs.declared.Refusal.{Refusal}
use Rattle.frame.specs.declared.Format.{Format}
use Rattle.frame.specs.declared.Format.TheVariants.{A, B}
use Rattle.frame.specs.declared.Frame.{Frame}

pub record Form : Type 0 where
  -- the first check covers so many bytes, L included, or all if there are fewer; each later check so many
  pub first : ℕ
  pub later : ℕ
  -- least and greatest length of the content
  pub shortest : ℕ
  pub longest : ℕ
  -- L of a content of n bytes; which L are allowed; how long the content of an allowed L is
  pub length_byte : ℕ → ℕ
  pub allowed : ℕ → Bool
  pub content_length : ℕ → ℕ

abbrev pub within : ℕ → ℕ → ℕ → Bool
within low high x = leb low x && leb x high

-- 12.3, 12.5.3: block 1 is L and nine bytes, later blocks have 16, the last perhaps fewer; L counts no check
abbrev pub form_a : Form
form_a =
    record {
      first = 10;
      later = 16;
      shortest = 10;
      longest = 255;
      length_byte = λ n. n;
      allowed = within 10 255;
      content_length = λ l. l;
    }

-- 12.4, 12.5.3: one check over L and the first 125 bytes, one more over the rest, at most 126; L counts the checks
abbrev pub form_b : Form
form_b =
    record {
      first = 126;
      later = 126;
      shortest = 10;
      longest = 251;
      length_byte = λ n. cond (leb n 125) (n + 2) (n + 4);
      allowed = λ l. within 12 127 l || within 130 255 l;
      content_length = λ l. cond (leb l 127) (l - 2) (l - 4);
    }

abbrev pub form_of : Format → Form
form_of A = form_a
form_of B = form_b

abbrev pub spans_of : Format → ℕ → List ℕ
spans_of f n = spans (form_of f).first (form_of f).later (n + 1)

unfoldable pub frame_size : Format → ℕ → ℕ
frame_size f n = size_of (spans_of f n)

abbrev pub sizes : ℕ → ℕ → Frame
sizes z n = record { size = z; n = n }

abbrev pub size_for : Format → ℕ → Result Frame Refusal
size_for f l =
    cond ((form_of f).allowed l)
    (Ok (sizes (frame_size f ((form_of f).content_length l)) ((form_of f).content_length l)))
    (Err Refusal.BadLength)
