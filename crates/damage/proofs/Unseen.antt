-- That the frames of specs/Frames show the limits of the promise: what each became is accepted, too.
--     passes               bit p came as it was sent, or lies in the window
--     damaged, burst       damage of two lists that antt has compared bit by bit
--     unseen               such damage between two frames that reading accepts
--     limits               all of it
--     unseen_not_always    where damage of a kind goes unseen, it is not always seen
--     unseen_wider         nor is any wider kind
-- Assumes nothing.
use mathlib.Core.Bool.{Bool, ◌&&◌, ◌||◌}
use mathlib.Core.List.{List, [], append-nil}
use mathlib.Core.Path.{◌≡◌, refl, sym, ap, subst}
use Prim.Native.Nat.{ℕ, ◌+◌, ◌*◌, ◌≤◌, ◌<◌}
use native.Mathlib.Omega.{arith}
use borrow.Author.Tests.{eqb-true}
use lib.Dec.{eqb, leb, ltb, T, leb→le, ltb→lt}
use lib.Ieee.Fits.{and_l, and_r}
use lib.ListN.{length, take, get_or}
use lib.Seq.{take_all}
use Rattle.std.specs.Prelude.{Result, Ok}
use Rattle.answers.specs.Outcome.{Outcome}
use Rattle.answers.specs.declared.Refusal.{Refusal}
use Rattle.ground.specs.Apart.{apart}
use Rattle.ground.specs.Bytes.{Bytes}
use Rattle.ground.proofs.CaseLaws.{by_test}
use Rattle.ground.proofs.TableLaws.{all_below, all_below_at, all_bytes}
use Rattle.crc.specs.Check.{bit_in, bits_in, byte_in, reg_of, check_of}
use Rattle.blocks.specs.Spans.{size_of, cut, block_ok, first_wrong, payload}
use Rattle.frame.specs.declared.Format.{Format}
use Rattle.frame.specs.declared.Format.TheVariants.{A, B}
use Rattle.frame.specs.declared.Frame.{Frame}
use Rattle.frame.specs.Formats.{frame_size, sizes}
use Rattle.frame.specs.Frames.{FrameAt, content_in}
use Rattle.frame.specs.Judging.{by_checks, by_length, judge_of}
use Rattle.frame.specs.Reads.{reading_of}
use Rattle.frame.proofs.AcceptLaws.{judge_of-accepted, whole_frame}
use Rattle.frame.proofs.ReadLaws.{read_accepts}
use Rattle.damage.specs.Damage.{bits_of, Inverted, Damaged, Burst, inverted, LengthStays, Few, Odd, Behind}
use Rattle.damage.specs.Seen.{AlwaysSeen, Unseen}
use Rattle.damage.specs.Frames as it
use Rattle.damage.specs.Promise.{Limits}
use Rattle.damage.proofs.BitsLaws.{pattern, length-pattern, inverted-pattern}
use Rattle.patterns.proofs.ZerosLaws.{inside}

-- ---- by counting

unfoldable pub passes : ℕ → ℕ → List ℕ → List ℕ → ℕ → Bool
passes w first u v p = eqb (get_or v p 0) (get_or u p 0) || (leb first p && ltb p (first + w))

passes_within :
    (w first : ℕ) (u v : List ℕ) (p : ℕ) → T (passes w first u v p) → (get_or v p 0 ≡ get_or u p 0 → ⊥)
    → (first ≤ p) × (p < first + w)
unfolding passes
passes_within w first u v p t differs =
    by_test (eqb (get_or v p 0) (get_or u p 0)) (λ e. absurd (differs (eqb-true (get_or v p 0) (get_or u p 0) e)))
    (λ e.
    let both : T (leb first p && ltb p (first + w)) =
    subst (λ (b : Bool). T (b || (leb first p && ltb p (first + w)))) e t in
    (leb→le first p (and_l (leb first p) _ both), ltb→lt p (first + w) (and_r (leb first p) _ both)))

pub burst_within :
    (old new : List ℕ) → length new ≡ length old → (w first : ℕ)
    → T (all_below (passes w first (bits_of old) (bits_of new)) (8 * length old))
    → (p : ℕ) → Inverted old new p → (first ≤ p) × (p < first + w)
burst_within old new count w first all p one =
    let there : p < length (pattern old new) = inside (pattern old new) p (inverted-pattern old new count p one) in
    passes_within w first (bits_of old) (bits_of new) p
    (all_below_at (passes w first (bits_of old) (bits_of new)) (8 * length old) all p
    (omega (arith, length-pattern old new count)))
    one

module _ (old new : List ℕ) (count : length new ≡ length old) (place : ℕ) (differs : Inverted old new place) where
  damaged : Damaged old new
  damaged = record { count = count; place = place; differs = differs }

  burst :
      (w first : ℕ) → T (all_below (passes w first (bits_of old) (bits_of new)) (8 * length old)) → Burst w old new
  burst w first all =
      record { damaged = damaged; first = first; within = burst_within old new count w first all }

-- whether all elements are bytes
abbrev pub are_bytes : List ℕ → Bool
are_bytes w = all_below (λ j. ltb (get_or w j 0) 256) (length w)

module _
    (f : Format) (kind : List ℕ → List ℕ → Type 0) (old new : List ℕ) (bo : T (are_bytes old)) (bn : T (are_bytes new))
    {n y m : ℕ} (sent : judge_of f old ≡ Ok (sizes (length old) n)) (came : judge_of f new ≡ Ok (sizes y m))
    (damage : kind old new) (differs : content_in f m new ≡ content_in f n old → ⊥) where
  unseen : Unseen f kind old new
  unseen =
      let frame = whole_frame (judge_of-accepted f new came) in
      record {
        damage = damage;
        rest = [];
        bytes = (all_bytes old bo, subst Bytes (sym (append-nil new)) (all_bytes new bn));
        content = content_in f n old;
        sent = whole_frame (judge_of-accepted f old sent);
        other = content_in f m new;
        size = y;
        came = subst (λ (t : List ℕ). FrameAt f t y (content_in f m new)) (sym (append-nil new)) frame;
        differs = differs;
      }

-- ---- the frames

other_byte : (k : ℕ) {s t : List ℕ} → (get_or s k 0 ≡ get_or t k 0 → ⊥) → s ≡ t → ⊥
other_byte k differs e = differs (ap (λ (x : List ℕ). get_or x k 0) e)

other_length : {s t : List ℕ} → (length s ≡ length t → ⊥) → s ≡ t → ⊥
other_length differs e = differs (ap length e)

-- so many bits within so many
abbrev Of : ℕ → ℕ → List ℕ → List ℕ → Type 0
Of w n old new = Burst w old new × Few n old new

abbrev InTwo : List ℕ → List ℕ → Type 0
InTwo old new = Burst 24 old new × (apart old new ≡ 2)

few_of :
    {w n : ℕ} {old new : List ℕ} → Burst w old new → inverted old new ≤ n → LengthStays old new
    → Behind (Of w n) old new
few_of b few stays = ((b, (b.damaged, few)), stays)

seventeen_a : Unseen A (Behind (Burst 17)) it.sent_a it.seventeen_a
unfolding judge_of by_length by_checks frame_size size_of cut first_wrong block_ok check_of reg_of byte_in bits_in
    bit_in content_in
    payload bits_of apart passes
seventeen_a =
    unseen A (Behind (Burst 17)) it.sent_a it.seventeen_a tt tt {n = 15} {m = 15} refl refl
    (burst it.sent_a it.seventeen_a refl 127 (λ e. omega arith) 17 127 tt, refl)
    (other_byte 12 (λ e. omega arith))

seventeen_b : Unseen B (Behind (Burst 17)) it.sent_b it.seventeen_b
unfolding judge_of by_length by_checks frame_size size_of cut first_wrong block_ok check_of reg_of byte_in bits_in
    bit_in content_in
    payload bits_of apart passes
seventeen_b =
    unseen B (Behind (Burst 17)) it.sent_b it.seventeen_b tt tt {n = 20} {m = 20} refl refl
    (burst it.sent_b it.seventeen_b refl 135 (λ e. omega arith) 17 135 tt, refl)
    (other_byte 15 (λ e. omega arith))

six_a : Unseen A (Behind (Of 23 6)) it.sent_a it.six_a
unfolding judge_of by_length by_checks frame_size size_of cut first_wrong block_ok check_of reg_of byte_in bits_in
    bit_in content_in
    payload bits_of apart passes
six_a =
    unseen A (Behind (Of 23 6)) it.sent_a it.six_a tt tt {n = 15} {m = 15} refl refl
    (few_of (burst it.sent_a it.six_a refl 121 (λ e. omega arith) 23 121 tt) (omega arith) refl)
    (other_byte 12 (λ e. omega arith))

six_b : Unseen B (Behind (Of 23 6)) it.sent_b it.six_b
unfolding judge_of by_length by_checks frame_size size_of cut first_wrong block_ok check_of reg_of byte_in bits_in
    bit_in content_in
    payload bits_of apart passes
six_b =
    unseen B (Behind (Of 23 6)) it.sent_b it.six_b tt tt {n = 20} {m = 20} refl refl
    (few_of (burst it.sent_b it.six_b refl 129 (λ e. omega arith) 23 129 tt) (omega arith) refl)
    (other_byte 15 (λ e. omega arith))

two_bytes_a : Unseen A (Behind InTwo) it.sent_a it.two_bytes_a
unfolding judge_of by_length by_checks frame_size size_of cut first_wrong block_ok check_of reg_of byte_in bits_in
    bit_in content_in
    payload bits_of apart passes
two_bytes_a =
    unseen A (Behind InTwo) it.sent_a it.two_bytes_a tt tt {n = 15} {m = 15} refl refl
    ((burst it.sent_a it.two_bytes_a refl 120 (λ e. omega arith) 24 120 tt, refl), refl)
    (other_byte 12 (λ e. omega arith))

two_bytes_b : Unseen B (Behind InTwo) it.sent_b it.two_bytes_b
unfolding judge_of by_length by_checks frame_size size_of cut first_wrong block_ok check_of reg_of byte_in bits_in
    bit_in content_in
    payload bits_of apart passes
two_bytes_b =
    unseen B (Behind InTwo) it.sent_b it.two_bytes_b tt tt {n = 20} {m = 20} refl refl
    ((burst it.sent_b it.two_bytes_b refl 128 (λ e. omega arith) 24 128 tt, refl), refl)
    (other_byte 15 (λ e. omega arith))

two_bits : Unseen B (Behind (Of 152 2)) it.sent_b it.two_bits
unfolding judge_of by_length by_checks frame_size size_of cut first_wrong block_ok check_of reg_of byte_in bits_in
    bit_in content_in
    payload bits_of apart passes
two_bits =
    unseen B (Behind (Of 152 2)) it.sent_b it.two_bits tt tt {n = 20} {m = 20} refl refl
    (few_of (burst it.sent_b it.two_bits refl 15 (λ e. omega arith) 152 15 tt) (omega arith) refl)
    (other_byte 0 (λ e. omega arith))

one_bit : Unseen B (Burst 1) it.sent_long it.one_bit
unfolding judge_of by_length by_checks frame_size size_of cut first_wrong block_ok check_of reg_of byte_in bits_in
    bit_in content_in
    payload bits_of apart passes
one_bit =
    unseen B (Burst 1) it.sent_long it.one_bit tt tt {n = 12} {m = 10} refl refl
    (burst it.sent_long it.one_bit refl 6 (λ e. omega arith) 1 6 tt)
    (other_length (λ e. omega arith))

odd_bits : Unseen A Odd it.sent_odd it.seven_bits
unfolding judge_of by_length by_checks frame_size size_of cut first_wrong block_ok check_of reg_of byte_in bits_in
    bit_in content_in
    payload bits_of apart passes
odd_bits =
    unseen A Odd it.sent_odd it.seven_bits tt tt {n = 12} {m = 10} refl refl
    (damaged it.sent_odd it.seven_bits refl 5 (λ e. omega arith), refl)
    (other_length (λ e. omega arith))

pub limits : Limits
limits =
    record {
      seventeen_bits = (seventeen_a, seventeen_b);
      six_bits = (six_a, six_b);
      two_bytes = (two_bytes_a, two_bytes_b);
      two_bits = two_bits;
      one_bit = one_bit;
      odd_bits = odd_bits;
    }

-- ---- what goes unseen is not always seen

pub unseen_not_always :
    (f : Format) (kind : List ℕ → List ℕ → Type 0) (old new : List ℕ) → Unseen f kind old new → AlwaysSeen f kind → ⊥
unseen_not_always f kind old new u always =
    let d = u.content in
    let whole : take (length old) old ≡ old = take_all (length old) old (omega arith) in
    let accepted : (reading_of f old d).answer ≡ Ok (sizes (length old) (length d)) =
    ap (λ (o : Outcome (Result Frame Refusal)). o.answer) (read_accepts u.sent d (omega arith)) in
    let seen = always old d (length old) (length d) u.bytes.0 accepted new u.rest u.bytes.1
    (subst (λ (x : List ℕ). kind x new) (sym whole) u.damage) in
    seen.no_frame u.size u.other u.came

-- what goes unseen of a kind goes unseen of every wider one
pub unseen_wider :
    (f : Format) (kind wide : List ℕ → List ℕ → Type 0) (old new : List ℕ) → (kind old new → wide old new)
    → Unseen f kind old new → AlwaysSeen f wide → ⊥
unseen_wider f kind wide old new widen u =
    unseen_not_always f wide old new
    (record {
      damage = widen u.damage;
      rest = u.rest;
      bytes = u.bytes;
      content = u.content;
      sent = u.sent;
      other = u.other;
      size = u.size;
      came = u.came;
      differs = u.differs;
    })

pub burst_wider : {w v : ℕ} {old new : List ℕ} → w ≤ v → Burst w old new → Burst v old new
burst_wider le b =
    record {
      damaged = b.damaged;
      first = b.first;
      within = λ p one. let at = b.within p one in (at.0, omega (arith, at.1));
    }
