-- What the page says of mending (specs/Demands `MendingPromise`): a frame that was written with its correction bytes,
-- and what was received of it.
--     one_wrong_byte, code_word_alone    what is proposed for a word
--     written_sent        the word that was written is a code word of its frame's size
--     written_taken       it is taken, where at most 16 bytes are wrong
--     taken-written       and no other with its length byte
--     written_mended      where at most k bytes behind the length byte are wrong, it is proposed, taken and read
--     written_long        what was written has all its bytes
--     one_byte_mended     so after a change of any one byte behind the length byte
--     some_bytes_mended   so after changes of any up to 16 bytes behind the length byte
--     mended_and_read, sixteen_and_read     the same of a frame that reading accepts
--     taken_or_none       what is proposed is taken, or it is no code word
-- Assumes nothing.
use mathlib.Core.List.{List, [], ◌++◌, append-nil, append_assoc}
use mathlib.Core.Logic.{◌⊎◌, inl, inr, ⊎_elim}
use mathlib.Core.Path.{◌≡◌, sym, ap, ap₂, subst, ◌∙◌}
use Prim.Native.Nat.{ℕ, ◌+◌, ◌-◌, ◌≤◌, ◌<◌}
use native.Mathlib.Omega.{arith}
use lib.ListN.{length, get_or, take, drop, set, length-append, length-set, get_or-append}
use lib.Seq.{take_at, length-take-le, get_or-take, get_or-set_other}
use Rattle.std.specs.Prelude.{Result, Ok, Err}
use Rattle.answers.specs.Outcome.{Outcome}
use Rattle.answers.specs.declared.Refusal.{Refusal}
use Rattle.ground.specs.Apart.{apart}
use Rattle.ground.specs.Bytes.{Bytes}
use Rattle.ground.proofs.ApartLaws.{apart_self, apart_comm, apart-set}
use Rattle.ground.proofs.ByteLaws.{bytes-append, bytes_take, bytes-set}
use Rattle.frame.specs.declared.Format.{Format}
use Rattle.frame.specs.Frames.{content_in, FrameAt}
use Rattle.frame.specs.Judging.{judge_of}
use Rattle.frame.specs.Reads.{reading_of}
use Rattle.frame.proofs.AcceptLaws.{size_for_frame, frame_some, judge_of_frame, judge_of-accepted, whole_frame}
use Rattle.frame.proofs.ReadLaws.{read-accepted}
use Rattle.frame.specs.Formats.{sizes}
use Rattle.codewords.specs.CodeBlocks.{CodeBlock}
use Rattle.codewords.specs.CheckBytes.{checks_of}
use Rattle.codewords.specs.Corrections.{header_of, corrected, correcting_of}
use Rattle.codewords.proofs.DivisionLaws.{length-checks_of, bytes-checks_of, checks_code}
use Rattle.codewords.proofs.OutcomeLaws.{correcting_done}
use Rattle.proposals.specs.Received.{received}
use Rattle.proposals.specs.Near.{Nearest}
use Rattle.proposals.specs.Proposals.{proposal_of, proposing_of}
use Rattle.proposals.proofs.NearestLaws.{near_self, nearest_only}
use Rattle.proposals.proofs.PlacedLaws.{placed, proposed_judged}
use Rattle.proposals.proofs.ReceivedLaws.{first-received, bytes-received, received-set}
use Rattle.proposals.proofs.WrittenLaws.{one_byte_near, Sent, word-proposed, word_taken, word_only}
use Rattle.demands.specs.MendedAgain.{MendedAgain}
use Rattle.demands.proofs.CorrectionPromiseLaws.{Put, read_alike, correcting_put, correcting_word}

-- ---- what is proposed for a word

pub one_wrong_byte :
    (c : List ℕ) (i b : ℕ) → Bytes c → length c ≤ 255 → CodeBlock c → 0 < i → (m : List ℕ) → Nearest 1 (set c i b) m
    → m ≡ c
one_wrong_byte c i b bytes most code behind m is =
    nearest_only 1 (set c i b) (omega arith) (rw (length-set c i b) most) m c is
    (inl (one_byte_near c i b bytes code behind))

pub code_word_alone :
    (c : List ℕ) → Bytes c → length c ≤ 255 → CodeBlock c → (m : List ℕ) → Nearest 1 c m → m ≡ c
code_word_alone c bytes most code m is = nearest_only 1 c (omega arith) most m c is (inl (near_self 1 c bytes code))

-- ---- a frame with its correction bytes

module _ (f : Format) (s d : List ℕ) (y : ℕ) (bytes : Bytes s)
    (h : (correcting_of f s d).answer ≡ Ok y) where
  abbrev put : Put s d (correcting_of f s d) (judge_of f s) y
  put = correcting_put f s d y h

  abbrev z : ℕ
  z = put.z

  -- the frame's bytes, and the word that was written
  abbrev w : List ℕ
  w = take z s

  abbrev c : List ℕ
  c = w ++ checks_of w

  abbrev content : List ℕ
  content = content_in f put.n s

  frame_there : FrameAt f s z content
  frame_there = whole_frame (judge_of-accepted f s put.frame)

  length_w : length w ≡ z
  length_w = length-take-le z s (judge_of-accepted f s put.frame).fits

  first_c : get_or c 0 0 ≡ get_or s 0 0
  first_c =
      get_or-append w (checks_of w) 0 0 (omega (arith, length_w, frame_some frame_there))
      ∙ get_or-take z s 0 0 (frame_some frame_there)

  pub written_sent : Sent f c z (length content)
  written_sent =
      let b = bytes_take z s bytes in
      record {
        bytes = bytes-append w (checks_of w) b (bytes-checks_of w b);
        code = checks_code w b;
        count = length-append w (checks_of w) ∙ ap₂ ◌+◌ length_w (length-checks_of w);
        size = rw first_c (size_for_frame frame_there);
        some = frame_some frame_there;
        most = put.most;
      }

  abbrev m : List ℕ
  m = (correcting_of f s d).memory

  -- said of any number that is z, and of any word that is c
  taken_at :
      (k : ℕ) (x r : List ℕ) → k ≡ z → x ≡ c → z + 34 ≤ length r → apart (received k r) x ≤ 16
      → proposal_of f x r ≡ Ok (apart (received k r) x)
  taken_at k x r ek ex there few =
      rw (ek, ex)
      (rw (append-nil c) at (word_taken written_sent r there (rw (ek, ex) at few) []))

  only_at :
      (k : ℕ) (x r p : List ℕ) (n : ℕ) → k ≡ z → x ≡ c → z + 34 ≤ length r → apart (received k r) x ≤ 16
      → Bytes p → get_or p 0 0 ≡ get_or s 0 0 → proposal_of f p r ≡ Ok n → take (k + 32) p ≡ x
  only_at k x r p n ek ex there few b same taken =
      rw (ek, ex) (word_only written_sent r there (rw (ek, ex) at few) p n b (same ∙ sym first_c) taken)

  size_is : y - 34 ≡ z
  size_is = omega (arith, put.size)

  word_is : received (y - 34) m ≡ c
  word_is = ap (λ (k : ℕ). received k m) size_is ∙ correcting_word f s d y h

  pub written_taken :
      (r : List ℕ) → y ≤ length r → apart (received (y - 34) r) (received (y - 34) m) ≤ 16
      → proposal_of f (received (y - 34) m) r
      ≡ Ok (apart (received (y - 34) r) (received (y - 34) m))
  written_taken r there few =
      taken_at (y - 34) (received (y - 34) m) r size_is word_is (omega (arith, put.size)) few

  pub taken-written :
      (r : List ℕ) → y ≤ length r → apart (received (y - 34) r) (received (y - 34) m) ≤ 16
      → (p : List ℕ) (n : ℕ) → Bytes p → get_or p 0 0 ≡ get_or s 0 0 → proposal_of f p r ≡ Ok n
      → take (y - 34 + 32) p ≡ received (y - 34) m
  taken-written r there few p n =
      only_at (y - 34) (received (y - 34) m) r p n size_is word_is (omega (arith, put.size)) few

  -- ---- what is proposed

  frame_in_lem : (t : List ℕ) → FrameAt f (c ++ t) z content
  frame_in_lem t =
      let at = frame_there in
      let front : take z (c ++ t) ≡ w =
      ap (take z) (append_assoc w (checks_of w) t) ∙ take_at w (checks_of w ++ t) z length_w in
      record { low = at.low; high = at.high; size = at.size; bytes = front ∙ at.bytes }

  module _ (k : ℕ) (low : k ≤ 16) (r : List ℕ) (there : z + 34 ≤ length r) (b : Bytes (received z r))
      (same : get_or r 0 0 ≡ get_or s 0 0) (few : apart (received z r) c ≤ k) (e : List ℕ)
      (room : z + 32 ≤ length e) where
    abbrev t : List ℕ
    t = drop (z + 32) e

    made : proposing_of k f r e ≡ record { answer = Ok (z + 32); memory = c ++ t }
    made = word-proposed written_sent r there k low b (same ∙ sym first_c) few e room

    -- what holds of the word that was written and t behind it, holds of what the proposer leaves
    of_memory : {A : Type 0} {a : A} (g : List ℕ → A) → g (c ++ t) ≡ a → g (proposing_of k f r e).memory ≡ a
    of_memory g is = ap (λ (o : Outcome (Result ℕ Refusal)). g o.memory) made ∙ is

    pub written_mended : MendedAgain k f s m r e z (apart (received z r) (received z m))
    written_mended =
        let word = correcting_word f s d y h in
        record {
          answer = ap (λ (o : Outcome (Result ℕ Refusal)). o.answer) made;
          word = of_memory (take (z + 32)) (take_at c t (z + 32) written_sent.count ∙ sym word);
          taken = of_memory (λ q. proposal_of f q r)
              (rw word (word_taken written_sent r there (omega arith) t));
          read = λ room. of_memory (λ q. reading_of f q room) (read_alike frame_there (frame_in_lem t) room);
        }

  -- ---- one byte changed

  pub written_long : z + 34 ≤ length m
  written_long =
      omega (
        arith,
        ap length put.memory,
        length-append (corrected w) (drop (z + 34) d),
        length-append w (header_of 1 ++ checks_of w),
        length-append (header_of 1) (checks_of w),
        length-checks_of w,
        length_w,
      )

  first_m : get_or m 0 0 ≡ get_or s 0 0
  first_m =
      sym (first-received m z written_long (frame_some frame_there))
      ∙ ap (λ (x : List ℕ). get_or x 0 0) (correcting_word f s d y h) ∙ first_c

  module _ (i b : ℕ) (behind : 1 ≤ i) (inside : i < z + 34) (byte : b < 256) where
    changed : ((received z (set m i b)) ≡ c) ⊎ ((j : ℕ) × (received z (set m i b) ≡ set c j b))
    changed =
        let word = correcting_word f s d y h in
        ⊎_elim (λ e. inl (e ∙ word)) (λ (j, e). inr (j, e ∙ ap (λ (x : List ℕ). set x j b) word))
        (received-set m z written_long i b inside)

    changed_bytes : Bytes (received z (set m i b))
    changed_bytes =
        let bc = written_sent.bytes in
        ⊎_elim (λ e. subst Bytes (sym e) bc) (λ (j, e). subst Bytes (sym e) (bytes-set c j b bc byte)) changed

    changed_few : apart (received z (set m i b)) c ≤ 1
    changed_few =
        ⊎_elim (λ e. rw e (omega (arith, apart_self c)))
        (λ (j, e). rw e (omega (arith, apart_comm (set c j b) c, apart-set c j b))) changed

    pub one_byte_mended : (e : List ℕ) → z + 32 ≤ length e
        → let differing = apart (received z (set m i b)) (received z m) in
        (differing ≤ 1) × MendedAgain 1 f s m (set m i b) e z differing
    one_byte_mended e room = (
      rw (correcting_word f s d y h) changed_few,
      written_mended 1 (omega arith) (set m i b) (rw (length-set m i b) written_long) changed_bytes
          (get_or-set_other m i 0 b 0 (λ e. omega arith) ∙ first_m) changed_few e room,
    )

  -- ---- any up to sixteen

  pub some_bytes_mended :
      (r : List ℕ) → Bytes r → z + 34 ≤ length r → get_or r 0 0 ≡ get_or m 0 0
      → apart (received z r) (received z m) ≤ 16 → (e : List ℕ) → z + 32 ≤ length e
      → MendedAgain 16 f s m r e z (apart (received z r) (received z m))
  some_bytes_mended r b there same few e room =
      written_mended 16 (omega arith) r there (bytes-received z r b) (same ∙ first_m)
      (rw (correcting_word f s d y h) at few) e room

-- the same of a frame that reading accepts
accepted-corrected :
    (f : Format) (s room : List ℕ) (z n : ℕ) → (reading_of f s room).answer ≡ Ok (sizes z n) → z ≤ 223
    → (lent : List ℕ) → z + 34 ≤ length lent → (correcting_of f s lent).answer ≡ Ok (z + 34)
accepted-corrected f s room z n accepted most lent there =
    let judged = judge_of_frame (read-accepted f s room accepted).frame in
    ap (λ (o : Outcome (Result ℕ Refusal)). o.answer) (correcting_done f s lent judged most there)

pub mended_and_read :
    (f : Format) (s room : List ℕ) (z n : ℕ) → Bytes s → (reading_of f s room).answer ≡ Ok (sizes z n) → z ≤ 223
    → (lent : List ℕ) → z + 34 ≤ length lent
    → let m = (correcting_of f s lent).memory in
    (i b : ℕ) → 1 ≤ i → i < z + 34 → b < 256 → (e : List ℕ) → z + 32 ≤ length e
    → let r = set m i b in
    let differing = apart (received z r) (received z m) in
    ((correcting_of f s lent).answer ≡ Ok (z + 34))
    × ((differing ≤ 1) × MendedAgain 1 f s m r e z differing)
mended_and_read f s room z n bytes accepted most lent there i b behind inside byte e fits =
    let h = accepted-corrected f s room z n accepted most lent there in
    let same : (correcting_put f s lent (z + 34) h).z ≡ z = omega (arith, (correcting_put f s lent (z + 34) h).size) in
    (h, rw same at (one_byte_mended f s lent (z + 34) bytes h i b behind (omega arith) byte e (omega arith)))

pub sixteen_and_read :
    (f : Format) (s room : List ℕ) (z n : ℕ) → Bytes s → (reading_of f s room).answer ≡ Ok (sizes z n) → z ≤ 223
    → (lent : List ℕ) → z + 34 ≤ length lent
    → let m = (correcting_of f s lent).memory in
    (r : List ℕ) → Bytes r → z + 34 ≤ length r → get_or r 0 0 ≡ get_or m 0 0
    → let differing = apart (received z r) (received z m) in
    differing ≤ 16 → (e : List ℕ) → z + 32 ≤ length e
    → ((correcting_of f s lent).answer ≡ Ok (z + 34)) × MendedAgain 16 f s m r e z differing
sixteen_and_read f s room z n bytes accepted most lent there r b long first few e fits =
    let h = accepted-corrected f s room z n accepted most lent there in
    let same : (correcting_put f s lent (z + 34) h).z ≡ z = omega (arith, (correcting_put f s lent (z + 34) h).size) in
    let mended = some_bytes_mended f s lent (z + 34) bytes h r b (rw same long) first (rw same few) e (rw same fits) in
    (h, rw same at mended)

-- ---- whatever was received

pub taken_or_none :
    (f : Format) (s d : List ℕ) (y : ℕ) → Bytes s → (proposing_of 16 f s d).answer ≡ Ok y
    → let p = (proposing_of 16 f s d).memory in
    ((k : ℕ) × ((k ≤ 16) × (proposal_of f p s ≡ Ok k)))
    ⊎ (proposal_of f p s ≡ Err Refusal.NotCode)
taken_or_none f s d y bytes h =
    let m = (proposing_of 16 f s d).memory in
    proposed_judged bytes (placed 16 f s d (ap (λ (a : Result ℕ Refusal). record { answer = a; memory = m }) (sym h)))
