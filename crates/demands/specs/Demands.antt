-- The page of demands: each demand of the customer as one statement over the definitions. The proofs stand in
-- proofs/Demands, one for each record.
--
-- How to read it: each public function is proved to answer what its definition in a crate's specs/ says, for every
-- input, and no entry point relies on its caller. In demand 1 the comment `by` above a field lists the functions whose
-- contract is an equation with the definition that the field speaks of; for those that C calls, with that definition
-- told as a number and a row (kusikhut/specs/Told, Calls). In the crate `entry` calls have the page's own words as
-- contracts. The definitions are functions of all lists and numbers, so every input has one answer, and what is said
-- here of a definition holds for every run of the function; docs/SETTLED.md says what that rests on.
use Rattle.std.specs.Prelude.{true, false, cond, List, [], ◌∷◌, ◌++◌, map, ◌↔◌, ◌⊎◌, ◌≡◌, ℕ, ◌+◌, ◌-◌, ◌*◌, ◌/◌, ◌%◌, ◌≤◌, ◌<◌, ltb, length, get_or, take, drop, set, replicate, Result, Ok, Err, Option, Some, None, slice_get}
use Rattle.std.specs.Borrow.{Bor}
use Rattle.std.specs.Int.Bits.{bit_xor}
use Rattle.std.specs.Float.Ieee.Exact.{HasValue}
use Rattle.answers.specs.declared.Refusal.{Refusal}
use Rattle.answers.specs.Outcome.{Outcome, leaving}
use Rattle.answers.specs.Refusals.{number_of, value_of}
use Rattle.ground.specs.Apart.{apart}
use Rattle.ground.specs.Bytes.{Bytes}
use Rattle.chips.specs.Chips.{chip_at, room_limit}
use Rattle.chips.specs.Packing.{tabulate}
use Rattle.line.specs.declared.codes.Code.{Code}
use Rattle.line.specs.Codes.{code_of, chips_in}
use Rattle.line.specs.Decoding.{decoded}
use Rattle.line.specs.Encoding.{encoded, encoded_size}
use Rattle.line.specs.OneWord.{word_read}
use Rattle.chipreader.specs.declared.Place.{Place}
use Rattle.chipreader.specs.declared.ChipReader.{ChipReader}
use Rattle.chipreader.specs.Steps.{start_of, step_of, reader_at, reader_after}
use Rattle.sync.specs.declared.Kind.{Kind}
use Rattle.sync.specs.Kinds.{lead_of}
use Rattle.sync.specs.SyncSearch.{search_of, found}
use Rattle.sync.specs.Tails.{tail_of}
use Rattle.crc.specs.Check.{check_of}
use Rattle.crc.specs.CheckUpdate.{updating, Mends}
use Rattle.frame.specs.declared.Format.{Format}
use Rattle.frame.specs.Formats.{form_of, frame_size, size_for, sizes}
use Rattle.frame.specs.Judging.{judge_of}
use Rattle.frame.specs.Reads.{reading_of, Handed}
use Rattle.frame.specs.Writes.{writing_of}
use Rattle.frame.specs.Changes.{changing_of, Edit, changing, answers_of, edited, last_at, place_of, check_place_of}
use Rattle.damage.specs.Seen.{AlwaysSeen, Unseen}
use Rattle.damage.specs.Promise.{BurstsSeen, FewBitsSeen, OneBlockSeen, BlockNamed, Limits}
use Rattle.radio.specs.KindParts.{format_of}
use Rattle.radio.specs.Receiving.{reception_of, manchester_of, reception}
use Rattle.radio.specs.Sending.{sending_of, air_size, sent_chips, SentAt}
use Rattle.radio.specs.Heard.{searched, receiving_of, first_try, Heard, heard_of}
use Rattle.airdamage.specs.ChipDamage.{ChipBurst, NeverSent, ChipsSeen}
use Rattle.header.specs.declared.layout.Header.{Header}
use Rattle.header.specs.AccessBits.{access_of, access_row}
use Rattle.header.specs.Layout.{addressed, header_length}
use Rattle.header.specs.HeaderReads.{fields_of, trimmed, header_reading_of}
use Rattle.header.specs.HeaderWrites.{header_writing_of}
use Rattle.address.specs.declared.Reach.{Reach}
use Rattle.address.specs.Makers.{maker_of}
use Rattle.address.specs.Names.{two_at, name_of}
use Rattle.filter.specs.Listed.{verdict_of}
use Rattle.modes.specs.declared.Mode.{Mode}
use Rattle.modes.specs.Tables.{mode_number, format_number}
use Rattle.address.specs.Keys.{key_bytes, key_at}
use Rattle.sessions.specs.declared.Meter.{Meter}
use Rattle.sessions.specs.Meters.{Store}
use Rattle.sessions.specs.Changes.{empty_store, with_meter}
use Rattle.sessions.specs.StoreFile.{mark_of, bytes_of, version_one, file_of}
use Rattle.sessions.specs.StoreCalls.{emptying, adding, adding_by, hearing_in, issuing, restoring, writing_store, looking_up, allowance_in, setting_allowance}
use Rattle.sessions.specs.Valid.{Valid, Within, IsFile}
use Rattle.sessions.specs.History.{Call, InRanges, after_all, NoneHeld, Running, Restored}
use Rattle.codewords.specs.CodeBlocks.{CodeBlock, Corrects}
use Rattle.codewords.specs.CheckBytes.{checks_of}
use Rattle.codewords.specs.Corrections.{correcting_of, checking_of, announced_of}
use Rattle.proposals.specs.Received.{received}
use Rattle.proposals.specs.Near.{Near, Nearest}
use Rattle.proposals.specs.Sixteen.{MendsSixteen}
use Rattle.proposals.specs.Proposals.{proposal_of, proposing_of}
use Rattle.proposals.specs.TakenWith.{TakenWith}
use Rattle.channels.specs.declared.listing.Band.{Band}
use Rattle.channels.specs.Table21.{entry_of, channels_of, quarters_of}
use Rattle.channels.specs.Plan.{float, row_of, centre_of}
use Rattle.channels.specs.Listing.{band_of, rows_of, lines_from, lines_of, line_at, channel_line}
use Rattle.kusikhut.specs.Told.{Told, told, tells, told_number, told_decoded, told_size, told_frame, told_sync, told_header, told_maker, told_verdict, told_lookup, told_line, told_centre, told_reception, told_announced, kind_number, reach_number}
use Rattle.demands.specs.Rules.{Judged, JudgedLent}
use Rattle.demands.specs.Cases.{InUse, Spells}
use Rattle.demands.specs.TopBit.{top_turned}
use Rattle.demands.specs.Ladders as rule
use Rattle.demands.specs.StoreAfter.{Puts, Restores}
use Rattle.demands.specs.StoreLadders as store
use Rattle.demands.specs.CorrectionLadders as correction
use Rattle.demands.specs.MendingLadders as mending
use Rattle.demands.specs.MendedAgain.{MendedAgain}
use Rattle.demands.specs.Touched.{Touched}

-- Demand 1. Every call answers, whatever it is given, even an empty buffer. Bad input is refused with a number, always
-- the first that applies: each number is given exactly in its case, with its value, and a refused call changes no byte
-- of the buffer that it was lent for its output. What a call answers otherwise is said too. The ladders say in which
-- order the cases are judged (specs/Ladders, StoreLadders, CorrectionLadders, MendingLadders), and specs/Cases,
-- StoreCases and CorrectionCases what each case means.
--
-- Chips: line codes, chip reader, search.
pub record ChipNumbers : Type 0 where
  -- by line::decode, kusikhut_decode_nrz, kusikhut_decode_three_of_six, kusikhut_decode_manchester
  pub decoding :
      (code : Code) (s : List ℕ) (start n : ℕ) (d : List ℕ)
      → JudgedLent Err d (rule.decode_rule (code_of code) s start n d) (decoded (code_of code) s start n d)
  -- by line::encode, kusikhut_encode_nrz, kusikhut_encode_three_of_six, kusikhut_encode_manchester
  pub encoding :
      (code : Code) (s d : List ℕ)
      → JudgedLent Err d (rule.encode_rule (code_of code) s d) (encoded (code_of code) s d)
  -- by line::word_at, kusikhut_word_nrz, kusikhut_word_three_of_six, kusikhut_word_manchester
  pub one_word :
      (code : Code) (s : List ℕ) (at : ℕ)
      → Judged Err (rule.word_rule (code_of code) s at) (word_read (code_of code) s at)
  -- by chipreader::Place::start
  pub making_a_reader :
      (s : List ℕ) (at : ℕ)
      → Judged (λ r. record { at = 0; answer = Some (Err r) }) (rule.reader_rule s at) (start_of s at)
  -- by chipreader::Place::step, chipreader::first
  pub reading_a_word :
      (code : Code) (s : List ℕ) (p : Place)
      → Judged (λ r. record { at = p.at; answer = Some (Err r) }) (rule.step_rule (code_of code) s p)
      (step_of (code_of code) s p)
  -- by chipreader::ChipReader::new
  pub keeping_the_chips :
      (s : Bor (List ℕ)) (at : ℕ)
      → let r = reader_at s (start_of s.now at) in
      (r.chips ≡ s) × (r.place ≡ start_of s.now at)
  -- by chipreader::ChipReader::next
  pub keeping_its_place :
      (code : Code) (r : ChipReader)
      → ((reader_after (code_of code) r).chips ≡ r.chips)
      × ((reader_after (code_of code) r).place ≡ step_of (code_of code) r.chips.now r.place)
  -- by sync::search, kusikhut_search
  pub searching : (s : List ℕ) (start a : ℕ) → Judged Err (rule.search_rule s start a) (search_of s start a)
  -- by sync::tail_at
  pub sync_tail : (s : List ℕ) (place : ℕ) → Judged Err (rule.tail_rule s place) (tail_of s place)

-- Frames, in bytes and in chips, and the check update.
pub record FrameNumbers : Type 0 where
  -- by crc::update, kusikhut_update
  pub updating_a_check :
      (c old new k : ℕ) → Judged Err (rule.update_rule c old new k) (updating c old new k)
  -- by frame::Format::frame_size, frame::FormatA::frame_size, frame::FormatB::frame_size, kusikhut_frame_size_a,
  -- kusikhut_frame_size_b
  pub frame_size_is : (f : Format) (l : ℕ) → Judged Err (rule.size_rule f l) (size_for f l)
  -- by frame::judge
  pub judging : (f : Format) (s : List ℕ) → Judged Err (rule.judge_rule f s) (judge_of f s)
  -- by frame::read, kusikhut_read_a, kusikhut_read_b
  pub reading : (f : Format) (s d : List ℕ) → JudgedLent Err d (rule.read_rule f s d) (reading_of f s d)
  -- by frame::write, kusikhut_write_a, kusikhut_write_b
  pub writing : (f : Format) (c d : List ℕ) → JudgedLent Err d (rule.write_rule f c d) (writing_of f c d)
  -- by frame::change, kusikhut_change_a, kusikhut_change_b
  pub changing_a_byte :
      (f : Format) (s : List ℕ) (k b : ℕ)
      → JudgedLent Err s (rule.change_rule f s k b) (changing_of f s k b)
  -- by radio::receive, kusikhut_receive
  pub receiving :
      (s : List ℕ) (start a : ℕ) (d : List ℕ)
      → JudgedLent Err d (rule.receive_rule s start a d) (reception_of s start a d)
  -- by radio::receive_manchester, kusikhut_receive_manchester
  pub receiving_manchester :
      (s : List ℕ) (start : ℕ) (d : List ℕ)
      → JudgedLent Err d (rule.manchester_rule s start d) (manchester_of s start d)
  -- by radio::send, kusikhut_send_t_a, kusikhut_send_c_a, kusikhut_send_c_b, kusikhut_send_manchester_a
  pub sending : (k : Kind) (c d : List ℕ) → JudgedLent Err d (rule.send_rule k c d) (sending_of k c d)

-- Headers, meter filter, channels.
pub record MeterNumbers : Type 0 where
  -- by header::read, kusikhut_header_read
  pub reading_a_header : (s : List ℕ) → Judged Err (rule.header_read_rule s) (header_reading_of s)
  -- by header::write, kusikhut_header_write_8c, kusikhut_header_write_8d, kusikhut_header_write_8e,
  -- kusikhut_header_write_8f
  pub writing_a_header :
      (h : Header) (d : List ℕ) → JudgedLent Err d (rule.header_write_rule h d) (header_writing_of h d)
  -- (sixteen entries: the array's type)
  -- by filter::wanted, kusikhut_filter
  pub filtering :
      (es : List (List ℕ)) (n : ℕ) (s : List ℕ) → length es ≡ 16
      → Judged Err (rule.filter_rule es n s) (verdict_of es n s)
  -- by channels::centre_of, kusikhut_centre
  pub no_channel : (i c : ℕ) → (told_centre (centre_of i c) ≡ told 13 (float 0 ∷ [])) ↔ (channels_of i ≤ c)
  -- by channels::centre_of, kusikhut_centre
  pub a_channel :
      (i c : ℕ) → (told_centre (centre_of i c) ≡ told 0 (float (quarters_of i c) ∷ [])) ↔ (c < channels_of i)
  -- by channels::centre_of, kusikhut_centre
  pub exact_centre :
      (i c : ℕ) → c < channels_of i
      → (centre_of i c ≡ Some (float (quarters_of i c)))
      × HasValue (float (quarters_of i c)) false (quarters_of i c) 4
  -- by channels::line_at, kusikhut_band_line
  pub no_line :
      (b : Option Band) (k : ℕ) → (told_line (line_at b k) ≡ told 13 (0 ∷ 0 ∷ 0 ∷ [])) ↔ (length (lines_of b) ≤ k)
  -- by channels::line_at, kusikhut_band_line
  pub a_line :
      (b : Option Band) (k i c h : ℕ)
      → (told_line (line_at b k) ≡ told 0 (i ∷ c ∷ h ∷ [])) ↔ (slice_get (lines_of b) k ≡ Some (channel_line i c h))
  -- (index then channel ascending, in hertz: the first index's channels in their order, then the next index)
  -- by channels::line_at, kusikhut_band_line
  pub line_order :
      ((b : Option Band) (k : ℕ) → line_at b k ≡ slice_get (lines_from (rows_of b).first (rows_of b).count) k)
      × ((i n k : ℕ) → 0 < n
      → (k < channels_of i → slice_get (lines_from i n) k ≡ Some (channel_line i k (250 * quarters_of i k)))
      × (channels_of i ≤ k
      → slice_get (lines_from i n) k ≡ slice_get (lines_from (i + 1) (n - 1)) (k - channels_of i)))
  -- by channels::line_at, kusikhut_band_line
  pub band_b :
      (line_at (Some Band.B) 0 ≡ Some (channel_line 5 0 169481250))
      × ((line_at (Some Band.B) 1 ≡ Some (channel_line 6 0 169481250)) × (line_at (Some Band.B) 2 ≡ None))
  -- by channels::band_of
  pub no_band :
      (s : List ℕ)
      → (band_of s ≡ None)
      ↔ ((x : ℕ) → 65 ≤ x → x ≤ 68 → ((s ≡ x ∷ []) ⊎ (s ≡ x ∷ 10 ∷ [])) → ⊥)
  -- by channels::band_of
  pub a_band :
      map band_of ((65 ∷ []) ∷ (66 ∷ []) ∷ (67 ∷ []) ∷ (68 ∷ []) ∷ [])
      ≡ Some Band.A ∷ Some Band.B ∷ Some Band.C ∷ Some Band.D ∷ []
  -- by channels::band_of
  pub with_a_line_feed : (x : ℕ) → band_of (x ∷ 10 ∷ []) ≡ band_of (x ∷ [])

-- The settings store (document 02, 9/14), in memory that the caller owns and lends to each call. Memory and files are
-- bytes. A meter is named by a number, a: M and A as received (`as_received` below).
pub record StoreNumbers : Type 0 where
  -- by store::empty, kusikhut_store_empty
  pub making_a_store : (s : List ℕ) → JudgedLent Err s (store.empty_rule s) (emptying s)
  -- by store::add
  pub adding_a_meter :
      (s : List ℕ) → Bytes s → (a : ℕ) (mode : Mode) (format : Format)
      → JudgedLent Err s (store.add_rule a mode format s) (adding a mode format s)
  -- by store::add_by_number, kusikhut_store_add
  pub adding_by_numbers :
      (s : List ℕ) → Bytes s → (a k j : ℕ)
      → JudgedLent Err s (store.add_by_rule a k j s) (adding_by a k j s)
  -- by store::hear, kusikhut_store_hear
  pub hearing_a_number :
      (s : List ℕ) → Bytes s → (a n : ℕ) → JudgedLent Err s (store.hear_rule a n s) (hearing_in a n s)
  -- by store::issue, kusikhut_store_issue
  pub issuing_a_number :
      (s : List ℕ) → Bytes s → (a : ℕ) → JudgedLent Err s (store.issue_rule a s) (issuing a s)
  -- by store::restore, kusikhut_store_restore
  pub restoring_a_file :
      (s : List ℕ) → Bytes s → (f : List ℕ) → Bytes f
      → JudgedLent Err s (store.restore_rule f s) (restoring f s)
  -- by store::write, kusikhut_store_write
  pub writing_a_file :
      (s : List ℕ) → Bytes s → (d : List ℕ)
      → JudgedLent Err d (store.write_store_rule s d) (writing_store s d)
  -- by store::look_up, kusikhut_store_look_up
  pub looking_up_a_meter :
      (s : List ℕ) → Bytes s → (a : ℕ) → Judged Err (store.look_up_rule a s) (looking_up a s)
  -- by store::allowance, kusikhut_store_allowance
  pub asking_the_allowance : (s : List ℕ) → Bytes s → Judged Err (store.allowance_rule s) (allowance_in s)
  -- by store::set_allowance, kusikhut_store_set_allowance
  pub setting_the_allowance :
      (s : List ℕ) → Bytes s → (n : ℕ)
      → JudgedLent Err s (store.set_allowance_rule n s) (setting_allowance n s)

-- Correction bytes (document 02, 11/14). Frames and other words are bytes.
pub record CorrectionNumbers : Type 0 where
  -- by correction::write, kusikhut_correction_write_a, kusikhut_correction_write_b
  pub writing_a_correction :
      (f : Format) (s : List ℕ) → Bytes s → (d : List ℕ)
      → JudgedLent Err d (correction.write_rule f s d) (correcting_of f s d)
  -- by correction::check_bytes, kusikhut_correction_check_bytes
  pub check_bytes_alone :
      (w : List ℕ) → Bytes w → (d : List ℕ)
      → JudgedLent Err d (correction.check_bytes_rule w d) (checking_of w d)
  -- by correction::announced, kusikhut_correction_header
  pub reading_the_header : (s : List ℕ) → Judged Err (correction.announce_rule s) (announced_of s)

-- Proposals for received words (document 02, 12/14). A proposal that is judged is bytes; so is what one is made for.
pub record MendingNumbers : Type 0 where
  -- by mending::judge, kusikhut_mending_judge_a, kusikhut_mending_judge_b
  pub judging_a_proposal :
      (f : Format) (p : List ℕ) → Bytes p → (s : List ℕ)
      → Judged Err (mending.judge_rule f p s) (proposal_of f p s)
  -- by mending::propose_one, kusikhut_mending_propose_one_a, kusikhut_mending_propose_one_b
  pub proposing_for_one_byte :
      (f : Format) (s : List ℕ) → Bytes s → (d : List ℕ)
      → JudgedLent Err d (mending.propose_rule 1 f s d) (proposing_of 1 f s d)
  -- by mending::propose, kusikhut_mending_propose_a, kusikhut_mending_propose_b
  pub proposing_for_sixteen_bytes :
      (f : Format) (s : List ℕ) → Bytes s → (d : List ℕ)
      → JudgedLent Err d (mending.propose_rule 16 f s d) (proposing_of 16 f s d)

-- Calls that are never refused.
pub record Plain : Type 0 where
  -- by crc::check, kusikhut_check
  pub checking : (s : List ℕ) → check_of s < 65536
  -- by crc::check, kusikhut_check
  pub check_vector : check_of (0x31 ∷ 0x32 ∷ 0x33 ∷ 0x34 ∷ 0x35 ∷ 0x36 ∷ 0x37 ∷ 0x38 ∷ 0x39 ∷ []) ≡ 0xC2B7
  -- by address::maker_of, kusikhut_maker
  pub letters : (m x y z : ℕ) → ((maker_of m).spelled ≡ Some (x, y, z)) ↔ Spells m x y z
  -- by address::maker_of, kusikhut_maker
  pub hard_or_soft :
      (m : ℕ) → m < 65536
      → (((maker_of m).reach ≡ Reach.Hard) ↔ (m < 32768)) × (((maker_of m).reach ≡ Reach.Soft) ↔ (32768 ≤ m))
  -- by header::announced, kusikhut_access
  pub access : (cc : ℕ) → access_row (access_of cc) ≡ 2 * (cc / 128 % 2) + cc / 4 % 2
  -- by channels::row_at, kusikhut_row
  pub channel_row :
      (i : ℕ)
      → HasValue (row_of i).centre false (entry_of i).centre 4
      × (HasValue (row_of i).spacing false (entry_of i).spacing 4
      × HasValue (row_of i).tolerance false (entry_of i).tolerance 4)
  -- by channels::channels_of
  pub channels :
      (tabulate channels_of 14 ≡ 0 ∷ 6 ∷ 6 ∷ 6 ∷ 1 ∷ 1 ∷ 1 ∷ 8 ∷ 8 ∷ 8 ∷ 18 ∷ 18 ∷ 18 ∷ 4 ∷ [])
      × ((i : ℕ) → 14 ≤ i → channels_of i ≡ 0)
  -- by channels::rows_of
  pub band_rows :
      map (λ (b : Option Band). (rows_of b).first ∷ (rows_of b).count ∷ [])
      (Some Band.A ∷ Some Band.B ∷ Some Band.C ∷ Some Band.D ∷ None ∷ [])
      ≡ (1 ∷ 4 ∷ []) ∷ (5 ∷ 2 ∷ []) ∷ (7 ∷ 3 ∷ []) ∷ (10 ∷ 4 ∷ []) ∷ (0 ∷ 0 ∷ []) ∷ []
  -- by channels::lines_of
  pub band_lines :
      map (λ (b : Option Band). length (lines_of b))
      (Some Band.A ∷ Some Band.B ∷ Some Band.C ∷ Some Band.D ∷ None ∷ [])
      ≡ 19 ∷ 2 ∷ 24 ∷ 58 ∷ 0 ∷ []
  -- by frame::Format::shortest, frame::Format::longest
  pub lengths :
      ((form_of Format.A).shortest ≡ 10) × (((form_of Format.A).longest ≡ 255)
      × (((form_of Format.B).shortest ≡ 10) × ((form_of Format.B).longest ≡ 251)))
  -- by line::Code::width
  pub widths :
      ((code_of Code.Nrz).chips ≡ 8) × (((code_of Code.ThreeOfSix).chips ≡ 6) × ((code_of Code.Manchester).chips ≡ 2))

-- What a caller in C is told: a number, and a row of results, which is written whole at every call. If the call is
-- accepted, the number is 0 and the row has the sizes and values; if it is refused, all results are zero except the one
-- that 01 names for this refusal. So a refusal rewrites the row, but no byte of the buffer lent for the output.
pub record AcceptedRows : Type 0 where
  pub updating_a_check : (c : ℕ) → told_number (Ok c) ≡ told 0 (c ∷ [])
  pub decoding : told_decoded (Ok tt) ≡ told 0 (0 ∷ [])
  pub one_word : (x : ℕ) → told_number (Ok x) ≡ told 0 (x ∷ [])
  pub writing : (size : ℕ) → told_number (Ok size) ≡ told 0 (size ∷ [])
  pub frame_size_is : (z n : ℕ) → told_size (Ok (sizes z n)) ≡ told 0 (z ∷ [])
  pub reading : (z n : ℕ) → told_frame (Ok (sizes z n)) ≡ told 0 (z ∷ n ∷ 0 ∷ [])
  pub searching : (place tried : ℕ) → told_sync (Ok (found place tried)) ≡ told 0 (place ∷ tried ∷ [])
  pub receiving :
      (k : Kind) (place tried z n : ℕ)
      → told_reception (Ok (reception k place tried z n))
      ≡ told 0 (kind_number k ∷ place ∷ tried ∷ z ∷ n ∷ 0 ∷ 0 ∷ [])
  pub kinds :
      map kind_number (Kind.TWithA ∷ Kind.CWithA ∷ Kind.CWithB ∷ Kind.ManchesterWithA ∷ []) ≡ 0 ∷ 1 ∷ 2 ∷ 3 ∷ []
  pub reading_a_header :
      (h : Header) (n : ℕ) → told_header (Ok (h, n)) ≡ told 0 (n ∷ fields_of h)
  pub letters :
      (x y z : ℕ) (r : Reach)
      → told_maker (record { spelled = Some (x, y, z); reach = r }) ≡ told 0 (1 ∷ x ∷ y ∷ z ∷ reach_number r ∷ [])
  pub no_letters :
      (r : Reach)
      → told_maker (record { spelled = None; reach = r }) ≡ told 0 (0 ∷ 0 ∷ 0 ∷ 0 ∷ reach_number r ∷ [])
  pub reaches : map reach_number (Reach.Hard ∷ Reach.Soft ∷ []) ≡ 0 ∷ 1 ∷ []
  pub filtering : (told_verdict (Ok true) ≡ told 0 (1 ∷ [])) × (told_verdict (Ok false) ≡ told 0 (0 ∷ []))
  pub judging_a_proposal : (d : ℕ) → told_number (Ok d) ≡ told 0 (d ∷ [])

pub record RefusedRows : Type 1 where
  pub updating_a_check : (r : Refusal) → told_number (Err r) ≡ told (number_of r) (value_of r ∷ [])
  pub decoding : (r : Refusal) → told_decoded (Err r) ≡ told (number_of r) (value_of r ∷ [])
  pub one_word : (r : Refusal) → told_number (Err r) ≡ told (number_of r) (value_of r ∷ [])
  pub writing : (r : Refusal) → told_number (Err r) ≡ told (number_of r) (value_of r ∷ [])
  pub frame_size_is : (r : Refusal) → told_size (Err r) ≡ told (number_of r) (value_of r ∷ [])
  pub reading : (r : Refusal) → told_frame (Err r) ≡ told (number_of r) (0 ∷ 0 ∷ value_of r ∷ [])
  pub searching : (r : Refusal) → told_sync (Err r) ≡ told (number_of r) (0 ∷ value_of r ∷ [])
  pub reading_a_header :
      (r : Refusal) → told_header (Err r) ≡ told (number_of r) (value_of r ∷ replicate 13 0)
  pub filtering : (r : Refusal) → told_verdict (Err r) ≡ told (number_of r) (value_of r ∷ [])
  pub judging_a_proposal : (r : Refusal) → told_number (Err r) ≡ told (number_of r) (value_of r ∷ [])
  pub wrong_block :
      (b : ℕ)
      → told_reception (Err (Refusal.WrongCheck b)) ≡ told 3 (0 ∷ 0 ∷ 0 ∷ 0 ∷ 0 ∷ b ∷ 0 ∷ [])
  pub bad_word :
      (w : ℕ) → told_reception (Err (Refusal.BadWord w)) ≡ told 6 (0 ∷ 0 ∷ 0 ∷ 0 ∷ 0 ∷ 0 ∷ w ∷ [])
  pub unknown_tail :
      (p : ℕ) → told_reception (Err (Refusal.UnknownTail p)) ≡ told 8 (0 ∷ p ∷ 0 ∷ 0 ∷ 0 ∷ 0 ∷ 0 ∷ [])
  pub no_sync :
      (t : ℕ) → told_reception (Err (Refusal.NoSync t)) ≡ told 7 (0 ∷ 0 ∷ t ∷ 0 ∷ 0 ∷ 0 ∷ 0 ∷ [])
  pub used_up :
      (t : ℕ) → told_reception (Err (Refusal.UsedUp t)) ≡ told 14 (0 ∷ 0 ∷ t ∷ 0 ∷ 0 ∷ 0 ∷ 0 ∷ [])
  pub receiving :
      (r : Refusal) → value_of r ≡ 0 → told_reception (Err r) ≡ told (number_of r) (replicate 7 0)
  pub lent_memory : {A : Type 0} (f : A → Told ℕ) (o : Outcome A) → (tells f o).memory ≡ o.memory

-- The rows of the settings store: a number that was issued or asked for, and what is held of a meter, its mode and
-- format by their numbers. All other calls on the store tell its size, as `writing` above.
pub record StoreRows : Type 0 where
  pub a_number : (n : ℕ) → told_number (Ok n) ≡ told 0 (n ∷ [])
  pub no_number : (r : Refusal) → told_number (Err r) ≡ told (number_of r) (value_of r ∷ [])
  pub a_meter :
      (m : Meter)
      → told_lookup (Ok m)
      ≡ told 0 (mode_number m.mode ∷ format_number m.format ∷ m.number ∷ mark_of m.unsure ∷ [])
  pub no_meter : (r : Refusal) → told_lookup (Err r) ≡ told (number_of r) (value_of r ∷ 0 ∷ 0 ∷ 0 ∷ [])
  pub modes :
      map mode_number (Mode.R ∷ Mode.S ∷ Mode.T ∷ Mode.C ∷ Mode.N ∷ Mode.F ∷ []) ≡ 0 ∷ 1 ∷ 2 ∷ 3 ∷ 4 ∷ 5 ∷ []
  pub formats : map format_number (Format.A ∷ Format.B ∷ []) ≡ 0 ∷ 1 ∷ []
  pub marks : map mark_of (false ∷ true ∷ []) ≡ 0 ∷ 1 ∷ []

-- Demand 2, the line codes by themselves: decoding what was encoded gives back the bytes, encoding what was decoded the
-- chips. Only code words are ever decoded: `decoding` above. An output may be longer than a received buffer may be, so
-- the first m of its bytes are decoded, those that were written among them.
pub record InCodes : Type 0 where
  pub encoded_then_decoded :
      (code : Code) (b buf d : List ℕ) (z m : ℕ) → Bytes b → (encoded (code_of code) b buf).answer ≡ Ok z
      → z ≤ m → m ≤ room_limit → length b ≤ length d
      → decoded (code_of code) (take m (encoded (code_of code) b buf).memory) 0 (length b) d
      ≡ record { answer = Ok tt; memory = b ++ drop (length b) d }
  pub decoded_then_encoded :
      (code : Code) (s : List ℕ) (start n : ℕ) (d out : List ℕ)
      → (decoded (code_of code) s start n d).answer ≡ Ok tt → encoded_size (code_of code) n ≤ length out
      → let o = encoded (code_of code) (take n (decoded (code_of code) s start n d).memory) out in
      (o.answer ≡ Ok (encoded_size (code_of code) n))
      × ((i : ℕ) → i < chips_in (code_of code) n → chip_at o.memory i ≡ chip_at s (start + i))

-- The headers' own round trips. Fields that a kind lacks are read as zeros (`trimmed`).
pub record InHeaders : Type 0 where
  pub written_then_read :
      (h : Header) (d : List ℕ) → header_length h.kind ≤ length d
      → header_reading_of (header_writing_of h d).memory ≡ Ok (trimmed h, header_length h.kind)
  pub read_then_written :
      (s : List ℕ) → Bytes s → (h : Header) (n : ℕ) (d : List ℕ) → header_reading_of s ≡ Ok (h, n)
      → n ≤ length d
      → header_writing_of h d ≡ record { answer = Ok n; memory = take n s ++ drop n d }

-- Demand 2, in bytes. A buffer s is accepted, with frame size z and content length n, and leaves m in the lent memory
-- d, exactly when s begins with the frame of some content c of n bytes for which d has room, and m is c with what d
-- held behind it. Nothing else is ever accepted. Reading what was written gives back the content; writing what was read
-- gives back the frame's bytes.
pub record InBytes : Type 0 where
  pub accepted_exactly :
      (f : Format) (s d m : List ℕ) (z n : ℕ)
      → (reading_of f s d ≡ record { answer = Ok (sizes z n); memory = m }) ↔ ((c : List ℕ) × Handed f s d z n m c)
  pub written_then_read :
      (f : Format) (c d : List ℕ) → (form_of f).shortest ≤ length c → length c ≤ (form_of f).longest
      → frame_size f (length c) ≤ length d → (e : List ℕ) → length c ≤ length e
      → reading_of f (writing_of f c d).memory e
      ≡ record { answer = Ok (sizes (frame_size f (length c)) (length c)); memory = c ++ drop (length c) e }
  pub read_then_written :
      (f : Format) (s d e : List ℕ) (z n : ℕ) → (reading_of f s d).answer ≡ Ok (sizes z n) → z ≤ length e
      → writing_of f (take n (reading_of f s d).memory) e
      ≡ record { answer = Ok z; memory = take z s ++ drop z e }

-- Demand 2, in chips, once over the kind (T with A, C with A, C with B, Manchester with A). A frame that the search
-- reaches within its allowance, and whose content fits the lent memory, is accepted exactly when its sync word, line
-- code, length and every block check are right; nothing else is ever accepted. That is said apart from the receiver's
-- steps: the chips at the place where the call looks are those that sending some content c as this kind writes (Heard).
-- The answer then names kind, place, positions tried, frame size and length, and m, what the memory holds, is c with
-- what d held behind it; the kind is one that this call looks for. Receiving what was sent gives back the content;
-- sending what was received gives back the frame's chips.
pub record InChips : Type 0 where
  pub accepted_exactly :
      (s : List ℕ) (start a : ℕ) (d : List ℕ) (j k : Kind) (place t z n : ℕ) (m : List ℕ)
      → (receiving_of j s start a d ≡ record { answer = Ok (reception k place t z n); memory = m })
      ↔ ((c : List ℕ) × (Heard s start a d k place t z n c × ((m ≡ c ++ drop n d) × (searched k ≡ searched j))))
  pub sent_then_received :
      (k : Kind) (c d : List ℕ) → Bytes c → length c ≤ length d
      → (buf : List ℕ) (a y m : ℕ) → 0 < a → (sending_of k c buf).answer ≡ Ok y
      → y ≤ m → m ≤ room_limit
      → receiving_of k (take m (sending_of k c buf).memory) 0 a d
      ≡ heard_of k 0 (first_try k) (frame_size (format_of k) (length c)) c d
  pub received_then_sent :
      (s : List ℕ) (start a : ℕ) (d : List ℕ) (j k : Kind) (place t z n : ℕ) (out : List ℕ)
      → (receiving_of j s start a d).answer ≡ Ok (reception k place t z n) → air_size k z ≤ length out
      → let o = sending_of k (take n (receiving_of j s start a d).memory) out in
      (o.answer ≡ Ok (air_size k z))
      × ((i : ℕ) → i < sent_chips k n → chip_at o.memory i ≡ chip_at s (place + i))

-- Demand 3. Take a frame that reading accepts. After any sequence of byte changes in its format, refused ones included,
-- the buffer holds exactly what writing the changed content from scratch would leave in it. Each change is accepted
-- exactly where its place is below n; of several changes at a place the last one holds. One accepted change touches its
-- byte and the two check bytes over it, and the new check follows from the old check, the old and the new byte and the
-- distance to the end of the span alone. It mends every span (`updating_a_check` above), and nothing else does.
pub record Changes : Type 0 where
  pub sequence_is_writing :
      (f : Format) (s d : List ℕ) (z n : ℕ) → (reading_of f s d).answer ≡ Ok (sizes z n)
      → (es : List Edit)
      → leaving (Ok z) (changing f es s) ≡ writing_of f (edited es (take n (reading_of f s d).memory)) s
  pub each_is_judged :
      (f : Format) (s d : List ℕ) (z n : ℕ) → (reading_of f s d).answer ≡ Ok (sizes z n)
      → (es : List Edit)
      → answers_of f es s
      ≡ map (λ (e : Edit). cond (ltb e.place n) (Ok (sizes z n)) (Err Refusal.BadPlace)) es
  pub last_holds :
      (es : List Edit) (c : List ℕ) (k : ℕ) → k < length c → get_or (edited es c) k 0 ≡ last_at es k (get_or c k 0)
  pub touches_three_bytes :
      (f : Format) (s d : List ℕ) (z n k b : ℕ) → (reading_of f s d).answer ≡ Ok (sizes z n) → k < n
      → Touched f s (changing_of f s k b).memory (take n (reading_of f s d).memory) k b (place_of f n k)
      (check_place_of f n k)
  pub nothing_else_mends :
      (c old new k : ℕ) (r : Result ℕ Refusal) → c < 65536 → k ≤ 125 → Mends c old new k r → r ≡ updating c old new k

-- Document 02, 2/14, soft addresses. Hard or soft is answered of every M, with letters and without: `hard_or_soft`
-- above. M with its top bit turned has the same letters and the other reach. As received, low byte first, the top bit
-- is the highest bit of the second byte of M: M stands at place 1 of a content, M2 at place 3 of a body whose header
-- has it (`of_the_receiver`), and past the end of the bytes a byte counts as 0. One definition answers for both; a
-- header without M2 shows M2 as 0.
--
-- The filter compares all eight bytes. So two contents that differ in that bit alone are two meters: they bear two
-- names, one of them on the list does not make the other wanted, and where both are wanted each has an entry of its
-- own. This is proved of every filter that keeps `filtering` of MeterNumbers (proofs/SoftAddressLaws). For the settings
-- store they are two meters as well.
pub record SoftAddresses : Type 0 where
  pub bit_turned :
      (m : ℕ)
      → ((maker_of (bit_xor m 0x8000)).spelled ≡ (maker_of m).spelled)
      × ((maker_of (bit_xor m 0x8000)).reach ≡ (maker_of m).reach → ⊥)
  pub top_bit_received :
      (s : List ℕ) → Bytes s → (k : ℕ) → ((maker_of (two_at s k)).reach ≡ Reach.Soft) ↔ (128 ≤ get_or s (k + 1) 0)
  pub of_the_receiver :
      (s : List ℕ) (h : Header) (n : ℕ) → header_reading_of s ≡ Ok (h, n) → addressed h.kind ≡ true
      → h.receiver.m ≡ two_at s 3
  pub turned_in_a_content :
      (s : List ℕ) → Bytes s → 2 < length s
      → (two_at (top_turned s) 1 ≡ bit_xor (two_at s 1) 0x8000)
      × ((length (top_turned s) ≡ length s)
      × ((i : ℕ) → (i ≡ 2 → ⊥) → get_or (top_turned s) i 0 ≡ get_or s i 0))
  pub two_names : (s : List ℕ) → 2 < length s → name_of s ≡ name_of (top_turned s) → ⊥
  pub one_listed :
      (es : List (List ℕ)) (n : ℕ) (s : List ℕ) → length es ≡ 16 → n ≤ 16 → 9 ≤ length s
      → InUse es n (name_of s) → (InUse es n (name_of (top_turned s)) → ⊥)
      → (verdict_of es n s ≡ Ok true) × (verdict_of es n (top_turned s) ≡ Ok false)
  pub own_entries :
      (es : List (List ℕ)) (n : ℕ) (s : List ℕ) → length es ≡ 16
      → verdict_of es n s ≡ Ok true → verdict_of es n (top_turned s) ≡ Ok true
      → (i : ℕ) × ((j : ℕ) × ((i ≡ j → ⊥) × (((i < n) × (get_or es i [] ≡ name_of s))
      × ((j < n) × (get_or es j [] ≡ name_of (top_turned s))))))
  pub two_in_the_store :
      (s : List ℕ) → Bytes s → 9 ≤ length s → key_at (name_of s) 0 ≡ key_at (name_of (top_turned s)) 0 → ⊥

-- Document 02, 9/14, the store on disk. A file f is read as the store st exactly when st is valid (at most 64 meters,
-- none of them twice, each number within its bytes) and f is what writing st gives, or its version 1 form, where the
-- allowance is 16,384. Nothing else is read. Reading what was written gives the same store. A meter's number is the
-- eight bytes of M and A as received. `layout` has one store in both versions, byte by byte.
pub record StoreFiles : Type 0 where
  pub accepted_exactly : (f : List ℕ) (st : Store) → Bytes f → (file_of f ≡ Ok st) ↔ IsFile f st
  pub written_then_read :
      (s : List ℕ) (st : Store) → Bytes s → Within s st
      → (d : List ℕ) (size : ℕ) → (writing_store s d).answer ≡ Ok size
      → file_of (take size (writing_store s d).memory) ≡ Ok st
  pub as_received : (name : List ℕ) → Bytes name → length name ≡ 8 → key_bytes (key_at name 0) ≡ name
  pub layout :
      let m : Meter = record {
        address = 0x9315785634123303;
        mode = Mode.C;
        format = Format.B;
        number = 0x01020304;
        unsure = true;
      } in
      let bytes : List ℕ = 8 ∷ 0x93 ∷ 0x15 ∷ 0x78 ∷ 0x56 ∷ 0x34 ∷ 0x12 ∷ 0x33 ∷ 0x03
      ∷ 1 ∷ 3 ∷ 1 ∷ 1 ∷ 4 ∷ 0x01 ∷ 0x02 ∷ 0x03 ∷ 0x04 ∷ 1 ∷ 1 ∷ [] in
      (bytes_of (record { meters = m ∷ []; allowance = 0x05060708 })
      ≡ 2 ∷ 4 ∷ 0x05 ∷ 0x06 ∷ 0x07 ∷ 0x08 ∷ 1 ∷ 1 ∷ bytes)
      × (version_one (m ∷ []) ≡ 1 ∷ 1 ∷ 1 ∷ bytes)

-- What becomes of the meters. A call on one meter changes that one alone (`with_meter` of the ladders): it keeps its
-- place, or comes behind the last. A restore that was accepted keeps the collector's own unsure marks and the larger
-- number of each meter, all else is the file's; a held meter that is not in the file stays, a new one comes in unsure.
-- A store that was made is empty, and memory that holds a store holds one after any calls: no meter stands twice, and
-- there are never more than 64.
pub record StoreMeters : Type 0 where
  pub one_meter :
      (a : ℕ) (m : Meter) (st : Store) → Valid st → m.address ≡ a → Puts a m st (with_meter a m st)
  pub restores :
      (s : List ℕ) (st : Store) → Bytes s → Within s st
      → (f : List ℕ) (file : Store) → Bytes f → IsFile f file
      → (size : ℕ) → (restoring f s).answer ≡ Ok size
      → (new : Store) × (Within (restoring f s).memory new × Restores st file new)
  pub begins_a_store :
      (s : List ℕ) (size : ℕ) → Bytes s → (emptying s).answer ≡ Ok size
      → Within (emptying s).memory empty_store × NoneHeld (emptying s).memory
  pub stays_a_store :
      (s : List ℕ) (st : Store) (cs : List Call) → Bytes s → InRanges cs → Within s st
      → (new : Store) × Within (after_all s cs) new

-- What is promised over any calls, refused ones and restores of any bytes among them (sessions/specs/History). In a
-- running collector each number that is issued for a meter is above every one issued for it or heard from it before,
-- and none is issued for one that is unsure. After a restore into an empty one nothing is issued for a meter until one
-- of its numbers is heard; from then on each number is above all heard and all issued since that restore.
pub record StorePromise : Type 0 where
  pub running : Running
  pub restored : Restored

-- Document 02, 11/14, correction bytes. Of the y bytes that were written to m the last 32 make the first y - 34, which
-- are the frame (`writing_a_correction`), a code word by the generator's roots. Every word has such 32 bytes, and no
-- other 32. Zero fill before a block neither makes nor unmakes a code word, and a word's check bytes stay the same.
-- Of all code words of one length at most one differs from what was received at 16 places or fewer. The header that was
-- written announces the check bytes; of what a header announces a caller in C is told the number alone. A frame with
-- its correction behind it is read as before.
pub record CorrectionPromise : Type 0 where
  pub written_words :
      (f : Format) (s d : List ℕ) (y : ℕ) → Bytes s → (correcting_of f s d).answer ≡ Ok y
      → let m = (correcting_of f s d).memory in
      Corrects (take (y - 34) m) (take 32 (drop (y - 32) m))
  pub code_words : (w c : List ℕ) → Bytes w → Corrects w c ↔ (c ≡ checks_of w)
  pub fill : (k : ℕ) (b : List ℕ) → CodeBlock (replicate k 0 ++ b) ↔ CodeBlock b
  pub fill_of_a_word : (k : ℕ) (w : List ℕ) → checks_of (replicate k 0 ++ w) ≡ checks_of w
  pub near_words :
      (r u v : List ℕ) → length r ≡ length u → length r ≡ length v → length r ≤ 255 → Bytes u → Bytes v
      → CodeBlock u → CodeBlock v → apart r u ≤ 16 → apart r v ≤ 16 → u ≡ v
  pub announced :
      (f : Format) (s d : List ℕ) (y : ℕ) → (correcting_of f s d).answer ≡ Ok y
      → announced_of (drop (y - 34) (correcting_of f s d).memory) ≡ Ok tt
  pub told_number :
      (told_announced (Ok tt) ≡ 0) × ((r : Refusal) → told_announced (Err r) ≡ number_of r)
  pub read_as_before :
      (f : Format) (s d e : List ℕ) (y : ℕ) → (correcting_of f s d).answer ≡ Ok y
      → reading_of f (correcting_of f s d).memory e ≡ reading_of f s e

-- Document 02, 12/14, mending. A proposal is taken with d exactly where it is a code word of 11/14 and differs from the
-- received word in d bytes, d at most 16 (`TakenWith`, in numbers). A taken frame is whole: its block checks are right,
-- or reading says 3. The proposer (`proposing_for_one_byte`: what it proposes is `Nearest 1`) mends every single wrong
-- byte of frame or check bytes except the length byte, leaves a code word alone, and otherwise proposes the received
-- word; the length byte always stays.
--
-- End to end: take an accepted frame of at most 223 bytes, write its correction bytes, and change any one byte behind
-- the length byte, even one of the header, to any other. What is proposed is the word that was written, it is taken,
-- with one differing byte at most, and reading its frame gives the content again.
--
-- A taken proposal is the right one: no two words with the same length byte are taken for one reception. Where at most
-- 16 bytes came wrong, not counting those of the header, the word that was written is taken, and no other with its
-- length byte. For different lengths that is not so: one wrong bit of a length byte can leave another frame, whose word
-- is taken too.
pub record MendingPromise : Type 0 where
  pub taken_exactly :
      (f : Format) (p s : List ℕ) (d : ℕ) → Bytes p
      → (proposal_of f p s ≡ Ok d) ↔ ((z : ℕ) × TakenWith f p s z d)
  pub then_read :
      (f : Format) (p s : List ℕ) (d : ℕ) → Bytes p → proposal_of f p s ≡ Ok d
      → ((z : ℕ) × ((n : ℕ) × (judge_of f p ≡ Ok (sizes z n))))
      ⊎ ((b : ℕ) × (judge_of f p ≡ Err (Refusal.WrongCheck b)))
  pub one_wrong_byte :
      (c : List ℕ) (i b : ℕ) → Bytes c → length c ≤ 255 → CodeBlock c → 0 < i → (m : List ℕ) → Nearest 1 (set c i b) m
      → m ≡ c
  pub code_word_alone :
      (c : List ℕ) → Bytes c → length c ≤ 255 → CodeBlock c → (m : List ℕ) → Nearest 1 c m → m ≡ c
  pub else_received :
      (w : List ℕ) → ((c : List ℕ) → Near 1 w c → ⊥) → (m : List ℕ) → Nearest 1 w m → m ≡ w
  pub length_byte_stays : (w m : List ℕ) → Nearest 1 w m → get_or m 0 0 ≡ get_or w 0 0
  pub mended_and_read :
      (f : Format) (s room : List ℕ) (z n : ℕ) → Bytes s → (reading_of f s room).answer ≡ Ok (sizes z n) → z ≤ 223
      → (lent : List ℕ) → z + 34 ≤ length lent
      → let m = (correcting_of f s lent).memory in
      (i b : ℕ) → 1 ≤ i → i < z + 34 → b < 256 → (e : List ℕ) → z + 32 ≤ length e
      → let r = set m i b in
      let differing = apart (received z r) (received z m) in
      ((correcting_of f s lent).answer ≡ Ok (z + 34))
      × ((differing ≤ 1) × MendedAgain 1 f s m r e z differing)
  pub taken_once :
      (f : Format) (p q s : List ℕ) (z c d : ℕ) → Bytes p → Bytes q → get_or p 0 0 ≡ get_or q 0 0 → TakenWith f p s z c
      → proposal_of f q s ≡ Ok d → take (z + 32) p ≡ take (z + 32) q
  pub written_is_taken :
      (f : Format) (s lent : List ℕ) (y : ℕ) → Bytes s → (correcting_of f s lent).answer ≡ Ok y
      → let z = y - 34 in
      let word = received z (correcting_of f s lent).memory in
      (r : List ℕ) → y ≤ length r → apart (received z r) word ≤ 16
      → proposal_of f word r ≡ Ok (apart (received z r) word)
  pub taken_is_written :
      (f : Format) (s lent : List ℕ) (y : ℕ) → Bytes s → (correcting_of f s lent).answer ≡ Ok y
      → let z = y - 34 in
      let word = received z (correcting_of f s lent).memory in
      (r : List ℕ) → y ≤ length r → apart (received z r) word ≤ 16
      → (p : List ℕ) (d : ℕ) → Bytes p → get_or p 0 0 ≡ get_or s 0 0 → proposal_of f p r ≡ Ok d
      → take (z + 32) p ≡ word
  pub two_lengths :
      (s : List ℕ) × ((p : List ℕ) × ((q : List ℕ) × ((Bytes s × (Bytes p × Bytes q))
      × (((proposal_of Format.B p s ≡ Ok 1) × (judge_of Format.B p ≡ Ok (sizes 77 74)))
      × ((proposal_of Format.B q s ≡ Ok 0) × (judge_of Format.B q ≡ Ok (sizes 13 10)))))))

-- The whole strength of the correction bytes. The proposer for sixteen bytes (`proposing_for_sixteen_bytes`: what it
-- proposes is `Nearest 16`) mends up to sixteen wrong bytes of frame and check bytes, wherever they stand behind the
-- length byte, and proposes the received word where no code word is near (`MendsSixteen`, in words).
--
-- End to end: take an accepted frame of at most 223 bytes and write its correction bytes. Let up to sixteen bytes of
-- frame and check bytes change, anywhere behind the length byte, and any number of header bytes, and let anything
-- follow. What is proposed is the word that was written, it is taken, with as many differing bytes as changed, and
-- reading its frame gives the content again.
--
-- Beyond sixteen: whatever was received, what is proposed is taken, with at most 16 differing bytes, or it is refused
-- with 25. What is taken then need not be what was sent: in `seventeen` a frame came with 17 wrong bytes, and another
-- frame is proposed, taken with 16, and read.
pub record SixteenPromise : Type 0 where
  pub words : MendsSixteen
  pub mended_and_read :
      (f : Format) (s room : List ℕ) (z n : ℕ) → Bytes s → (reading_of f s room).answer ≡ Ok (sizes z n) → z ≤ 223
      → (lent : List ℕ) → z + 34 ≤ length lent
      → let m = (correcting_of f s lent).memory in
      (r : List ℕ) → Bytes r → z + 34 ≤ length r → get_or r 0 0 ≡ get_or m 0 0
      → let differing = apart (received z r) (received z m) in
      differing ≤ 16 → (e : List ℕ) → z + 32 ≤ length e
      → ((correcting_of f s lent).answer ≡ Ok (z + 34)) × MendedAgain 16 f s m r e z differing
  pub taken_or_none :
      (f : Format) (s d : List ℕ) (y : ℕ) → Bytes s → (proposing_of 16 f s d).answer ≡ Ok y
      → let p = (proposing_of 16 f s d).memory in
      ((k : ℕ) × ((k ≤ 16) × (proposal_of f p s ≡ Ok k)))
      ⊎ (proposal_of f p s ≡ Err Refusal.NotCode)
  pub seventeen :
      (s : List ℕ) × ((c : List ℕ) × ((p : List ℕ) × ((Bytes s × (Bytes c × Bytes p))
      × (((apart (received 20 s) c ≡ 17) × (judge_of Format.A c ≡ Ok (sizes 20 15)))
      × (((e : List ℕ) → 52 ≤ length e
      → proposing_of 16 Format.A s e ≡ record { answer = Ok 52; memory = p ++ drop 52 e })
      × ((proposal_of Format.A p s ≡ Ok 16) × (judge_of Format.A p ≡ Ok (sizes 20 15))))))))

-- Document 02, 13/14, what damage is always seen (damage/specs). Take a frame that reading accepts and invert at least
-- one bit of it, all inverted bits lying within 16 consecutive bits, highest bit of a byte first. The result is always
-- refused, whatever bytes stand behind it: in format A wherever these bits lie, the length byte and block borders
-- included; in format B where the length byte is not among the changed. Refused means: with 1, 2 or 3, whatever memory
-- is lent, and the memory stays; no content at all has its frame there; and where the length byte is not among the
-- changed the number is 3. `bursts` says so of exactly these widths, `few_bits` the same of numbers of inverted bits.
-- Behind the length byte one block with such damage is enough, whatever the other blocks have (`one_block`). Of a burst
-- and of few bits there, 3 names the first block that has a wrong byte (`block_named`). `limits` has the frames that
-- show why the numbers are not larger; by `no_more` what can go unseen is not always seen.
-- In chips (airdamage/specs): within how many consecutive inverted chips, exactly, no frame of the same kind can stand
-- where one was sent; so none is received there, by whatever call (`not_received`).
pub record DamagePromise : Type 1 where
  pub bursts : BurstsSeen
  pub few_bits : FewBitsSeen
  pub one_block : OneBlockSeen
  pub block_named : BlockNamed
  pub limits : Limits
  pub no_more :
      (f : Format) (kind : List ℕ → List ℕ → Type 0) (old new : List ℕ) → Unseen f kind old new → AlwaysSeen f kind → ⊥
  pub in_chips : ChipsSeen
  pub not_received :
      (k : Kind) (w skip : ℕ) → NeverSent k w skip → (s t : List ℕ) (place : ℕ) (c : List ℕ) → SentAt k s place c
      → ChipBurst w (place + lead_of k + skip) (place + sent_chips k (length c)) s t
      → (j : Kind) (start a : ℕ) (d : List ℕ) (tried z n : ℕ)
      → (receiving_of j t start a d).answer ≡ Ok (reception k place tried z n) → ⊥
