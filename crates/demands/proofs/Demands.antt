-- The customer's demands hold: each record of the page (specs/Demands), and the law that shows each of its fields.
use mathlib.Core.Bool.{cond}
use mathlib.Core.List.{List, ◌∷◌, map}
use mathlib.Core.Path.{◌≡◌, refl, sym, ◌∙◌, ap, subst}
use Prim.Native.Nat.{ℕ, zero, suc, ◌<◌}
use lib.Dec.{ltb}
use native.Mathlib.Omega.{arith}
use lib.ListN.{length, take, set, replicate, length-set}
use lib.Seq.{take_all}
use Rattle.std.specs.Prelude.{Ok, Err}
use Rattle.answers.specs.declared.Refusal.{Refusal}
use Rattle.answers.specs.Refusals.{number_of, value_of}
use Rattle.line.specs.Codes.{code_of}
use Rattle.address.proofs.LettersLaws.{Spelled, letters_of_three}
use Rattle.address.proofs.MakerLaws.{maker_of_hard, maker_of_soft, letters_turned, reach_turned, maker_of-received}
use Rattle.filter.specs.Listed.{verdict_of}
use Rattle.header.proofs.HeaderTripLaws.{header_read_write, header_write_read}
use Rattle.header.proofs.AccessLaws.{access_row-access_of}
use Rattle.channels.proofs.ListingLaws.{slice_get_lines_from-lt, slice_get_lines_from-le}
use Rattle.channels.proofs.ExactLaws.{row_of_exact, float-quarters_of_exact}
use Rattle.crc.specs.Check.{bit_in, bits_in, byte_in, reg_of, check_of}
use Rattle.crc.proofs.CheckLaws.{check_of-lt}
use Rattle.crc.proofs.BackwardLaws.{mends_only}
use Rattle.frame.specs.declared.Format.{Format}
use Rattle.frame.specs.declared.Frame.{Frame}
use Rattle.frame.specs.Frames.{content_in, FrameAt}
use Rattle.frame.specs.Judging.{judge_of}
use Rattle.frame.specs.Reads.{reading_of}
use Rattle.frame.specs.Changes.{Edit, changing_of, answers_of, place_of, check_place_of}
use Rattle.frame.proofs.AcceptLaws.{judge_of_frame}
use Rattle.frame.proofs.ReadLaws.{read_exactly, read-accepted, handed_take}
use Rattle.frame.proofs.WriteLaws.{read_write, write_read}
use Rattle.frame.proofs.SequenceLaws.{changes_write, changes_answer, edited_last}
use Rattle.frame.specs.Formats.{sizes}
use Rattle.radio.proofs.HeardLaws.{heard_exactly}
use Rattle.radio.proofs.RoundLaws.{sent_heard}
use Rattle.channels.specs.Listing.{line_at}
use Rattle.ground.specs.Bytes.{Bytes}
use Rattle.address.specs.Keys.{key_bytes, key_at}
use Rattle.address.proofs.NameLaws.{take-drop}
use Rattle.address.proofs.KeyLaws.{key_bytes_key_at}
use Rattle.sessions.specs.StoreFile.{meters_bytes}
use Rattle.sessions.proofs.ExactLaws.{file_of_exactly}
use Rattle.sessions.proofs.HistoryLaws.{running, restored_afresh}
use Rattle.codewords.proofs.FillLaws.{fill_code, fill_checks}
use Rattle.codewords.proofs.NearLaws.{near_one}
use Rattle.proposals.proofs.ProposalLaws.{taken_exactly}
use Rattle.proposals.proofs.WrittenLaws.{taken_once, taken_judged}
use Rattle.proposals.proofs.TwoLengths.{heard, short, long, all_are_bytes, long_is, short_is}
use Rattle.proposals.proofs.SixteenLaws.{nearest_first, nearest_else, mends}
use Rattle.damage.proofs.BurstLaws.{bursts}
use Rattle.damage.proofs.FewBitsLaws.{few_bits, one_block, block_named}
use Rattle.damage.proofs.Unseen.{limits, unseen_not_always}
use Rattle.airdamage.proofs.SeenLaws.{not_received}
use Rattle.airdamage.proofs.ExactLaws.{chips_seen}
use Rattle.proposals.proofs.Seventeen.{heard17, sent, other, all_bytes17, sent_is, other_is}
use Rattle.kusikhut.specs.Told.{told, refusal_place}
use Rattle.demands.specs.Demands.{ChipNumbers, FrameNumbers, MeterNumbers, StoreNumbers, Plain, AcceptedRows, RefusedRows, StoreRows, InCodes, InHeaders, InBytes, InChips, Changes, StoreFiles, StoreMeters, StorePromise, CorrectionNumbers, CorrectionPromise, MendingNumbers, MendingPromise, SixteenPromise, DamagePromise, SoftAddresses}
use Rattle.demands.specs.Cases.{Spells}
use Rattle.demands.specs.Touched.{Touched}
use Rattle.demands.proofs.LineRuleLaws as line
use Rattle.demands.proofs.SyncRuleLaws as sync
use Rattle.demands.proofs.FrameRuleLaws as frame
use Rattle.demands.proofs.RadioRuleLaws as radio
use Rattle.demands.proofs.MeterRuleLaws as meter
use Rattle.demands.proofs.ChannelRuleLaws as channel
use Rattle.demands.proofs.TripRuleLaws as trip
use Rattle.demands.proofs.StoreRuleLaws as store
use Rattle.demands.proofs.StorePutLaws.{with_meter_puts}
use Rattle.demands.proofs.StorePromiseLaws.{emptying_within, written_read, restoring-restores, after_all_within}
use Rattle.demands.proofs.CorrectionRuleLaws as correction
use Rattle.demands.proofs.CorrectionPromiseLaws.{correcting_reads, correcting_announced, correcting_corrects, checks_correct}
use Rattle.demands.proofs.MendingRuleLaws as mending
use Rattle.demands.proofs.MendingPromiseLaws.{one_wrong_byte, code_word_alone, written_taken, taken-written, mended_and_read, sixteen_and_read, taken_or_none}
use Rattle.demands.proofs.TouchLaws.{change_touched}
use Rattle.demands.proofs.SoftAddressLaws.{top_in_content, others_in-content, receiver_place_lem, names_differ, listed_alone, entries_apart, keys_differ}

pub chip_numbers : ChipNumbers
chip_numbers =
    record {
      decoding = λ code. line.decode_judged (code_of code);
      encoding = λ code. line.encode_judged (code_of code);
      one_word = λ code. line.word_judged (code_of code);
      making_a_reader = line.reader_judged;
      reading_a_word = λ code. line.step_judged (code_of code);
      keeping_the_chips = λ s at. (refl, refl);
      keeping_its_place = λ code r. (refl, refl);
      searching = sync.search_judged;
      sync_tail = sync.tail_judged;
    }

pub frame-numbers : FrameNumbers
frame-numbers =
    record {
      updating_a_check = frame.update_judged;
      frame_size_is = frame.size_judged;
      judging = frame.judge_judged;
      reading = frame.read_judged;
      writing = frame.write_judged;
      changing_a_byte = frame.change_judged;
      receiving = λ s start a d. radio.receive_judged s d start a;
      receiving_manchester = λ s start d. radio.manchester_judged s d start;
      sending = radio.send_judged;
    }

pub meter-numbers : MeterNumbers
meter-numbers =
    record {
      reading_a_header = meter.header_read_judged;
      writing_a_header = meter.header_write_judged;
      filtering = meter.filter_judged;
      no_channel = channel.no_channel;
      a_channel = channel.a_channel;
      exact_centre = λ i c h. (channel.there i c h, float-quarters_of_exact i c h);
      no_line = channel.no_line;
      a_line = λ b k. channel.a_line (line_at b k);
      line_order = (λ b k. refl, λ i n k p. (slice_get_lines_from-lt i n k p, slice_get_lines_from-le i n k p));
      band_b = channel.band_b;
      no_band = channel.no_band;
      a_band = channel.a_band;
      with_a_line_feed = channel.with_a_line_feed;
    }

pub store-numbers : StoreNumbers
store-numbers =
    record {
      making_a_store = store.empty_judged;
      adding_a_meter = store.add_judged;
      adding_by_numbers = store.add_by_judged;
      hearing_a_number = store.hear_judged;
      issuing_a_number = store.issue_judged;
      restoring_a_file = store.restore_judged;
      writing_a_file = store.write_judged;
      looking_up_a_meter = store.look_up_judged;
      asking_the_allowance = store.allowance_judged;
      setting_the_allowance = store.set-allowance_judged;
    }

-- the record of the page, field by field as the letters' own crate has it
spells : {m x y z : ℕ} → Spelled m x y z → Spells m x y z
spells s = record { first = s.first; second = s.second; third = s.third; low = s.low }

spelled : {m x y z : ℕ} → Spells m x y z → Spelled m x y z
spelled s = record { first = s.first; second = s.second; third = s.third; low = s.low }

pub plain : Plain
unfolding check_of reg_of byte_in bits_in bit_in
plain =
    record {
      checking = check_of-lt;
      check_vector = refl;
      letters =
          λ m x y z. (λ e. spells ((letters_of_three m x y z).0 e), λ s. (letters_of_three m x y z).1 (spelled s));
      hard_or_soft = λ m word. (maker_of_hard m word, maker_of_soft m word);
      access = access_row-access_of;
      channel_row = λ i. let r = row_of_exact i in (r.centre, (r.spacing, r.tolerance));
      channels = channel.channels_listed;
      band_rows = refl;
      band_lines = channel.band_lines;
      lengths = (refl, (refl, (refl, refl)));
      widths = (refl, (refl, refl));
    }

pub codes_round_trip : InCodes
codes_round_trip =
    record { encoded_then_decoded = trip.encode_decodes; decoded_then_encoded = trip.decode_encodes }

pub headers_round_trip : InHeaders
headers_round_trip =
    record {
      written_then_read = header_read_write;
      read_then_written = λ s bytes h n d e. header_write_read s bytes h n d e;
    }

pub frames_in_bytes : InBytes
frames_in_bytes =
    record { accepted_exactly = read_exactly; written_then_read = read_write; read_then_written = write_read }

pub frames_in_chips : InChips
frames_in_chips =
    record {
      accepted_exactly = heard_exactly;
      sent_then_received = sent_heard;
      received_then_sent = trip.received_sent;
    }

-- the frame that reading accepted, and its content
module _ (f : Format) (s d : List ℕ) (z n : ℕ) (e : (reading_of f s d).answer ≡ Ok (sizes z n)) where
  abbrev c : List ℕ
  c = take n (reading_of f s d).memory

  read-content : c ≡ content_in f n s
  read-content = handed_take (read-accepted f s d e)

  read_frame : FrameAt f s z c
  read_frame = subst (FrameAt f s z) (sym read-content) (read-accepted f s d e).frame

  read_size : length c ≡ n
  read_size = ap length read-content ∙ (read-accepted f s d e).sized

  read_judged : judge_of f s ≡ Ok (sizes z n)
  read_judged = judge_of_frame read_frame ∙ ap (λ (k : ℕ). Ok (sizes z k)) read_size

  read_answers :
      (es : List Edit)
      → answers_of f es s
      ≡ map (λ (x : Edit). cond (ltb x.place n) (Ok (sizes z n)) (Err Refusal.BadPlace)) es
  read_answers es = rw read_size at (changes_answer f es s z c read_frame)

  read_touched :
      (k b : ℕ) → k < n → Touched f s (changing_of f s k b).memory c k b (place_of f n k) (check_place_of f n k)
  read_touched k b there =
      subst (λ (x : List ℕ). Touched f s (changing_of f s k b).memory x k b (place_of f n k) (check_place_of f n k))
      (sym read-content) (change_touched f s z n read_judged k b there)

pub changes_of_a_frame : Changes
changes_of_a_frame =
    record {
      sequence_is_writing = λ f s d z n e es. changes_write f es s z _ (read_frame f s d z n e);
      each_is_judged = read_answers;
      last_holds = edited_last;
      touches_three_bytes = λ f s d z n k b e. read_touched f s d z n e k b;
      nothing_else_mends = mends_only;
    }

-- a zero stored among zeros
set-zero : (w k : ℕ) → set {A = ℕ} (replicate w 0) k 0 ≡ replicate w 0
set-zero zero k = refl
set-zero (suc w) zero = refl
set-zero (suc w) (suc k) = ap (λ (x : List ℕ). 0 ∷ x) (set-zero w k)

value_0 : (r : Refusal) → value_of r ≡ 0
    → set (replicate 7 0) (refusal_place (number_of r)) (value_of r) ≡ replicate 7 0
value_0 r e = rw e (set-zero 7 (refusal_place (number_of r)))

pub accepted_rows : AcceptedRows
accepted_rows =
    record {
      updating_a_check = λ c. refl;
      decoding = refl;
      one_word = λ x. refl;
      writing = λ size. refl;
      frame_size_is = λ z n. refl;
      reading = λ z n. refl;
      searching = λ place tried. refl;
      receiving = λ k place tried z n. refl;
      kinds = refl;
      reading_a_header = λ h n. refl;
      letters = λ x y z r. refl;
      no_letters = λ r. refl;
      reaches = refl;
      filtering = (refl, refl);
      judging_a_proposal = λ d. refl;
    }

pub refused_rows : RefusedRows
refused_rows =
    record {
      updating_a_check = λ r. refl;
      decoding = λ r. refl;
      one_word = λ r. refl;
      writing = λ r. refl;
      frame_size_is = λ r. refl;
      reading = λ r. refl;
      searching = λ r. refl;
      reading_a_header = λ r. refl;
      filtering = λ r. refl;
      judging_a_proposal = λ r. refl;
      wrong_block = λ b. refl;
      bad_word = λ w. refl;
      unknown_tail = λ p. refl;
      no_sync = λ t. refl;
      used_up = λ t. refl;
      receiving = λ r e. ap (told (number_of r)) (value_0 r e);
      lent_memory = λ f o. refl;
    }

pub store_rows : StoreRows
store_rows =
    record {
      a_number = λ n. refl;
      no_number = λ r. refl;
      a_meter = λ m. refl;
      no_meter = λ r. refl;
      modes = refl;
      formats = refl;
      marks = refl;
    }

key_received : (name : List ℕ) → Bytes name → length name ≡ 8 → key_bytes (key_at name 0) ≡ name
key_received name bytes eight =
    key_bytes_key_at name bytes 0
    ∙ (sym (take-drop 8 name 0 (omega (arith, eight))) ∙ take_all 8 name (omega (arith, eight)))

pub store_files : StoreFiles
unfolding meters_bytes
store_files =
    record {
      accepted_exactly = file_of_exactly;
      written_then_read = written_read;
      as_received = key_received;
      layout = (refl, refl);
    }

pub store_meters : StoreMeters
store_meters =
    record {
      one_meter = λ a m st v here. with_meter_puts a m st v.once here;
      restores = restoring-restores;
      begins_a_store = emptying_within;
      stays_a_store = after_all_within;
    }

pub store_promise : StorePromise
store_promise = record { running = running; restored = restored_afresh }

pub correction_numbers : CorrectionNumbers
correction_numbers =
    record {
      writing_a_correction = correction.write_judged;
      check_bytes_alone = correction.check_bytes_judged;
      reading_the_header = correction.announce_judged;
    }

pub correction_promise : CorrectionPromise
correction_promise =
    record {
      written_words = λ f s d y bytes h. correcting_corrects f s d y h bytes;
      code_words = checks_correct;
      fill = fill_code;
      fill_of_a_word = fill_checks;
      near_words = near_one;
      announced = correcting_announced;
      told_number = (refl, λ r. refl);
      read_as_before = λ f s d e y h. correcting_reads f s d y h e;
    }

pub mending_numbers : MendingNumbers
mending_numbers =
    record {
      judging_a_proposal = mending.judge_judged;
      proposing_for_one_byte = mending.propose_judged 1 (omega arith);
      proposing_for_sixteen_bytes = mending.propose_judged 16 (omega arith);
    }

pub mending_promise : MendingPromise
mending_promise =
    record {
      taken_exactly = taken_exactly;
      then_read = taken_judged;
      one_wrong_byte = one_wrong_byte;
      code_word_alone = code_word_alone;
      else_received = nearest_else 1;
      length_byte_stays = nearest_first 1;
      mended_and_read = mended_and_read;
      taken_once = taken_once;
      written_is_taken = written_taken;
      taken_is_written = taken-written;
      two_lengths = (heard, (long, (short, (all_are_bytes, (long_is, short_is)))));
    }

pub sixteen_promise : SixteenPromise
sixteen_promise =
    record {
      words = mends;
      mended_and_read = sixteen_and_read;
      taken_or_none = taken_or_none;
      seventeen = (heard17, (sent, (other, (all_bytes17, (sent_is, other_is)))));
    }

pub damage_promise : DamagePromise
damage_promise =
    record {
      bursts = bursts;
      few_bits = few_bits;
      one_block = one_block;
      block_named = block_named;
      limits = limits;
      no_more = unseen_not_always;
      in_chips = chips_seen;
      not_received = not_received;
    }

pub soft_addresses : SoftAddresses
soft_addresses =
    record {
      bit_turned = λ m. (letters_turned m, reach_turned m);
      top_bit_received = maker_of-received;
      of_the_receiver = receiver_place_lem;
      turned_in_a_content =
          λ s bytes there. (top_in_content s there bytes, (length-set s 2 _, others_in-content s there));
      two_names = names_differ;
      one_listed = λ es n s sixteen few long. listed_alone verdict_of meter-numbers.filtering es n sixteen s long few;
      own_entries = λ es n s sixteen. entries_apart verdict_of meter-numbers.filtering es n sixteen s;
      two_in_the_store = keys_differ store_files.as_received;
    }
