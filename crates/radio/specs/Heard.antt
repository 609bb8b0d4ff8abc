-- What receiving a frame in chips means, said without the receiver's steps (document 01, "Sync search", "No room for a
-- hollow program"), once over the kind.
--     searched k                   whether frames of kind k are searched: those that have sync chips, as T and C have;
--                                  Manchester stands where it is named
--     receiving_of k s start a d    the call for kind k
--     Reached b s start a place t  the call, a search if b, looks at `place` as the t-th position that it tries: a
--                                  search finds the sync word there first, within the allowance a; else it is the start
--     first_try k                   how many positions are tried where the frame stands at the start
--     Heard s start a d k place t z n c    a frame of kind k stands where the call looks: its content c, n bytes, has a
--                                  frame of z bytes, and sending c as kind k writes just these chips; d has room for c;
--                                  s is not too long (house)
--     heard_of k place t z c d      then the answer names kind, place, positions, frame size and length; d begins with
--                                  c
use Rattle.std.specs.Prelude.{Bool, true, false, cond, List, ◌++◌, ◌≡◌, ℕ, ◌≤◌, ltb, length, drop, Result, Ok}
use Rattle.answers.specs.Outcome.{Outcome, leaving}
use Rattle.answers.specs.declared.Refusal.{Refusal}
use Rattle.chips.specs.Chips.{room_limit}
use Rattle.frame.specs.Formats.{frame_size}
use Rattle.sync.specs.declared.Kind.{Kind}
use Rattle.sync.specs.FirstMatch.{FirstAt}
use Rattle.sync.specs.Kinds.{lead_of}
use Rattle.sync.specs.SyncSearch.{sync_word, sync_width}
use Rattle.radio.specs.declared.Reception.{Reception}
use Rattle.radio.specs.KindParts.{format_of}
use Rattle.radio.specs.Receiving.{reception, reception_of, manchester_of}
use Rattle.radio.specs.Sending.{SentAt}

abbrev pub searched : Kind → Bool
searched k = ltb 0 (lead_of k)

abbrev pub receiving_of : Kind → List ℕ → ℕ → ℕ → List ℕ → Outcome (Result Reception Refusal)
receiving_of k s start a d = cond (searched k) (reception_of s start a d) (manchester_of s start d)

abbrev pub Reached : Bool → List ℕ → ℕ → ℕ → ℕ → ℕ → Type 0
Reached true s start a place t = FirstAt sync_word sync_width s start a place t
Reached false s start a place t = (place ≡ start) × (t ≡ 0)

abbrev pub first_try : Kind → ℕ
first_try k = cond (searched k) 1 0

pub record Heard (s : List ℕ) (start a : ℕ) (d : List ℕ) (k : Kind) (place t z n : ℕ) (c : List ℕ) : Type 0 where
  pub small : length s ≤ room_limit
  pub reached : Reached (searched k) s start a place t
  pub sent : SentAt k s place c
  pub count : length c ≡ n
  pub size : z ≡ frame_size (format_of k) n
  pub room : n ≤ length d

abbrev pub heard_of : Kind → ℕ → ℕ → ℕ → List ℕ → List ℕ → Outcome (Result Reception Refusal)
heard_of k place t z c d =
    leaving (Ok (reception k place t z (length c))) (c ++ drop (length c) d)
