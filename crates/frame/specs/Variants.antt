-- Claims: each variant by its name, with its number in literals, and each field by its name. PROTOCOL 12.4.
-- The contracts equate rows and states; these tables say which variant and which field is meant.
use Rattle.std.specs.Prelude.{◌≡◌, ℕ, true, false, List, [], ◌∷◌, Some, None, Result, Ok, Err}
use Rattle.base.specs.Rows.{row}
use Rattle.frame.specs.Rules.{decides_of}
use Rattle.frame.specs.State.{Idle, Half, Header, Open, Escape, Quiet, Decided, phase_of, event_of, state_of}
use Rattle.frame.specs.Table.{event_row, row_of, finish_row_of, count_of, further_of}
use Rattle.frame.specs.declared.place.WirePlace.{WirePlace}
use Rattle.frame.specs.declared.reader.Fed.{Fed}
use Rattle.frame.specs.declared.reader.FeedError.{FeedError}
use Rattle.frame.specs.declared.reader.Finish.{Finish}
use Rattle.frame.specs.declared.reader.Reader.{Reader}
use Rattle.base.specs.declared.writes.StateError.{StateError}
use Rattle.frame.specs.declared.scan.Verdict.{Verdict}
use Rattle.frame.specs.declared.reader.FeedError.TheVariants as refused
use Rattle.frame.specs.declared.reader.Finish.TheVariants as ending
use Rattle.frame.specs.declared.scan.Phase.TheVariants as phase
use Rattle.frame.specs.declared.scan.Verdict.TheVariants as verdict

-- a place on the wire
abbrev pub wire_place : ℕ → WirePlace
wire_place n = record { 0 = n }

-- the answer of a feed of c bytes that decided nothing
abbrev pub more : ℕ → Result Fed FeedError
more c = Ok (record { count = c; decision = None })

-- the answer of a feed of c bytes that decided a frame from s to e
abbrev pub decided : ℕ → ℕ → ℕ → Verdict → Result Fed FeedError
decided c s e v =
    Ok (record { count = c; decision = Some (record { start = wire_place s; end = wire_place e; verdict = v }) })

-- the answer of a finish that found no frame open, or one
abbrev pub clean : ℕ → Result Finish StateError
clean n = Ok (ending.Clean (wire_place n))

abbrev pub left_open : ℕ → ℕ → Result Finish StateError
left_open n s = Ok (ending.Open (wire_place n) (wire_place s))

-- ---- named_rows: every answer, with the count c, the start s, the end e, the byte x, the sums f and g; at a finish, n
-- bytes consumed in all
pub record NamedRows : Type 0 where
  pub more : (c : ℕ) → row_of (more c) ≡ row 0 (c ∷ [])
  pub frame : (c s e : ℕ) → row_of (decided c s e verdict.Frame)
      ≡ row 1 (c ∷ s ∷ e ∷ [])
  pub short : (c s e : ℕ) → row_of (decided c s e verdict.Short)
      ≡ row 11 (c ∷ s ∷ e ∷ [])
  pub long : (c s e : ℕ) → row_of (decided c s e verdict.Long)
      ≡ row 12 (c ∷ s ∷ e ∷ [])
  pub stuff : (c s e x : ℕ)
      → row_of (decided c s e (verdict.Stuff x)) ≡ row 13 (c ∷ s ∷ e ∷ x ∷ [])
  pub stuff_late : (c s e x : ℕ)
      → row_of (decided c s e (verdict.StuffLate x)) ≡ row 19 (c ∷ s ∷ e ∷ x ∷ [])
  pub cut : (c s e : ℕ) → row_of (decided c s e verdict.Cut) ≡ row 14 (c ∷ s ∷ e ∷ [])
  pub sum : (c s e f g : ℕ)
      → row_of (decided c s e (verdict.Sum f g)) ≡ row 15 (c ∷ s ∷ e ∷ f ∷ g ∷ [])
  pub state : row_of (Err refused.State) ≡ row 17 (0 ∷ [])
  pub used : row_of (Err refused.Used) ≡ row 18 (0 ∷ [])
  pub clean : (n : ℕ) → finish_row_of (clean n) ≡ row 2 (n ∷ [])
  pub left_open : (n s : ℕ) → finish_row_of (left_open n s) ≡ row 16 (n ∷ s ∷ [])
  pub finish_state : finish_row_of (Err (record {})) ≡ row 17 (0 ∷ [])
  -- a byte that decides nothing, and one that decides
  pub quiet : (c s e : ℕ) → event_row Quiet c s e ≡ row 0 (c ∷ [])
  pub decides : (c s e : ℕ) → event_row (Decided verdict.Short) c s e ≡ row 11 (c ∷ s ∷ e ∷ [])
  pub decides_late : (c s e x : ℕ) → event_row (Decided (verdict.StuffLate x)) c s e ≡ row 19 (c ∷ s ∷ e ∷ x ∷ [])
  pub nothing_decided : event_of None ≡ Quiet
  pub something_decided : (v : Verdict) → event_of (Some v) ≡ Decided v
  pub quiet_continues : decides_of Quiet ≡ false
  pub decided_stops : (v : Verdict) → decides_of (Decided v) ≡ true
  -- the count is the first value; the further ones come after start and end
  pub count : (k c : ℕ) (v : List ℕ) → count_of (row k (c ∷ v)) ≡ c
  pub further : (k c s e : ℕ) (v : List ℕ) → further_of (row k (c ∷ s ∷ e ∷ v)) ≡ v

-- ---- named_states: every field of a reader, and every phase

-- a reader whose fields all differ
abbrev pub some_reader : Reader
some_reader =
    record {
      scan = record {
        phase = phase.Open;
        consumed = record { 0 = 9 };
        start = record { 0 = 4 };
        filled = record { 0 = 3 };
        length = 5;
        sum = 12;
      };
      body = 0 ∷ 5 ∷ 7 ∷ [];
    }

-- the same in the specification's terms
pub record NamedStates : Type 0 where
  pub idle : phase_of phase.Idle ≡ Idle
  pub half : phase_of phase.Half ≡ Half
  pub header : phase_of phase.Header ≡ Header
  pub open_frame : phase_of phase.Open ≡ Open
  pub escape : phase_of phase.Escape ≡ Escape
  pub any_reader : (r : Reader) → ((state_of r).scan.phase ≡ phase_of r.scan.phase)
      × ((state_of r).scan.consumed ≡ r.scan.consumed.0) × ((state_of r).scan.start ≡ r.scan.start.0)
      × ((state_of r).scan.filled ≡ r.scan.filled.0) × ((state_of r).scan.length ≡ r.scan.length)
      × ((state_of r).scan.sum ≡ r.scan.sum) × ((state_of r).body ≡ r.body)
  pub reader : state_of some_reader
      ≡ record {
        scan = record { phase = Open; consumed = 9; start = 4; filled = 3; length = 5; sum = 12 };
        body = 0 ∷ 5 ∷ 7 ∷ [];
      }
