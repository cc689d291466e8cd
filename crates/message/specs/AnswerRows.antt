-- Claims: rows of answers: each name has its number and values, and a row fixes its answer. PROTOCOL 12.2, 12.4.
use Rattle.std.specs.Prelude.{ℕ, ◌≡◌, false, List, [], ◌∷◌, map, Result, Ok, Err}
use Rattle.base.specs.Rows.{row}
use Rattle.base.specs.Outcomes.{Output, output}
use Rattle.base.specs.declared.writes.WriteError.{WriteError}
use Rattle.base.specs.declared.writes.WriteError.TheVariants as unwritten
use Rattle.base.specs.Keys.{among}
use Rattle.message.specs.Counter.{mode_number, NamesMode}
use Rattle.message.specs.Parts.{no_parts}
use Rattle.message.specs.Layouts.{way_number, NamesWay, code_number, NamesCode}
use Rattle.message.specs.Messages.{message_in}
use Rattle.message.specs.Table.{got, reading_of, send_row_of, cause_number, reply_row_of}
use Rattle.message.specs.Reading.{decode_of, read_of, parts_of}
use Rattle.message.specs.declared.counter.Mode.{Mode}
use Rattle.message.specs.declared.counter.Mode.TheVariants as mode
use Rattle.message.specs.declared.kind.Cause.{Cause}
use Rattle.message.specs.declared.kind.Cause.TheVariants as cause
use Rattle.message.specs.declared.parts.Parts.{Parts}
use Rattle.message.specs.declared.reader.Reading.{Reading}
use Rattle.message.specs.declared.reader.ReadError.{ReadError}
use Rattle.message.specs.declared.reader.ReadError.TheVariants as refused
use Rattle.message.specs.declared.answers.Reply.{Reply}
use Rattle.message.specs.declared.answers.Reply.TheVariants as reply
use Rattle.message.specs.declared.values.Code.{Code}
use Rattle.message.specs.declared.values.Code.TheVariants as code
use Rattle.message.specs.declared.values.Message.{Message}
use Rattle.message.specs.declared.values.UnknownNumber.{UnknownNumber}
use Rattle.message.specs.declared.values.Way.{Way}
use Rattle.message.specs.declared.values.Way.TheVariants as way
use Rattle.message.specs.declared.writer.SendError.{SendError}
use Rattle.message.specs.declared.writer.SendError.TheVariants as unsent

-- ---- rows_injective: two messages, or two answers of one enum, never have the same row, so an equation of rows fixes
-- the answer
pub record RowsInjective : Type 0 where
  pub messages : (a b : Message) → message_in a ≡ message_in b → a ≡ b
  pub readings : (a b : Result Reading ReadError) → reading_of a ≡ reading_of b → a ≡ b
  pub sendings : (a b : Result ℕ SendError) → send_row_of a ≡ send_row_of b → a ≡ b
  pub replies : (a b : Result Reply WriteError) → reply_row_of a ≡ reply_row_of b → a ≡ b

-- ---- contracts_complete: the equation of a contract fixes the row and the parts, or the row and the buffer, each by
-- itself; `read` gives what the claims on reading and on parts are about
pub record ContractsComplete : Type 0 where
  pub read :
      (r : Result Reading ReadError) (command : ℕ) (p : List ℕ) → reading_of r ≡ decode_of command p
      → ((reading_of r).row ≡ read_of command p) × ((reading_of r).parts ≡ parts_of command p)
  pub got_read :
      (m : Message) (parts : Parts) (command : ℕ) (p : List ℕ)
      → reading_of (Ok (record { message = m; parts = parts })) ≡ decode_of command p
      → (read_of command p ≡ row 0 (message_in m)) × (parts_of command p ≡ parts)
  pub written :
      (r : Result ℕ SendError) (after : List ℕ) (w : Output)
      → output (send_row_of r) after ≡ w → (send_row_of r ≡ w.row) × (after ≡ w.out)
  pub replied :
      (r : Result Reply WriteError) (after : List ℕ) (w : Output)
      → output (reply_row_of r) after ≡ w → (reply_row_of r ≡ w.row) × (after ≡ w.out)

-- ---- named_numbers: the number of each mode, way, error code and cause
pub record NamedNumbers : Type 0 where
  pub modes : map mode_number (mode.Fold ∷ mode.Gather ∷ mode.Sew ∷ []) ≡ 0 ∷ 1 ∷ 2 ∷ []
  pub ways : map way_number (way.SoftAp ∷ way.AirLink ∷ []) ≡ 1 ∷ 2 ∷ []
  pub codes : map code_number (code.Sum ∷ code.Command ∷ code.Other ∷ code.FileType ∷ []) ≡ 1 ∷ 2 ∷ 3 ∷ 4 ∷ []
  pub causes :
      map cause_number (cause.Sum ∷ cause.Command ∷ cause.Size ∷ cause.Field ∷ cause.BoxCommand ∷ [])
      ≡ 15 ∷ 31 ∷ 32 ∷ 33 ∷ 0 ∷ []

-- ---- names_of_numbers: what each number stands for, in literal numbers; any other comes back
pub record NamesOfNumbers : Type 0 where
  pub modes : NamesMode 0 (Ok mode.Fold) × NamesMode 1 (Ok mode.Gather) × NamesMode 2 (Ok mode.Sew)
  pub ways : NamesWay 1 (Ok way.SoftAp) × NamesWay 2 (Ok way.AirLink)
  pub codes :
      NamesCode 1 (Ok code.Sum) × NamesCode 2 (Ok code.Command) × NamesCode 3 (Ok code.Other)
      × NamesCode 4 (Ok code.FileType)
  pub no_mode : (e : UnknownNumber) → among e.0 (0 ∷ 1 ∷ 2 ∷ []) ≡ false → NamesMode e.0 (Err e)
  pub no_way : (e : UnknownNumber) → among e.0 (1 ∷ 2 ∷ []) ≡ false → NamesWay e.0 (Err e)
  pub no_code : (e : UnknownNumber) → among e.0 (1 ∷ 2 ∷ 3 ∷ 4 ∷ []) ≡ false → NamesCode e.0 (Err e)
  -- a number has one answer
  pub one_mode : (n : ℕ) (r s : Result Mode UnknownNumber) → NamesMode n r → NamesMode n s → r ≡ s
  pub one_way : (n : ℕ) (r s : Result Way UnknownNumber) → NamesWay n r → NamesWay n s → r ≡ s
  pub one_code : (n : ℕ) (r s : Result Code UnknownNumber) → NamesCode n r → NamesCode n s → r ≡ s

-- ---- worked_names: the row of each answer, by its name in the code, in literal numbers

-- the causes, in the order of the code's enum
abbrev pub causes : List Cause
causes = cause.Sum ∷ cause.Command ∷ cause.Size ∷ cause.Field ∷ cause.BoxCommand ∷ []

-- the codes, in that order
abbrev pub codes : List Code
codes = code.Sum ∷ code.Command ∷ code.Other ∷ code.FileType ∷ []

-- for every count, received sequence number and place
pub record WorkedNames : Type 0 where
  pub got_as : (m : Message) (parts : Parts)
      → reading_of (Ok (record { message = m; parts = parts })) ≡ got (message_in m) parts
  pub readings :
      map reading_of (Err refused.Command ∷ Err refused.Size ∷ Err refused.Field ∷ [])
      ≡ map (λ n. record { row = row n []; parts = no_parts }) (31 ∷ 32 ∷ 33 ∷ [])
  pub sendings :
      (n : ℕ)
      → map send_row_of
      (Ok n ∷ Err (unsent.Unwritten unwritten.Payload) ∷ Err (unsent.Unwritten (unwritten.Room n))
      ∷ Err unsent.Command ∷ Err unsent.Size ∷ Err unsent.Field ∷ [])
      ≡ row 0 (n ∷ []) ∷ row 21 (0 ∷ []) ∷ row 22 (n ∷ []) ∷ row 31 [] ∷ row 32 [] ∷ row 33 [] ∷ []
  pub replies :
      (n : ℕ)
      → map reply_row_of
      (Ok reply.Nothing ∷ Ok (reply.InformationWanted n) ∷ Ok (reply.StatusWanted n) ∷ Ok (reply.BeginWanted n)
      ∷ Ok (reply.StoreWanted n) ∷ Ok (reply.StopWanted n) ∷ Ok (reply.Acknowledged n) ∷ Err unwritten.Payload
      ∷ Err (unwritten.Room n) ∷ [])
      ≡ row 0 [] ∷ row 0 (0 ∷ 2 ∷ n ∷ []) ∷ row 0 (0 ∷ 4 ∷ n ∷ []) ∷ row 0 (0 ∷ 26 ∷ n ∷ []) ∷ row 0 (0 ∷ 30 ∷ n ∷ [])
      ∷ row 0 (0 ∷ 32 ∷ n ∷ []) ∷ row 0 (n ∷ []) ∷ row 21 (0 ∷ []) ∷ row 22 (n ∷ []) ∷ []
  -- a rejection, for each code with each cause
  pub rejected :
      (n : ℕ)
      → map (λ (c : Code). map (λ (k : Cause). reply_row_of (Ok (reply.Rejected n c k))) causes) codes
      ≡ map (λ (c : ℕ). map (λ (k : ℕ). row 0 (n ∷ 0x12 ∷ c ∷ k ∷ [])) (15 ∷ 31 ∷ 32 ∷ 33 ∷ 0 ∷ []))
      (1 ∷ 2 ∷ 3 ∷ 4 ∷ [])
