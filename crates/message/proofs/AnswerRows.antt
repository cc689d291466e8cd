-- A message can be read back from its values, and an answer from its row, so no two have the same. Assumes nothing.
use Prim.Native.Nat.{ℕ}
use mathlib.Core.Path.{◌≡◌, refl, ap, sym, ◌∙◌}
use mathlib.Core.Bool.{Bool, true, false, cond, true≢false}
use mathlib.Core.List.{List, [], ◌∷◌}
use lib.ListN.{get_or, drop}
use lib.Dec.{eqb}
use native.Mathlib.Omega.{arith}
use Rattle.std.proofs.lemmas.Bool.Decides.{nat_tests}
use Rattle.base.specs.Keys.{among}
use Rattle.base.specs.Rows.{Row}
use Rattle.base.specs.Outcomes.{Output}
use Rattle.base.specs.declared.writes.WriteError.{WriteError}
use Rattle.base.specs.declared.writes.WriteError.TheVariants as unwritten
use Rattle.base.proofs.Rows.{injective_by}
use Rattle.base.proofs.WritesExact.{unwritten_from}
use Rattle.message.specs.Numbers.{num}
use Rattle.message.specs.Counter.{mode_number, NamesMode, status_in, control_in}
use Rattle.message.specs.Layouts.{way_number, NamesWay, code_number, NamesCode}
use Rattle.message.specs.Messages.{network_in, unix_in, time_in, message_in}
use Rattle.message.specs.Table.{Read, reading_of, send_row_of, cause_number, reply_row_of}
use Rattle.message.specs.AnswerRows.{RowsInjective, ContractsComplete, NamedNumbers, NamesOfNumbers, WorkedNames}
use Rattle.message.specs.declared.counter.Control.{Control}
use Rattle.message.specs.declared.counter.Mode.{Mode}
use Rattle.message.specs.declared.counter.Mode.TheVariants as mode
use Rattle.message.specs.declared.counter.Status.{Status}
use Rattle.message.specs.declared.kind.Cause.{Cause}
use Rattle.message.specs.declared.kind.Cause.TheVariants as cause
use Rattle.message.specs.declared.parts.Parts.{Parts}
use Rattle.message.specs.declared.reader.Reading.{Reading}
use Rattle.message.specs.declared.reader.ReadError.{ReadError}
use Rattle.message.specs.declared.reader.ReadError.TheVariants as refused
use Rattle.message.specs.declared.answers.Reply.{Reply}
use Rattle.message.specs.declared.answers.Reply.TheVariants as reply
use Rattle.message.specs.declared.values.Code.{Code}
use Rattle.message.specs.declared.values.Code.TheVariants as code
use Rattle.message.specs.declared.values.Extra.{Extra}
use Rattle.message.specs.declared.values.Extra.TheVariants as extra
use Rattle.message.specs.declared.values.Message.{Message}
use Rattle.message.specs.declared.values.Message.TheVariants as message
use Rattle.message.specs.declared.values.Network.{Network}
use Rattle.message.specs.declared.values.Time.{Time}
use Rattle.std.specs.Prelude.{Option, None, Some, Result, Ok, Err}
use Rattle.message.specs.declared.values.UnknownNumber.{UnknownNumber}
use Rattle.message.specs.declared.values.Way.{Way}
use Rattle.message.specs.declared.values.Way.TheVariants as way
use Rattle.message.specs.declared.writer.SendError.{SendError}
use Rattle.message.specs.declared.writer.SendError.TheVariants as unsent

-- what has a number, or else
abbrev under : {A : Type 0} → ℕ → ℕ → A → A → A
under x n a other = cond (eqb x n) a other

-- ---- the values

abbrev mode_from : ℕ → Mode
mode_from n = under n 0 mode.Fold (under n 1 mode.Gather mode.Sew)

mode_back : (m : Mode) → mode_from (mode_number m) ≡ m
mode_back mode.Fold = refl
mode_back mode.Gather = refl
mode_back mode.Sew = refl

abbrev way_from : ℕ → Way
way_from n = under n 1 way.SoftAp way.AirLink

way_back : (w : Way) → way_from (way_number w) ≡ w
way_back way.SoftAp = refl
way_back way.AirLink = refl

abbrev code_from : ℕ → Code
code_from n = under n 1 code.Sum (under n 2 code.Command (under n 3 code.Other code.FileType))

code_back : (c : Code) → code_from (code_number c) ≡ c
code_back code.Sum = refl
code_back code.Command = refl
code_back code.Other = refl
code_back code.FileType = refl

abbrev cause_from : ℕ → Cause
cause_from n =
    under n 15 cause.Sum (under n 31 cause.Command (under n 32 cause.Size (under n 33 cause.Field cause.BoxCommand)))

cause_back : (c : Cause) → cause_from (cause_number c) ≡ c
cause_back cause.Sum = refl
cause_back cause.Command = refl
cause_back cause.Size = refl
cause_back cause.Field = refl
cause_back cause.BoxCommand = refl

flag_back : (b : Bool) → eqb (num b) 1 ≡ b
flag_back true = refl
flag_back false = refl

abbrev unix_from : List ℕ → Option ℕ
unix_from [] = None
unix_from (seconds ∷ l) = Some seconds

unix_back : (u : Option ℕ) → unix_from (unix_in u) ≡ u
unix_back None = refl
unix_back (Some seconds) = refl

abbrev value : List ℕ → ℕ → ℕ
value l i = get_or l i 0

-- from a row's values, as numbers and as flags
module _ (l : List ℕ) where
  abbrev v : ℕ → ℕ
  v i = value l i

  abbrev f : ℕ → Bool
  f i = eqb (v i) 1

  abbrev status_from : Status
  status_from =
      record {
        feeding = f 0;
        lamp = f 1;
        mode = mode_from (v 2);
        volume = v 3;
        leaf = v 4;
        double = f 5;
        skipped = f 6;
        fault = f 7;
      }

  abbrev control_from : Control
  control_from =
      record {
        flags = record { lamp = f 0; mode = f 1; volume = f 2 };
        lamp = f 3;
        mode = mode_from (v 4);
        volume = v 5;
      }

  abbrev network_from : Network
  network_from =
      record {
        softap = f 0;
        station = f 1;
        onboarding = f 2;
        binding = f 3;
        router = f 4;
        server = f 5;
        strength = v 6;
        app = f 7;
        testing = f 8;
      }

  abbrev time_from : Time
  time_from =
      record { year = v 0; month = v 1; day = v 2; hour = v 3; minute = v 4; second = v 5; unix = unix_from (drop 6 l) }

status_back : (s : Status) → status_from (status_in s) ≡ s
status_back s = simp (flag_back, mode_back)

control_back : (c : Control) → control_from (control_in c) ≡ c
control_back c = simp (flag_back, mode_back)

network_back : (n : Network) → network_from (network_in n) ≡ n
network_back n = simp flag_back

time_back : (c : Time) → time_from (time_in c) ≡ c
time_back c = simp (unix_back c.unix)

abbrev extra_from : ℕ → ℕ → Extra
extra_from size attributes =
    cond (eqb size 66) extra.Absent
    (cond (eqb size 74) (extra.Attributes attributes) (extra.AttributesAndSecret attributes))

-- ---- a message

-- with a first value, and others
abbrev bodied : ℕ → ℕ → List ℕ → Message
bodied command first l =
    under command 0x02 (message.Information (value l 0) (extra_from first (value l 1)))
    (under command 0x03 (under first 1 (message.Control (control_from l)) message.Query)
    (under command 0x04 (message.Status (status_from l))
    (under command 0x05 (message.Report (status_from l))
    (under command 0x09 (message.Onboarding (way_from first))
    (under command 0x0D (message.Network (network_from (first ∷ l)))
    (under command 0x11 (message.ModuleReject (code_from first))
    (under command 0x12 (message.BoxReject (code_from first))
    (under command 0x18 (message.Time (time_from (first ∷ l)))
    (under command 0x19 (message.Announcement first)
    (under command 0x1B (message.Ready first) (message.Piece first (value l 0))))))))))))

-- every message has a value; the first case is arbitrary
abbrev message_from : List ℕ → Message
message_from [] = message.Query
message_from (command ∷ []) = message.Empty command
message_from (command ∷ first ∷ l) = bodied command first l

message_back : (m : Message) → message_from (message_in m) ≡ m
message_back (message.Empty command) = refl
message_back (message.Information timeout extra.Absent) = refl
message_back (message.Information timeout (extra.Attributes attributes)) = refl
message_back (message.Information timeout (extra.AttributesAndSecret attributes)) = refl
message_back (message.Control control) = ap message.Control (control_back control)
message_back message.Query = refl
message_back (message.Status status) = ap message.Status (status_back status)
message_back (message.Report status) = ap message.Report (status_back status)
message_back (message.Onboarding way) = ap message.Onboarding (way_back way)
message_back (message.Network network) = ap message.Network (network_back network)
message_back (message.ModuleReject code) = ap message.ModuleReject (code_back code)
message_back (message.BoxReject code) = ap message.BoxReject (code_back code)
message_back (message.Time time) = ap message.Time (time_back time)
message_back (message.Announcement size) = refl
message_back (message.Ready size) = refl
message_back (message.Piece index total) = refl

-- ---- the answers

abbrev read_as : Message → Parts → Result Reading ReadError
read_as m parts = Ok (record { message = m; parts = parts })

abbrev reading_from : Read → Result Reading ReadError
reading_from r =
    under r.row.number 0 (read_as (message_from r.row.values) r.parts)
    (under r.row.number 31 (Err refused.Command)
    (under r.row.number 32 (Err refused.Size) (Err refused.Field)))

reading_back : (a : Result Reading ReadError) → reading_from (reading_of a) ≡ a
reading_back (Ok r) = ap (λ (m : Message). read_as m r.parts) (message_back r.message)
reading_back (Err refused.Command) = refl
reading_back (Err refused.Size) = refl
reading_back (Err refused.Field) = refl

abbrev sent_from : Row → Result ℕ SendError
sent_from r =
    under r.number 0 (Ok (value r.values 0))
    (under r.number 31 (Err unsent.Command)
    (under r.number 32 (Err unsent.Size)
    (under r.number 33 (Err unsent.Field) (Err (unsent.Unwritten (unwritten_from r))))))

sent_back : (a : Result ℕ SendError) → sent_from (send_row_of a) ≡ a
sent_back (Ok count) = refl
sent_back (Err unsent.Command) = refl
sent_back (Err unsent.Size) = refl
sent_back (Err unsent.Field) = refl
sent_back (Err (unsent.Unwritten unwritten.Payload)) = refl
sent_back (Err (unsent.Unwritten (unwritten.Room needed))) = refl

-- nothing, a count, a command that the caller is asked to send, or a rejection
abbrev done_from : List ℕ → Reply
done_from [] = reply.Nothing
done_from (count ∷ []) = reply.Acknowledged count
done_from (count ∷ command ∷ []) = reply.Nothing
done_from (count ∷ command ∷ value ∷ l) =
    under command 0x02 (reply.InformationWanted value)
    (under command 0x04 (reply.StatusWanted value)
    (under command 0x1A (reply.BeginWanted value)
    (under command 0x1E (reply.StoreWanted value)
    (under command 0x20 (reply.StopWanted value)
    (reply.Rejected count (code_from value) (cause_from (get_or l 0 0)))))))

abbrev reply_from : Row → Result Reply WriteError
reply_from r = under r.number 0 (Ok (done_from r.values)) (Err (unwritten_from r))

reply_back : (a : Result Reply WriteError) → reply_from (reply_row_of a) ≡ a
reply_back (Ok reply.Nothing) = refl
reply_back (Ok (reply.InformationWanted number)) = refl
reply_back (Ok (reply.StatusWanted number)) = refl
reply_back (Ok (reply.BeginWanted number)) = refl
reply_back (Ok (reply.StoreWanted number)) = refl
reply_back (Ok (reply.StopWanted number)) = refl
reply_back (Ok (reply.Acknowledged count)) = refl
reply_back (Ok (reply.Rejected count code cause)) = simp (code_back code, cause_back cause)
reply_back (Err unwritten.Payload) = refl
reply_back (Err (unwritten.Room needed)) = refl

pub rows_injective : RowsInjective
rows_injective =
    record {
      messages = injective_by message_in message_from message_back;
      readings = injective_by reading_of reading_from reading_back;
      sendings = injective_by send_row_of sent_from sent_back;
      replies = injective_by reply_row_of reply_from reply_back;
    }

-- ---- names and contracts

pub named_numbers : NamedNumbers
named_numbers = record { modes = refl; ways = refl; codes = refl; causes = refl }

-- values with the same number are the same
same_by : {A : Type 0} (number : A → ℕ) (from : ℕ → A) → ((a : A) → from (number a) ≡ a) → {n : ℕ} (a b : A)
    → number a ≡ n → number b ≡ n → a ≡ b
same_by number from back a b p q = sym (back a) ∙ ap from (p ∙ sym q) ∙ back b

error_same : {n : ℕ} (e b : UnknownNumber) → e.0 ≡ n → b.0 ≡ n → e ≡ b
error_same e b p q = same_by (λ (e : UnknownNumber). e.0) (λ (n : ℕ). record { 0 = n }) (λ e. refl) e b p q

one_mode : (n : ℕ) (r s : Result Mode UnknownNumber) → NamesMode n r → NamesMode n s → r ≡ s
one_mode n (Ok a) (Ok b) p q = ap Ok (same_by mode_number mode_from mode_back a b p.0 q.0)
one_mode n (Ok a) (Err b) p q = absurd (omega arith)
one_mode n (Err e) (Ok b) p q = absurd (omega arith)
one_mode n (Err e) (Err b) p q = ap Err (error_same e b p.0 q.0)

one_way : (n : ℕ) (r s : Result Way UnknownNumber) → NamesWay n r → NamesWay n s → r ≡ s
one_way n (Ok a) (Ok b) p q = ap Ok (same_by way_number way_from way_back a b p.0 q.0)
one_way n (Ok a) (Err b) p q = absurd (true≢false (sym p.1 ∙ q.1))
one_way n (Err e) (Ok b) p q = absurd (true≢false (sym q.1 ∙ p.1))
one_way n (Err e) (Err b) p q = ap Err (error_same e b p.0 q.0)

one_code : (n : ℕ) (r s : Result Code UnknownNumber) → NamesCode n r → NamesCode n s → r ≡ s
one_code n (Ok a) (Ok b) p q = ap Ok (same_by code_number code_from code_back a b p.0 q.0)
one_code n (Ok a) (Err b) p q = absurd (true≢false (sym p.1 ∙ q.1))
one_code n (Err e) (Ok b) p q = absurd (true≢false (sym q.1 ∙ p.1))
one_code n (Err e) (Err b) p q = ap Err (error_same e b p.0 q.0)

pub names_of_numbers : NamesOfNumbers
unfolding among
names_of_numbers =
    record {
      modes = ((refl, omega arith), (refl, omega arith), (refl, omega arith));
      ways = ((refl, refl), (refl, refl));
      codes = ((refl, refl), (refl, refl), (refl, refl), (refl, refl));
      no_mode = λ e h. (refl, grind (arith, nat_tests));
      no_way = λ e h. (refl, grind (arith, nat_tests));
      no_code = λ e h. (refl, grind (arith, nat_tests));
      one_mode = one_mode;
      one_way = one_way;
      one_code = one_code;
    }

pub worked_names : WorkedNames
worked_names =
    record {
      got_as = λ m parts. refl;
      readings = refl;
      sendings = λ count. refl;
      replies = λ n. refl;
      rejected = λ n. refl;
    }

pub contracts_complete : ContractsComplete
contracts_complete =
    record {
      read = λ r command p e. (ap (λ (d : Read). d.row) e, ap (λ (d : Read). d.parts) e);
      got_read = λ m parts command p e. (sym (ap (λ (d : Read). d.row) e), sym (ap (λ (d : Read). d.parts) e));
      written = λ r after w e. (ap (λ (v : Output). v.row) e, ap (λ (v : Output). v.out) e);
      replied = λ r after w e. (ap (λ (v : Output). v.row) e, ap (λ (v : Output). v.out) e);
    }
