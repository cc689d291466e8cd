-- The reply to each frame: its fault, its bytes from the frame writer, and that reading accepts it. Assumes nothing.
use Prim.Native.Nat.{ℕ, ◌+◌, ◌≤◌}
use mathlib.Core.Path.{◌≡◌, refl, ap, sym, ◌∙◌}
use mathlib.Core.Logic.{◌≢◌}
use mathlib.Core.Bool.{true, false, Bool, cond, true≢false}
use mathlib.Core.List.{List, [], ◌∷◌, map}
use native.Mathlib.Omega.{arith}
use borrow.Author.Tests.{le-ltb, eqb-false, lt-ltb, eqb-true, ne_eqb}
use lib.ListN.{length, get_or}
use lib.Dec.{eqb, ltb}
use Rattle.base.specs.Rows.{Row, row}
use Rattle.base.specs.Keys.{among}
use Rattle.base.specs.Outcomes.{Output, output}
use Rattle.base.specs.Asking.{AsksOnce}
use Rattle.base.proofs.Tests.{by_test, either_way}
use Rattle.base.proofs.Keys.{agree}
use Rattle.base.proofs.Asking.{asks_never, asks_either, asks_rowed}
use Rattle.frame.specs.Wire.{command_of, number_of, payload_of}
use Rattle.frame.specs.Calls.{write_of}
use Rattle.frame.proofs.RoundTrip.{round_trip}
use Rattle.frame.proofs.WriterExact.{write_asked}
use Rattle.message.specs.Commands.{table, profile_in, kind_of, from_box, owed_of}
use Rattle.message.specs.Layouts.{code_number, is_listed, allowed, fits, size_fits}
use Rattle.message.specs.Table.{Read, cause_number}
use Rattle.message.specs.Owed.{owed_for, handed, owed_after, code_for}
use Rattle.message.specs.Reading.{decode_as, read_of}
use Rattle.message.specs.Replies.{owed_to, reject_of, replied_of, reply_frame_of, reply_of}
use Rattle.message.specs.CommandLists.{box_commands, handed_commands}
use Rattle.message.specs.RepliesExact.{FaultsRejected, reply_wire, Replied, RejectedWith, ReplyExact, RepliesExact}
use Rattle.message.specs.RepliesExact.{SilentElse, RepliesNoPayload, RepliesAsked}
use Rattle.message.specs.declared.kind.Cause.{Cause}
use Rattle.message.specs.declared.kind.Cause.TheVariants as cause
use Rattle.message.specs.declared.kind.Kind.{Kind}
use Rattle.message.specs.declared.kind.Owed.{Owed}
use Rattle.message.specs.declared.kind.Owed.TheVariants as owes
use Rattle.message.proofs.CommandLists.{box_listed, command_lists, handed_listed, handed_inward}
use Rattle.message.proofs.Numbers.{value}
use Rattle.message.proofs.Accepted.{Accepted, accepted}

-- ---- faults

-- what is listed is not COMMAND
abbrev Known : Read → Type 0
Known r = r.row.number ≡ 31 → ⊥

known : (k : Kind) (command : ℕ) (p : List ℕ) → is_listed k ≡ true → Known (decode_as k command p)
known k command p listed =
    rw listed (by_test Known (size_fits k p)
    (λ _. by_test Known (allowed k p) (λ _. eqb-false 0 31 refl) (λ _. eqb-false 33 31 refl))
    (λ _. eqb-false 32 31 refl))

-- what is not listed is not a command of the box, and is not handed to the caller
module _ (command : ℕ) (p : List ℕ) (e : read_of command p ≡ row 31 []) where
  unlisted : (t : Bool) → (t ≡ true → is_listed (kind_of command) ≡ true) → t ≡ false
  unlisted t listed =
      either_way t
      (λ h. absurd (known (kind_of command) command p (listed h) (ap (λ (r : Row). r.number) e)))
      (λ h. h)

  inward : from_box command ≡ false
  inward = unlisted (from_box command) (box_listed command)

  not_handed : handed (owed_of command) ≡ false
  not_handed = unlisted (handed (owed_of command)) (handed_listed command)

pub faults_rejected : FaultsRejected
faults_rejected command p =
    record {
      box_only = λ h. record { cause_is = rw h; shown_is = refl; code_is = refl };
      unlisted = λ e. record {
        cause_is = rw (inward command p e, not_handed command p e, e);
        shown_is = refl;
        code_is = refl;
      };
      handed_over = λ h. rw (handed_inward command h, h);
      size = λ h n e. record { cause_is = rw (h, n, e); shown_is = refl; code_is = refl };
      field = λ h n e. record { cause_is = rw (h, n, e); shown_is = refl; code_is = refl };
    }

-- ---- replies are messages

reject_read : (why : Cause)
    → read_of 0x12 (code_number (code_for why) ∷ []) ≡ row 0 (0x12 ∷ code_number (code_for why) ∷ [])
unfolding among table profile_in size_fits fits
reject_read cause.Sum = refl
reject_read cause.Command = refl
reject_read cause.Size = refl
reject_read cause.Field = refl
reject_read cause.BoxCommand = refl

-- the commands that their profiles say are acknowledged, and a control
abbrev profiles : List ℕ
profiles = 0x07 ∷ 0x0D ∷ 0x0F ∷ []

abbrev acknowledged_ones : List ℕ
acknowledged_ones = 0x03 ∷ profiles

acknowledgement_read : (command : ℕ) → among command acknowledged_ones ≡ true
    → read_of (command + 1) [] ≡ row 0 ((command + 1) ∷ [])
unfolding among table profile_in size_fits fits
acknowledgement_read command h =
    agree (λ c. read_of (c + 1) []) (λ c. row 0 ((c + 1) ∷ [])) acknowledged_ones command refl h

-- ---- a reply is written

module _ (limit number : ℕ) (out : List ℕ) (least : 6 ≤ limit) where
  module _ (command : ℕ) (payload : List ℕ) (short : length payload ≤ 1) where
    small : ltb limit (length payload + 5) ≡ false
    small = le-ltb limit (length payload + 5) (omega arith)

    acknowledged : read_of command payload ≡ row 0 (command ∷ payload)
        → Replied limit number command payload [] out (write_of limit command number 0 payload out)
    acknowledged read =
        record {
          fits = λ h. rw (small, le-ltb (length out) (length (reply_wire number command payload)) h);
          room = λ h. rw (small, lt-ltb (length out) (length (reply_wire number command payload)) h);
          message = read;
          back = λ wide earlier later all.
              round_trip limit wide command number 0 payload (omega arith) earlier later all;
        }

  rejected : (why : Cause) → RejectedWith limit number (code_number (code_for why)) (cause_number why) out
      (reject_of limit why number out)
  rejected why =
      let a = acknowledged 0x12 (code_number (code_for why) ∷ []) (omega arith) (reject_read why) in
      record {
        fits = λ h. rw (a.fits h);
        room = λ h. rw (a.room h);
        message = a.message;
        back = a.back;
      }

  -- ---- to a frame

  module _ (command : ℕ) (p : List ℕ) where
    abbrev w : Output
    w = reply_frame_of limit command number p out

    by_box_lem : {b : Bool} → among command box_commands ≡ b → from_box command ≡ b
    by_box_lem h = command_lists.from_box_is command ∙ h

    by_handed : {b : Bool} → among command handed_commands ≡ b → handed (owed_of command) ≡ b
    by_handed h = command_lists.handed_over command ∙ h

    -- what is read has its command first, and is owed what its values say
    first : (values : List ℕ) → read_of command p ≡ row 0 values → command ≡ get_or values 0 0
    first values e =
        let a : Accepted (kind_of command) command p values = accepted e in
        value 0 a.values

    owes_read : (values : List ℕ) → among (get_or values 0 0) box_commands ≡ false
        → among (get_or values 0 0) handed_commands ≡ false → read_of command p ≡ row 0 values
        → owed_to command p ≡ owed_for values
    owes_read values h n e =
        let is : command ≡ get_or values 0 0 = first values e in
        rw (
          by_box_lem (ap (λ (c : ℕ). among c box_commands) is ∙ h),
          by_handed (ap (λ (c : ℕ). among c handed_commands) is ∙ n),
          e,
        )

    owed_profile : (values : List ℕ) → among command box_commands ≡ false → among command handed_commands ≡ false
        → eqb command 0x03 ≡ false → read_of command p ≡ row 0 values → owed_to command p ≡ owed_of command
    owed_profile values h n no_control_lem e =
        let is : get_or values 0 0 ≡ command = sym (first values e) in
        owes_read values (rw is h) (rw is n) e ∙ rw (is, no_control_lem)

    -- ---- what is owed without a fault

    acknowledges : (c : ℕ) → among c acknowledged_ones ≡ true → owed_to command p ≡ owes.Acknowledge (c + 1)
        → Replied limit number (c + 1) [] [] out w
    acknowledges c h e = rw e (acknowledged (c + 1) [] (omega arith) (acknowledgement_read c h))

    by_profile : (values : List ℕ) → among command profiles ≡ true → read_of command p ≡ row 0 values
        → Replied limit number (command + 1) [] [] out w
    unfolding among
    by_profile values h e =
        let all : (f : ℕ → Bool) (b : Bool) → map f profiles ≡ map (λ _. b) profiles → f command ≡ b =
        λ f b same. agree f (λ _. b) profiles command same h in
        let one : among command acknowledged_ones ≡ true = all (λ c. among c acknowledged_ones) true refl in
        let owed : owed_to command p ≡ owed_of command =
        owed_profile values (all (λ c. among c box_commands) false refl) (all (λ c. among c handed_commands) false refl)
        (all (λ c. eqb c 0x03) false refl) e in
        acknowledges command one (owed ∙ command_lists.acknowledged command one)

    silent : (values : List ℕ) → among command box_commands ≡ false
        → among command (0x01 ∷ 0x03 ∷ 0x07 ∷ 0x0D ∷ 0x0F ∷ handed_commands) ≡ false
        → read_of command p ≡ row 0 values → w ≡ output (row 0 []) out
    unfolding among
    silent values inward h e =
        let no_control_lem : eqb command 0x03 ≡ false = either_way (eqb command 0x03)
        (λ t. absurd (true≢false (rw (eqb-true command 0x03 t) at h))) (λ q. q) in
        let nothing : owed_of command ≡ owes.Nothing = command_lists.no_reply command h in
        let unhanded : among command handed_commands ≡ false =
        sym (command_lists.handed_over command) ∙ ap handed nothing in
        rw (owed_profile values inward unhanded no_control_lem e, nothing)

    -- what is handed to the caller
    hands : (c : ℕ) → among c handed_commands ≡ true → command ≡ c → owed_to command p ≡ owed_of c
    hands c h is =
        (faults_rejected command p).handed_over
        (by_handed (ap (λ (k : ℕ). among k handed_commands) is ∙ h)) ∙ ap (λ (k : ℕ). owed_of k) is

    exact : ReplyExact limit command number p out w
    unfolding among
    exact =
        let fault = faults_rejected command p in
        record {
          box_only = λ h. rw (fault.box_only (by_box_lem h)).cause_is (rejected cause.BoxCommand);
          unlisted = λ e. rw (fault.unlisted e).cause_is (rejected cause.Command);
          begin = λ is. rw (hands 0x19 refl is ∙ command_lists.begin);
          store = λ is. rw (hands 0x1D refl is ∙ command_lists.store);
          stop = λ is. rw (hands 0x1F refl is ∙ command_lists.stop);
          size = λ h n e. rw (fault.size (by_box_lem h) (by_handed n) e).cause_is (rejected cause.Size);
          field = λ h n e. rw (fault.field (by_box_lem h) (by_handed n) e).cause_is (rejected cause.Field);
          acknowledged = by_profile;
          control = λ values e.
              acknowledges 0x03 refl (owes_read (0x03 ∷ 1 ∷ values) refl refl e ∙ command_lists.control values);
          query = λ values e. rw (owes_read (0x03 ∷ 2 ∷ values) refl refl e ∙ command_lists.query values);
          information = λ values e. rw (owes_read (0x01 ∷ values) refl refl e ∙ command_lists.information);
          silent = silent;
        }

pub replies_exact : RepliesExact
replies_exact limit least out =
    record {
      frames = λ command number p. exact limit number out least command p;
      readings = λ command number p. exact limit number out least command p;
      is_delivered = λ v body. exact limit (number_of body) out least (command_of body) (payload_of body);
      wrong_sum_lem = λ v body. rejected limit (number_of body) out least cause.Sum;
    }

pub silent_else : SilentElse
silent_else limit answer body out f s = rw (ne_eqb answer.number 1 f, ne_eqb answer.number 15 s)

-- ---- never PAYLOAD

module _ (limit : ℕ) (least : 6 ≤ limit) (out : List ℕ) where
  -- an output that is not PAYLOAD
  abbrev Never : Output → Type 0
  Never w = w.row.number ≢ 21

  small_never : (command number : ℕ) (payload : List ℕ) → length payload ≤ 1
      → Never (write_of limit command number 0 payload out)
  small_never command number payload short =
      rw (small limit number out least command payload short)
      (by_test Never (ltb (length out) (length (reply_wire number command payload))) (λ _ e. omega arith)
      (λ _ e. omega arith))

  reject_never : (why : Cause) (number : ℕ) → Never (reject_of limit why number out)
  reject_never why number =
      let w : Output = write_of limit 0x12 number 0 (code_number (code_for why) ∷ []) out in
      by_test Never (eqb w.row.number 0) (λ _ e. omega arith)
      (λ _. small_never 0x12 number (code_number (code_for why) ∷ []) (omega arith))

  owed_never : (d : Owed) (number : ℕ) → Never (replied_of limit d number out)
  owed_never owes.Nothing number = λ e. omega arith
  owed_never owes.AskInformation number = λ e. omega arith
  owed_never owes.AskStatus number = λ e. omega arith
  owed_never owes.AskBegin number = λ e. omega arith
  owed_never owes.AskStore number = λ e. omega arith
  owed_never owes.AskStop number = λ e. omega arith
  owed_never (owes.Acknowledge command) number = small_never command number [] (omega arith)
  owed_never (owes.Reject why) number = reject_never why number

pub no_payload : RepliesNoPayload
no_payload limit least out =
    record {
      decisions = λ answer body.
          by_test (Never limit least out) (eqb answer.number 1)
          (λ _. owed_never limit least out (owed_to (command_of body) (payload_of body)) (number_of body))
          (λ _. by_test (Never limit least out) (eqb answer.number 15)
          (λ _. reject_never limit least out cause.Sum (number_of body)) (λ _ e. omega arith));
      frames = λ command number p. owed_never limit least out (owed_to command p) number;
      readings = λ command number reading. owed_never limit least out (owed_after command reading) number;
    }

-- ---- asking for the room

module _ (limit : ℕ) where
  rejects_asked : (why : Cause) (number : ℕ) → AsksOnce (λ out. (reject_of limit why number out).row)
  rejects_asked why number =
      asks_rowed (λ count. row 0 (count ∷ 0x12 ∷ code_number (code_for why) ∷ cause_number why ∷ []))
      (λ n e. omega arith) (λ n. refl)
      (λ out. write_of limit 0x12 number 0 (code_number (code_for why) ∷ []) out)
      (write_asked limit 0x12 number 0 (code_number (code_for why) ∷ []))

  -- a row under 0 does not ask
  asked_none : (values : List ℕ) → AsksOnce (λ out. row 0 values)
  asked_none values = asks_never (row 0 values) (λ e. omega arith)

  owed_asked : (d : Owed) (number : ℕ) → AsksOnce (λ out. (replied_of limit d number out).row)
  owed_asked owes.Nothing number = asked_none []
  owed_asked owes.AskInformation number = asked_none (0 ∷ 0x02 ∷ number ∷ [])
  owed_asked owes.AskStatus number = asked_none (0 ∷ 0x04 ∷ number ∷ [])
  owed_asked owes.AskBegin number = asked_none (0 ∷ 0x1A ∷ number ∷ [])
  owed_asked owes.AskStore number = asked_none (0 ∷ 0x1E ∷ number ∷ [])
  owed_asked owes.AskStop number = asked_none (0 ∷ 0x20 ∷ number ∷ [])
  owed_asked (owes.Acknowledge command) number = write_asked limit command number 0 []
  owed_asked (owes.Reject why) number = rejects_asked why number

  decided_asked : (answer : Row) (body : List ℕ) → AsksOnce (λ out. (reply_of limit answer body out).row)
  decided_asked answer body =
      let row_of : Output → Row = λ w. w.row in
      let to_frame : List ℕ → Output =
      λ out. reply_frame_of limit (command_of body) (number_of body) (payload_of body) out in
      let to_sum : List ℕ → Output = λ out. reject_of limit cause.Sum (number_of body) out in
      let silence : List ℕ → Output = λ out. output (row 0 []) out in
      asks_either row_of (eqb answer.number 1) to_frame
      (λ out. cond (eqb answer.number 15) (to_sum out) (silence out))
      (owed_asked (owed_to (command_of body) (payload_of body)) (number_of body))
      (asks_either row_of (eqb answer.number 15) to_sum silence (rejects_asked cause.Sum (number_of body))
      (asked_none []))

pub reply_asked : RepliesAsked
reply_asked limit =
    record {
      decisions = decided_asked limit;
      frames = λ command number p. owed_asked limit (owed_to command p) number;
      readings = λ command number reading. owed_asked limit (owed_after command reading) number;
    }
