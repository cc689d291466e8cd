-- Statement: the records and messages that a test asks for by numbers.
use Rattle.std.specs.Prelude.{ℕ, true, false, cond, None, eqb}
use Rattle.link.specs.declared.state.Link.{Link}
use Rattle.link.specs.Sending.{waits_for}
use Rattle.link.specs.Calls.{link_of}
use Rattle.message.specs.declared.counter.Mode.TheVariants as mode
use Rattle.message.specs.declared.counter.Status.{Status}
use Rattle.message.specs.declared.values.Extra.TheVariants as extra
use Rattle.message.specs.declared.values.Message.{Message}
use Rattle.message.specs.declared.values.Message.TheVariants as message
use Rattle.transfer.specs.Transfers.{absent, opened}
use Rattle.transfer.specs.declared.state.Transfer.{Transfer}

-- a link: with a command that waits under the next number, or idle where the command is 0
abbrev pub link_from : ℕ → ℕ → ℕ → ℕ → Link
link_from next waiting sent repeats =
    cond (eqb waiting 0) (link_of next None) (link_of next (waits_for waiting next sent repeats))

-- a transfer: none where its size is 0
abbrev pub transfer_from : ℕ → ℕ → ℕ → Transfer
transfer_from size piece stored = cond (eqb size 0) absent (opened size piece stored)

-- a status: feeding, mode gather, no alarm
abbrev pub gathering : ℕ → ℕ → Status
gathering volume leaf =
    record {
      feeding = true;
      lamp = false;
      mode = mode.Gather;
      volume = volume;
      leaf = leaf;
      double = false;
      skipped = false;
      fault = false;
    }

-- such a status as the reply 04, or as a report
abbrev pub status_of : ℕ → ℕ → ℕ → Message
status_of command volume leaf =
    cond (eqb command 0x04) (message.Status (gathering volume leaf)) (message.Report (gathering volume leaf))

-- device information without attributes
abbrev pub information_of : ℕ → Message
information_of timeout = message.Information timeout extra.Absent
