-- STATE is answered exactly where a field is out of range. Assumes nothing.
use Rattle.std.specs.Prelude.{Option, None, Some}
use Prim.Native.Nat.{ℕ, ◌≤◌}
use mathlib.Core.Path.{◌≡◌, refl, sym, ap}
use mathlib.Core.Logic.{◌≢◌}
use mathlib.Core.Bool.{true, false}
use mathlib.Core.List.{List}
use borrow.Author.Tests.{eqb-false}
use Rattle.base.specs.Rows.{Row}
use Rattle.base.specs.Outcomes.{Outcome}
use Rattle.base.specs.Keys.{among}
use Rattle.base.proofs.Tests.{either_way}
use Rattle.frame.specs.Wire.{frame_limit, command_of, number_of, flags_of, payload_of}
use Rattle.message.specs.declared.kind.Cause.TheVariants as cause
use Rattle.link.specs.Sending.{first_number, max_repeats}
use Rattle.link.specs.Calls.{in_range, link_of}
use Rattle.link.specs.Logs.{ticking}
use Rattle.link.specs.Ranges.{OutOfRange, InRange, waiters}
use Rattle.link.specs.declared.state.Link.{Link}
use Rattle.link.specs.Sending.{Wait}
use Rattle.link.specs.Sending.{waits_for}
use Rattle.link.proofs.Refusals.{refused_unchanged}
use Rattle.link.proofs.Ranges.{link_ranges}
use Rattle.transfer.specs.Checks.{in_range_of, open_in_range}
use Rattle.transfer.specs.Logs.{Call, beginning, storing, stopping}
use Rattle.transfer.specs.LogsComputed.{call_of}
use Rattle.transfer.specs.Ranges.{LinkIn}
use Rattle.transfer.specs.declared.state.Transfer.{Transfer}
use Rattle.transfer.specs.declared.state.Open.{Open}
use Rattle.transfer.specs.Transfers.{open_of, opened}
use Rattle.transfer.proofs.Ranges.{transfer_ranges}
use Rattle.device.specs.Handling.{After}
use Rattle.device.specs.HandlingExact.{Given, holding, leaves, Ranged, link_after}
use Rattle.device.specs.StateFirst.{StateExact, FieldsExact, WaitIn, OpenIn, TransferIn, StateFirst}
use Rattle.device.proofs.HandleLaws.{received_ranged, link_out_lem, transfer_out}
use Rattle.device.proofs.ReplyLaws.{plain, plain_reject}
use Rattle.device.proofs.TransferLaws.{is_in_range}
use Rattle.device.proofs.CaseLaws.{by_cases}

-- ---- by the ranges

module _ (limit first max : ℕ) (g : Given) (answer : Row) (body : List ℕ) where
  only : Ranged first max g → (leaves limit first max g answer body).row.number ≢ 17
  only ranged =
      by_cases limit first max g body ranged (λ (y : After). y.row.number ≢ 17) answer
      (λ _. eqb-false 0 17 refl)
      (λ _. (plain_reject g.out limit (number_of body) cause.Sum).not_state)
      (λ _ o. (plain (command_of body) limit (number_of body) (payload_of body) g.out o).not_state)
      (λ _ _. asked
      (beginning (link_after first max g body) g.clock (number_of body) (payload_of body) g.piece g.out)
      (received_ranged first max g.link (command_of body) (number_of body) ranged.0))
      (λ _ _. asked (storing (number_of body) (flags_of body) (payload_of body) g.out) tt)
      λ _ _. asked (stopping (number_of body) (payload_of body) g.out) tt
    where
      asked : (c : Call) → LinkIn first max c → (call_of limit first max g.transfer g.buffer c).row.number ≢ 17
      asked = (is_in_range g.transfer ranged.1).calls limit first max g.buffer

  exact : StateExact limit first max g answer body
  exact =
      record {
        link_out_lem = λ e.
            sym (link_out_lem limit first max answer body g.transfer g.link g.clock g.piece g.buffer
            g.out e);
        transfer_out = λ e.
            sym (transfer_out limit first max answer body g.transfer g.link g.clock g.piece g.buffer
            g.out e);
        only = only;
      }

-- ---- the fields of a link, by what a tick answers

out_by : (l : Link) → OutOfRange l (ticking 0) → in_range first_number max_repeats l ≡ false
out_by l e =
    (refused_unchanged first_number max_repeats l (ticking 0)).state_out (ap (λ (y : Outcome Link). y.row.number) e)

in_by : (l : Link) → InRange l (ticking 0) → in_range first_number max_repeats l ≡ true
in_by l h =
    either_way (in_range first_number max_repeats l) (λ e. e)
    λ e. absurd
    (h (ap (λ (r : Row). r.number) ((refused_unchanged first_number max_repeats l (ticking 0)).out_state e)))

pub idle_in : (next : ℕ) → in_range first_number max_repeats (link_of next None) ≡ true
idle_in next = in_by (link_of next None) ((link_ranges.each (ticking 0)).idle_in next)

pub waiting_in : (next command number sent repeats : ℕ) → repeats ≤ 2 → among command waiters ≡ true
    → in_range first_number max_repeats (link_of next (waits_for command number sent repeats)) ≡ true
waiting_in next command number sent repeats m w =
    in_by (link_of next (waits_for command number sent repeats))
    ((link_ranges.each (ticking 0)).waiting_in next command number sent repeats m w)

link_in : (next : ℕ) (w : Wait) → WaitIn w → in_range first_number max_repeats (link_of next w) ≡ true
link_in next None h = idle_in next
link_in next (Some w) h = waiting_in next w.command w.number w.sent w.repeats h.0 h.1

-- ---- the fields of a transfer

transfer_in : (t : Transfer) → TransferIn t → in_range_of t ≡ true
transfer_in t = by_open (open_of t)
  where
    by_open : (o : Option Open) → OpenIn o → open_in_range o ≡ true
    by_open None h = transfer_ranges.absent_in.test
    by_open (Some o) h = (transfer_ranges.open_in o.size o.piece o.stored h.0 h.1 h.2 h.3).test

-- ---- the claim

fields : (g : Given) (answer : Row) (body : List ℕ) → FieldsExact g answer body
fields g answer body =
    record {
      repeats = λ t next command number sent repeats h.
          (state t (link_of next (waits_for command number sent repeats))).link_out_lem
          (out_by _ ((link_ranges.each (ticking 0)).repeats_out next command number sent repeats h));
      command = λ t next command number sent repeats h.
          (state t (link_of next (waits_for command number sent repeats))).link_out_lem
          (out_by _ ((link_ranges.each (ticking 0)).command_out next command number sent repeats h));
      size = λ l piece stored.
          (state (opened 0 piece stored) l).transfer_out (transfer_ranges.size_out piece stored).test;
      piece = λ l size stored.
          (state (opened size 0 stored) l).transfer_out (transfer_ranges.piece_out size stored).test;
      pieces = λ l size piece stored h.
          (state (opened size piece stored) l).transfer_out (transfer_ranges.many_out size piece stored h).test;
      stored = λ l size piece stored h.
          (state (opened size piece stored) l).transfer_out (transfer_ranges.stored_out size piece stored h).test;
    }
  where
    state : (t : Transfer) (l : Link) → StateExact frame_limit first_number max_repeats (holding g t l) answer body
    state t l = exact frame_limit first_number max_repeats (holding g t l) answer body

pub state_first : StateFirst
state_first =
    record {
      exact = exact;
      fields = fields;
      is_in_range = λ g answer body l t.
          only frame_limit first_number max_repeats g answer body
          (link_in g.link.next g.link.waiting l, transfer_in g.transfer t);
    }
