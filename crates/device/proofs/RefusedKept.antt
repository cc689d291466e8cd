-- What a refusal leaves as it was. Assumes nothing.
use Prim.Native.Nat.{ℕ, ◌-◌, ◌≤◌}
use mathlib.Core.Path.{◌≡◌, refl, sym, ap, subst, ◌∙◌}
use mathlib.Core.Logic.{◌≢◌}
use mathlib.Core.Bool.{true, true≢false}
use mathlib.Core.List.{List, [], ◌∷◌}
use native.Mathlib.Omega.{arith}
use lib.ListN.{length, drop, length-take}
use Rattle.base.specs.Rows.{Row}
use Rattle.base.specs.Keys.{among}
use Rattle.base.proofs.Tests.{either_way}
use Rattle.frame.specs.Wire.{frame_limit, command_of, number_of, flags_of, payload_of, length_of}
use Rattle.message.specs.declared.kind.Cause.TheVariants as cause
use Rattle.link.specs.Calls.{in_range}
use Rattle.transfer.specs.Checks.{in_range_of}
use Rattle.transfer.specs.Calls.{Both, Held}
use Rattle.transfer.specs.Refusals as refusals
use Rattle.transfer.proofs.Refusals.{refused_kept as transfer-kept}
use Rattle.transfer.proofs.PayloadNever.{payload_never}
use Rattle.device.specs.HandlingExact.{Given, leaves, Ranged, link_after}
use Rattle.device.specs.RefusedKept.{Kept, RefusedKept, NoPayload}
use Rattle.device.proofs.HandleLaws.{link_out_lem, transfer_out}
use Rattle.device.proofs.ReplyLaws.{plain, plain_reject}
use Rattle.device.proofs.CaseLaws.{by_cases}
use Rattle.device.proofs.HandlingExact.{handle_exact}

-- none of the four numbers is 0
not_done : (n : ℕ) → among n (17 ∷ 21 ∷ 22 ∷ 41 ∷ []) ≡ true → n ≢ 0
unfolding among
not_done n h z = absurd (true≢false (sym (rw z at h)))

module _ (limit first max : ℕ) (g : Given) (answer : Row) (body : List ℕ) where
  -- the transfer's own claim, of the link after the frame
  kept_by :
      refusals.RefusedKept limit first max g.transfer (link_after first max g body) g.clock (number_of body)
      (payload_of body) g.out
  kept_by =
      transfer-kept limit first max g.transfer (link_after first max g body) g.clock (number_of body)
      (payload_of body) g.out

  is_in_range : Ranged first max g → Kept g (leaves limit first max g answer body)
  is_in_range ranged =
      by_cases limit first max g body ranged (Kept g) answer
      (λ _. record { transfer = λ _. refl; buffer = λ _. refl; out = λ _. refl })
      (λ _. record {
        transfer = λ _. refl;
        buffer = λ _. refl;
        out = λ h. (plain_reject g.out limit (number_of body) cause.Sum).unwritten (not_done _ h);
      })
      (λ _ o. record {
        transfer = λ _. refl;
        buffer = λ _. refl;
        out = λ h.
            (plain (command_of body) limit (number_of body) (payload_of body) g.out o).unwritten (not_done _ h);
      })
      (λ _ _. let a = kept_by.begins g.piece (length g.buffer) in
      record {
        transfer = λ n. ap (λ (s : Both). s.transfer) (a.unchanged n);
        buffer = λ _. refl;
        out = a.nothing_written;
      })
      (λ _ _. let a = kept_by.stores (flags_of body) g.buffer in
      record {
        transfer = λ n. ap (λ (s : Held). s.transfer) (a.unchanged n);
        buffer = λ n. ap (λ (s : Held). s.buffer) (a.unchanged n);
        out = a.nothing_written;
      })
      λ _ _. record {
        transfer = kept_by.stops.unchanged;
        buffer = λ _. refl;
        out = kept_by.stops.nothing_written;
      }

pub refused_kept : RefusedKept
refused_kept limit first max g answer body =
    either_way (in_range first max g.link)
    (λ l. either_way (in_range_of g.transfer) (λ t. is_in_range limit first max g answer body (l, t))
    λ t. subst (Kept g) (transfer_out limit first max answer body g.transfer g.link g.clock g.piece
    g.buffer g.out t) (record { transfer = λ _. refl; buffer = λ _. refl; out = λ _. refl }))
    λ l. subst (Kept g) (link_out_lem limit first max answer body g.transfer g.link g.clock g.piece
    g.buffer g.out l) (record { transfer = λ _. refl; buffer = λ _. refl; out = λ _. refl })

pub no_payload : NoPayload
no_payload first max g ranged v body is short e =
    (payload_never first max g.transfer (link_after first max g body) g.clock (number_of body) (payload_of body)
    g.out).begins g.piece (length g.buffer) few
    (sym (ap (λ (r : Row). r.number) ((handle_exact frame_limit first max g ranged).begin v body is).answer_is) ∙ e)
  where
    few : length (payload_of body) ≤ 1019
    few = let t = length-take (length_of body - 5) (drop 6 body) in omega (arith, t, short)
