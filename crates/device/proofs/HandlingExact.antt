-- What the box does with each answer of the reader. Assumes nothing.
use mathlib.Core.Path.{◌≡◌, refl, sym, ap, subst}
use mathlib.Core.List.{List}
use Prim.Native.Nat.{ℕ}
use Rattle.base.specs.Outcomes.{Outcome, Output}
use Rattle.message.proofs.RepliesExact.{replies_exact}
use Rattle.link.specs.declared.state.Link.{Link}
use Rattle.transfer.specs.declared.state.Transfer.{Transfer}
use Rattle.device.specs.Handling.{After, after}
use Rattle.device.specs.HandlingExact.{SumExact, Comes, HandleExact, LeavesStated}
use Rattle.device.proofs.CaseLaws.{silent, wrong_sum_lem, other, begin, store, stop}

-- what an equation says of each field
comes : {w : Output} {heard : Outcome Link} {t : Transfer} {buffer : List ℕ} {y : After} → y ≡ after w heard t buffer
    → Comes w t heard.state buffer y
comes e =
    record {
      answer_is = ap (λ (z : After). z.row) e;
      out_is = ap (λ (z : After). z.out) e;
      transfer_is = ap (λ (z : After). z.transfer) e;
      link_is = ap (λ (z : After). z.link) e;
      buffer_is = ap (λ (z : After). z.buffer) e;
    }

pub handle_exact : HandleExact
handle_exact limit first max g ranged =
    record {
      silent = λ answer body f s. silent limit first max g body ranged answer f s;
      wrong_sum_lem = λ v body least.
          subst (λ (y : After). SumExact limit g body y) (sym (wrong_sum_lem limit first max g body ranged v))
          (record {
            reply = (replies_exact limit least g.out).wrong_sum_lem v body;
            ended_is = refl;
            transfer_is = refl;
            link_is = refl;
            buffer_is = refl;
          });
      other = λ v body h. comes (other limit first max g body ranged v h);
      begin = λ v body is. comes (begin limit first max g body ranged v is);
      store = λ v body is. comes (store limit first max g body ranged v is);
      stop = λ v body is. comes (stop limit first max g body ranged v is);
    }

pub leaves_stated : LeavesStated
leaves_stated limit first max answer body =
    record {
      of_parts = λ t l clock piece buffer out. refl;
      held = λ g t l. refl;
      with_link = λ g l. refl;
    }
