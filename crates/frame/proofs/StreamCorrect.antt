-- stream_correct, what the buyer asks of a stream; and never-state. Assumes nothing.
use Rattle.std.proofs.Common.{ℕ, ◌+◌, ◌≤◌, List, arith}
use lib.ListN.{length-replicate}
use Rattle.frame.specs.Calls.{fresh_of, zeros}
use Rattle.frame.specs.Logs.{Call, stream}
use Rattle.frame.specs.LogsComputed.{log_of}
use Rattle.frame.specs.StreamCorrect.{StreamsCorrect}
use Rattle.frame.specs.EachCall.{NeverState}
use Rattle.frame.proofs.Listed.{frames_of_lists}
use Rattle.frame.proofs.Moves.{Inv}
use Rattle.frame.proofs.Logged.{Logged, logged}
use Rattle.frame.proofs.LogExact.{log_chains}
use Rattle.frame.proofs.Sent.{fronted}

pub fresh_holds : (limit : ℕ) → Inv limit (fresh_of limit)
unfolding zeros
fresh_holds limit = record { phase = tt; room = length-replicate (limit + 2) 0; inside = omega arith }

-- all that is proved of the calls of a fresh reader
pub from_fresh : (limit : ℕ)
    → limit ≤ 65279 → (calls : List Call) → Logged limit (fresh_of limit) (log_of limit (fresh_of limit) calls)
from_fresh limit small calls = logged limit small calls (fresh_of limit) (fresh_holds limit) (omega arith)

pub stream_correct : StreamsCorrect
stream_correct limit small calls =
    let ok = from_fresh limit small calls in
    record {
      frames = ok.frames;
      lists = rw ok.frames (frames_of_lists limit small (stream (log_of limit (fresh_of limit) calls)));
      accounts = ok.accounts;
      chains = log_chains limit (fresh_of limit) calls;
      again = λ sent. fronted 0 (log_of limit (fresh_of limit) calls) sent ok.accounts;
    }

pub never_state : NeverState
never_state limit small calls = (from_fresh limit small calls).never
