-- worked_reader and made_up_end, by computation. Assumes nothing.
use Rattle.std.proofs.Common.{refl}
use Rattle.frame.specs.Calls.{zeros, run_of}
use Rattle.frame.specs.WorkedReader.{WorkedReader, MadeUpEnds}

pub worked_reader : WorkedReader
unfolding zeros run_of
worked_reader =
    record {
      frame = refl;
      after_noise = refl;
      stuffed_sum = refl;
      sum_waits = refl;
      short = refl;
      shortest = refl;
      longest = refl;
      long = refl;
      moved_start = refl;
      broken = refl;
      cut = refl;
      after_cut = refl;
      sum = refl;
      sum_holds_body = refl;
      finish_none = refl;
      finish_half = refl;
      finish_header = refl;
      finish_body = refl;
      finish_waits = refl;
      finish_short = refl;
    }

pub made_up_end : MadeUpEnds
unfolding run_of
made_up_end body = record { below_limit = refl; at_limit = refl; beyond_length = refl }
