-- named_rows and named_states, by computation. Assumes nothing.
use Rattle.std.proofs.Common.{refl}
use Rattle.frame.specs.Variants.{NamedRows, NamedStates}

pub named_rows : NamedRows
named_rows =
    record {
      more = λ c. refl;
      frame = λ c s e. refl;
      short = λ c s e. refl;
      long = λ c s e. refl;
      stuff = λ c s e x. refl;
      stuff_late = λ c s e x. refl;
      cut = λ c s e. refl;
      sum = λ c s e f g. refl;
      state = refl;
      used = refl;
      clean = λ n. refl;
      left_open = λ n s. refl;
      finish_state = refl;
      quiet = λ c s e. refl;
      decides = λ c s e. refl;
      decides_late = λ c s e x. refl;
      nothing_decided = refl;
      something_decided = λ v. refl;
      quiet_continues = refl;
      decided_stops = λ v. refl;
      count = λ k c v. refl;
      further = λ k c s e v. refl;
    }

pub named_states : NamedStates
named_states =
    record {
      idle = refl;
      half = refl;
      header = refl;
      open_frame = refl;
      escape = refl;
      any_reader = λ r. (refl, refl, refl, refl, refl, refl, refl);
      reader = refl;
    }
