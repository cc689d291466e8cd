-- The worked examples, by computation: the answers of the whole list, as one equation. Assumes nothing.
use mathlib.Core.Path.{◌≡◌, refl}
use mathlib.Core.Logic.{◌⊎◌, inl, inr}
use mathlib.Core.List.Memᴰ
use mathlib.Core.List.{List, [], ◌∷◌, map, Memᴰ}
use Rattle.frame.specs.Wire.{stuff, body_of}
use Rattle.base.specs.Sums.{total}
use Rattle.frame.specs.Calls.{zeros, run_of}
use Rattle.base.specs.Keys.{among}
use Rattle.message.specs.Commands.{table, profile_in}
use Rattle.message.specs.Layouts.{fits, size_fits}
use Rattle.examples.specs.Questions.{Answer, answer_to}
use Rattle.examples.specs.Examples.{Example, examples}
use Rattle.examples.specs.WorkedExamples.{WorkedExamples}

-- what the definitions answer to an example, and what it states
abbrev found : Example → Answer
found e = answer_to e.question

abbrev stated : Example → Answer
stated e = e.stated

-- where the two lists of answers are equal, so are the two answers of each example
each : (l : List Example) → map found l ≡ map stated l → (e : Example) → Memᴰ e l → found e ≡ stated e
each [] p e m = absurd (Memᴰ.not-nil m)
each (x ∷ xs) p e m = step (each xs (cc) e) (Memᴰ.cases_cons m)
  where
    step : (Memᴰ e xs → found e ≡ stated e) → (e ≡ x) ⊎ Memᴰ e xs → found e ≡ stated e
    step below (inl q) = rw q (cc)
    step below (inr later) = below later

pub worked_examples : WorkedExamples
unfolding stuff total body_of zeros run_of among table profile_in fits size_fits examples
worked_examples = record { all_twelve = refl; answers = each examples refl }
