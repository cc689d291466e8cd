-- Claims: the definitions answer what the worked examples state. PROTOCOL 11.
use Rattle.std.specs.Prelude.{◌≡◌}
use mathlib.Core.List.{[], ◌∷◌, map, Memᴰ}
use Rattle.examples.specs.Questions.{answer_to}
use Rattle.examples.specs.Examples.{Example, examples, number_in}

-- ---- worked_examples: all twelve are in the list, and the definitions answer what each states: PROTOCOL 11.1
pub record WorkedExamples : Type 0 where
  pub all_twelve : map number_in examples ≡ 1 ∷ 1 ∷ 2 ∷ 2 ∷ 3 ∷ 3 ∷ 3 ∷ 4 ∷ 4 ∷ 4 ∷ 5 ∷ 6 ∷ 6 ∷ 7 ∷ 7 ∷ 8 ∷ 9 ∷ 10
      ∷ 11 ∷ 11 ∷ 11 ∷ 12 ∷ 12 ∷ []
  pub answers : (e : Example) → Memᴰ e examples → answer_to e.question ≡ e.stated
