-- The pieces of a replay's text, spelled. Assumes nothing.
use Prim.Native.Nat.{ℕ}
use mathlib.Core.Path.{◌≡◌, refl, ap, ◌∙◌}
use mathlib.Core.Logic.{◌≢◌}
use mathlib.Core.List.{List, [], ◌∷◌}
use borrow.Author.Tests.{eq-eqb, ne_eqb}
use lib.ListN.{length}
use Rattle.frame.specs.Decisions.{Decision}
use Rattle.listing.specs.Lines.{columns_of}
use Rattle.listing.proofs.LineTexts.{lines_spelled}
use Rattle.replay.specs.Lines.{prefix_of, lines_of, decisions_in}
use Rattle.replay.specs.Replays.{heard_of, AreLines}
use Rattle.replay.specs.TextsSpelled.{TextsSpelled, AllHeardSpelled, AllPrintedJoined, AllEndLinesSpelled}
use Rattle.replay.proofs.LineLaws.{printed_both, lines_of_text}

pub texts_spelled : TextsSpelled
unfolding columns_of
texts_spelled = record { heading = refl; from_module_is = refl; from_box_is = refl }

pub heard_spelled : AllHeardSpelled
unfolding heard_of AreLines
heard_spelled d e t u v w a b p rs =
    record {
      none = refl;
      own = rw (eq-eqb d d refl);
      other = λ h. rw (ne_eqb e d h);
      lines = λ limit past all l. (l.0, l.1, l.2, l.3);
    }

own_decisions : (d : ℕ) (ds : List Decision) → decisions_in d (lines_of d ds) ≡ ds
unfolding decisions_in lines_of
own_decisions d [] = refl
own_decisions d (x ∷ ds) = rw (eq-eqb d d refl) (ap (λ (l : List Decision). x ∷ l) (own_decisions d ds))

other_decisions : (d e : ℕ) (ds : List Decision) → e ≢ d → decisions_in d (lines_of e ds) ≡ []
unfolding decisions_in lines_of
other_decisions d e [] h = refl
other_decisions d e (x ∷ ds) h = rw (ne_eqb e d h) (other_decisions d e ds h)

pub printed_joined : AllPrintedJoined
printed_joined a b d e ds =
    record {
      joined = printed_both a b;
      lines = lines_of_text d ds;
      own = own_decisions d ds;
      other = other_decisions d e ds;
    }

pub end_lines_spelled : AllEndLinesSpelled
end_lines_spelled limit d t line l =
    record {
      left_open = λ start o. l.left_open start o
          ∙ (lines_spelled (prefix_of d) [] [] (length t) start 0).left_open;
      left_clean = λ none. l.left_clean none ∙ (lines_spelled (prefix_of d) [] [] (length t) 0 0).clean;
    }
