-- Which wait a frame ends, and the link after each answer of the reader. Assumes nothing.
use Rattle.std.specs.Prelude.{None}
use Prim.Native.Nat.{ℕ, ◌+◌, ◌≤◌}
use mathlib.Core.Path.{◌≡◌, refl, sym, ap, subst, ◌∙◌}
use mathlib.Core.Logic.{◌≢◌}
use mathlib.Core.Bool.{true, false, ◌&&◌}
use mathlib.Core.List.{List, [], ◌∷◌}
use borrow.Author.Tests.{eqb-true}
use lib.Dec.{eqb}
use lib.ListN.{length}
use Rattle.base.specs.Rows.{Row, row}
use Rattle.base.specs.Outcomes.{Outcome, outcome}
use Rattle.base.specs.Keys.{among}
use Rattle.base.proofs.Tests.{either_way, both}
use Rattle.base.proofs.Keys.{agree}
use Rattle.frame.specs.Wire.{frame_limit, command_of, number_of, payload_of}
use Rattle.message.specs.CommandLists.{handed_commands}
use Rattle.link.specs.Sending.{first_number, max_repeats}
use Rattle.link.specs.Calls.{link_of, offer_of, receive_of}
use Rattle.link.specs.EachCall.{number_after}
use Rattle.link.specs.Ranges.{waiters}
use Rattle.link.specs.declared.state.Link.{Link}
use Rattle.link.specs.Sending.{waits_for}
use Rattle.link.proofs.EachCall.{calls_exact}
use Rattle.transfer.specs.Checks.{in_range_of}
use Rattle.transfer.specs.Calls.{Both}
use Rattle.transfer.proofs.Refusals.{refused_kept}
use Rattle.device.specs.Handling.{After, ended_in}
use Rattle.device.specs.HandlingExact.{Given, holding, leaves, Ranged, link_after}
use Rattle.device.specs.EndedExact.{Ends, IdleExact, WaitingExact, EndedExact}
use Rattle.device.proofs.TransferLaws.{begin_waits, begin_busy}
use Rattle.device.proofs.CaseLaws.{Begin, other, begin, by_cases}
use Rattle.device.proofs.StateFirst.{idle_in, waiting_in}

-- what the code's own call leaves
abbrev Left : Given → Row → List ℕ → After
Left g answer body = leaves frame_limit first_number max_repeats g answer body

module _ (g : Given) (body : List ℕ) where
  -- what the link says of a frame
  abbrev Said : Outcome Link
  Said = receive_of first_number max_repeats g.link (command_of body) (number_of body)

  -- where that is known, so is what has ended, and the link
  module _ (r : Row) (l : Link) (said : Said ≡ outcome r l) where
    ended_as : ended_in Said.row ≡ ended_in r
    ended_as = ap (λ (y : Outcome Link). ended_in y.row) said

    link_as : link_after first_number max_repeats g body ≡ l
    link_as = ap (λ (y : Outcome Link). y.state) said

    -- of what leaves the link as it is after the frame
    ends : (y : After) → y.ended ≡ ended_in Said.row → y.link ≡ link_after first_number max_repeats g body
        → Ends (ended_in r) l y
    ends y e k = record { ended_is = e ∙ ended_as; link_is = k ∙ link_as }

  -- nothing waits after a 19 that is refused, and nothing ends
  module _ (ranged : Ranged first_number max_repeats g) (answer : Row)
      (stray : answer.number ≡ 1 → Said ≡ outcome (row 43 []) g.link) where
    stays_by : (P : After → Type 0)
        → (answer.number ≡ 1 → command_of body ≡ 0x19 → P (Begin frame_limit first_number max_repeats g body)
        → (Begin frame_limit first_number max_repeats g body).link ≡ link_after first_number max_repeats g body)
        → P (Left g answer body) → Ends (row 0 []) g.link (Left g answer body)
    stays_by P begun =
        by_cases frame_limit first_number max_repeats g body ranged
        (λ (y : After). P y → Ends (row 0 []) g.link y) answer
        (λ _ _. record { ended_is = refl; link_is = refl })
        (λ _ _. record { ended_is = refl; link_is = refl })
        (λ f _ _. ends (row 43 []) g.link (stray f) _ refl refl)
        (λ f is p. ends (row 43 []) g.link (stray f) _ refl (begun f is p))
        (λ f _ _. ends (row 43 []) g.link (stray f) _ refl refl)
        λ f _ _. ends (row 43 []) g.link (stray f) _ refl refl

-- ---- nothing waits

module _ (given : Given) (t : in_range_of given.transfer ≡ true) where
  module _ (next : ℕ) where
    abbrev idle : Given
    idle = holding given given.transfer (link_of next None)

    -- nothing fits
    idle_stray : (body : List ℕ) → Said idle body ≡ outcome (row 43 []) (link_of next None)
    idle_stray body = (calls_exact.idle next).stray (command_of body) (number_of body)

    idle_exact : IdleExact given next
    unfolding among
    idle_exact =
        record {
          accepted = λ v body is done.
              let e = begin frame_limit first_number max_repeats idle body (idle_in next, t) v is in
              subst (Ends (row 0 []) (link_of (number_after next) (waits_for 0x1B next given.clock 0))) (sym e)
              (record {
                ended_is = ended_as idle body (row 43 []) (link_of next None) (idle_stray body);
                link_is = begin_waits frame_limit first_number max_repeats given.transfer
                    (link_after first_number max_repeats idle body) given.clock (number_of body) (payload_of body)
                    given.piece (length given.buffer) given.out
                    (sym (ap (λ (y : After). y.row.number) e) ∙ done)
                    ∙ ap (λ (l : Link). (offer_of first_number max_repeats l 0x1B given.clock).state)
                    (link_as idle body (row 43 []) (link_of next None) (idle_stray body))
                    ∙ ap (λ (y : Outcome Link). y.state) ((calls_exact.idle next).accepts 0x1B given.clock refl);
              });
          stays = λ answer body p.
              stays_by idle body (idle_in next, t) answer (λ _. idle_stray body)
              (λ (y : After). answer.number ≡ 1 → command_of body ≡ 0x19 → y.row.number ≢ 0)
              (λ f is q. ap (λ (s : Both). s.link)
              (((refused_kept frame_limit first_number max_repeats given.transfer
              (link_after first_number max_repeats idle body) given.clock (number_of body) (payload_of body)
              given.out).begins given.piece (length given.buffer)).unchanged (q f is)))
              p;
        }

  -- ---- a command waits

  module _ (next command number sent repeats : ℕ) (m : repeats ≤ 2) (w : among command waiters ≡ true) where
    abbrev wait : Link
    wait = link_of next (waits_for command number sent repeats)

    abbrev waiting : Given
    waiting = holding given given.transfer wait

    ranged : Ranged first_number max_repeats waiting
    ranged = (waiting_in next command number sent repeats m w, t)

    -- the frame that fits is not a 19, 1D or 1F
    unhanded : among (command + 1) handed_commands ≡ false
    unfolding among
    unhanded = agree (λ c. among (c + 1) handed_commands) (λ _. false) waiters command refl w

    module _ (body : List ℕ) where
      fits : command_of body ≡ command + 1 → number_of body ≡ number
          → Said waiting body ≡ outcome (row 0 (command ∷ number ∷ [])) (link_of next None)
      fits c n =
          ap (λ (k : ℕ). receive_of first_number max_repeats wait k (number_of body)) c
          ∙ ap (λ (k : ℕ). receive_of first_number max_repeats wait (command + 1) k) n
          ∙ (calls_exact.waiting next command number sent repeats m w).replied

      stray : (command_of body ≡ command + 1 → number_of body ≢ number) → Said waiting body ≡ outcome (row 43 []) wait
      stray h =
          (calls_exact.waiting next command number sent repeats m w).stray (command_of body) (number_of body)
          (either_way (eqb (command_of body) (command + 1) && eqb (number_of body) number)
          (λ e. let f = both (eqb (command_of body) (command + 1)) e in
          absurd (h (eqb-true (command_of body) (command + 1) f.0) (eqb-true (number_of body) number f.1)))
          λ e. e)

    waiting_exact : WaitingExact given next command number sent repeats
    unfolding among
    waiting_exact =
        record {
          fits = λ v body c n.
              let e = other frame_limit first_number max_repeats waiting body ranged v
              (ap (λ (k : ℕ). among k handed_commands) c ∙ unhanded) in
              subst (Ends (row 0 (command ∷ number ∷ [])) (link_of next None)) (sym e)
              (ends waiting body (row 0 (command ∷ number ∷ [])) (link_of next None) (fits body c n) _ refl refl);
          stays = λ answer body h.
              stays_by waiting body ranged answer (λ f. stray body (h f)) (λ (_ : After). Unit {0})
              (λ f is _. (begin_busy frame_limit first_number max_repeats given.transfer
              (link_after first_number max_repeats waiting body) given.clock (number_of body) (payload_of body)
              given.piece (length given.buffer) given.out
              (ap (λ (l : Link). (offer_of first_number max_repeats l 0x1B given.clock).row.number)
              (link_as waiting body (row 43 []) wait (stray body (h f)))
              ∙ ap (λ (y : Outcome Link). y.row.number)
              ((calls_exact.waiting next command number sent repeats m w).busy 0x1B given.clock refl))))
              tt;
        }

pub ended_exact : EndedExact
ended_exact g t = record { idle = idle_exact g t; waiting = waiting_exact g t }
