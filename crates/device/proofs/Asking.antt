-- The output decides no case, and each case asks once. The link received the frame, and again it is a stray one.
-- Assumes nothing.
use Prim.Native.Nat.{ℕ}
use mathlib.Core.Path.{◌≡◌, refl, sym, ap, subst, ◌∙◌}
use mathlib.Core.Logic.{◌≢◌}
use mathlib.Core.List.{List, [], ◌∷◌}
use native.Mathlib.Omega.{arith}
use borrow.Author.Tests.{eqb-true, eqb-false}
use lib.Dec.{eqb}
use lib.ListN.{length, get_or}
use Rattle.base.specs.Rows.{Row, row}
use Rattle.base.specs.Outcomes.{Outcome, outcome, needed_in}
use Rattle.base.specs.Keys.{among}
use Rattle.base.specs.Asking.{AsksOnce}
use Rattle.base.proofs.Asking.{asks_never, asks_as}
use Rattle.base.proofs.Tests.{tests, either_way}
use Rattle.frame.specs.Wire.{command_of, number_of, flags_of, payload_of}
use Rattle.message.specs.Replies.{reply_frame_of, reply_of}
use Rattle.message.proofs.RepliesExact.{reply_asked}
use Rattle.link.specs.Calls.{in_range}
use Rattle.link.specs.declared.state.Link.{Link}
use Rattle.transfer.specs.Checks.{in_range_of}
use Rattle.transfer.specs.Calls.{Both, begin_of, store_of, stop_of}
use Rattle.transfer.specs.declared.state.Transfer.{Transfer}
use Rattle.transfer.proofs.Refusals.{refused_kept}
use Rattle.transfer.proofs.Asking.{calls_asked}
use Rattle.device.specs.Handling.{After, after, ended_in, heard_of, begun_after, stored_after, stopped_after}
use Rattle.device.specs.HandlingExact.{Given, holding, leaves, link_after, Ranged}
use Rattle.device.specs.StateFirst.{Untouched}
use Rattle.device.specs.Asking.{lending, HandleAsked, later, unended, Again, HandleAgain}
use Rattle.device.proofs.HandleLaws.{unheard, received_ranged, received_again}
use Rattle.device.proofs.TransferLaws.{begin_clock}
use Rattle.device.proofs.CaseLaws.{unasked, received, silent, wrong_sum_lem, other, begin, store, stop, by_cases}
use Rattle.device.proofs.StateFirst.{state_first}
use Rattle.device.proofs.RefusedKept.{refused_kept as kept}

module _ (limit first max : ℕ) (g : Given) (body : List ℕ) where
  -- a call asks once for this answer of the reader
  abbrev Asks : Row → Type 0
  Asks answer = AsksOnce (λ out. (leaves limit first max (lending g out) answer body).row)

  -- as another call does, whose rows are the same
  as_rows : (answer : Row) (rows : List ℕ → Row)
      → ((out : List ℕ) → (leaves limit first max (lending g out) answer body).row ≡ rows out) → AsksOnce rows
      → Asks answer
  as_rows answer rows same asks =
      asks_as rows (λ out. (leaves limit first max (lending g out) answer body).row) same asks

  -- STATE
  untouched : (answer : Row) → ((out : List ℕ) → (leaves limit first max (lending g out) answer body).row
      ≡ row 17 (0 ∷ [])) → Asks answer
  untouched answer same =
      as_rows answer (λ out. row 17 (0 ∷ [])) same (asks_never (row 17 (0 ∷ [])) (λ e. omega arith))

  module _ (ranged : Ranged first max g) where
    -- a frame, by its command
    frame_asked : (v : List ℕ) → Asks (row 1 v)
    unfolding among
    frame_asked v =
        let asks =
        calls_asked limit first max g.transfer (link_after first max g body) g.clock (number_of body)
        (payload_of body) in
        either_way (eqb (command_of body) 0x19)
        (λ a. as_rows (row 1 v)
        (λ out. (begin_of limit first max g.transfer (link_after first max g body) g.clock (number_of body)
        (payload_of body) g.piece (length g.buffer) out).row)
        (λ out. ap (λ (y : After). y.row)
        (begin limit first max (lending g out) body ranged v (eqb-true (command_of body) 0x19 a)))
        (asks.begins g.piece (length g.buffer)))
        (λ a. either_way (eqb (command_of body) 0x1D)
        (λ b. as_rows (row 1 v)
        (λ out. (store_of limit g.transfer (number_of body) (flags_of body) (payload_of body) g.buffer out).row)
        (λ out. ap (λ (y : After). y.row)
        (store limit first max (lending g out) body ranged v (eqb-true (command_of body) 0x1D b)))
        (asks.stores (flags_of body) g.buffer))
        (λ b. either_way (eqb (command_of body) 0x1F)
        (λ c. as_rows (row 1 v)
        (λ out. (stop_of limit g.transfer (number_of body) (payload_of body) out).row)
        (λ out. ap (λ (y : After). y.row)
        (stop limit first max (lending g out) body ranged v (eqb-true (command_of body) 0x1F c)))
        asks.stops)
        (λ c. as_rows (row 1 v)
        (λ out. (reply_frame_of limit (command_of body) (number_of body) (payload_of body) out).row)
        (λ out. ap (λ (y : After). y.row)
        (other limit first max (lending g out) body ranged v (rw (a, b, c))))
        ((reply_asked limit).frames (command_of body) (number_of body) (payload_of body)))))

    sum-asked : (v : List ℕ) → Asks (row 15 v)
    sum-asked v =
        as_rows (row 15 v) (λ out. (reply_of limit (row 15 v) body out).row)
        (λ out. ap (λ (y : After). y.row) (wrong_sum_lem limit first max (lending g out) body ranged v))
        ((reply_asked limit).decisions (row 15 v) body)

    -- by the number of the answer
    at_number : (answer : Row) (n : ℕ) → answer.number ≡ n → Asks (row n answer.values) → Asks answer
    at_number answer n is h = subst (λ (k : ℕ). Asks (row k answer.values)) (sym is) h

    in_range_asked : (answer : Row) → Asks answer
    in_range_asked answer =
        either_way (eqb answer.number 1)
        (λ f. at_number answer 1 (eqb-true answer.number 1 f) (frame_asked answer.values))
        (λ f. either_way (eqb answer.number 15)
        (λ s. at_number answer 15 (eqb-true answer.number 15 s) (sum-asked answer.values))
        (λ s. as_rows answer (λ out. row 0 [])
        (λ out. ap (λ (y : After). y.row)
        (silent limit first max (lending g out) body ranged answer (eqb-false answer.number 1 f)
        (eqb-false answer.number 15 s)))
        (asks_never (row 0 []) (λ e. omega arith))))

pub handle_asked : HandleAsked
handle_asked limit first max g answer body =
    let exact : (out : List ℕ) → _ = λ out. state_first.exact limit first max (lending g out) answer body in
    either_way (in_range first max g.link)
    (λ l. either_way (in_range_of g.transfer) (λ t. in_range_asked limit first max g body (l, t) answer)
    (λ t. untouched limit first max g body answer (λ out. ap (λ (y : After). y.row) ((exact out).transfer_out t))))
    (λ l. untouched limit first max g body answer (λ out. ap (λ (y : After). y.row) ((exact out).link_out_lem l)))

-- ---- handle_again

module _ (limit first max : ℕ) (g : Given) (body : List ℕ) (ranged : Ranged first max g) where
  -- a frame again
  module _ (v : List ℕ) where
    -- with the link that received it
    abbrev then : Given
    then = holding g g.transfer (link_after first max g body)

    then_ranged : Ranged first max then
    then_ranged = (received_ranged first max g.link (command_of body) (number_of body) ranged.0, ranged.1)

    -- the link ends no wait, and stays, whatever comes of it
    stays : (left : Outcome Link → After) → left (received first max then body)
        ≡ left (outcome (row 0 []) (link_after first max g body))
    stays left =
        ap (λ (y : Outcome Link). left (outcome (ended_in y.row) y.state))
        (received_again first max g.link (command_of body) (number_of body) ranged.0)

    frame_again : leaves limit first max then (row 1 v) body ≡ unended (leaves limit first max g (row 1 v) body)
    frame_again =
        by_cases limit first max g body ranged
        (λ (z : After). leaves limit first max then (row 1 v) body ≡ unended z) (row 1 v)
        (λ f. absurd (f refl))
        (λ f. absurd (f refl))
        (λ _ o. other limit first max then body then_ranged v o
        ∙ stays (λ (s : Outcome Link). after (reply_frame_of limit (command_of body) (number_of body) (payload_of body)
        g.out) s g.transfer g.buffer))
        (λ _ is. begin limit first max then body then_ranged v is
        ∙ stays (λ (s : Outcome Link). begun_after s g.buffer
        (begin_of limit first max g.transfer s.state g.clock (number_of body) (payload_of body) g.piece
        (length g.buffer) g.out)))
        (λ _ is. store limit first max then body then_ranged v is
        ∙ stays (λ (s : Outcome Link). stored_after s
        (store_of limit g.transfer (number_of body) (flags_of body) (payload_of body) g.buffer g.out)))
        λ _ is. stop limit first max then body then_ranged v is
        ∙ stays (λ (s : Outcome Link). stopped_after s g.buffer
        (stop_of limit g.transfer (number_of body) (payload_of body) g.out))

    -- the clock decides no row of a frame
    frame_clock : (clock : ℕ) → (leaves limit first max g (row 1 v) body).row
        ≡ (leaves limit first max (later g clock g.out) (row 1 v) body).row
    frame_clock clock =
        by_cases limit first max g body ranged
        (λ (z : After). z.row ≡ (leaves limit first max at_clock (row 1 v) body).row) (row 1 v)
        (λ f. absurd (f refl))
        (λ f. absurd (f refl))
        (λ _ o. sym (ap (λ (y : After). y.row) (other limit first max at_clock body ranged v o)))
        (λ _ is. begin_clock limit first max g.transfer (link_after first max g body) g.clock (number_of body)
        (payload_of body) g.piece (length g.buffer) g.out clock
        ∙ sym (ap (λ (y : After). y.row) (begin limit first max at_clock body ranged v is)))
        (λ _ is. sym (ap (λ (y : After). y.row) (store limit first max at_clock body ranged v is)))
        λ _ is. sym (ap (λ (y : After). y.row) (stop limit first max at_clock body ranged v is))
      where
        at_clock : Given
        at_clock = later g clock g.out

  module _ (answer : Row) where
    -- what the link says
    abbrev said : Outcome Link
    said = heard_of first max answer body g.link

    unsaid : answer.number ≢ 1 → unasked g ≡ said
    unsaid f = unheard first max answer body g.link (search tests)

    is_said : answer.number ≡ 1 → received first max g body ≡ said
    is_said is = rw is

    -- the wait that ends is the one that it says, and after ROOM the link is as it says
    abbrev Said : After → Type 0
    Said y = (y.ended ≡ said.row) × (y.row.number ≡ 22 → y.link ≡ said.state)

    as_said : (s : Outcome Link) {number : ℕ} {l : Link} → s ≡ said → (number ≡ 22 → l ≡ s.state)
        → (s.row ≡ said.row) × (number ≡ 22 → l ≡ said.state)
    as_said s is l =
        (ap (λ (o : Outcome Link). o.row) is, λ n. l n ∙ ap (λ (o : Outcome Link). o.state) is)

    all_said : Said (leaves limit first max g answer body)
    all_said =
        by_cases limit first max g body ranged Said answer
        (λ f. as_said _ (unsaid f) λ _. refl)
        (λ f. as_said _ (unsaid f) λ _. refl)
        (λ f _. as_said _ (is_said f) λ _. refl)
        (λ f _. as_said _ (is_said f) λ n. ap (λ (s : Both). s.link)
        (((refused_kept limit first max g.transfer (link_after first max g body) g.clock (number_of body)
        (payload_of body) g.out).begins g.piece (length g.buffer)).unchanged (λ z. omega (arith, n, z))))
        (λ f _. as_said _ (is_said f) λ _. refl)
        λ f _. as_said _ (is_said f) λ _. refl

    -- with the link that it says
    abbrev again_with : Link → After
    again_with l = leaves limit first max (holding g g.transfer l) answer body

    said_again : again_with said.state ≡ unended (leaves limit first max g answer body)
    said_again =
        either_way (eqb answer.number 1)
        (λ f. let is = eqb-true answer.number 1 f in
        sym (ap (λ (o : Outcome Link). again_with o.state) (is_said is))
        ∙ subst (λ (k : ℕ). leaves limit first max (holding g g.transfer (link_after first max g body))
        (row k answer.values) body ≡ unended (leaves limit first max g (row k answer.values) body)) (sym is)
        (frame_again answer.values))
        λ f. let is-not = eqb-false answer.number 1 f in
        sym (ap (λ (o : Outcome Link). again_with o.state) (unsaid is-not))
        ∙ by_cases limit first max g body ranged (λ (y : After). y ≡ unended y) answer (λ _. refl) (λ _. refl)
        (λ is _. absurd (is-not is)) (λ is _. absurd (is-not is)) (λ is _. absurd (is-not is))
        λ is _. absurd (is-not is)

    -- the clock decides no row
    said_clock : (clock : ℕ) → (leaves limit first max g answer body).row
        ≡ (leaves limit first max (later g clock g.out) answer body).row
    said_clock clock =
        either_way (eqb answer.number 1)
        (λ f. subst (λ (k : ℕ). (leaves limit first max g (row k answer.values) body).row
        ≡ (leaves limit first max (later g clock g.out) (row k answer.values) body).row)
        (sym (eqb-true answer.number 1 f)) (frame_clock answer.values clock))
        λ f. either_way (eqb answer.number 15)
        (λ s. subst (λ (k : ℕ). (leaves limit first max g (row k answer.values) body).row
        ≡ (leaves limit first max (later g clock g.out) (row k answer.values) body).row)
        (sym (eqb-true answer.number 15 s))
        (ap (λ (y : After). y.row) (wrong_sum_lem limit first max g body ranged answer.values
        ∙ sym (wrong_sum_lem limit first max (later g clock g.out) body ranged answer.values))))
        λ s. let silence : (h : Given) → Ranged first max h → _ = λ h r.
        ap (λ (y : After). y.row) (silent limit first max h body r answer (eqb-false answer.number 1 f)
        (eqb-false answer.number 15 s)) in
        silence g ranged ∙ sym (silence (later g clock g.out) ranged)

module _ (limit first max : ℕ) (g : Given) (answer : Row) (body : List ℕ) where
  -- what the call that met ROOM left
  abbrev y : After
  y = leaves limit first max g answer body

  module _ (met : y.row.number ≡ 22) where
    -- STATE is not ROOM
    is_in_range : Ranged first max g
    is_in_range =
        let exact = state_first.exact limit first max g answer body in (
          either_way (in_range first max g.link) (λ e. e) λ e. not_state (exact.link_out_lem e),
          either_way (in_range_of g.transfer) (λ e. e) λ e. not_state (exact.transfer_out e),
        )
      where
        not_state : {P : Type 0} → Untouched g y → P
        not_state e = let n = ap (λ (z : After). z.row.number) e in absurd (omega (arith, met, n))

    asks_again : (clock : ℕ) (out : List ℕ)
        → Again y (leaves limit first max (later g clock out) answer body)
        (leaves limit first max (holding (later g clock out) y.transfer y.link) answer body) out
    asks_again clock out =
        record {
          told = (all_said limit first max g body is_in_range answer).0
              ∙ sym (all_said limit first max (later g clock out) body is_in_range answer).0;
          left = left;
          written = λ h.
              subst (λ (r : Row). (r.number ≢ 22) × (get_or r.values 0 0 ≡ needed_in y.row))
              (said_clock limit first max (lending g out) body is_in_range answer clock
              ∙ sym (ap (λ (z : After). z.row) left))
              ((handle_asked limit first max g answer body).written g.out out met h);
        }
      where
        left : leaves limit first max (holding (later g clock out) y.transfer y.link) answer body
            ≡ unended (leaves limit first max (later g clock out) answer body)
        left =
            ap (λ (t : Transfer). leaves limit first max (holding (later g clock out) t y.link) answer body)
            ((kept limit first max g answer body).transfer (λ z. omega (arith, met, z)))
            ∙ ap (λ (l : Link). leaves limit first max (holding (later g clock out) g.transfer l) answer body)
            ((all_said limit first max g body is_in_range answer).1 met)
            ∙ said_again limit first max (later g clock out) body is_in_range answer

pub handle_again : HandleAgain
handle_again limit first max g answer body met = asks_again limit first max g answer body met
