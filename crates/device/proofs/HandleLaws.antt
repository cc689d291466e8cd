-- What a call leaves, by what the calls inside it returned. Assumes nothing.
use Rattle.std.specs.Prelude.{None, Some}
use Prim.Native.Nat.{ℕ}
use mathlib.Core.Path.{◌≡◌, refl, sym, ap, ◌∙◌}
use mathlib.Core.Bool.{true, false, cond, true≢false}
use mathlib.Core.List.{List, [], ◌∷◌}
use lib.Dec.{eqb, leb}
use lib.ListN.{length}
use Rattle.base.specs.Rows.{Row, row}
use Rattle.base.specs.Outcomes.{Outcome, outcome, Output, output}
use Rattle.base.specs.Keys.{among}
use Rattle.base.proofs.Tests as tests
use Rattle.base.proofs.Tests.{by_test, either_way}
use Rattle.frame.specs.Wire.{flags_of, payload_of}
use Rattle.message.specs.Replies.{reply_of}
use Rattle.link.specs.Sending.{fits_of}
use Rattle.link.specs.Calls.{in_range, idle_of, receive_in, receive_of}
use Rattle.link.specs.declared.state.Link.{Link}
use Rattle.link.specs.Sending.{Wait}
use Rattle.transfer.specs.Checks.{in_range_of}
use Rattle.transfer.specs.Calls.{begin_of, store_of, stop_of}
use Rattle.transfer.specs.declared.state.Transfer.{Transfer}
use Rattle.device.specs.Handling.{After, after, heard_of, begun_after, stored_after, stopped_after}
use Rattle.device.specs.Handling.{is_frame, wanted_in, answer_of, handle_of}

-- ---- the link

module _ (first max : ℕ) (answer : Row) (body : List ℕ) (l : Link) where
  -- an answer that is not given to it
  pub unheard : is_frame answer ≡ false → outcome (row 0 []) l ≡ heard_of first max answer body l
  unheard e = simp e

-- a link in range stays in range
pub received_ranged : (first max : ℕ) (l : Link) (command number : ℕ) → in_range first max l ≡ true
    → in_range first max (receive_of first max l command number).state ≡ true
received_ranged first max l command number ranged =
    by_test (λ (y : Outcome Link). in_range first max y.state ≡ true) (in_range first max l) (λ _. by_wait l.waiting)
    λ _. ranged
  where
    idle : in_range first max (idle_of l) ≡ true
    idle = rw (tests.both (leb first l.next) ranged).0

    by_wait : (w : Wait) → in_range first max (receive_in w l command number).state ≡ true
    by_wait None = ranged
    by_wait (Some w) =
        by_test (λ (y : Outcome Link). in_range first max y.state ≡ true) (fits_of command number w.command w.number)
        (λ _. idle) λ _. ranged

-- a frame that it received is a stray one the second time
pub received_again : (first max : ℕ) (l : Link) (command number : ℕ) → in_range first max l ≡ true
    → receive_of first max (receive_of first max l command number).state command number
    ≡ outcome (row 43 []) (receive_of first max l command number).state
received_again first max l command number ranged =
    ap (λ t. cond t (receive_in next.waiting next command number) (outcome (row 17 (0 ∷ [])) next))
    (received_ranged first max l command number ranged)
    ∙ by_test Stray (in_range first max l) (λ _. by_wait l.waiting refl)
    λ e. absurd (true≢false (sym ranged ∙ e))
  where
    next : Link
    next = (receive_of first max l command number).state

    -- after this, the frame is a stray one
    Stray : Outcome Link → Type 0
    Stray y = receive_in y.state.waiting y.state command number ≡ outcome (row 43 []) y.state

    by_wait : (w : Wait) → l.waiting ≡ w → Stray (receive_in w l command number)
    by_wait None is = ap (λ (v : Wait). receive_in v l command number) is
    by_wait (Some w) is =
        by_test Stray (fits_of command number w.command w.number) (λ _. refl)
        λ e. ap (λ (v : Wait). receive_in v l command number) is ∙ rw e

-- ---- by the reply of `message`

module _ (limit first max : ℕ) (out : List ℕ) (heard : Outcome Link) (body : List ℕ) (t : Transfer) (clock piece : ℕ)
    (buffer : List ℕ) where
  -- what a reply with this row comes to
  abbrev pub By : Row → After
  By r = answer_of limit first max (output r out) heard body t clock piece buffer

  -- a 19, 1D or 1F is handed over
  pub to_begin : (number : ℕ)
      → begun_after heard buffer
      (begin_of limit first max t heard.state clock number (payload_of body) piece (length buffer) out)
      ≡ By (row 0 (0 ∷ 0x1A ∷ number ∷ []))
  unfolding answer_of
  to_begin number = refl

  pub to_store : (number : ℕ)
      → stored_after heard (store_of limit t number (flags_of body) (payload_of body) buffer out)
      ≡ By (row 0 (0 ∷ 0x1E ∷ number ∷ []))
  unfolding answer_of
  to_store number = refl

  pub to_stop : (number : ℕ)
      → stopped_after heard buffer (stop_of limit t number (payload_of body) out) ≡ By (row 0 (0 ∷ 0x20 ∷ number ∷ []))
  unfolding answer_of
  to_stop number = refl

  -- any other reply stands
  pub as_replied : (r : Row) → among (wanted_in r) (0x1A ∷ 0x1E ∷ 0x20 ∷ []) ≡ false
      → after (output r out) heard t buffer ≡ By r
  unfolding answer_of among
  as_replied r h =
      by_test (λ (x : After). after (output r out) heard t buffer ≡ x) (eqb (wanted_in r) 0x1A)
      (λ e. absurd (true≢false (rw e at h)))
      (λ e. by_test (λ (x : After). after (output r out) heard t buffer ≡ x) (eqb (wanted_in r) 0x1E)
      (λ d. absurd (true≢false (rw (e, d) at h)))
      (λ d. by_test (λ (x : After). after (output r out) heard t buffer ≡ x) (eqb (wanted_in r) 0x20)
      (λ b. absurd (true≢false (rw (e, d, b) at h))) (λ _. refl)))

-- ---- the call

module _ (limit first max : ℕ) (answer : Row) (body : List ℕ) (t : Transfer) (l : Link) (clock piece : ℕ)
    (buffer out : List ℕ) where
  -- what the whole call leaves
  abbrev pub Whole : After
  Whole = handle_of limit first max answer body t l clock piece buffer out

  -- and what it leaves where it answers STATE
  abbrev pub Untouched : After
  Untouched = after (output (row 17 (0 ∷ [])) out) (outcome (row 0 []) l) t buffer

  pub link_out_lem : in_range first max l ≡ false → Untouched ≡ Whole
  unfolding handle_of
  link_out_lem e = rw e

  pub transfer_out : in_range_of t ≡ false → Untouched ≡ Whole
  unfolding handle_of
  transfer_out e = either_way (in_range first max l) (λ ranged. rw (ranged, e)) link_out_lem

  -- both in range: by the reply of `message` and what the link said
  pub answered : in_range first max l ≡ true → in_range_of t ≡ true
      → (reply : Output) (said : Outcome Link) → reply ≡ reply_of limit answer body out
      → said ≡ heard_of first max answer body l
      → answer_of limit first max reply said body t clock piece buffer ≡ Whole
  unfolding handle_of
  answered linked ranged reply said p q =
      ap (λ (w : Output). answer_of limit first max w said body t clock piece buffer) p
      ∙ ap (λ (y : Outcome Link). answer_of limit first max (reply_of limit answer body out) y body t clock piece
      buffer)
      q
      ∙ rw (linked, ranged)
