-- What a call with link and transfer in range leaves, by the answer of the reader and the command. Assumes nothing.
use Prim.Native.Nat.{ℕ}
use mathlib.Core.Path.{◌≡◌, refl, sym, subst, ◌∙◌}
use mathlib.Core.Logic.{◌≢◌}
use mathlib.Core.Bool.{false}
use mathlib.Core.List.{List, [], ◌∷◌}
use borrow.Author.Tests.{eqb-true, eqb-false}
use lib.Dec.{eqb}
use lib.ListN.{length}
use Rattle.base.specs.Rows.{Row, row}
use Rattle.base.specs.Outcomes.{Outcome, outcome, Output, output}
use Rattle.base.specs.Keys.{among}
use Rattle.base.proofs.Tests.{tests, either_way}
use Rattle.base.proofs.Keys.{among_holds}
use Rattle.frame.specs.Wire.{command_of, number_of, flags_of, payload_of}
use Rattle.message.specs.Replies.{reject_of, reply_frame_of, reply_of}
use Rattle.message.specs.CommandLists.{handed_commands}
use Rattle.message.specs.declared.kind.Cause.TheVariants as cause
use Rattle.message.proofs.RepliesExact.{silent_else}
use Rattle.link.specs.Calls.{receive_of}
use Rattle.link.specs.declared.state.Link.{Link}
use Rattle.transfer.specs.Calls.{begin_of, store_of, stop_of}
use Rattle.device.specs.Handling.{After, after, ended_in, heard_of, begun_after, stored_after, stopped_after, answer_of}
use Rattle.device.specs.Handling.{wanted_in}
use Rattle.device.specs.HandlingExact.{Given, leaves, Ranged, link_after}
use Rattle.device.proofs.HandleLaws.{to_begin, to_store, to_stop, as_replied, unheard, answered}
use Rattle.device.proofs.ReplyLaws.{plain, plain_reject, hands_begin, hands_store, hands_stop}

-- what the link says where nothing is given to it
abbrev pub unasked : Given → Outcome Link
unasked g = outcome (row 0 []) g.link

-- and where the frame is
abbrev pub received : ℕ → ℕ → Given → List ℕ → Outcome Link
received first max g body =
    outcome (ended_in (receive_of first max g.link (command_of body) (number_of body)).row)
    (link_after first max g body)

module _ (limit first max : ℕ) (g : Given) (body : List ℕ) where
  abbrev heard : Outcome Link
  heard = received first max g body

  -- ---- what is left in each case

  abbrev pub Nothing : After
  Nothing = after (output (row 0 []) g.out) (unasked g) g.transfer g.buffer

  abbrev pub Sum : After
  Sum = after (reject_of limit cause.Sum (number_of body) g.out) (unasked g) g.transfer g.buffer

  abbrev pub Other : After
  Other =
      after (reply_frame_of limit (command_of body) (number_of body) (payload_of body) g.out) heard g.transfer
      g.buffer

  abbrev pub Begin : After
  Begin =
      begun_after heard g.buffer
      (begin_of limit first max g.transfer (link_after first max g body) g.clock (number_of body) (payload_of body)
      g.piece (length g.buffer) g.out)

  abbrev pub Store : After
  Store =
      stored_after heard
      (store_of limit g.transfer (number_of body) (flags_of body) (payload_of body) g.buffer g.out)

  abbrev pub Stop : After
  Stop =
      stopped_after heard g.buffer (stop_of limit g.transfer (number_of body) (payload_of body) g.out)

  module _ (ranged : Ranged first max g) where
    -- by the reply of `message` and what the link said
    by_reply : (answer : Row) (reply : Output) (said : Outcome Link) → reply ≡ reply_of limit answer body g.out
        → said ≡ heard_of first max answer body g.link
        → leaves limit first max g answer body
        ≡ answer_of limit first max reply said body g.transfer g.clock g.piece g.buffer
    by_reply answer reply said p q =
        sym (answered limit first max answer body g.transfer g.link g.clock g.piece g.buffer g.out
        ranged.0 ranged.1 reply said p q)

    -- a reply that stands
    stands : (answer : Row) (reply : Output) (said : Outcome Link) → reply ≡ reply_of limit answer body g.out
        → said ≡ heard_of first max answer body g.link
        → among (wanted_in reply.row) (0x1A ∷ 0x1E ∷ 0x20 ∷ []) ≡ false
        → leaves limit first max g answer body ≡ after reply said g.transfer g.buffer
    stands answer reply said p q h =
        by_reply answer reply said p q
        ∙ sym (as_replied limit first max reply.out said body g.transfer g.clock g.piece g.buffer
        reply.row h)

    pub silent : (answer : Row) → answer.number ≢ 1 → answer.number ≢ 15
        → leaves limit first max g answer body ≡ Nothing
    unfolding among
    silent answer f s =
        stands answer (output (row 0 []) g.out) (unasked g) (sym (silent_else limit answer body g.out f s))
        (unheard first max answer body g.link (search tests)) refl

    pub wrong_sum_lem : (v : List ℕ) → leaves limit first max g (row 15 v) body ≡ Sum
    wrong_sum_lem v =
        stands (row 15 v) (reject_of limit cause.Sum (number_of body) g.out) (unasked g) refl refl
        (plain_reject g.out limit (number_of body) cause.Sum).stands

    -- a frame
    module _ (v : List ℕ) where
      pub other : among (command_of body) handed_commands ≡ false → leaves limit first max g (row 1 v) body ≡ Other
      other h =
          stands (row 1 v) (reply_frame_of limit (command_of body) (number_of body) (payload_of body) g.out) heard refl
          refl (plain (command_of body) limit (number_of body) (payload_of body) g.out h).stands

      -- a frame that is handed over: with this reply `message` does it, and then this is left
      handed : (reply : Output) (y : After)
          → reply_frame_of limit (command_of body) (number_of body) (payload_of body) g.out ≡ reply
          → y ≡ answer_of limit first max reply heard body g.transfer g.clock g.piece g.buffer
          → leaves limit first max g (row 1 v) body ≡ y
      handed reply y e left = by_reply (row 1 v) reply heard (sym e) refl ∙ sym left

      pub begin : command_of body ≡ 0x19 → leaves limit first max g (row 1 v) body ≡ Begin
      begin is = handed _ Begin (hands_begin _ _ _ _ _ is) (to_begin _ _ _ _ _ _ _ _ _ _ _)

      pub store : command_of body ≡ 0x1D → leaves limit first max g (row 1 v) body ≡ Store
      store is = handed _ Store (hands_store _ _ _ _ _ is) (to_store _ _ _ _ _ _ _ _ _ _ _)

      pub stop : command_of body ≡ 0x1F → leaves limit first max g (row 1 v) body ≡ Stop
      stop is = handed _ Stop (hands_stop _ _ _ _ _ is) (to_stop _ _ _ _ _ _ _ _ _ _ _)

    -- what holds in each case holds of every call
    module _ (P : After → Type 0) (answer : Row) where
      -- by the number of the answer
      at_number : (n : ℕ) → answer.number ≡ n → P (leaves limit first max g (row n answer.values) body)
          → P (leaves limit first max g answer body)
      at_number n is h = subst (λ (k : ℕ). P (leaves limit first max g (row k answer.values) body)) (sym is) h

      pub by_cases : (answer.number ≢ 1 → P Nothing) → (answer.number ≢ 1 → P Sum)
          → (answer.number ≡ 1 → among (command_of body) handed_commands ≡ false → P Other)
          → (answer.number ≡ 1 → command_of body ≡ 0x19 → P Begin)
          → (answer.number ≡ 1 → command_of body ≡ 0x1D → P Store)
          → (answer.number ≡ 1 → command_of body ≡ 0x1F → P Stop)
          → P (leaves limit first max g answer body)
      by_cases nothing sum others begins stores stops =
          either_way (eqb answer.number 1)
          (λ f. is_frame_lem (eqb-true answer.number 1 f))
          λ f. let no = eqb-false answer.number 1 f in
          either_way (eqb answer.number 15)
          (λ s. at_number 15 (eqb-true answer.number 15 s) (subst P (sym (wrong_sum_lem answer.values)) (sum no)))
          λ s. subst P (sym (silent answer no (eqb-false answer.number 15 s))) (nothing no)
        where
          is_frame_lem : answer.number ≡ 1 → P (leaves limit first max g answer body)
          is_frame_lem f =
              at_number 1 f
              (either_way (among (command_of body) handed_commands)
              (λ h. among_holds (λ c. command_of body ≡ c → P (leaves limit first max g (row 1 answer.values) body))
              (command_of body) handed_commands (
                λ is. subst P (sym (begin answer.values is)) (begins f is),
                (
                  λ is. subst P (sym (store answer.values is)) (stores f is),
                  (λ is. subst P (sym (stop answer.values is)) (stops f is), tt),
                ),
              ) h refl)
              λ h. subst P (sym (other answer.values h)) (others f h))
