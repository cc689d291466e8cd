-- The replies of `message`: which frames it hands over, and what any other reply is. Assumes nothing.
use Prim.Native.Nat.{ℕ, ◌+◌}
use mathlib.Core.Path.{◌≡◌, refl, ap, ◌∙◌}
use mathlib.Core.Logic.{◌≢◌}
use mathlib.Core.Bool.{true, false, cond, ◌&&◌, true≢false}
use mathlib.Core.List.{List, [], ◌∷◌}
use borrow.Author.Tests.{eqb-false}
use lib.Dec.{eqb, ltb}
use lib.ListN.{length, get_or}
use Rattle.base.specs.Rows.{row}
use Rattle.base.specs.Outcomes.{Output, output}
use Rattle.base.specs.Keys.{among}
use Rattle.base.proofs.Tests.{by_test}
use Rattle.frame.specs.Wire.{frame_of}
use Rattle.frame.specs.Calls.{write_of}
use Rattle.message.specs.Commands.{kind_of, from_box, owed_of}
use Rattle.message.specs.Layouts.{code_number, is_listed, allowed, values_of, size_fits}
use Rattle.message.specs.Table.{Read}
use Rattle.message.specs.Owed.{handed, owed_after, code_for}
use Rattle.message.specs.Reading.{decode_of}
use Rattle.message.specs.Replies.{owed_to, with_cause, reject_of, replied_of, reply_frame_of}
use Rattle.message.specs.CommandLists.{handed_commands}
use Rattle.message.specs.declared.kind.Cause.{Cause}
use Rattle.message.specs.declared.kind.Kind.{Kind}
use Rattle.message.specs.declared.kind.Owed.{Owed}
use Rattle.message.specs.declared.kind.Owed.TheVariants as owes
use Rattle.message.proofs.CommandLists.{command_lists}
use Rattle.message.proofs.RepliesExact.{faults_rejected}
use Rattle.device.specs.Handling.{wanted_in}

-- what holds of PAYLOAD, of ROOM and of a count holds of every write
pub by_write : (P : Output → Type 0) (limit command number : ℕ) (payload out : List ℕ)
    → P (output (row 21 (0 ∷ [])) out) → ((needed : ℕ) → P (output (row 22 (needed ∷ [])) out))
    → ((count : ℕ) (o : List ℕ) → P (output (row 0 (count ∷ [])) o))
    → P (write_of limit command number 0 payload out)
by_write P limit command number payload out long short wrote =
    by_test P (ltb limit (length payload + 5)) (λ _. long)
    λ _. by_test P (ltb (length out) (length (frame_of command number 0 payload))) (λ _. short _) λ _. wrote _ _

-- ---- a reply that is not handed over

module _ (out : List ℕ) where
  -- it hands nothing over, is not STATE, and writes nothing where it refuses
  pub record Plain (w : Output) : Type 0 where
    pub stands : among (wanted_in w.row) (0x1A ∷ 0x1E ∷ 0x20 ∷ []) ≡ false
    pub not_state : w.row.number ≢ 17
    pub unwritten : w.row.number ≢ 0 → w.out ≡ out

  -- a row with number 0
  done : (v o : List ℕ) → among (get_or v 1 0) (0x1A ∷ 0x1E ∷ 0x20 ∷ []) ≡ false → Plain (output (row 0 v) o)
  done v o e = record { stands = e; not_state = eqb-false 0 17 refl; unwritten = λ n. absurd (n refl) }

  module _ (limit number : ℕ) where
    plain_write : (command : ℕ) (payload : List ℕ) → Plain (write_of limit command number 0 payload out)
    unfolding among
    plain_write command payload =
        by_write Plain limit command number payload out
        (record { stands = refl; not_state = eqb-false 21 17 refl; unwritten = λ _. refl })
        (λ needed. record { stands = refl; not_state = eqb-false 22 17 refl; unwritten = λ _. refl })
        λ count o. done (count ∷ []) o refl

    pub plain_reject : (why : Cause) → Plain (reject_of limit why number out)
    unfolding among
    plain_reject why =
        by_write (λ (w : Output). Plain (with_cause why w)) limit 0x12 number (code_number (code_for why) ∷ []) out
        (record { stands = refl; not_state = eqb-false 21 17 refl; unwritten = λ _. refl })
        (λ needed. record { stands = refl; not_state = eqb-false 22 17 refl; unwritten = λ _. refl })
        λ count o. done (count ∷ 0x12 ∷ _ ∷ _ ∷ []) o refl

    plain_owed : (d : Owed) → handed d ≡ false → Plain (replied_of limit d number out)
    unfolding among
    plain_owed owes.Nothing h = done [] out refl
    plain_owed owes.AskInformation h = done (0 ∷ 0x02 ∷ number ∷ []) out refl
    plain_owed owes.AskStatus h = done (0 ∷ 0x04 ∷ number ∷ []) out refl
    plain_owed owes.AskBegin h = absurd (true≢false h)
    plain_owed owes.AskStore h = absurd (true≢false h)
    plain_owed owes.AskStop h = absurd (true≢false h)
    plain_owed (owes.Acknowledge command) h = plain_write command []
    plain_owed (owes.Reject why) h = plain_reject why

-- ---- which commands are handed over

module _ (command : ℕ) where
  -- a command that is not, whatever its reading is
  module _ (h : handed (owed_of command) ≡ false) where
    abbrev Unhanded : Owed → Type 0
    Unhanded d = handed d ≡ false

    abbrev Fair : Read → Type 0
    Fair r = Unhanded (owed_after command r.row)

    unless_box : (why : Cause) (d : Owed) → Unhanded d
        → Unhanded (cond (from_box command) (owes.Reject why) (cond (handed (owed_of command)) (owed_of command) d))
    unless_box why d a =
        by_test Unhanded (from_box command) (λ _. refl)
        λ _. by_test Unhanded (handed (owed_of command)) (λ _. h) λ _. a

    unhanded : (p : List ℕ) → Fair (decode_of command p)
    unhanded p =
        let k : Kind = kind_of command in
        by_test Fair (is_listed k)
        (λ _. by_test Fair (size_fits k p)
        (λ _. by_test Fair (allowed k p)
        (λ _. unless_box _ _
        (by_test Unhanded (eqb command 0x03 && eqb (get_or (values_of k p) 0 0) 2) (λ _. refl) (λ _. h)))
        (λ _. unless_box _ _ refl))
        (λ _. unless_box _ _ refl))
        (λ _. unless_box _ _ refl)

  module _ (limit number : ℕ) (p out : List ℕ) where
    pub plain : among command handed_commands ≡ false → Plain out (reply_frame_of limit command number p out)
    plain e = plain_owed out limit number (owed_to command p) (unhanded (command_lists.handed_over command ∙ e) p)

    -- 19, 1D and 1F are, whatever their payload is
    hands : (c : ℕ) (d : Owed) → among c handed_commands ≡ true → owed_of c ≡ d → command ≡ c
        → reply_frame_of limit command number p out ≡ replied_of limit d number out
    hands c d h e is =
        ap (λ (x : Owed). replied_of limit x number out)
        ((faults_rejected command p).handed_over
        (command_lists.handed_over command ∙ ap (λ (k : ℕ). among k handed_commands) is ∙ h)
        ∙ ap (λ (k : ℕ). owed_of k) is ∙ e)

    pub hands_begin : command ≡ 0x19
        → reply_frame_of limit command number p out ≡ output (row 0 (0 ∷ 0x1A ∷ number ∷ [])) out
    unfolding among
    hands_begin is = hands 0x19 owes.AskBegin refl command_lists.begin is

    pub hands_store : command ≡ 0x1D
        → reply_frame_of limit command number p out ≡ output (row 0 (0 ∷ 0x1E ∷ number ∷ [])) out
    unfolding among
    hands_store is = hands 0x1D owes.AskStore refl command_lists.store is

    pub hands_stop : command ≡ 0x1F
        → reply_frame_of limit command number p out ≡ output (row 0 (0 ∷ 0x20 ∷ number ∷ [])) out
    unfolding among
    hands_stop is = hands 0x1F owes.AskStop refl command_lists.stop is
