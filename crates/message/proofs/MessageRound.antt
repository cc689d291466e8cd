-- A message that was written is read back as the same message, from the calls that consumed it and anywhere in a
-- stream. Assumes nothing.
use Prim.Native.Nat.{ℕ, ◌+◌, ◌≤◌}
use mathlib.Core.Path.{◌≡◌, refl, sym, ap, ◌∙◌}
use mathlib.Core.Bool.{Bool, true, false, cond}
use mathlib.Core.List.{List, [], ◌∷◌, ◌++◌}
use borrow.Author.Tests.{ltb-false}
use lib.Dec.{ltb}
use lib.ListN.{length, get_or, take, drop}
use lib.Seq.{take_at}
use Rattle.base.specs.Rows.{Row, row}
use Rattle.base.specs.Outcomes.{Output, output, onto}
use Rattle.base.proofs.Rows.{refused}
use Rattle.frame.specs.Wire.{wire, body_of}
use Rattle.frame.specs.Calls.{write_of}
use Rattle.frame.proofs.RoundTrip.{round_trip, made_good, read_anywhere}
use Rattle.message.specs.Commands.{kind_of}
use Rattle.message.specs.Layouts.{is_listed}
use Rattle.message.specs.Messages.{command_in, opaque_fits, allowed_in, payload_in}
use Rattle.message.specs.Writing.{send_of}
use Rattle.message.specs.WrittenRead.{Writable}
use Rattle.message.specs.MessageRound.{MessageRoundTrip, MessageReadAnywhere}
use Rattle.message.specs.declared.values.Message.{Message}
use Rattle.message.proofs.Tests.{passed}
use Rattle.message.proofs.WrittenRead.{written_read}

-- a call that wrote so many bytes of a frame
pub record Wrote (limit : ℕ) (payload w : List ℕ) (count : ℕ) (o : Output) : Type 0 where
  pub fits : length payload + 5 ≤ limit
  pub counted : length w ≡ count
  pub front : take count o.out ≡ w

wrote :
    (limit command number flags : ℕ) (payload out : List ℕ) (count : ℕ)
    → (write_of limit command number flags payload out).row ≡ row 0 (count ∷ [])
    → Wrote limit payload (wire (body_of command number flags payload)) count
    (write_of limit command number flags payload out)
wrote limit command number flags payload out count e = go (ltb limit (length payload + 5)) (ltb (length out) (length w))
    refl e
  where
    w : List ℕ
    w = wire (body_of command number flags payload)

    written : Bool → Bool → Output
    written large narrow = cond large (output (row 21 (0 ∷ [])) out)
        (cond narrow (output (row 22 (length w ∷ [])) out) (output (row 0 (length w ∷ [])) (onto w out)))

    go : (large narrow : Bool) → ltb limit (length payload + 5) ≡ large → (written large narrow).row
        ≡ row 0 (count ∷ [])
        → Wrote limit payload w count (written large narrow)
    go true narrow q e = refused e
    go false true q e = refused e
    go false false q e = record {
      fits =
          ltb-false _ _ q;
      counted = ap (λ (r : Row). get_or r.values 0 0) e;
      front = take_at w (drop (length w) out) count (ap (λ (r : Row). get_or r.values 0 0) e);
    }

module _ (limit : ℕ) (m : Message) (number flags count : ℕ) (opaque out : List ℕ) where
  pub record SentFrame (o : Output) : Type 0 where
    pub writable : Writable m opaque
    pub frame : Wrote limit (payload_in m opaque) (wire (body_of (command_in m) number flags (payload_in m opaque)))
        count o

  pub sent : (send_of limit m number flags opaque out).row ≡ row 0 (count ∷ [])
      → SentFrame (send_of limit m number flags opaque out)
  sent e =
      let o : Output = write_of limit (command_in m) number flags (payload_in m opaque) out in
      let t = passed (λ (w : Output). w.row) (λ n. output (row n []) out) (λ n. refl)
      (is_listed (kind_of (command_in m)))
      (opaque_fits m (length opaque)) (allowed_in m) o e in
      let written : o.row ≡ row 0 (count ∷ []) = ap (λ (w : Output). w.row) (sym t.3) ∙ e in
      record {
        writable = record { listed = t.0; sized = t.1; allows = t.2 };
        frame = rw t.3 (wrote limit (command_in m) number flags (payload_in m opaque) out count written);
      }

pub message_round_trip : MessageRoundTrip
message_round_trip limit h m number flags count opaque out e earlier later all =
    let s = sent limit m number flags count opaque out e in
    let back = round_trip limit h (command_in m) number flags (payload_in m opaque) s.frame.fits earlier later
    (all ∙ s.frame.front) in
    record { frame = back; message = rw (back.command_is, back.payload_is) (written_read m opaque s.writable) }

pub message_read_anywhere : MessageReadAnywhere
message_read_anywhere limit h m number flags count opaque out e calls before after all =
    let s = sent limit m number flags count opaque out e in
    let made = made_good limit (command_in m) number flags (payload_in m opaque) s.frame.fits in
    record {
      found =
          record {
            start = length before;
            end = length before + length (wire (body_of (command_in m) number flags (payload_in m opaque)));
            body = body_of (command_in m) number flags (payload_in m opaque);
          };
      is_delivered =
          read_anywhere limit h (command_in m) number flags (payload_in m opaque) s.frame.fits calls before after
          (all ∙ ap (λ (w : List ℕ). before ++ (w ++ after)) s.frame.front);
      start_is = refl;
      end_is = ap (λ (n : ℕ). length before + n) s.frame.counted;
      number_is = made.number_is;
      flags_are = made.flags_are;
      message = rw (made.command_is, made.payload_is) (written_read m opaque s.writable);
    }
