-- Each call keeps what is told, and is STATE only by a link. Assumes nothing.
use Prim.Native.Nat.{ℕ}
use mathlib.Core.Path.{◌≡◌, refl, sym, ap, subst}
use mathlib.Core.Bool.{Bool, true, false, cond, not, ◌||◌, true≢false}
use mathlib.Core.List.{List, []}
use borrow.Author.Tests.{ltb-false, eqb-true, eqb-false}
use lib.Dec.{eqb, ltb}
use lib.ListN.{length}
use Rattle.base.specs.Numbers.{four_at}
use Rattle.base.proofs.Tests.{by_test}
use Rattle.link.specs.Calls.{in_range, offer_of}
use Rattle.link.specs.declared.state.Link.{Link}
use Rattle.transfer.specs.Pieces.{max_pieces, pieces_of}
use Rattle.transfer.specs.Payloads.{faulty, size_in, code_in, index_in, total_in, bytes_in}
use Rattle.transfer.specs.Checks.{first_refusal, in_range_of, hex_lines, begin_tests, store_tests, stop_tests}
use Rattle.transfer.specs.Checks.{cancel_tests}
use Rattle.transfer.specs.Writing.{acknowledged, pair_of}
use Rattle.transfer.specs.Calls.{Left, Both, both, Held, held, put_in, begin_of, store_of, stop_of, cancel_of}
use Rattle.transfer.specs.Logs.{Call, beginning, storing, stopping, cancelling, Account, none, since, piece_in}
use Rattle.transfer.specs.Logs.{Piece, with_piece, added, account_step}
use Rattle.transfer.specs.LogsComputed.{call_of, entry_of}
use Rattle.transfer.specs.declared.state.Transfer.{Transfer}
use Rattle.transfer.specs.Transfers.{absent, opened}
use Rattle.transfer.proofs.ReadLaws.{size_read, index_read, bytes_read}
use Rattle.transfer.proofs.TestLaws.{passes, accepted}
use Rattle.transfer.proofs.Outcomes.{Went, done, kept, went}
use Rattle.transfer.proofs.Accounts.{Holds, Told, begins, again_told, next_told}

-- ---- an accepted piece

module _ (flags : ℕ) (payload buffer : List ℕ) where
  abbrev piece_number : Transfer → ℕ
  piece_number t =
      first_refusal (store_tests t flags (faulty 0x1D payload) (index_in payload) (total_in payload) (bytes_in payload)
      buffer)

  abbrev piece_held : Transfer → Held
  piece_held t = put_in t (index_in payload) (bytes_in payload) buffer

  -- without a transfer there is none
  none_accepted : 0 ≡ piece_number absent → ⊥
  none_accepted z =
      let p = passes false 17 refl z in
      let q = passes (faulty 0x1D payload) 32 refl p.1 in
      let r = passes (hex_lines flags) 64 refl q.1 in
      true≢false (passes true 65 {k = 0} refl r.1).0

  -- of an open one
  module _ (size piece : ℕ) (start : List ℕ) (ps : List Piece)
      (h : Holds size piece start ps (opened size piece (length ps)) buffer)
      (z : 0 ≡ piece_number (opened size piece (length ps))) where
    abbrev now : Held
    now = piece_held (opened size piece (length ps))

    open_told : Holds size piece start (with_piece (piece_in payload) ps) now.transfer now.buffer
    open_told =
        let p = passes (not (in_range_of (opened size piece (length ps)))) 17 refl z in
        let q = passes (faulty 0x1D payload) 32 refl p.1 in
        let a = accepted size piece (length ps) flags (index_in payload) (total_in payload) (bytes_in payload) buffer
        q.1 in
        let i = sym (index_read payload q.0) in
        let b = sym (bytes_read payload q.0) in
        by_test (λ (y : Held). Holds size piece start (with_piece (piece_in payload) ps) y.transfer y.buffer)
        (eqb (index_in payload) (length ps))
        (λ e. again_told size piece start ps (opened size piece (length ps)) buffer h (index_in payload)
        (total_in payload) (bytes_in payload) a (piece_in payload) i b (eqb-true (index_in payload) (length ps) e))
        (λ e. next_told size piece start ps (opened size piece (length ps)) buffer h (index_in payload)
        (total_in payload) (bytes_in payload) a (piece_in payload) i b (eqb-false (index_in payload) (length ps) e))

  -- of any
  put_told : (a : Account) (t : Transfer) → Told a t buffer → 0 ≡ piece_number t
      → Told (added (piece_in payload) a) (piece_held t).transfer (piece_held t).buffer
  put_told none t h z = absurd (none_accepted (subst (λ (u : Transfer). 0 ≡ piece_number u) h z))
  put_told (since size piece start ps) t h z =
      subst (λ (u : Transfer). Holds size piece start (with_piece (piece_in payload) ps) (piece_held u).transfer
      (piece_held u).buffer) (sym h.is)
      (open_told size piece start ps (subst (λ (u : Transfer). Holds size piece start ps u buffer) h.is h)
      (subst (λ (u : Transfer). 0 ≡ piece_number u) h.is z))

-- ---- each call

module _ (limit first max : ℕ) (a : Account) (t : Transfer) (buffer : List ℕ) (told : Told a t buffer) where
  -- what is told after a call
  abbrev After : Call → Type 0
  After c =
      Told (account_step a (entry_of c (call_of limit first max t buffer c)))
      (call_of limit first max t buffer c).transfer
      (call_of limit first max t buffer c).buffer

  -- an accepted call moves the account, and another keeps it
  moved : (n : ℕ) (x : Account) (made now : Transfer) (b : List ℕ) → eqb n 0 ≡ true → made ≡ now → Told x now b
      → Told (cond (eqb n 0) x a) made b
  moved n x made now b e q h =
      subst (λ (u : Transfer). Told (cond (eqb n 0) x a) u b) (sym q)
      (subst (λ (k : Bool). Told (cond k x a) now b) (sym e) h)

  stayed : (n : ℕ) (x : Account) (made : Transfer) (b : List ℕ) → eqb n 0 ≡ false → made ≡ t → b ≡ buffer
      → Told (cond (eqb n 0) x a) made b
  stayed n x made b e q r =
      subst (λ (u : Transfer). Told (cond (eqb n 0) x a) u b) (sym q)
      (subst (λ (v : List ℕ). Told (cond (eqb n 0) x a) t v) (sym r)
      (subst (λ (k : Bool). Told (cond k x a) t buffer) (sym e) told))

  -- a call with a link
  module _ (l : Link) (clock number : ℕ) (payload : List ℕ) (piece : ℕ) (out : List ℕ) where
    abbrev begin_number : ℕ
    begin_number =
        first_refusal (begin_tests first max t l (eqb (offer_of first max l 0x1B clock).row.number 41)
        (faulty 0x19 payload)
        (size_in payload) piece (length buffer))

    begun : 0 ≡ begin_number → Holds (four_at payload 0) piece buffer [] (opened (size_in payload) piece 0) buffer
    begun z =
        let p = passes (not (in_range_of t)) 17 refl z in
        let q = passes (not (in_range first max l)) 17 refl p.1 in
        let r = passes (faulty 0x19 payload) 32 refl q.1 in
        let s = passes (eqb (offer_of first max l 0x1B clock).row.number 41) 41 refl r.1 in
        let u = passes (eqb (size_in payload) 0 || eqb piece 0) 61 refl s.1 in
        let v = passes (ltb (length buffer) (size_in payload)) 62 refl u.1 in
        let w = passes (ltb max_pieces (pieces_of (size_in payload) piece)) 63 {k = 0} refl v.1 in
        subst (λ k. Holds k piece buffer [] (opened (size_in payload) piece 0) buffer) (size_read payload r.0)
        (begins (size_in payload) piece buffer u.0 (ltb-false (length buffer) (size_in payload) v.0)
        (ltb-false max_pieces (pieces_of (size_in payload) piece) w.0))

    abbrev began : Left Both
    began = begin_of limit first max t l clock number payload piece (length buffer) out

    abbrev ready : Both
    ready = both (opened (size_in payload) piece 0) (offer_of first max l 0x1B clock).state

    pub begin_keeps : After (beginning l clock number payload piece out)
    begin_keeps =
        go (went (both t l) ready limit begin_number number (pair_of limit number l.next piece (code_in payload) out)
        out)
      where
        go : Went (both t l) ready began begin_number → After (beginning l clock number payload piece out)
        go (done e z s) =
            moved began.row.number (since (four_at payload 0) piece buffer []) began.state.transfer
            (opened (size_in payload) piece 0) buffer e (ap (λ (b : Both). b.transfer) s) (begun z)
        go (kept e s) =
            stayed began.row.number (since (four_at payload 0) piece buffer []) began.state.transfer buffer e
            (ap (λ (b : Both). b.transfer) s) refl

  module _ (l : Link) (clock : ℕ) (out : List ℕ) where
    abbrev cancel_number : ℕ
    cancel_number =
        first_refusal (cancel_tests first max t l (eqb (offer_of first max l 0x27 clock).row.number 41))

    abbrev cancelled : Left Both
    cancelled = cancel_of limit first max t l clock out

    abbrev dropped : Both
    dropped = both absent (offer_of first max l 0x27 clock).state

    pub cancel_keeps : After (cancelling l clock out)
    cancel_keeps = go (went (both t l) dropped limit cancel_number 0 (acknowledged limit 0x27 l.next out) out)
      where
        go : Went (both t l) dropped cancelled cancel_number → After (cancelling l clock out)
        go (done e z s) =
            moved cancelled.row.number none cancelled.state.transfer absent buffer e
            (ap (λ (b : Both). b.transfer) s) refl
        go (kept e s) =
            stayed cancelled.row.number none cancelled.state.transfer buffer e
            (ap (λ (b : Both). b.transfer) s) refl

  module _ (number : ℕ) (payload out : List ℕ) where
    abbrev stop_number : ℕ
    stop_number = first_refusal (stop_tests t (faulty 0x1F payload))

    abbrev stopped : Left Transfer
    stopped = stop_of limit t number payload out

    pub stop_keeps : After (stopping number payload out)
    stop_keeps = go (went t absent limit stop_number number (acknowledged limit 0x20 number out) out)
      where
        go : Went t absent stopped stop_number → After (stopping number payload out)
        go (done e z s) = moved stopped.row.number none stopped.state absent buffer e s refl
        go (kept e s) = stayed stopped.row.number none stopped.state buffer e s refl

  -- a 1D
  module _ (number flags : ℕ) (payload out : List ℕ) where
    abbrev store_number : ℕ
    store_number =
        first_refusal
        (store_tests t flags (faulty 0x1D payload) (index_in payload) (total_in payload) (bytes_in payload)
        buffer)

    abbrev stores : Left Held
    stores = store_of limit t number flags payload buffer out

    abbrev piece_put : Held
    piece_put = put_in t (index_in payload) (bytes_in payload) buffer

    pub store_keeps : After (storing number flags payload out)
    store_keeps = go (went (held t buffer) piece_put limit store_number number (acknowledged limit 0x1E number out) out)
      where
        go : Went (held t buffer) piece_put stores store_number → After (storing number flags payload out)
        go (done e z s) =
            subst (λ (b : List ℕ). Told (cond (eqb stores.row.number 0) (added (piece_in payload) a) a)
            stores.state.transfer b) (sym (ap (λ (h : Held). h.buffer) s))
            (moved stores.row.number (added (piece_in payload) a) stores.state.transfer piece_put.transfer
            piece_put.buffer e (ap (λ (h : Held). h.transfer) s) (put_told flags payload buffer a t told z))
        go (kept e s) =
            stayed stores.row.number (added (piece_in payload) a) stores.state.transfer stores.state.buffer e
            (ap (λ (h : Held). h.transfer) s) (ap (λ (h : Held). h.buffer) s)
