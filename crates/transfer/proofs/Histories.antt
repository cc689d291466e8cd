-- The history of every list of calls of a fresh transfer. Assumes nothing.
use Prim.Native.Nat.{ℕ, suc, ◌*◌, ◌≤◌}
use mathlib.Core.Path.{◌≡◌, refl, sym, ap, subst, ◌∙◌}
use mathlib.Core.Bool.{Bool, true, false, not, ◌||◌, true≢false}
use mathlib.Core.List.{List, [], ◌∷◌, ◌++◌}
use native.Mathlib.Omega.{arith, min_cases}
use borrow.Author.Tests.{eq-eqb, leb-true}
use lib.Dec.{eqb, leb}
use lib.ListN.{length, get_or}
use Rattle.std.specs.Prelude.{Option, Some, None}
use Rattle.base.specs.Rows.{Row}
use Rattle.base.proofs.Tests.{either_way, both as both_hold}
use Rattle.link.specs.Calls.{in_range, offer_of}
use Rattle.link.specs.declared.state.Link.{Link}
use Rattle.transfer.specs.Pieces.{max_pieces, pieces_of, bytes_of}
use Rattle.transfer.specs.Payloads.{faulty, size_in, code_in, index_in, total_in, bytes_in}
use Rattle.transfer.specs.Checks.{first_refusal, in_range_of, size_tests, piece_tests, test, begin_tests, store_tests}
use Rattle.transfer.specs.Checks.{stop_tests, cancel_tests}
use Rattle.transfer.specs.Writing.{acknowledged, pair_of}
use Rattle.transfer.specs.Calls.{both, held, put_in, progress_of}
use Rattle.transfer.specs.Logs.{Call, beginning, storing, stopping, cancelling, Entry, transfer_after, buffer_after}
use Rattle.transfer.specs.Logs.{Piece, Account, none, since, account_step, account_after, pieces_in, summed}
use Rattle.transfer.specs.LogsComputed.{call_of, entry_of, log_of}
use Rattle.transfer.specs.History.{progress_row, Receiving, LinkOut}
use Rattle.transfer.specs.Histories.{TransferHistory}
use Rattle.transfer.specs.declared.state.Open.{Open}
use Rattle.transfer.specs.declared.state.Transfer.{Transfer}
use Rattle.transfer.specs.Transfers.{open_of, absent, opened}
use Rattle.transfer.proofs.PieceLaws.{below_end, reaches_end}
use Rattle.transfer.proofs.TestLaws.{open_sizes}
use Rattle.transfer.proofs.Outcomes.{Others, other_refusal, acknowledged_other, pair_other, not_state}
use Rattle.transfer.proofs.Accounts.{Holds, Told, told_ranged}
use Rattle.transfer.proofs.Moves.{begin_keeps, store_keeps, stop_keeps, cancel_keeps}

-- ---- STATE is a link's

piece_others : (o : Option Open) (flags index total : ℕ) (bytes buffer : List ℕ)
    → Others 17 (piece_tests o flags index total bytes buffer)
piece_others None flags index total bytes buffer = (refl, (refl, tt))
piece_others (Some o) flags index total bytes buffer = (refl, (refl, (refl, (refl, (refl, tt)))))

-- with a transfer and a link in range, no test of a 19 or of a 27 is STATE
module _ (first max : ℕ) (t : Transfer) (l : Link) (busy : Bool) (ranged : in_range_of t ≡ true)
    (linked : in_range first max l ≡ true) where
  begin_others : (misread : Bool) (size piece room : ℕ)
      → eqb (first_refusal (begin_tests first max t l busy misread size piece room)) 17 ≡ false
  begin_others misread size piece room =
      rw (ranged, linked) (other_refusal 17 (test misread 32 ∷ test busy 41 ∷ size_tests size piece room) refl
      (refl, (refl, (refl, (refl, (refl, tt))))))

  cancel_others : eqb (first_refusal (cancel_tests first max t l busy)) 17 ≡ false
  cancel_others = rw (ranged, linked) (other_refusal 17 (test busy 41 ∷ []) refl (refl, tt))

module _ (limit first max : ℕ) (t : Transfer) (buffer : List ℕ) (ranged : in_range_of t ≡ true) where
  no_state : {n : ℕ} → eqb n 17 ≡ false → n ≡ 17 → ⊥
  no_state {n} h e = true≢false (sym (eq-eqb n 17 e) ∙ h)

  pub state_link : (c : Call) → (call_of limit first max t buffer c).row.number ≡ 17 → LinkOut first max c
  state_link (beginning l clock number payload piece out) e = either_way (in_range first max l)
      (λ h. absurd (no_state (other h) e)) (λ h. h)
    where
      other : in_range first max l ≡ true
          → eqb (call_of limit first max t buffer (beginning l clock number payload piece out)).row.number 17 ≡ false
      other h =
          not_state (both t l) (both (opened (size_in payload) piece 0) (offer_of first max l 0x1B clock).state) limit
          (first_refusal (begin_tests first max t l (eqb (offer_of first max l 0x1B clock).row.number 41)
          (faulty 0x19 payload) (size_in payload) piece (length buffer)))
          number (pair_of limit number l.next piece (code_in payload) out) out
          (begin_others first max t l (eqb (offer_of first max l 0x1B clock).row.number 41) ranged h
          (faulty 0x19 payload)
          (size_in payload) piece (length buffer))
          (pair_other limit number l.next piece (code_in payload) out)
  state_link (storing number flags payload out) e = no_state other e
    where
      other : eqb (call_of limit first max t buffer (storing number flags payload out)).row.number 17 ≡ false
      other =
          not_state (held t buffer) (put_in t (index_in payload) (bytes_in payload) buffer) limit
          (first_refusal
          (store_tests t flags (faulty 0x1D payload) (index_in payload) (total_in payload) (bytes_in payload)
          buffer)) number (acknowledged limit 0x1E number out) out
          (rw ranged (other_refusal 17
          (test (faulty 0x1D payload) 32
          ∷ piece_tests (open_of t) flags (index_in payload) (total_in payload) (bytes_in payload) buffer) refl
          (refl, piece_others (open_of t) flags (index_in payload) (total_in payload) (bytes_in payload) buffer)))
          (acknowledged_other limit 0x1E number out)
  state_link (stopping number payload out) e = no_state other e
    where
      other : eqb (call_of limit first max t buffer (stopping number payload out)).row.number 17 ≡ false
      other =
          not_state t absent limit (first_refusal (stop_tests t (faulty 0x1F payload))) number
          (acknowledged limit 0x20 number out) out
          (rw ranged (other_refusal 17 (test (faulty 0x1F payload) 32 ∷ []) refl (refl, tt)))
          (acknowledged_other limit 0x20 number out)
  state_link (cancelling l clock out) e =
      either_way (in_range first max l) (λ h. absurd (no_state (other h) e)) (λ h. h)
    where
      other : in_range first max l ≡ true
          → eqb (call_of limit first max t buffer (cancelling l clock out)).row.number 17 ≡ false
      other h =
          not_state (both t l) (both absent (offer_of first max l 0x27 clock).state) limit
          (first_refusal (cancel_tests first max t l (eqb (offer_of first max l 0x27 clock).row.number 41))) 0
          (acknowledged limit 0x27 l.next out) out
          (cancel_others first max t l (eqb (offer_of first max l 0x27 clock).row.number 41) ranged h)
          (acknowledged_other limit 0x27 l.next out)

-- ---- the whole list

head_same : {x y : Entry} {xs ys : List Entry} → x ∷ xs ≡ y ∷ ys → x ≡ y
head_same {x} e = ap (first_or x) e
  where
    first_or : Entry → List Entry → Entry
    first_or z [] = z
    first_or z (w ∷ ws) = w

tail_same : {x y : Entry} {xs ys : List Entry} → x ∷ xs ≡ y ∷ ys → xs ≡ ys
tail_same e = ap rest_of e
  where
    rest_of : List Entry → List Entry
    rest_of [] = []
    rest_of (w ∷ ws) = ws

nil-cons : {x : Entry} {xs : List Entry} → [] ≡ x ∷ xs → ⊥
nil-cons e = let n : ◌≡◌ {A = ℕ} 0 (suc _) = ap length e in absurd (omega arith)

module _ (limit first max : ℕ) where
  keeps : (a : Account) (t : Transfer) (buffer : List ℕ) → Told a t buffer → (c : Call)
      → Told (account_step a (entry_of c (call_of limit first max t buffer c)))
      (call_of limit first max t buffer c).transfer
      (call_of limit first max t buffer c).buffer
  keeps a t buffer h (beginning l clock number payload piece out) =
      begin_keeps limit first max a t buffer h l clock number payload piece out
  keeps a t buffer h (storing number flags payload out) =
      store_keeps limit first max a t buffer h number flags payload out
  keeps a t buffer h (stopping number payload out) = stop_keeps limit first max a t buffer h number payload out
  keeps a t buffer h (cancelling l clock out) = cancel_keeps limit first max a t buffer h l clock out

  -- what is told after all calls
  told_after : (a : Account) (t : Transfer) (buffer : List ℕ) → Told a t buffer → (cs : List Call)
      → Told (account_after a (log_of limit first max t buffer cs))
      (transfer_after t (log_of limit first max t buffer cs))
      (buffer_after buffer (log_of limit first max t buffer cs))
  unfolding log_of account_after transfer_after buffer_after
  told_after a t buffer h [] = h
  told_after a t buffer h (c ∷ cs) =
      told_after (account_step a (entry_of c (call_of limit first max t buffer c)))
      (call_of limit first max t buffer c).transfer (call_of limit first max t buffer c).buffer
      (keeps a t buffer h c) cs

  -- each entry that is STATE
  state_only : (a : Account) (t : Transfer) (buffer : List ℕ) → Told a t buffer → (cs : List Call)
      → (before : List Entry) (e : Entry) (after : List Entry)
      → log_of limit first max t buffer cs ≡ before ++ (e ∷ after) → e.row.number ≡ 17 → LinkOut first max e.call
  unfolding log_of
  state_only a t buffer h [] [] e after q = absurd (nil-cons q)
  state_only a t buffer h [] (b ∷ bs) e after q = absurd (nil-cons q)
  state_only a t buffer h (c ∷ cs) [] e after q = λ n.
      let first-is = head_same q in
      subst (λ (x : Entry). LinkOut first max x.call) first-is
      (state_link limit first max t buffer (told_ranged a t buffer h) c
      (ap (λ (x : Entry). x.row.number) first-is ∙ n))
  state_only a t buffer h (c ∷ cs) (b ∷ bs) e after q =
      state_only (account_step a (entry_of c (call_of limit first max t buffer c)))
      (call_of limit first max t buffer c).transfer (call_of limit first max t buffer c).buffer (keeps a t buffer h c)
      cs bs
      e after (tail_same q)

-- ---- what is told, as the history says it

progress_told : (a : Account) (t : Transfer) (buffer : List ℕ) → Told a t buffer → progress_of t ≡ progress_row a
progress_told none t buffer h = rw h
progress_told (since size piece start ps) t buffer h = rw (h.is, h.ranged, h.bytes)

stored_told : (size piece : ℕ) (start : List ℕ) (ps : List Piece) (t : Transfer) (buffer : List ℕ)
    → Holds size piece start ps t buffer → Receiving size piece start ps buffer
stored_told size piece start ps t buffer h =
    record {
      front = h.front;
      rest = h.rest;
      numbers = h.numbers;
      few = listed;
      partial = λ l.
          let inside = below_end size piece (open_sizes size piece (length ps) h.ranged).1 (length ps) l in
          omega (arith, h.bytes, inside);
      whole = λ e.
          let all = reaches_end size piece (open_sizes size piece (length ps) h.ranged).1 in
          h.bytes ∙ ap (λ k. bytes_of size piece k) e
          ∙ min_cases (pieces_of size piece * piece) size _ (λ l q. omega (arith, l, q, all)) (λ l q. q);
    }
  where
    listed : length ps ≤ pieces_of size piece
    listed =
        let outer = both_hold (not (eqb size 0 || eqb piece 0)) h.ranged in
        let inner = both_hold (leb (pieces_of size piece) max_pieces) outer.1 in
        leb-true (length ps) (pieces_of size piece) inner.1

-- and the bytes stored alone
bytes_told : (a : Account) (t : Transfer) (buffer : List ℕ) → Told a t buffer
    → get_or (progress_of t).values 0 0 ≡ summed (pieces_in a)
unfolding summed
bytes_told none t buffer h = ap (λ (r : Row). get_or r.values 0 0) (progress_told none t buffer h)
bytes_told (since size piece start ps) t buffer h =
    ap (λ (r : Row). get_or r.values 0 0) (progress_told (since size piece start ps) t buffer h)

pub transfer_history : TransferHistory
transfer_history limit first max buffer calls =
    let log = log_of limit first max absent buffer calls in
    let h = told_after limit first max none absent buffer refl calls in
    record {
      progress = progress_told (account_after none log) (transfer_after absent log) (buffer_after buffer log) h;
      bytes = bytes_told (account_after none log) (transfer_after absent log) (buffer_after buffer log) h;
      stored = λ size piece start ps e.
          stored_told size piece start ps (transfer_after absent log) (buffer_after buffer log)
          (subst (λ (a : Account). Told a (transfer_after absent log) (buffer_after buffer log)) e h);
      never_state = state_only limit first max none absent buffer refl calls;
    }
