-- What follows from the account of a call. Assumes nothing.
use Rattle.std.proofs.Common.{◌≡◌, ℕ, ◌≤◌, ◌≢◌, [], ◌∷◌, sym, refl, true≢false, arith}
use Rattle.base.specs.Keys.{among}
use Rattle.frame.specs.Logs.{Call, feed, finish, Entry, consumed_in}
use Rattle.frame.specs.Accounts.{Account}

module _ {n : ℕ} {e : Entry} (a : Account n e) where
  -- no answer is STATE
  pub not_state : e.row.number ≢ 17
  unfolding among
  not_state h = go e.call refl
    where
      go : (c : Call) → e.call ≡ c → ⊥
      go (feed bs) q = true≢false (sym (rw h at (a.feed_row bs q)))
      go finish q = true≢false (sym (rw h at (a.finish_row q)))

  -- FRAME consumes the deciding byte
  pub frame_consumes : e.row.number ≡ 1 → 1 ≤ consumed_in e
  unfolding among
  frame_consumes h = go e.call refl
    where
      go : (c : Call) → e.call ≡ c → 1 ≤ consumed_in e
      go (feed []) q = absurd (omega (arith, (a.empty q).0))
      go (feed (x ∷ xs)) q = a.progress (λ u. omega arith) (rw q (omega arith))
      go finish q = absurd (true≢false (sym (rw h at (a.finish_row q))))
