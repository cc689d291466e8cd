-- Statement: what a measured call returns and leaves: the number of its row, and the caller's buffers. PROTOCOL 12.4.
use Rattle.std.specs.Prelude.{ℕ, List, ◌≡◌}
use Rattle.base.specs.Outcomes.{Output, output}
use Rattle.transfer.specs.Calls.{Left, Held}
use Rattle.device.specs.Handling.{After}

-- of a call that writes
abbrev pub Numbered : ℕ → List ℕ → Output → Type 0
Numbered n out w = (n ≡ w.row.number) × (out ≡ w.out)

-- the output of a call of `transfer`
abbrev pub of_left : {S : Type 0} → Left S → Output
of_left y = output y.row y.out

-- of a call that also stores in a buffer
abbrev pub NumberedHeld : ℕ → List ℕ → List ℕ → Left Held → Type 0
NumberedHeld n buffer out y = Numbered n out (of_left y) × (buffer ≡ y.state.buffer)

-- the output of a call of `device`
abbrev pub of_after : After → Output
of_after y = output y.row y.out

-- of such a call
abbrev pub NumberedAfter : ℕ → List ℕ → List ℕ → After → Type 0
NumberedAfter n buffer out y = Numbered n out (of_after y) × (buffer ≡ y.buffer)
