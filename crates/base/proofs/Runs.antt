-- How far a loop over the caller's data has come. Assumes nothing.
use Prim.Native.Nat.{ℕ, ◌+◌, ◌≤◌}
use mathlib.Core.Path.{◌≡◌, sym, ◌∙◌}
use mathlib.Core.List.{List, ◌++◌}
use native.Mathlib.Omega.{arith}
use lib.ListN.{length, drop, length-append}
use lib.Seq.{sets}
use Rattle.base.specs.Runs.{Run, stopped, onward, left_by}
use Rattle.base.proofs.Stores.{sets-append, sets_front}

-- a run's rest, after the bytes used and the text written so far, completes the whole
pub record Rest (S : Type 0) (whole rest : Run S) (used written : ℕ) (out₀ out : List ℕ) : Type 0 where
  pub state_is : whole.state ≡ rest.state
  pub used_is : whole.used ≡ used + rest.used
  pub stop_is : whole.stop ≡ rest.stop
  pub written_is : length whole.text ≡ written + length rest.text
  pub out_is : sets out₀ 0 whole.text ≡ sets out written rest.text

-- a step more
pub rest_onward : {S : Type 0} {whole rest : Run S} {used written : ℕ} {out₀ out : List ℕ} (count : ℕ) (text : List ℕ)
    → Rest S whole (onward count text rest) used written out₀ out
    → Rest S whole rest (used + count) (written + length text) out₀ (sets out written text)
rest_onward {S} {whole} {rest} {used} {written} {out₀} {out} count text w =
    record {
      state_is = w.state_is;
      used_is = omega (arith, w.used_is);
      stop_is = w.stop_is;
      written_is = omega (arith, w.written_is, length-append text rest.text);
      out_is = w.out_is ∙ sets-append text rest.text out written;
    }

-- no step more: what the loop leaves is what the whole run leaves
pub rest_stopped : {S : Type 0} {whole : Run S} {used written : ℕ} {out₀ out : List ℕ} (s : S) (number : ℕ)
    → Rest S whole (stopped s number) used written out₀ out → written ≤ length out₀
    → record { state = s; used = used; written = written; stop = number; out = out } ≡ left_by whole out₀
rest_stopped {S} {whole} {used} {written} {out₀} {out} s number w h =
    let count : written ≡ length whole.text = omega (arith, w.written_is) in
    let front : out ≡ whole.text ++ drop (length whole.text) out₀ =
    sym w.out_is ∙ sets_front whole.text out₀ (omega (arith, count)) in
    let all : used ≡ whole.used = omega (arith, w.used_is) in
    let state : s ≡ whole.state = sym w.state_is in
    let stop : number ≡ whole.stop = sym w.stop_is in
    cc
