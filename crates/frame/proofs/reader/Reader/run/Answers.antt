use Rattle.std.proofs.Common.{◌≡◌, sym, ap, ◌∙◌, arith}
use Rattle.frame.specs.State.{step_of}
use Rattle.frame.specs.Rules.{put_of}
use Rattle.frame.specs.declared.reader.Reader.{Reader}
use Rattle.frame.proofs.Steps.{run_end, run_on, run_stop}
use Rattle.frame.proofs.reader.Reader.run.Goals as goal
use Rattle.frame.proofs.reader.Reader.run.Goals.{then-count-bytes, else-count-bytes+in-Some}

pub loop-count-preserved : goal.loop-count-preserved
loop-count-preserved c =
    let here = c.loop-count in
    let step = step_of c.advance-step.result in
    let body_is : c.store-in-loop-count.new.self.body ≡ put_of step.put here.self.body here.scan.filled.0 step.byte =
    ap (λ (r : Reader). r.body) c.store-in-loop-count.ensures in
    run_on here.invariant (omega arith) c.advance-step.ensures body_is (rw c.in_default.is)

pub returns : goal.returns
returns c =
    let here = c.loop-count in
    elim c.if-count-bytes.branch [
      | then-count-bytes w ↦
          rw (w.count-is, w.decision-is, w.scan-is, ap (λ (r : Reader). r.body) w.self-is)
          (sym (run_end here.invariant (omega arith)))
      | else-count-bytes+in-Some w ↦
          let step = step_of w.advance-step.result in
          let body_is : w.store.new.self.body ≡ put_of step.put here.self.body here.scan.filled.0 step.byte =
          ap (λ (r : Reader). r.body) w.store.ensures in
          let stop = run_stop here.invariant (omega arith) w.advance-step.ensures body_is (rw w.in-Some.is) in
          rw (w.count-is, w.decision-is, w.scan-is, ap (λ (r : Reader). r.body) w.self-is)
          (sym (stop ∙ rw w.in-Some.is))
    ]
