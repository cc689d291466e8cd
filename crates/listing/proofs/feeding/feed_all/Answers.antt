use Rattle.std.proofs.Common.{Ok, Err, arith}
use Rattle.frame.specs.Calls.{fed_of}
use Rattle.listing.proofs.LoopLaws.{at_end, at_done, at_room, at_refused, at_onward, fed_continues, fed_count}
use Rattle.listing.proofs.LoopLaws.{error_refuses}
use Rattle.listing.proofs.feeding.feed_all.Goals as goal

pub overflow_add-used : goal.overflow_add-used
overflow_add-used c =
    let onward = at_onward c.loop-used.invariant c.if-used-bytes.false c.if-out-written.false
    (fed_of (Ok c.in-Ok.fed, c.feed.new.self)) c.in-Ok.ensures (fed_continues c.in-Ok.fed) in
    omega (arith, onward.within, fed_count c.in-Ok.fed)

pub loop-used-smaller : goal.loop-used-smaller
loop-used-smaller c =
    let onward = at_onward c.loop-used.invariant c.if-used-bytes.false c.if-out-written.false
    (fed_of (Ok c.in-Ok.fed, c.feed.new.self)) c.in-Ok.ensures (fed_continues c.in-Ok.fed) in
    omega (arith, onward.within, onward.some, fed_count c.in-Ok.fed)

pub loop-used-preserved : goal.loop-used-preserved
loop-used-preserved c =
    let onward = at_onward c.loop-used.invariant c.if-used-bytes.false c.if-out-written.false
    (fed_of (Ok c.in-Ok.fed, c.feed.new.self)) c.in-Ok.ensures (fed_continues c.in-Ok.fed) in
    let line = c.add_line-written.ensures in
    let again = onward.again _ _ line.put_at line.upper_bound in
    rw (fed_count c.in-Ok.fed) at again

pub returns-then-used-bytes : goal.returns-then-used-bytes
returns-then-used-bytes c =
    let at = c.loop-used.invariant in
    at_end at _ _ (at_done at c.if-used-bytes.true)

pub returns-then-out-written : goal.returns-then-out-written
returns-then-out-written c =
    let at = c.loop-used.invariant in
    at_end at _ _ (at_room at c.if-used-bytes.false c.if-out-written.true)

pub returns-in-Err : goal.returns-in-Err
returns-in-Err c =
    let at = c.loop-used.invariant in
    rw c.from-stop.ensures
    (at_end at _ _ (at_refused at c.if-used-bytes.false c.if-out-written.false
    (fed_of (Err c.in-Err.error, c.feed.new.self)) c.in-Err.ensures (error_refuses c.in-Err.error)))
