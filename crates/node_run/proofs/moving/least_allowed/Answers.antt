use Rattle.std.proofs.Common.{◌≡◌, ◌+◌, ◌<◌, ◌≤◌, arith, suc}
use Rattle.node_run.proofs.MoveLaws.{tried_all, tried_here, tried_on}
use Rattle.node_run.proofs.moving.least_allowed.Goals as goal

pub returns-then-can_move : goal.returns-then-can_move
returns-then-can_move c =
    let numbered : c.loop-place.place + 1 ≡ suc c.loop-place.place = omega arith in
    tried_here c.args.core.now c.args.count c.loop-place.place (c.loop-place.place + 1) c.can_move.result numbered c.if-can_move.true c.can_move.ensures.allowed c.loop-place.invariant

pub loop-place-preserved : goal.loop-place-preserved
loop-place-preserved c =
    let numbered : c.loop-place.place + 1 ≡ suc c.loop-place.place = omega arith in
    let inside : c.loop-place.place < c.args.count = omega (arith, c.loop-place-test.true) in
    tried_on c.args.core.now c.args.count c.loop-place.place (c.loop-place.place + 1) c.can_move.result inside numbered c.if-can_move.false c.can_move.ensures.allowed c.loop-place.invariant

pub returns : goal.returns
returns c =
    let past : c.args.count ≤ c.loop-place.place = omega (arith, c.loop-place-test.false) in
    tried_all c.args.core.now c.args.count c.loop-place.place past c.loop-place.invariant
