use Rattle.std.proofs.Common.{◌≡◌, ◌+◌, ◌-◌, ◌∙◌, Some, ap, arith, length, subst, sym}
use Rattle.std.specs.Prelude.{slice_get}
use Rattle.da_system.proofs.PlaceLemmas.{get_is}
use Rattle.da_system.proofs.QueueLaws.{take_whole}
use Rattle.replay_run.specs.Stress.{CountsMore, UsesRoom}
use Rattle.replay_run.proofs.CountLemmas.{less_room, more_first, more_on, none_used, used_on}
use Rattle.replay_run.proofs.counts.Counts.add.Goals as goal

pub loop-action-init : goal.loop-action-init
loop-action-init c = record { counts = more_first c.args.self.now; room = none_used c.args.self.now }

pub add_one-requires : goal.add_one-requires
add_one-requires c =
    let count = length c.args.actions.now in
    let left = count - c.loop-action.action-index in
    less_room c.loop-action.self left 1 (omega (arith, c.loop-action-test.true))
    (c.loop-action.invariant.room left (less_room c.args.self.now count (left + c.loop-action.action-index) (omega (arith, c.loop-action-test.true)) c.requires))

pub loop-action-preserved : goal.loop-action-preserved
loop-action-preserved c =
    let there : slice_get c.args.actions.now c.loop-action.action-index ≡ Some c.action-item.result =
    get_is c.args.actions.now c.loop-action.action-index c.action-item.result c.loop-action-test.true ∙ ap Some (sym c.action-item.is) in
    record {
      counts = more_on c.args.self.now c.loop-action.self c.add_one.new.self c.args.actions.now c.loop-action.action-index c.action-item.result there c.loop-action.invariant.counts c.add_one.ensures;
      room = used_on c.args.self.now c.loop-action.self c.add_one.new.self c.loop-action.action-index c.action-item.result c.loop-action.invariant.room c.add_one.ensures;
    }

pub returns-clause-counts : goal.returns-clause-counts
returns-clause-counts c =
    let all : length c.args.actions.now ≡ c.loop-action.action-index = omega (arith, c.loop-action-test.false, c.loop-action.invariant) in
    subst (λ xs. CountsMore c.args.self.now xs c.loop-action.self) (take_whole c.args.actions.now c.loop-action.action-index all) c.loop-action.invariant.counts

pub returns-clause-room : goal.returns-clause-room
returns-clause-room c =
    let all : c.loop-action.action-index ≡ length c.args.actions.now = omega (arith, c.loop-action-test.false, c.loop-action.invariant) in
    subst (λ n. UsesRoom n c.args.self.now c.loop-action.self) all c.loop-action.invariant.room
