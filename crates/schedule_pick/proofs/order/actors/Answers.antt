use Rattle.schedule_pick.proofs.ShuffleLemmas.{all_actors}
use Rattle.schedule_pick.proofs.order.actors.Goals as goal

pub returns : goal.returns
returns c =
    all_actors c.args.count c.args.budget _ _ _ _ _ _ _ c.may_lose-losses.ensures c.may_repeat-repetitions.ensures c.new-made.ensures c.in_ok-add_processes.ensures c.in_ok-add_channels.ensures c.in_ok-add_channels-2.ensures
    c.in_ok-add_channels-3.ensures
