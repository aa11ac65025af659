use Rattle.std.proofs.Common.{◌-◌, ◌∙◌, ap, drop, length, refl, subst, take}
use Rattle.std.proofs.lemmas.List.{length-drop}
use Rattle.da_system.specs.Channels.{after_actions}
use Rattle.da_system.specs.Queues.{Each, StandsFor}
use Rattle.da_system.proofs.QueueLaws.{take_whole}
use Rattle.da_system.proofs.Tested.{when_ok}
use Rattle.da_system.proofs.network.Network.post.Goals as goal

pub returns-clause-posted : goal.returns-clause-posted
returns-clause-posted c =
    let sent = drop c.args.told c.as_slice.result.now in
    let some = length c.as_slice.result.now - c.args.told in
    let posted : Each c.args.self.now.channels (λ channels. StandsFor c.post.new.self (after_actions channels (take some sent))) =
    when_ok c.post.result c.is_err.result c.is_err.ensures.value _ c.if-is_err.false c.post.ensures.stands in
    record {
      spent = refl;
      compiled = refl;
      cores = refl;
      count = c.post.ensures.count;
      channels = λ channels stands. subst (λ xs. StandsFor c.post.new.self (after_actions channels xs)) (take_whole sent some (length-drop c.args.told c.as_slice.result.now) ∙ ap (drop c.args.told) c.as_slice.ensures) (posted channels stands);
    }
