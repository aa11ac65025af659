use Rattle.std.proofs.Common.{◌^◌}
use Rattle.da_system.specs.State.{program_of}
use Rattle.da_system.proofs.SystemLemmas.{past_few, sender_past}
use Rattle.da_system.proofs.system.System.find_delivery_from.Goals as goal

pub returns-in-Some-clause-found : goal.returns-in-Some-clause-found
returns-in-Some-clause-found c = λ s stands.
    sender_past (program_of c.args.self.now) s c.args.self.now.counts stands.counts c.args.p c.args.j c.in-Some.past c.deliveries_from.result c.deliveries_from.ensures.value c.in-Some.ensures

pub returns-in-Some-clause-few : goal.returns-in-Some-clause-few
returns-in-Some-clause-few c = past_few c.args.j c.in-Some.past (2 ^ 18) c.deliveries_from.result c.deliveries_from.ensures.few c.in-Some.ensures
