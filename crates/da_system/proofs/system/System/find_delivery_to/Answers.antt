use Rattle.da_system.specs.State.{program_of}
use Rattle.da_system.proofs.SystemLemmas.{channel_past, past_few}
use Rattle.da_system.proofs.system.System.find_delivery_to.Goals as goal

pub returns-in-Some-clause-found : goal.returns-in-Some-clause-found
returns-in-Some-clause-found c = λ s stands.
    channel_past (program_of c.args.self.now) s c.args.self.now.counts stands.counts c.args.p c.args.q c.args.j c.in-Some.past c.deliveries.result c.deliveries.ensures.value c.in-Some.ensures

pub returns-in-Some-clause-few : goal.returns-in-Some-clause-few
returns-in-Some-clause-few c = past_few c.args.j c.in-Some.past 4 c.deliveries.result c.deliveries.ensures.few c.in-Some.ensures

pub returns-in-None-clause-found : goal.returns-in-None-clause-found
returns-in-None-clause-found c = λ s stands. c.find_delivery_to.ensures.found s stands.runs
