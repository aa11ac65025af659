use Rattle.delta_rules.proofs.ReadingLaws.{set_there}
use Rattle.delta_rules.proofs.answers.Answers.stored_set.Goals as goal

pub returns-in-Some : goal.returns-in-Some
returns-in-Some c pool = set_there pool c.args.self.now.nodes.items c.args.node c.in-Some.set.now c.deref.result.now c.deref.ensures.value c.in-Some.ensures.lookup.3
