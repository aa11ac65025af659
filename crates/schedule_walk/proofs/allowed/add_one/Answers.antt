use Rattle.da_system.specs.Choices.{is_allowed}
use Rattle.da_system.specs.State.{program_of}
use Rattle.schedule_walk.proofs.AllowedLemmas.{none_added, not_allowed, one_added}
use Rattle.schedule_walk.proofs.allowed.add_one.Goals as goal

pub returns-then-not-enabled : goal.returns-then-not-enabled
returns-then-not-enabled c = λ s stands.
    none_added (is_allowed (program_of c.args.system.now) s) c.args.event c.args.out.now (not_allowed c.enabled.result _ (c.enabled.ensures.allowed s stands) c.if-not-enabled.true)

pub returns : goal.returns
returns c = λ s stands.
    one_added (is_allowed (program_of c.args.system.now) s) c.args.event c.args.out.now c.push.new.self ((c.enabled.ensures.allowed s stands).0 c.if-not-enabled.false) c.in_ok-push.ensures.ok
