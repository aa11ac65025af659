use Rattle.da_system.specs.Choices.{is_allowed}
use Rattle.da_system.specs.State.{program_of}
use Rattle.schedule_walk.proofs.AllowedLemmas.{unwanted, wanted_added}
use Rattle.schedule_walk.proofs.allowed.add_wanted.Goals as goal

pub returns-then-not-wanted : goal.returns-then-not-wanted
returns-then-not-wanted c = λ s stands. unwanted (is_allowed (program_of c.args.system.now) s) c.args.deed s c.args.wanted c.args.out.now c.if-not-wanted.true

pub returns : goal.returns
returns c = λ s stands.
    wanted_added (is_allowed (program_of c.args.system.now) s) c.args.deed s c.args.wanted c.args.out.now c.add_deeds.new.out c.if-not-wanted.false (c.in_ok-add_deeds.ensures s stands)
