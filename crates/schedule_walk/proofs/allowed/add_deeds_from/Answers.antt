use Rattle.da_system.specs.Choices.{is_allowed}
use Rattle.da_system.specs.State.{program_of}
use Rattle.schedule_walk.specs.Allowed.{deeds_to}
use Rattle.schedule_walk.proofs.AllowedLemmas.{adds_on}
use Rattle.schedule_walk.proofs.allowed.add_deeds_from.Goals as goal

pub loop-place-preserved : goal.loop-place-preserved
loop-place-preserved c = λ s stands.
    adds_on (is_allowed (program_of c.args.system.now) s) (deeds_to c.args.deed s c.args.p) c.loop-place.place c.args.out.now c.loop-place.out c.add_deeds_to.new.out (c.loop-place.invariant s stands) (c.in_ok-add_deeds_to.ensures s stands)
