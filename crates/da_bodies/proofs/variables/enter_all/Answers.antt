use Rattle.da_bodies.specs.ScopeView.{role_of}
use Rattle.da_bodies.specs.declared.repeats.Declared.{Declared}
use Rattle.da_bodies.proofs.ListSteps.{entered_more}
use Rattle.da_bodies.proofs.variables.enter_all.Goals as goal

pub loop-one-preserved : goal.loop-one-preserved
loop-one-preserved c =
    let l = c.loop-one in
    entered_more (role_of c.args.role) (λ (d : Declared). d.name.now) c.args.names.now l.names c.enter.new.self c.args.declared.now l.one-index _ c.loop-one-test.true l.invariant c.in_ok-enter.ensures
