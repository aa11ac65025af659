use Rattle.da_values.specs.Value.{val_of}
use Rattle.da_values.proofs.SetVals.{taken_out, taken_out_ascends}
use Rattle.da_values.proofs.set.set_remove.Goals as goal

pub invariant_of-s : goal.invariant_of-s
invariant_of-s c =
    taken_out_ascends c.args.s.now c.as_slice.result.now c.s.inside.elements c.remove.new.self c.as_slice.ensures.items c.s.view_is (val_of c.args.v.now) c.in-Ok.at c.in-Ok.ensures c.remove.ensures.rest c.as_slice.ensures.ascends

pub returns-in-Ok-clause-set : goal.returns-in-Ok-clause-set
returns-in-Ok-clause-set c =
    taken_out c.args.s.now c.as_slice.result.now c.s.inside.elements c.remove.new.self c.as_slice.ensures.items c.s.view_is (val_of c.args.v.now) c.in-Ok.at c.in-Ok.ensures c.remove.ensures.rest
