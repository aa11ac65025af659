use Rattle.da_values.proofs.SetVals.{put_in, put_in_ascends}
use Rattle.da_values.proofs.set.set_insert.Goals as goal

pub invariant_of-s-in-Err : goal.invariant_of-s-in-Err
invariant_of-s-in-Err c =
    put_in_ascends c.args.s.now c.as_slice.result.now c.s.inside.elements c.insert.new.self c.as_slice.ensures.items c.s.view_is c.args.v c.in-Err.at c.in-Err.ensures c.in_ok-insert-in-Err.ensures.ok c.as_slice.ensures.ascends

pub returns-in_ok-insert-in-Err-clause-ok : goal.returns-in_ok-insert-in-Err-clause-ok
returns-in_ok-insert-in-Err-clause-ok c =
    put_in c.args.s.now c.as_slice.result.now c.s.inside.elements c.insert.new.self c.as_slice.ensures.items c.s.view_is c.args.v c.in-Err.at c.in-Err.ensures c.in_ok-insert-in-Err.ensures.ok
