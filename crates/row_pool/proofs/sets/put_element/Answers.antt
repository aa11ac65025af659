use Rattle.std.proofs.lemmas.Result.{on_err_weaker, on_ok_weaker}
use Rattle.da_values.specs.Value.{val_of}
use Rattle.row_pool.proofs.KindLaws.{put_kept, same_kept}
use Rattle.row_pool.proofs.sets.put_element.Goals as goal

pub returns-in-Set-clause-ok : goal.returns-in-Set-clause-ok
returns-in-Set-clause-ok c = on_ok_weaker c.put_into.result (put_kept c.args.v.now c.in-Set.set c.put_into.new.set (val_of c.args.element) c.in-Set.is) c.put_into.ensures.ok

pub returns-in-Set-clause-err : goal.returns-in-Set-clause-err
returns-in-Set-clause-err c = on_err_weaker c.put_into.result (same_kept c.args.v.now c.in-Set.set c.put_into.new.set c.in-Set.is) c.put_into.ensures.err
