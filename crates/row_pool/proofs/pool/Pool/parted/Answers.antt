use Rattle.std.specs.Prelude.{◌≡◌, false, true}
use Rattle.std.proofs.lemmas.Result.{IfOk-weaker}
use Rattle.da_values.specs.Value.{val_of}
use Rattle.da_values.specs.Views.{elements_of}
use Rattle.row_pool.specs.Pool.{val_at}
use Rattle.row_pool.proofs.ExchangeLaws.{there_false, there_true}
use Rattle.row_pool.proofs.pool.Pool.parted.Goals as goal

pub leave_out-requires-clause-absent : goal.leave_out-requires-clause-absent
leave_out-requires-clause-absent c = c.in-Err.ensures.found.removed

pub returns-in-Ok-clause-there : goal.returns-in-Ok-clause-there
returns-in-Ok-clause-there c =
    IfOk-weaker c.take_out.result (λ to. to.moved ≡ true) _ (λ to moved. there_true (elements_of (val_at c.args.self.now c.args.id.now)) (val_of c.args.v.now) to.moved moved c.in-Ok.ensures.found.there) c.take_out.ensures.moved

pub returns-in-Err-clause-there : goal.returns-in-Err-clause-there
returns-in-Err-clause-there c =
    IfOk-weaker c.leave_out.result (λ to. to.moved ≡ false) _ (λ to moved. there_false (elements_of (val_at c.args.self.now c.args.id.now)) (val_of c.args.v.now) to.moved moved c.in-Err.ensures.found.absent) c.leave_out.ensures.moved
