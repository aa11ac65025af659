use Rattle.da_lang.specs.declared.program.BindArg.{BindArg}
use Rattle.da_lang.specs.Turns.{slot_of_arg}
use Rattle.code_gen.proofs.ExprCode.{storing_goes_on}
use Rattle.code_gen.proofs.exprs.emit_bound.Goals as goal

pub bound-preserved : goal.bound-preserved
bound-preserved c = storing_goes_on BindArg slot_of_arg c.args.args.now c.bound.left.now c.last-item.result c.last-item.result _ _ _ c.in-len1-up.len_at_least c.last-item.is c.bound.invariant c.in_ok-put.ensures
