use Rattle.std.proofs.Common.{ap, ◌∙◌, rules}
use Rattle.std.proofs.lemmas.List.{take_all}
use Rattle.da_values.specs.Value.{vals}
use Rattle.row_pool.proofs.ChildLaws.{one_more_key}
use Rattle.answer_index.proofs.RowLaws.{copy_refused, given_values}
use Rattle.answer_index.proofs.values.intern_row.Goals as goal

pub returns-in-Err-clause-err : goal.returns-in-Err-clause-err
returns-in-Err-clause-err c = copy_refused _ _ _ _ _ _ c.loop-value.invariant.trades c.in-Err.ensures.same c.in-Err.ensures.err c.give_back_row.ensures

pub loop-value-preserved : goal.loop-value-preserved
loop-value-preserved c = one_more_key _ _ _ _ _ _ _ _ c.loop-value.invariant c.in-Ok.ensures.ok c.loop-value-test.true c.value-item.is

pub returns-clause-values : goal.returns-clause-values
returns-clause-values c = given_values _ _ _ _ c.loop-value.invariant ∙ ap vals (take_all c.loop-value.value-index c.args.row.now (search rules))
