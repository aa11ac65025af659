use Rattle.std.proofs.Common.{arith}
use Rattle.trace_page.proofs.ColumnLemmas.{all_counted, few_columns, one_counted}
use Rattle.trace_page.proofs.layout.column_of.Goals as goal

pub loop-column-preserved : goal.loop-column-preserved
loop-column-preserved c = record {
  value = one_counted c.as_slice-column-items.result.now c.loop-column.column-index c.column-item.result c.args.p c.loop-column.before c.stands_before-before.result c.loop-column-test.true c.column-item.is c.loop-column.invariant.value c.stands_before-before.ensures.value;
  within = omega (arith, c.loop-column.invariant.within, c.stands_before-before.ensures.few);
}

pub returns-clause-value : goal.returns-clause-value
returns-clause-value c = all_counted c.as_slice-column-items.result.now c.args.page.now.columns c.loop-column.column-index c.args.p c.loop-column.before c.loop-column-test.false c.as_slice-column-items.ensures c.loop-column.invariant.value

pub returns-clause-within : goal.returns-clause-within
returns-clause-within c =
    few_columns c.args.page.now.columns c.args.p c.loop-column.before
    (all_counted c.as_slice-column-items.result.now c.args.page.now.columns c.loop-column.column-index c.args.p c.loop-column.before c.loop-column-test.false c.as_slice-column-items.ensures c.loop-column.invariant.value)
