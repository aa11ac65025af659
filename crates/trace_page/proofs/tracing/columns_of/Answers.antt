use Rattle.std.proofs.Common.{◌++◌, ◌∙◌, ap, arith, length}
use Rattle.std.specs.Prelude.{map}
use Rattle.trace_page.specs.PageText.{trace_column}
use Rattle.trace_page.proofs.TracingLemmas.{column_made, column_on, columns_end}
use Rattle.trace_page.proofs.tracing.columns_of.Goals as goal

pub each-init : goal.each-init
each-init c = ap (λ columns. columns ++ map trace_column c.in_ok-left.left.keys) c.new-columns.ensures ∙ ap (map trace_column) c.in_ok-left.ensures

pub each-preserved : goal.each-preserved
each-preserved c =
    column_on c.each.left.keys c.pop_first.new.self.keys c.in-Some.process c.each.columns c.push.new.self _ c.in-Some.ensures.removal
    (column_made c.in-Some.process c.in_ok-name.name c.each.columns c.push.new.self c.in_ok-name.ensures c.in_ok-push.ensures.ok) c.each.invariant

pub each-smaller : goal.each-smaller
each-smaller c = omega (arith, ap length c.in-Some.ensures.removal)

pub returns : goal.returns
returns c = columns_end c.each.left.keys c.each.columns _ c.in_default.ensures.variant.1 c.each.invariant
