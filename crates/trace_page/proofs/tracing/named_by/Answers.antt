use Rattle.std.proofs.Common.{◌∙◌, ap, sym}
use Rattle.std.specs.List.{flat_map}
use Rattle.trace_page.specs.Layout.{named_in, with_numbers}
use Rattle.trace_page.proofs.TracingLemmas.{named_all, named_next}
use Rattle.trace_page.proofs.tracing.named_by.Goals as goal

pub loop-action-init : goal.loop-action-init
loop-action-init c = ap (λ keys. with_numbers keys (flat_map named_in c.args.actions.now)) (sym c.new-processes.ensures.empty)

pub loop-action-preserved : goal.loop-action-preserved
loop-action-preserved c =
    named_next c.args.actions.now c.loop-action.action-index c.action-item.result c.loop-action.processes.keys c.add_named.new.processes.keys c.loop-action-test.true c.loop-action.invariant
    (c.in_ok-add_named.ensures ∙ ap (λ a. with_numbers c.loop-action.processes.keys (named_in a)) c.action-item.is)

pub returns : goal.returns
returns c = named_all c.args.actions.now c.loop-action.action-index c.loop-action.processes.keys c.loop-action-test.false c.loop-action.invariant
