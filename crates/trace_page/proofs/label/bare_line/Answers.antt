use Rattle.std.proofs.Common.{◌++◌, ◌∙◌, ap}
use Rattle.sched_text.specs.ActionText.{action_line}
use Rattle.trace_page.proofs.LabelLemmas.{without_end}
use Rattle.trace_page.proofs.label.bare_line.Goals as goal

pub returns : goal.returns
returns c = without_end c.args.action.now c.write_action.new.out c.pop.new.self c.pop.result (c.in_ok-write_action.ensures.ok ∙ ap (λ before. before ++ action_line c.args.action.now) c.new-line.ensures) c.pop.ensures
