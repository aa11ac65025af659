use Rattle.std.proofs.Common.{◌≡◌}
use Rattle.da_commands.specs.declared.status.Status.TheVariants.{ChildFault, Memory}
use Rattle.da_commands.specs.LaunchReplies.{early}
use Rattle.da_outside.proofs.OutsideLemmas.{appends_none}
use Rattle.da_commands.proofs.LaunchCallLemmas.{end_no_child, launch_refused}
use Rattle.da_commands.proofs.LaunchLemmas.{memory_unwritten, no_child_cause, tells_none}
use Rattle.da_commands.proofs.NodeLemmas.{few_accepted}
use Rattle.da_commands.proofs.ReplyLemmas.{read_within, refuses_within}
use Rattle.da_commands.proofs.launching.answer_text.Goals as goal

pub answer_program-requires-clause-few : goal.answer_program-requires-clause-few
answer_program-requires-clause-few g c = few_accepted _ _ c.in-Ok.ensures.read

pub returns-in-Ok-clause-launched : goal.returns-in-Ok-clause-launched
returns-in-Ok-clause-launched g c = λ t is. c.answer_program.ensures.runs t (read_within _ t _ is c.in-Ok.ensures.read)

pub returns-in-Err-Refused-clause-launched : goal.returns-in-Err-Refused-clause-launched
returns-in-Err-Refused-clause-launched g c = λ t is.
    let kind = c.in-Err-Refused.kind in
    let line = c.in-Err-Refused.line in
    launch_refused kind line t c.args.name.now c.args.setting _ _ _ c.refuse.result
    (refuses_within _ t _ _ _ is c.in-Err-Refused.field-0-is c.in-Err-Refused.ensures.refused)
    (rw c.in-Err-Refused.field-0-is at c.refuse.ensures.said)

pub returns-in-Err-Refused-clause-children : goal.returns-in-Err-Refused-clause-children
returns-in-Err-Refused-clause-children g c = no_child_cause _ c.refuse.result (end_no_child c.refuse.result c.refuse.ensures.ends)

pub returns-in-Err-Memory-clause-launched : goal.returns-in-Err-Memory-clause-launched
returns-in-Err-Memory-clause-launched g c = λ t is. early memory_unwritten (tells_none _) (appends_none _)

pub returns-in-Err-Memory-clause-children : goal.returns-in-Err-Memory-clause-children
returns-in-Err-Memory-clause-children g c = no_child_cause _ Memory (λ is. (let clash : Memory ≡ ChildFault = is in cc))
