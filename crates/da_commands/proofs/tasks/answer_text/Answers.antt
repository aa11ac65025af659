use Rattle.da_core.specs.Compiled.{program_of}
use Rattle.da_commands.specs.declared.status.Status.TheVariants.{Done, Refused}
use Rattle.da_commands.specs.Lines.{refused_text}
use Rattle.da_commands.specs.Replies.{TaskReply, executed, declined, task_text}
use Rattle.da_commands.proofs.ReplyLemmas.{read_within, refuses_within}
use Rattle.da_commands.proofs.ToldLemmas.{said_replied}
use Rattle.da_commands.proofs.tasks.answer_text.Goals as goal

pub returns-in-Err-Refused-clause-replies : goal.returns-in-Err-Refused-clause-replies
returns-in-Err-Refused-clause-replies g c = λ t is.
    let kind = c.in-Err-Refused.kind in
    let line = c.in-Err-Refused.line in
    said_replied (TaskReply c.args.task t) _ _ (Refused kind line) (refused_text kind line) _ tt
    (declined kind line (refuses_within _ t _ _ _ is c.in-Err-Refused.field-0-is c.in-Err-Refused.ensures.refused)) (rw c.in-Err-Refused.field-0-is at c.refuse.ensures.said)

pub returns-in-Ok-clause-replies : goal.returns-in-Ok-clause-replies
returns-in-Ok-clause-replies g c = λ t is.
    said_replied (TaskReply c.args.task t) _ _ Done (task_text c.args.task (program_of c.in-Ok.compiled)) c.answer_task.result tt
    (executed (program_of c.in-Ok.compiled) (read_within c.args.text.now t (program_of c.in-Ok.compiled) is c.in-Ok.ensures.read)) c.answer_task.ensures.said
