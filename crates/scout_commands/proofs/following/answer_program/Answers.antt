use Rattle.std.proofs.Common.{◌∙◌}
use Rattle.da_core.specs.Compiled.{program_of}
use Rattle.da_commands.specs.Lines.{refused_text}
use Rattle.da_commands.proofs.ReplyLemmas.{read_within, refuses_within}
use Rattle.da_commands.proofs.ToldLemmas.{of_any, of_read}
use Rattle.da_front.proofs.VerdictLemmas.{not_refused}
use Rattle.sched_text.specs.ScheduleText.{schedule_limit}
use Rattle.scout_commands.specs.declared.status.Status.TheVariants.{Refused}
use Rattle.scout_commands.specs.Replies.{RunReply}
use Rattle.scout_commands.specs.Told.{Answers}
use Rattle.scout_commands.proofs.ReplyLemmas.{said_answers}
use Rattle.scout_commands.proofs.following.answer_program.Goals as goal

pub returns-in-Err-Refused-clause-replies : goal.returns-in-Err-Refused-clause-replies
returns-in-Err-Refused-clause-replies g c = λ t is.
    let kind = c.in-Err-Refused.kind in
    let line = c.in-Err-Refused.line in
    of_any _ _ (λ s. said_answers (RunReply t s c.args.question) (Refused kind line) (refused_text kind line) _ _ _
    (RunReply.declined c.args.question kind line (refuses_within _ t _ _ _ is c.in-Err-Refused.field-0-is c.in-Err-Refused.ensures.refused)) (rw c.in-Err-Refused.field-0-is at c.refuse.ensures.said))

pub returns-in-Ok-read_all-clause-replies : goal.returns-in-Ok-read_all-clause-replies
returns-in-Ok-read_all-clause-replies g c = λ t is.
    let accepts = read_within _ t _ is c.in-Ok.ensures.read in
    of_read (g.F.Files.told c.args.files.now c.args.name.now) (λ s. Answers (RunReply t s c.args.question) c.answer_schedule.result (g.K.Sink.taken c.args.out.now) (g.K.Sink.taken c.answer_schedule.new.out)) schedule_limit c.in-Ok-read_all.schedule c.in-Ok-read_all.ensures.whole
    (λ s read. c.answer_schedule.ensures.replies t s is accepts (c.as_slice.ensures ∙ read))

pub returns-in-Err-Failed-clause-refused : goal.returns-in-Err-Failed-clause-refused
returns-in-Err-Failed-clause-refused g c = λ t is failed. not_refused t (program_of c.in-Ok.compiled) (read_within _ t _ is c.in-Ok.ensures.read)
