use Rattle.std.proofs.Common.{refl}
use Rattle.da_core.specs.Compiled.{program_of}
use Rattle.da_commands.specs.Lines.{refused_text}
use Rattle.da_commands.proofs.ReplyLemmas.{read_within, refuses_within}
use Rattle.da_front.proofs.VerdictLemmas.{not_refused}
use Rattle.scout_commands.specs.declared.status.Status.TheVariants.{Memory, Refused}
use Rattle.scout_commands.specs.Replies.{WatchReply}
use Rattle.scout_commands.specs.Told.{Answers, nothing}
use Rattle.scout_commands.proofs.ReplyLemmas.{of_any_two, said_answers}
use Rattle.scout_commands.proofs.watching.run_program.Goals as goal

pub returns-in-Err-Refused-clause-replies : goal.returns-in-Err-Refused-clause-replies
returns-in-Err-Refused-clause-replies g c = λ t is.
    let kind = c.in-Err-Refused.kind in
    let line = c.in-Err-Refused.line in
    of_any_two (g.F.Files.told c.args.files.now c.args.watch.now) (g.F.Files.told c.args.files.now c.args.schedule.now)
    (λ v s. Answers (WatchReply t v s) c.refuse.result (g.K.Sink.taken c.args.out.now) (g.K.Sink.taken c.refuse.new.out))
    (λ v s. said_answers (WatchReply t v s) (Refused kind line) (refused_text kind line) _ _ _
    (WatchReply.declined kind line (refuses_within _ t _ _ _ is c.in-Err-Refused.field-0-is c.in-Err-Refused.ensures.refused)) c.refuse.ensures.said)

pub returns-in-Err-Memory-clause-replies : goal.returns-in-Err-Memory-clause-replies
returns-in-Err-Memory-clause-replies g c = λ t is.
    of_any_two (g.F.Files.told c.args.files.now c.args.watch.now) (g.F.Files.told c.args.files.now c.args.schedule.now)
    (λ v s. Answers (WatchReply t v s) Memory (g.K.Sink.taken c.args.out.now) (g.K.Sink.taken c.args.out.now)) (λ v s. nothing tt refl)

pub returns-in-Ok-clause-replies : goal.returns-in-Ok-clause-replies
returns-in-Ok-clause-replies g c = λ t is. c.run_watched.ensures.replies t (read_within _ t _ is c.in-Ok.ensures.read)

pub returns-in-Ok-clause-refused : goal.returns-in-Ok-clause-refused
returns-in-Ok-clause-refused g c = λ t is failed. not_refused t (program_of c.in-Ok.compiled) (read_within _ t _ is c.in-Ok.ensures.read)
