use Rattle.std.proofs.Common.{inl, inr, length, refl, rules, subst}
use Rattle.da_core.specs.Compiled.{program_of}
use Rattle.da_commands.specs.Lines.{refused_text}
use Rattle.da_commands.specs.Told.{OfTold}
use Rattle.da_commands.proofs.ReplyLemmas.{rose_later}
use Rattle.da_commands.proofs.ToldLemmas.{of_any, of_map}
use Rattle.da_front.specs.WatchText.{AcceptsBeside, RefusesBeside}
use Rattle.scout_commands.specs.declared.status.Status.TheVariants.{Memory, ReadFault, WatchRefused}
use Rattle.scout_commands.specs.Replies.{WatchReply}
use Rattle.scout_commands.specs.Told.{Answers, nothing, unread}
use Rattle.scout_commands.proofs.ReplyLemmas.{of_any_two, said_answers}
use Rattle.scout_commands.proofs.watching.run_watched.Goals as goal

pub returns-in-Ok-clause-read : goal.returns-in-Ok-clause-read
returns-in-Ok-clause-read g c = λ failed. inr (rose_later _ _ _ (c.in-Ok.ensures.later _) (c.run_schedule.ensures.read failed))

pub returns-in-Ok-clause-replies : goal.returns-in-Ok-clause-replies
returns-in-Ok-clause-replies g c = λ t accepts.
    of_map (g.F.Files.told c.args.files.now c.args.watch.now) (λ v. AcceptsBeside v (length (program_of c.args.compiled.now).procs) (program_of c.in-Ok.watch))
    (λ v. OfTold (g.F.Files.told c.args.files.now c.args.schedule.now) (λ s. Answers (WatchReply t v s) c.run_schedule.result (g.K.Sink.taken c.args.out.now) (g.K.Sink.taken c.run_schedule.new.out)))
    (λ v takes.
    subst (λ o. OfTold o (λ s. Answers (WatchReply t v s) c.run_schedule.result (g.K.Sink.taken c.args.out.now) (g.K.Sink.taken c.run_schedule.new.out))) (c.in-Ok.ensures.told c.args.schedule.now) (c.run_schedule.ensures.replies t v accepts takes))
    c.in-Ok.ensures.read

pub returns-in-Err-Refused-clause-replies : goal.returns-in-Err-Refused-clause-replies
returns-in-Err-Refused-clause-replies g c = λ t accepts.
    let kind = c.in-Err-Refused.kind in
    let line = c.in-Err-Refused.line in
    let after = g.K.Sink.taken c.refuse_watch.new.out in
    of_map (g.F.Files.told c.args.files.now c.args.watch.now) (λ v. RefusesBeside v (length (program_of c.args.compiled.now).procs) kind line)
    (λ v. OfTold (g.F.Files.told c.args.files.now c.args.schedule.now) (λ s. Answers (WatchReply t v s) c.refuse_watch.result (g.K.Sink.taken c.args.out.now) after))
    (λ v refuses.
    of_any (g.F.Files.told c.args.files.now c.args.schedule.now) (λ s. Answers (WatchReply t v s) c.refuse_watch.result (g.K.Sink.taken c.args.out.now) after)
    (λ s. said_answers (WatchReply t v s) (WatchRefused kind line) (refused_text kind line) _ _ _ (WatchReply.unwatched (program_of c.args.compiled.now) kind line accepts refuses) c.refuse_watch.ensures.said))
    (c.in-Err-Refused.ensures.refused kind line c.in-Err-Refused.field-0-is)

pub returns-in-Err-Unread-clause-read : goal.returns-in-Err-Unread-clause-read
returns-in-Err-Unread-clause-read g c = λ failed. inl (c.in-Err-Unread.ensures.unread (search rules))

pub returns-in-Err-Unread-clause-replies : goal.returns-in-Err-Unread-clause-replies
returns-in-Err-Unread-clause-replies g c = λ t accepts.
    of_any_two (g.F.Files.told c.args.files.now c.args.watch.now) (g.F.Files.told c.args.files.now c.args.schedule.now)
    (λ v s. Answers (WatchReply t v s) ReadFault (g.K.Sink.taken c.args.out.now) (g.K.Sink.taken c.args.out.now)) (λ v s. unread refl refl)

pub returns-in-Err-Memory-clause-replies : goal.returns-in-Err-Memory-clause-replies
returns-in-Err-Memory-clause-replies g c = λ t accepts.
    of_any_two (g.F.Files.told c.args.files.now c.args.watch.now) (g.F.Files.told c.args.files.now c.args.schedule.now)
    (λ v s. Answers (WatchReply t v s) Memory (g.K.Sink.taken c.args.out.now) (g.K.Sink.taken c.args.out.now)) (λ v s. nothing tt refl)
