use Rattle.std.proofs.Common.{inr, refl, ◌∙◌}
use Rattle.da_commands.specs.Told.{OfTold}
use Rattle.da_front.specs.Verdict.{program_limit}
use Rattle.da_commands.proofs.ReplyLemmas.{may_read}
use Rattle.da_commands.proofs.ToldLemmas.{of_any, of_read}
use Rattle.scout_commands.specs.declared.status.Status.TheVariants.{Memory, ReadFault}
use Rattle.scout_commands.specs.Replies.{WatchReply}
use Rattle.scout_commands.specs.Told.{Answers, nothing, unread}
use Rattle.scout_commands.proofs.ReplyLemmas.{of_any_two, rose_either, told_twice}
use Rattle.scout_commands.proofs.watching.run_beside.Goals as goal

pub returns-in-Ok-clause-read : goal.returns-in-Ok-clause-read
returns-in-Ok-clause-read g c = λ failed.
    inr (rose_either _ _ _ _ _ _ _ (c.in-Ok.ensures.later _) (c.in-Ok.ensures.later _) (may_read _ _ c.in-Ok.ensures.whole (λ t is refusal. c.run_program.ensures.refused t (c.as_slice.ensures ∙ is) failed refusal)) (c.run_program.ensures.read failed))

pub returns-in-Ok-clause-replies : goal.returns-in-Ok-clause-replies
returns-in-Ok-clause-replies g c =
    of_read (g.F.Files.told c.args.files.now c.args.names.program.now)
    (λ t. OfTold (g.F.Files.told c.args.files.now c.args.watch.now)
    (λ v. OfTold (g.F.Files.told c.args.files.now c.args.names.schedule.now) (λ s. Answers (WatchReply t v s) c.run_program.result (g.K.Sink.taken c.args.out.now) (g.K.Sink.taken c.run_program.new.out)))) program_limit c.in-Ok.text c.in-Ok.ensures.whole
    (λ t is. told_twice _ _ _ _ (λ v s. Answers (WatchReply t v s) c.run_program.result (g.K.Sink.taken c.args.out.now) (g.K.Sink.taken c.run_program.new.out)) (c.in-Ok.ensures.same c.args.watch.now) (c.in-Ok.ensures.same c.args.names.schedule.now)
    (c.run_program.ensures.replies t (c.as_slice.ensures ∙ is)))

pub returns-in-Err-Failed-clause-replies : goal.returns-in-Err-Failed-clause-replies
returns-in-Err-Failed-clause-replies g c =
    of_any (g.F.Files.told c.args.files.now c.args.names.program.now)
    (λ t. OfTold (g.F.Files.told c.args.files.now c.args.watch.now)
    (λ v. OfTold (g.F.Files.told c.args.files.now c.args.names.schedule.now) (λ s. Answers (WatchReply t v s) ReadFault (g.K.Sink.taken c.args.out.now) (g.K.Sink.taken c.args.out.now))))
    (λ t. of_any_two (g.F.Files.told c.args.files.now c.args.watch.now) (g.F.Files.told c.args.files.now c.args.names.schedule.now)
    (λ v s. Answers (WatchReply t v s) ReadFault (g.K.Sink.taken c.args.out.now) (g.K.Sink.taken c.args.out.now)) (λ v s. unread refl refl))

pub returns-in-Err-Memory-clause-replies : goal.returns-in-Err-Memory-clause-replies
returns-in-Err-Memory-clause-replies g c =
    of_any (g.F.Files.told c.args.files.now c.args.names.program.now)
    (λ t. OfTold (g.F.Files.told c.args.files.now c.args.watch.now)
    (λ v. OfTold (g.F.Files.told c.args.files.now c.args.names.schedule.now) (λ s. Answers (WatchReply t v s) Memory (g.K.Sink.taken c.args.out.now) (g.K.Sink.taken c.args.out.now))))
    (λ t. of_any_two (g.F.Files.told c.args.files.now c.args.watch.now) (g.F.Files.told c.args.files.now c.args.names.schedule.now)
    (λ v s. Answers (WatchReply t v s) Memory (g.K.Sink.taken c.args.out.now) (g.K.Sink.taken c.args.out.now)) (λ v s. nothing tt refl))
