use Rattle.std.proofs.Common.{inr, ◌∙◌, subst, List, ℕ}
use Rattle.std.specs.Prelude.{Option}
use Rattle.da_commands.specs.Told.{OfTold}
use Rattle.da_front.specs.Verdict.{program_limit}
use Rattle.da_commands.proofs.ReplyLemmas.{may_read, rose_later}
use Rattle.da_commands.proofs.ToldLemmas.{of_read}
use Rattle.scout_commands.specs.Replies.{RunReply}
use Rattle.scout_commands.specs.Told.{Answers}
use Rattle.scout_commands.proofs.following.follow.Goals as goal

pub returns-in-Ok-clause-read : goal.returns-in-Ok-clause-read
returns-in-Ok-clause-read g c = λ failed.
    inr (
      rose_later _ _ _ (c.in-Ok.ensures.later _) (c.answer_program.ensures.read failed),
      may_read _ _ c.in-Ok.ensures.whole (λ t is refusal. c.answer_program.ensures.refused t (c.as_slice.ensures ∙ is) failed refusal),
    )

pub returns-in-Ok-clause-replies : goal.returns-in-Ok-clause-replies
returns-in-Ok-clause-replies g c =
    of_read (g.F.Files.told c.args.files.now c.args.names.program.now) (λ t. OfTold (g.F.Files.told c.args.files.now c.args.names.schedule.now) (λ s. Answers (RunReply t s c.args.question) c.answer_program.result (g.K.Sink.taken c.args.out.now) (g.K.Sink.taken c.answer_program.new.out))) program_limit c.in-Ok.text c.in-Ok.ensures.whole
    (λ t is.
    subst (λ (o : Option (List ℕ)). OfTold o (λ s. Answers (RunReply t s c.args.question) c.answer_program.result (g.K.Sink.taken c.args.out.now) (g.K.Sink.taken c.answer_program.new.out))) (c.in-Ok.ensures.same c.args.names.schedule.now)
    (c.answer_program.ensures.replies t (c.as_slice.ensures ∙ is)))
