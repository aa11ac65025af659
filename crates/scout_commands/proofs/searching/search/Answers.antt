use Rattle.std.proofs.Common.{inr, refl, ◌∙◌}
use Rattle.da_front.specs.Verdict.{program_limit}
use Rattle.da_commands.proofs.ReplyLemmas.{may_read, rose_later}
use Rattle.da_commands.proofs.ToldLemmas.{of_read}
use Rattle.scout_commands.specs.declared.status.Status.TheVariants.{Memory, ReadFault}
use Rattle.scout_commands.specs.Replies.{OfWatchTold, SearchReply, watch_of}
use Rattle.scout_commands.specs.Told.{Answers, nothing, unread}
use Rattle.scout_commands.proofs.ReplyLemmas.{of_any_search, watch_told_as}
use Rattle.scout_commands.proofs.searching.search.Goals as goal

pub returns-in-Ok-clause-read : goal.returns-in-Ok-clause-read
returns-in-Ok-clause-read g c = λ failed.
    let (w, is, rose) = c.answer_text.ensures.read failed in
    inr (
      w,
      is,
      rose_later _ _ _ (c.in-Ok.ensures.later _) rose,
      may_read _ _ c.in-Ok.ensures.whole (λ t is refusal. c.answer_text.ensures.refused t (c.as_slice.ensures ∙ is) failed refusal),
    )

pub returns-in-Ok-clause-replies : goal.returns-in-Ok-clause-replies
returns-in-Ok-clause-replies g c =
    of_read (g.F.Files.told c.args.files.now c.args.program.now)
    (λ t. OfWatchTold (g.F.Files.told c.args.files.now) (watch_of c.args.search.now) (λ w. Answers (SearchReply t w c.args.search.now) c.answer_text.result (g.K.Sink.taken c.args.out.now) (g.K.Sink.taken c.answer_text.new.out))) program_limit c.in-Ok.text
    c.in-Ok.ensures.whole
    (λ t is. watch_told_as _ _ (λ x. c.in-Ok.ensures.same x) (watch_of c.args.search.now) _ (c.answer_text.ensures.replies t (c.as_slice.ensures ∙ is)))

pub returns-in-Err-Failed-clause-replies : goal.returns-in-Err-Failed-clause-replies
returns-in-Err-Failed-clause-replies g c =
    of_any_search (g.F.Files.told c.args.files.now) c.args.program.now (watch_of c.args.search.now)
    (λ t w. Answers (SearchReply t w c.args.search.now) ReadFault (g.K.Sink.taken c.args.out.now) (g.K.Sink.taken c.args.out.now)) (λ t w. unread refl refl)

pub returns-in-Err-Memory-clause-replies : goal.returns-in-Err-Memory-clause-replies
returns-in-Err-Memory-clause-replies g c =
    of_any_search (g.F.Files.told c.args.files.now) c.args.program.now (watch_of c.args.search.now)
    (λ t w. Answers (SearchReply t w c.args.search.now) Memory (g.K.Sink.taken c.args.out.now) (g.K.Sink.taken c.args.out.now)) (λ t w. nothing tt refl)
