use Rattle.std.proofs.Common.{◌∙◌}
use Rattle.da_commands.proofs.ToldLemmas.{of_read}
use Rattle.scout_commands.specs.Replies.{DrawReply}
use Rattle.scout_commands.specs.Told.{Answers}
use Rattle.trace_page.specs.TraceText.{trace_limit}
use Rattle.scout_commands.proofs.drawing.draw_trace.Goals as goal

pub returns-in-Ok-clause-replies : goal.returns-in-Ok-clause-replies
returns-in-Ok-clause-replies g c =
    of_read (g.F.Files.told c.args.files.now c.args.trace.now) (λ t. Answers (DrawReply t) c.answer_trace.result (g.K.Sink.taken c.args.out.now) (g.K.Sink.taken c.answer_trace.new.out)) trace_limit c.in-Ok.text
    c.in-Ok.ensures.whole (λ t is. c.answer_trace.ensures.replies t (c.as_slice.ensures ∙ is))
