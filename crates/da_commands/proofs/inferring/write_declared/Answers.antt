use Rattle.std.proofs.Common.{◌∙◌}
use Rattle.da_commands.specs.InferReplies.{InferReply}
use Rattle.da_commands.specs.Told.{HasReplied}
use Rattle.da_front.specs.Verdict.{program_limit}
use Rattle.da_commands.proofs.ToldLemmas.{of_read}
use Rattle.da_commands.proofs.inferring.write_declared.Goals as goal

pub returns-in-Ok-clause-replies : goal.returns-in-Ok-clause-replies
returns-in-Ok-clause-replies g c =
    of_read (g.F.Files.told c.args.files.now c.args.program.now) (λ t. HasReplied (InferReply t) c.answer_text.result (g.K.Sink.taken c.args.out.now) (g.K.Sink.taken c.answer_text.new.out)) program_limit c.in-Ok.text
    c.in-Ok.ensures.whole (λ t is. c.answer_text.ensures.replies t (c.as_slice.ensures ∙ is))
