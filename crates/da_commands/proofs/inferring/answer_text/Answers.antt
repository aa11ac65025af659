use Rattle.da_commands.specs.declared.status.Status.TheVariants.{Done, Refused}
use Rattle.da_commands.specs.InferReplies.{InferReply, completed, declined}
use Rattle.da_commands.specs.Lines.{refused_text}
use Rattle.da_unparse.specs.Programs.{tree_text}
use Rattle.da_commands.proofs.InferLemmas.{completed_within, refused_within}
use Rattle.da_commands.proofs.ToldLemmas.{said_replied}
use Rattle.da_commands.proofs.inferring.answer_text.Goals as goal

pub returns-in-Err-Refused-clause-replies : goal.returns-in-Err-Refused-clause-replies
returns-in-Err-Refused-clause-replies g c = λ t is.
    let kind = c.in-Err-Refused.kind in
    let line = c.in-Err-Refused.line in
    said_replied (InferReply t) _ _ (Refused kind line) (refused_text kind line) _ tt
    (declined kind line (refused_within c.args.text.now t kind line _ is c.in-Err-Refused.field-0-is c.in-Err-Refused.ensures.refused)) c.refuse.ensures.said

pub returns-in-Ok-clause-replies : goal.returns-in-Ok-clause-replies
returns-in-Ok-clause-replies g c = λ t is.
    said_replied (InferReply t) _ _ Done (tree_text c.in-Ok.tree) c.answer_tree.result tt
    (completed c.in-Ok.tree (completed_within c.args.text.now t c.in-Ok.tree is c.in-Ok.ensures.completed)) c.answer_tree.ensures.said
