use Rattle.std.proofs.Common.{subst, sym}
use Rattle.std.specs.Prelude.{Err}
use Rattle.da_core.specs.Compiled.{program_of}
use Rattle.trace_join.specs.Joins.{AreTraces}
use Rattle.da_commands.specs.declared.status.Status.TheVariants.{BadTrace}
use Rattle.da_commands.specs.JoinReplies.{IsEarliestBad, JoinedReply, SpellTraces, bad_trace}
use Rattle.da_commands.specs.JoinSteps.{AreRead}
use Rattle.da_commands.specs.Lines.{badtrace_text}
use Rattle.da_commands.proofs.JoinLemmas.{are_traces, bad_wholes, spell_wholes}
use Rattle.da_commands.proofs.ToldLemmas.{said_replied}
use Rattle.da_commands.proofs.joining.answer_texts.Goals as goal

pub answer_traces-requires-clause-traces : goal.answer_traces-requires-clause-traces
answer_traces-requires-clause-traces g c =
    subst (AreTraces (program_of c.args.compiled.now)) (sym c.as_slice.ensures) (are_traces (program_of c.args.compiled.now) c.args.texts.now c.in-Ok.traces c.requires.count c.in-Ok.ensures.0 c.in-Ok.ensures.1)

pub returns-in-Ok-clause-replies : goal.returns-in-Ok-clause-replies
returns-in-Ok-clause-replies g c = λ wholes are.
    c.answer_traces.ensures.replies wholes (subst (SpellTraces 1 wholes) (sym c.as_slice.ensures) (spell_wholes c.args.texts.now wholes are c.in-Ok.traces c.in-Ok.ensures.0))

pub returns-in-Err-BadLine-clause-replies : goal.returns-in-Err-BadLine-clause-replies
returns-in-Err-BadLine-clause-replies g c = λ wholes are.
    let process = c.in-Err-BadLine.process in
    let line = c.in-Err-BadLine.line in
    let read : AreRead c.args.texts.now (Err c.in-Err-BadLine.field-0) = c.in-Err-BadLine.ensures in
    let wrong : IsEarliestBad 1 c.args.texts.now process line = subst (λ e. AreRead c.args.texts.now (Err e)) c.in-Err-BadLine.field-0-is read in
    said_replied (JoinedReply (program_of c.args.compiled.now) wholes) _ _ (BadTrace process line) (badtrace_text process line) _ tt
    (bad_trace process line (bad_wholes c.args.texts.now wholes are process line wrong)) c.refuse_trace.ensures.said
