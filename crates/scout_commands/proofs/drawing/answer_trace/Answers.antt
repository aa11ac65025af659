use Rattle.std.proofs.Common.{inl, refl, subst}
use Rattle.da_commands.specs.Lines.{badline_text}
use Rattle.da_commands.proofs.ToldLemmas.{take_beyond, take_within}
use Rattle.scout_commands.specs.declared.status.Status.TheVariants.{BadLine}
use Rattle.scout_commands.specs.Replies.{DrawReply, bad_trace}
use Rattle.scout_commands.specs.Told.{HasSaid}
use Rattle.scout_commands.proofs.ReplyLemmas.{draw_bad, draw_done, draw_unwritten, draw_without, said_answers}
use Rattle.trace_page.specs.TraceText.{trace_limit}
use Rattle.scout_commands.proofs.drawing.answer_trace.Goals as goal

pub returns-then-text-gt-TRACE_LIMIT-clause-replies : goal.returns-then-text-gt-TRACE_LIMIT-clause-replies
returns-then-text-gt-TRACE_LIMIT-clause-replies g c = λ t is.
    let reply : DrawReply t (BadLine 0) (badline_text 0) = bad_trace 0 (inl (take_beyond trace_limit _ t is c.if-text-gt-TRACE_LIMIT.true, refl)) in
    said_answers (DrawReply t) (BadLine 0) (badline_text 0) _ _ _ reply c.refuse_line.ensures.said

pub returns-in-Done-clause-replies : goal.returns-in-Done-clause-replies
returns-in-Done-clause-replies g c = λ t is. draw_done c.args.text.now t (take_within trace_limit _ t is c.if-text-gt-TRACE_LIMIT.false) c.draw.result _ _ c.draw.ensures.says c.draw.ensures.drawn c.in-Done.is

pub returns-in-WriteFault-clause-replies : goal.returns-in-WriteFault-clause-replies
returns-in-WriteFault-clause-replies g c = λ t is. draw_unwritten c.args.text.now t (take_within trace_limit _ t is c.if-text-gt-TRACE_LIMIT.false) c.draw.result _ _ c.draw.ensures.says c.draw.ensures.drawn c.in-WriteFault.is

pub returns-in-Memory-clause-replies : goal.returns-in-Memory-clause-replies
returns-in-Memory-clause-replies g c = λ t is. draw_without c.args.text.now t (take_within trace_limit _ t is c.if-text-gt-TRACE_LIMIT.false) c.draw.result _ _ c.draw.ensures.says c.draw.ensures.drawn c.in-Memory.is

pub returns-in-BadLine-clause-replies : goal.returns-in-BadLine-clause-replies
returns-in-BadLine-clause-replies g c = λ t is.
    let line = c.in-BadLine.line in
    let (unwritten, bad) = draw_bad c.args.text.now t (take_within trace_limit _ t is c.if-text-gt-TRACE_LIMIT.false) c.draw.result _ _ c.draw.ensures.says c.draw.ensures.drawn line c.in-BadLine.is in
    let reply : DrawReply t (BadLine line) (badline_text line) = bad_trace line bad in
    said_answers (DrawReply t) (BadLine line) (badline_text line) _ _ _ reply
    (subst (λ x. HasSaid (BadLine line) (badline_text line) c.refuse_line-in-BadLine.result x (g.K.Sink.taken c.refuse_line-in-BadLine.new.out)) unwritten c.refuse_line-in-BadLine.ensures.said)
