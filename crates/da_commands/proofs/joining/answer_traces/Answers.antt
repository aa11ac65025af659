use Rattle.std.proofs.Common.{◌≡◌, ◌∙◌, ap, flat_map, map, subst}
use Rattle.std.specs.Prelude.{Err, IsErrOf}
use Rattle.da_core.specs.Compiled.{program_of}
use Rattle.trace_join.specs.declared.fault.JoinFault.TheVariants.{Blocked}
use Rattle.da_commands.specs.declared.status.Status.TheVariants.{Done, NoJoin}
use Rattle.da_commands.specs.JoinReplies.{JoinedReply, blocked, joined}
use Rattle.da_commands.specs.JoinSteps.{blocked_at}
use Rattle.da_commands.specs.Lines.{blocked_line, schedule_text}
use Rattle.da_commands.specs.Told.{HasSaid}
use Rattle.da_commands.proofs.JoinLemmas.{have_names}
use Rattle.da_commands.proofs.ToldLemmas.{said_replied}
use Rattle.da_commands.proofs.joining.answer_traces.Goals as goal

pub returns-in-Ok-event_lines-clause-replies : goal.returns-in-Ok-event_lines-clause-replies
returns-in-Ok-event_lines-clause-replies g c = λ texts spelled.
    let events = c.in-Ok.events in
    let bytes : c.as_slice-in-Ok-event_lines.result.now ≡ schedule_text events = c.as_slice-in-Ok-event_lines.ensures ∙ c.in-Ok-event_lines.ensures ∙ ap schedule_text c.as_slice.ensures in
    said_replied (JoinedReply (program_of c.args.compiled.now) texts) _ _ Done (schedule_text events) _ tt
    (joined c.args.traces.now events spelled c.in-Ok.ensures.joined (have_names events c.in-Ok.ensures.named))
    (subst (λ b. HasSaid Done b c.say.result (g.K.Sink.taken c.args.out.now) (g.K.Sink.taken c.say.new.out)) bytes c.say.ensures.said)

pub returns-in-Ok-block_lines-clause-replies : goal.returns-in-Ok-block_lines-clause-replies
returns-in-Ok-block_lines-clause-replies g c = λ texts spelled.
    let blocks = c.in-Err-Blocked.blocks in
    let is : IsErrOf c.join.result (Blocked blocks) = c.in-Err-Blocked.is ∙ ap (λ e. Err e) c.in-Err-Blocked.field-0-is in
    let bytes : c.as_slice-in-Ok-block_lines.result.now ≡ flat_map blocked_line (map blocked_at blocks) =
    c.as_slice-in-Ok-block_lines.ensures ∙ c.in-Ok-block_lines.ensures ∙ ap (λ bs. flat_map blocked_line (map blocked_at bs)) c.as_slice-in-Err-Blocked.ensures in
    said_replied (JoinedReply (program_of c.args.compiled.now) texts) _ _ NoJoin (flat_map blocked_line (map blocked_at blocks)) _ tt
    (blocked c.args.traces.now (map blocked_at blocks) spelled (c.join.ensures.none blocks is) (c.join.ensures.blocks blocks is))
    (subst (λ b. HasSaid NoJoin b c.say-in-Ok-block_lines.result (g.K.Sink.taken c.args.out.now) (g.K.Sink.taken c.say-in-Ok-block_lines.new.out)) bytes c.say-in-Ok-block_lines.ensures.said)
