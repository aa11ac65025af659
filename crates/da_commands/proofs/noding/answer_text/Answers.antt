use Rattle.da_core.specs.Compiled.{program_of}
use Rattle.da_lang.specs.declared.ty.ChannelKind.{ChannelKind}
use Rattle.node_run.specs.NodeCall.{GivesPackets}
use Rattle.std.proofs.Common.{subst}
use Rattle.da_commands.specs.Links.{told_over}
use Rattle.da_commands.specs.NodeReplies.{declined}
use Rattle.da_commands.specs.NodeSteps.{HasServed}
use Rattle.da_commands.proofs.NodeLemmas.{few_accepted, none_given, once_for, once_quiet, quiet_served, served_refused}
use Rattle.da_commands.proofs.ReplyLemmas.{read_within, refuses_within}
use Rattle.da_commands.proofs.noding.answer_text.Goals as goal

-- A REFUSAL

pub returns-in-Err-Refused-clause-served : goal.returns-in-Err-Refused-clause-served
returns-in-Err-Refused-clause-served g c = λ t is channels same.
    let kind = c.in-Err-Refused.kind in
    let line = c.in-Err-Refused.line in
    served_refused kind line t c.args.setting _ _ _ c.refuse.result
    (declined kind line (refuses_within _ t _ _ _ is c.in-Err-Refused.field-0-is c.in-Err-Refused.ensures.refused))
    (rw c.in-Err-Refused.field-0-is at c.refuse.ensures.said)

pub returns-in-Err-Refused-clause-packets : goal.returns-in-Err-Refused-clause-packets
returns-in-Err-Refused-clause-packets g c = λ t is kind same. none_given _ _

pub returns-in-Err-Refused-clause-binds : goal.returns-in-Err-Refused-clause-binds
returns-in-Err-Refused-clause-binds g c = λ t is. once_quiet t c.args.setting _

pub returns-in-Err-Memory-clause-served : goal.returns-in-Err-Memory-clause-served
returns-in-Err-Memory-clause-served g c = λ t is kind same. quiet_served t c.args.setting _ _ _

pub returns-in-Err-Memory-clause-packets : goal.returns-in-Err-Memory-clause-packets
returns-in-Err-Memory-clause-packets g c = λ t is kind same. none_given _ _

pub returns-in-Err-Memory-clause-binds : goal.returns-in-Err-Memory-clause-binds
returns-in-Err-Memory-clause-binds g c = λ t is. once_quiet t c.args.setting _

-- AN ACCEPTED PROGRAM

pub answer_program-requires-clause-few : goal.answer_program-requires-clause-few
answer_program-requires-clause-few g c = few_accepted _ _ c.in-Ok.ensures.read

pub returns-in-Ok-clause-served : goal.returns-in-Ok-clause-served
returns-in-Ok-clause-served g c = λ t is kind same.
    let accepts = read_within _ t _ is c.in-Ok.ensures.read in
    subst
    (λ (k : ChannelKind). HasServed t c.args.setting c.answer_program.result (told_over g.L.Link.told k c.args.link.now) (told_over g.L.Link.told k c.answer_program.new.link) (g.K.Sink.taken c.args.out.now) (g.K.Sink.taken c.answer_program.new.out))
    (same (program_of c.in-Ok.compiled) accepts) (c.answer_program.ensures.runs t accepts)

pub returns-in-Ok-clause-packets : goal.returns-in-Ok-clause-packets
returns-in-Ok-clause-packets g c = λ t is kind same.
    let accepts = read_within _ t _ is c.in-Ok.ensures.read in
    subst (λ (k : ChannelKind). GivesPackets c.args.setting.me (told_over g.L.Link.told k c.args.link.now) (told_over g.L.Link.told k c.answer_program.new.link))
    (same (program_of c.in-Ok.compiled) accepts) c.answer_program.ensures.packets

pub returns-in-Ok-clause-binds : goal.returns-in-Ok-clause-binds
returns-in-Ok-clause-binds g c = λ t is.
    once_for t (program_of c.in-Ok.compiled) c.args.setting _ _ (read_within _ t _ is c.in-Ok.ensures.read) c.answer_program.ensures.binds
