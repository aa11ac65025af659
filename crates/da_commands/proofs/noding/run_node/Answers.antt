use Rattle.std.proofs.Common.{◌∙◌}
use Rattle.da_lang.specs.declared.ty.ChannelKind.{ChannelKind}
use Rattle.node_run.specs.NodeCall.{GivesPackets}
use Rattle.da_commands.specs.declared.status.Status.TheVariants.{Memory, ReadFault}
use Rattle.da_commands.specs.Links.{told_over}
use Rattle.da_commands.specs.NodeReplies.{BindsOnce, HasKind, HasStopped}
use Rattle.da_commands.specs.NodeSteps.{HasServed}
use Rattle.da_front.specs.Verdict.{program_limit}
use Rattle.arq_link.specs.ArqLink.{inner_of}
use Rattle.da_commands.proofs.NodeLemmas.{none_given, once_quiet, quiet_served}
use Rattle.da_commands.proofs.ToldLemmas.{of_any, of_read}
use Rattle.da_commands.proofs.noding.run_node.Goals as goal

-- THE PROGRAM WAS READ

pub returns-in-Ok-clause-served : goal.returns-in-Ok-clause-served
returns-in-Ok-clause-served g c =
    of_read (g.F.Files.told c.args.files.now c.args.program.now)
    (λ t. (kind : ChannelKind) → HasKind t kind → HasServed t c.args.setting c.answer_text.result (told_over g.L.Link.told kind c.args.link.now) (told_over g.L.Link.told kind c.answer_text.new.link)
    (g.K.Sink.taken c.args.out.now) (g.K.Sink.taken c.answer_text.new.out))
    program_limit c.in-Ok.text c.in-Ok.ensures.whole (λ t is. c.answer_text.ensures.served t (c.as_slice.ensures ∙ is))

pub returns-in-Ok-clause-packets : goal.returns-in-Ok-clause-packets
returns-in-Ok-clause-packets g c =
    of_read (g.F.Files.told c.args.files.now c.args.program.now)
    (λ t. (kind : ChannelKind) → HasKind t kind → GivesPackets c.args.setting.me (told_over g.L.Link.told kind c.args.link.now) (told_over g.L.Link.told kind c.answer_text.new.link))
    program_limit c.in-Ok.text c.in-Ok.ensures.whole (λ t is. c.answer_text.ensures.packets t (c.as_slice.ensures ∙ is))

pub returns-in-Ok-clause-binds : goal.returns-in-Ok-clause-binds
returns-in-Ok-clause-binds g c =
    of_read (g.F.Files.told c.args.files.now c.args.program.now)
    (λ t. BindsOnce t c.args.setting (g.L.Link.told (inner_of c.args.link.now)) (g.L.Link.told (inner_of c.answer_text.new.link)))
    program_limit c.in-Ok.text c.in-Ok.ensures.whole (λ t is. c.answer_text.ensures.binds t (c.as_slice.ensures ∙ is))

-- IT WAS NOT

pub returns-in-Err-Failed-clause-served : goal.returns-in-Err-Failed-clause-served
returns-in-Err-Failed-clause-served g c =
    of_any (g.F.Files.told c.args.files.now c.args.program.now)
    (λ t. (kind : ChannelKind) → HasKind t kind → HasStopped t c.args.setting ReadFault (told_over g.L.Link.told kind c.args.link.now) (told_over g.L.Link.told kind c.args.link.now)
    (g.K.Sink.taken c.args.out.now) (g.K.Sink.taken c.args.out.now))
    (λ t kind is. quiet_served t c.args.setting ReadFault _ _)

pub returns-in-Err-Failed-clause-packets : goal.returns-in-Err-Failed-clause-packets
returns-in-Err-Failed-clause-packets g c =
    of_any (g.F.Files.told c.args.files.now c.args.program.now)
    (λ t. (kind : ChannelKind) → HasKind t kind → GivesPackets c.args.setting.me (told_over g.L.Link.told kind c.args.link.now) (told_over g.L.Link.told kind c.args.link.now))
    (λ t kind is. none_given _ _)

pub returns-in-Err-Failed-clause-binds : goal.returns-in-Err-Failed-clause-binds
returns-in-Err-Failed-clause-binds g c =
    of_any (g.F.Files.told c.args.files.now c.args.program.now)
    (λ t. BindsOnce t c.args.setting (g.L.Link.told (inner_of c.args.link.now)) (g.L.Link.told (inner_of c.args.link.now)))
    (λ t. once_quiet t c.args.setting _)

pub returns-in-Err-Memory-clause-served : goal.returns-in-Err-Memory-clause-served
returns-in-Err-Memory-clause-served g c =
    of_any (g.F.Files.told c.args.files.now c.args.program.now)
    (λ t. (kind : ChannelKind) → HasKind t kind → HasStopped t c.args.setting Memory (told_over g.L.Link.told kind c.args.link.now) (told_over g.L.Link.told kind c.args.link.now)
    (g.K.Sink.taken c.args.out.now) (g.K.Sink.taken c.args.out.now))
    (λ t kind is. quiet_served t c.args.setting Memory _ _)

pub returns-in-Err-Memory-clause-packets : goal.returns-in-Err-Memory-clause-packets
returns-in-Err-Memory-clause-packets g c =
    of_any (g.F.Files.told c.args.files.now c.args.program.now)
    (λ t. (kind : ChannelKind) → HasKind t kind → GivesPackets c.args.setting.me (told_over g.L.Link.told kind c.args.link.now) (told_over g.L.Link.told kind c.args.link.now))
    (λ t kind is. none_given _ _)

pub returns-in-Err-Memory-clause-binds : goal.returns-in-Err-Memory-clause-binds
returns-in-Err-Memory-clause-binds g c =
    of_any (g.F.Files.told c.args.files.now c.args.program.now)
    (λ t. BindsOnce t c.args.setting (g.L.Link.told (inner_of c.args.link.now)) (g.L.Link.told (inner_of c.args.link.now)))
    (λ t. once_quiet t c.args.setting _)
