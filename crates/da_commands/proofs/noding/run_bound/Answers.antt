use Rattle.std.proofs.Common.{subst, sym, ◌≡◌, ◌∙◌}
use Rattle.da_core.specs.Compiled.{program_of}
use Rattle.da_outside.specs.Outside.{HasCause}
use Rattle.da_commands.specs.declared.status.Status.TheVariants.{LinkFault, WriteFault}
use Rattle.da_commands.specs.NodeSteps.{RunsBound}
use Rattle.da_commands.proofs.NodeLemmas.{node_binds, node_childless, node_link_cause, node_no_words, node_runs, node_unread, node_write_cause}
use Rattle.da_commands.proofs.noding.run_bound.Goals as goal

pub returns-clause-runs : goal.returns-clause-runs
returns-clause-runs g c =
    subst (λ s. RunsBound (program_of c.args.compiled.now) c.args.setting s (g.L.Link.told c.args.link.now) (g.L.Link.told c.node.new.link) (g.K.Sink.taken c.args.out.now) (g.K.Sink.taken c.node.new.sink)) (sym c.status_of_node.ensures)
    (node_runs _ c.args.setting c.node.result _ _ _ _ c.node.ensures.ran c.node.ensures.write c.node.ensures.link c.node.ensures.memory)

pub returns-clause-words : goal.returns-clause-words
returns-clause-words g c = λ is. node_no_words c.node.result (sym c.status_of_node.ensures ∙ is)

pub returns-clause-childless : goal.returns-clause-childless
returns-clause-childless g c = λ is. node_childless c.node.result (sym c.status_of_node.ensures ∙ is)

pub returns-clause-read : goal.returns-clause-read
returns-clause-read g c = λ is. node_unread c.node.result (sym c.status_of_node.ensures ∙ is)

pub returns-clause-write : goal.returns-clause-write
returns-clause-write g c = subst (λ s. HasCause (g.K.Sink.faults c.args.out.now) (g.K.Sink.faults c.node.new.sink) (s ≡ WriteFault)) (sym c.status_of_node.ensures) (node_write_cause c.node.result _ _ c.node.ensures.sink_cause)

pub returns-clause-link : goal.returns-clause-link
returns-clause-link g c = subst (λ s. HasCause (g.L.Link.faults c.args.link.now) (g.L.Link.faults c.node.new.link) (s ≡ LinkFault)) (sym c.status_of_node.ensures) (node_link_cause c.node.result _ _ c.node.ensures.link_cause)

pub returns-clause-binds : goal.returns-clause-binds
returns-clause-binds g c =
    node_binds (program_of c.args.compiled.now) c.args.setting.me c.args.setting.idle c.args.setting.turns _ _ _ _ c.node.result c.node.ensures.ran c.node.ensures.write c.node.ensures.link c.node.ensures.memory
