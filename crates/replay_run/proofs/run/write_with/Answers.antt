use Rattle.std.specs.Prelude.{◌++◌}
use Rattle.da_outside.specs.Outside.{AppendsPrefix}
use Rattle.da_outside.proofs.OutsideLemmas.{prefix_none}
use Rattle.sched_text.specs.ActionText.{action_text}
use Rattle.replay_run.proofs.WaitLemmas.{on_err}
use Rattle.replay_run.proofs.run.write_with.Goals as goal

pub returns-in_err-add_lines-clause-prefix : goal.returns-in_err-add_lines-clause-prefix
returns-in_err-add_lines-clause-prefix g c =
    let whole = c.args.text.now ++ action_text c.args.actions.now in
    on_err c.from_residual.result (AppendsPrefix (g.K.Sink.taken c.args.sink.now) (g.K.Sink.taken c.args.sink.now) whole) (prefix_none (g.K.Sink.taken c.args.sink.now) whole)
