use Rattle.std.proofs.Common.{subst, sym}
use Rattle.da_outside.specs.Outside.{Appends, AppendsPrefix}
use Rattle.replay_run.specs.Waiting.{Waits}
use Rattle.replay_run.proofs.WaitLemmas.{none_waits, on_err}
use Rattle.replay_run.proofs.run.pass_on.Goals as goal

pub returns-then-not-is_full-clause-waits : goal.returns-then-not-is_full-clause-waits
returns-then-not-is_full-clause-waits g c first whole waits = waits

pub returns-clause-waits : goal.returns-clause-waits
returns-clause-waits g c first whole waits =
    subst (λ z. Waits first (g.K.Sink.taken c.write_all.new.out) z whole) (sym c.truncate.ensures)
    (none_waits first (g.K.Sink.taken c.args.sink.now) c.args.text.now whole waits (g.K.Sink.taken c.write_all.new.out)
    (subst (λ z. Appends (g.K.Sink.taken c.args.sink.now) (g.K.Sink.taken c.write_all.new.out) z) c.as_slice.ensures c.in_ok-write_all.ensures.ok))

pub returns-in_err-write_all-clause-prefix : goal.returns-in_err-write_all-clause-prefix
returns-in_err-write_all-clause-prefix g c =
    on_err c.from_residual.result (AppendsPrefix (g.K.Sink.taken c.args.sink.now) (g.K.Sink.taken c.write_all.new.out) c.args.text.now)
    (subst (λ z. AppendsPrefix (g.K.Sink.taken c.args.sink.now) (g.K.Sink.taken c.write_all.new.out) z) c.as_slice.ensures c.in_err-write_all.ensures.prefix)
