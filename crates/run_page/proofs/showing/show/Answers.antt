use Rattle.std.proofs.Common.{inl, inr, refl, subst}
use Rattle.da_outside.specs.Outside.{Appends, AppendsPrefix}
use Rattle.da_outside.proofs.OutsideLemmas.{prefix_whole}
use Rattle.run_page.proofs.showing.show.Goals as goal

pub returns-in_default-clause-begun : goal.returns-in_default-clause-begun
returns-in_default-clause-begun g c = inl refl

pub returns-in-Ok-write_all-clause-shown : goal.returns-in-Ok-write_all-clause-shown
returns-in-Ok-write_all-clause-shown g c = λ ended. (
  c.in-Ok.ensures.outcome,
  c.in-Ok.shown.page,
  c.in-Ok.ensures.page,
  subst (Appends (g.K.Sink.taken c.args.sink.now) (g.K.Sink.taken c.write_all.new.out)) c.as_slice.ensures c.in-Ok-write_all.ensures.ok,
)

pub returns-in-Ok-write_all-clause-begun : goal.returns-in-Ok-write_all-clause-begun
returns-in-Ok-write_all-clause-begun g c = inr (
  c.in-Ok.shown.page,
  c.in-Ok.ensures.page,
  prefix_whole _ _ _ (subst (Appends (g.K.Sink.taken c.args.sink.now) (g.K.Sink.taken c.write_all.new.out)) c.as_slice.ensures c.in-Ok-write_all.ensures.ok),
)

pub returns-in-Err-Failed-clause-begun : goal.returns-in-Err-Failed-clause-begun
returns-in-Err-Failed-clause-begun g c = inr (
  c.in-Ok.shown.page,
  c.in-Ok.ensures.page,
  subst (AppendsPrefix (g.K.Sink.taken c.args.sink.now) (g.K.Sink.taken c.write_all.new.out)) c.as_slice.ensures c.in-Err-Failed.ensures.prefix,
)

pub returns-clause-begun : goal.returns-clause-begun
returns-clause-begun g c = inr (
  c.in-Ok.shown.page,
  c.in-Ok.ensures.page,
  subst (AppendsPrefix (g.K.Sink.taken c.args.sink.now) (g.K.Sink.taken c.write_all.new.out)) c.as_slice.ensures c.in-Err-Memory.ensures.prefix,
)
