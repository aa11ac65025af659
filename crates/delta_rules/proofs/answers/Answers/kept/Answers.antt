use Rattle.std.proofs.Common.{arith}
use Rattle.delta_rules.proofs.ReadingLaws.{kept_more}
use Rattle.delta_rules.proofs.answers.Answers.kept.Goals as goal

pub loop-place-preserved : goal.loop-place-preserved
loop-place-preserved c = (
  λ pool. kept_more pool c.args.self.now.live.items c.loop-place.place c.len.result c.index.result.now (c.len.ensures pool) c.loop-place.total (omega (arith, c.loop-place-test.true, c.len-place-end.ensures)) c.index.ensures
      (c.loop-place.invariant.0 pool),
  omega (arith, c.loop-place.invariant.1),
)
