use Rattle.std.proofs.Common.{arith, sym, take_all}
use Rattle.da_front.proofs.watch.before.Goals as goal

pub returns-then-place-size : goal.returns-then-place-size
returns-then-place-size c = sym (take_all c.args.place c.args.text.now (omega (arith, c.if-place-size.true)))
