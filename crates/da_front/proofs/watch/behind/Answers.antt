use Rattle.std.proofs.Common.{arith, sym}
use Rattle.std.proofs.lemmas.List.{drop_all}
use Rattle.da_front.proofs.watch.behind.Goals as goal

pub returns-then-place-size : goal.returns-then-place-size
returns-then-place-size c = sym (drop_all c.args.place c.args.text.now (omega (arith, c.if-place-size.true)))
