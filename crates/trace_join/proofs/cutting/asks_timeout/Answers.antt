-- By where the process stands.
use Rattle.std.proofs.Common.{refl}
use Rattle.da_core.specs.declared.place.Place.TheVariants as place
use Rattle.trace_join.proofs.CuttingLaws.{asks_after_last, asks_for_none}
use Rattle.trace_join.proofs.cutting.asks_timeout.Goals as goal

pub returns-then-k-gt0 : goal.returns-then-k-gt0
returns-then-k-gt0 c = asks_after_last c.args.core.now c.place.result c.args.k c.place.ensures.place c.in-Await.count c.in-Await.is c.if-k-gt0.true

pub returns-in-New : goal.returns-in-New
returns-in-New c = asks_for_none c.args.core.now c.place.result c.args.k c.place.ensures.place place.New c.in-New.is (λ n. refl)

pub returns-in-Label : goal.returns-in-Label
returns-in-Label c = asks_for_none c.args.core.now c.place.result c.args.k c.place.ensures.place place.Label c.in-Label.is (λ n. refl)

pub returns-in-Ended : goal.returns-in-Ended
returns-in-Ended c = asks_for_none c.args.core.now c.place.result c.args.k c.place.ensures.place place.Ended c.in-Ended.is (λ n. refl)

pub returns-in-Faulted : goal.returns-in-Faulted
returns-in-Faulted c = asks_for_none c.args.core.now c.place.result c.args.k c.place.ensures.place place.Faulted c.in-Faulted.is (λ n. refl)
