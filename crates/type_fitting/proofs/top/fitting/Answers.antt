use denote.Bor.{Bor}
use Rattle.std.proofs.Common.{map}
use Rattle.type_demands.specs.declared.demand.Demand.{Demand}
use Rattle.type_fitting.proofs.FitLaws.{found_fits}
use Rattle.type_fitting.proofs.top.fitting.Goals as goal

pub solved-requires-clause-sound : goal.solved-requires-clause-sound
solved-requires-clause-sound c = c.in_ok-table.ensures.sound

pub solved-requires-clause-counts : goal.solved-requires-clause-counts
solved-requires-clause-counts c = c.in_ok-table.ensures.counts

pub returns : goal.returns
returns c = found_fits c.args.count (map (λ (x : Bor Demand). x.now) c.args.demands.now) _ c.requires c.in_ok-table.ensures _ c.in_ok-types.ensures
