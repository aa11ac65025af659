use Rattle.class_demands.specs.Prefix.{always}
use Rattle.class_demands.proofs.BelowHolds.{below}
use Rattle.class_demands.proofs.NeededLaws.{heads_needed}
use Rattle.class_demands.proofs.ProgramLaws.{programs_met}
use Rattle.class_demands.proofs.laws.demands_agree.Goals as goal

pub returns-clause-demanded : goal.returns-clause-demanded
returns-clause-demanded c = programs_met below

pub returns-clause-heads : goal.returns-clause-heads
returns-clause-heads c = λ m hs. heads_needed m hs always
