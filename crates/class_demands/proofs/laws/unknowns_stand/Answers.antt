use Rattle.class_demands.proofs.UnknownLaws.{scheme_stands}
use Rattle.class_demands.proofs.laws.unknowns_stand.Goals as goal

pub returns : goal.returns
returns c = scheme_stands
