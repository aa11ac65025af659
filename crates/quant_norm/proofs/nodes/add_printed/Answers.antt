use Rattle.std.proofs.Common.{refl}
use Rattle.quant_norm.proofs.HandedOn.{found_ends, new_ends}
use Rattle.quant_norm.proofs.nodes.add_printed.Goals as goal

pub returns-in-Some : goal.returns-in-Some
returns-in-Some c = found_ends _ _ _ _ _ _ c.find-found.ensures refl c.in-Some.is c.number_of.ensures

pub returns-in-None : goal.returns-in-None
returns-in-None c = new_ends _ _ _ _ _ _ c.find-found.ensures refl c.in-None.is c.push.ensures
