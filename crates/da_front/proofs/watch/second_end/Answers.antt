use Rattle.std.proofs.Common.{◌∙◌, ap}
use Rattle.std.specs.Prelude.{Some, option_map}
use Rattle.da_front.specs.WatchText.{end_of}
use Rattle.da_front.proofs.watch.second_end.Goals as goal

pub returns-in-Some : goal.returns-in-Some
returns-in-Some c = ap Some c.end_of.ensures ∙ ap (option_map end_of) c.in-Some.ensures

pub returns-in-None : goal.returns-in-None
returns-in-None c = ap (option_map end_of) c.in-None.ensures
