use Rattle.std.proofs.Common.{◌≡◌, take, filter_map}
use Rattle.da_lang.specs.NameRules.{set_up_at}
use Rattle.da_bodies.specs.Repeats.{declared_in}
use Rattle.da_names.proofs.top_names.names_set_up.Given as goal

abbrev pub invariant-loop-line : goal.invariant-loop-line
invariant-loop-line l = declared_in l.names ≡ filter_map set_up_at (take l.line-index l.lines)
