use Rattle.std.proofs.Common.{◌≡◌, take, filter_map}
use Rattle.da_lang.specs.NameRules.{made_at}
use Rattle.da_bodies.specs.Repeats.{declared_in}
use Rattle.da_names.proofs.top_names.names_made.Given as goal

abbrev pub invariant-loop-line : goal.invariant-loop-line
invariant-loop-line l = declared_in l.names ≡ filter_map made_at (take l.line-index l.lines)
