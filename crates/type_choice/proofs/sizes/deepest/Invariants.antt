use Rattle.std.proofs.Common.{◌≡◌, drop, map}
use Rattle.std.specs.Prelude.{max}
use Rattle.da_values.specs.Nesting.{deepest}
use Rattle.type_choice.specs.Looks.{number_at}
use Rattle.type_choice.proofs.sizes.deepest.Given as goal

abbrev pub invariant-loop-part : goal.invariant-loop-part
invariant-loop-part l = max (deepest (map (number_at l.levels) (drop l.part-index l.parts))) l.most ≡ deepest (map (number_at l.levels) l.parts)
