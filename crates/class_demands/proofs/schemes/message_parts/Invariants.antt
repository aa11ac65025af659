use Rattle.std.proofs.Common.{◌≡◌, ◌∷◌, map, take}
use Rattle.type_table.specs.declared.scheme.Scheme.TheVariants as s
use Rattle.class_demands.specs.Unknowns.{scheme_of}
use Rattle.class_demands.proofs.schemes.message_parts.Given as goal

abbrev pub invariant-loop-part : goal.invariant-loop-part
invariant-loop-part l = l.schemes ≡ s.Text ∷ map scheme_of (take l.part-index l.parts)
