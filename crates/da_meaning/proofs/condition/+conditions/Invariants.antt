use Rattle.std.proofs.Common.{◌≡◌, map, take}
use Rattle.da_lang.specs.ExprMeaning.{Meant, meant, signed_of, signed_operand}
use Rattle.da_meaning.proofs.condition.+conditions.Given as goal

abbrev pub invariant-conditions-loop-x : goal.invariant-conditions-loop-x
invariant-conditions-loop-x l = l.found ≡ map (λ (m : Meant). m.condition l.scope) (map meant (take l.x-index l.xs))

abbrev pub invariant-signed_operands-loop-link : goal.invariant-signed_operands-loop-link
invariant-signed_operands-loop-link l = l.found ≡ map (signed_operand l.scope) (map signed_of (take l.link-index l.links))
