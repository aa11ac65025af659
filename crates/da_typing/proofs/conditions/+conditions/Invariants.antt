use Rattle.std.proofs.Common.{◌≡◌, true, take}
use Rattle.std.specs.List.{list_all}
use Rattle.da_lang.specs.declared.query.SignedOperand.{out-SignedOperand}
use Rattle.da_lang.specs.QueryTypes.{cond_holds, is_operand, operand_side}
use Rattle.da_typing.specs.KnownView.{known_of}
use Rattle.da_typing.proofs.conditions.+conditions.Given as goal

abbrev pub invariant-conds_hold-loop-cond : goal.invariant-conds_hold-loop-cond
invariant-conds_hold-loop-cond l = list_all (λ cond. cond_holds (known_of l.known) cond l.row) (take l.cond-index l.conds) ≡ true

abbrev pub invariant-are_operands-loop-signed : goal.invariant-are_operands-loop-signed
invariant-are_operands-loop-signed l = list_all (λ signed. is_operand (operand_side (known_of l.known) (out-SignedOperand signed).operand l.row)) (take l.signed-index l.more) ≡ true
