use Rattle.std.proofs.Common.{◌≡◌, ◌++◌, take}
use Rattle.std.specs.Prelude.{flat_map}
use Rattle.da_lang.specs.declared.query.SignedOperand.{out-SignedOperand}
use Rattle.type_demands.specs.Conds.{cond_sym, operand_asks, operand_sym}
use Rattle.type_demands.specs.Demands.{at_line}
use Rattle.type_demands.specs.KnownView.{context_of}
use Rattle.type_demands.proofs.conditions.+conditions.Given as goal

abbrev pub invariant-conds_demands-loop-cond : goal.invariant-conds_demands-loop-cond
invariant-conds_demands-loop-cond l = l.demands ≡ l.fn.demands ++ at_line l.known.line (flat_map (λ x. cond_sym (context_of l.known) x l.row) (take l.cond-index l.conds))

abbrev pub invariant-further_demands-loop-signed : goal.invariant-further_demands-loop-signed
invariant-further_demands-loop-signed l = l.demands ≡ l.fn.demands ++ at_line l.known.line (flat_map (λ x. operand_asks (operand_sym (context_of l.known) (out-SignedOperand x).operand l.row)) (take l.signed-index l.more))
