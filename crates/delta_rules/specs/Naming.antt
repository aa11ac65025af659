-- Whether a slot stands in a condition or in an operand.
use Rattle.std.specs.Prelude.{ℕ, Bool}
use Rattle.da_lang.specs.declared.query.Cond.{Cond}
use Rattle.da_lang.specs.declared.query.Cond.TheFolds.{fold-Operand}
use Rattle.da_lang.specs.declared.query.Operand.{Operand}
use Rattle.da_lang.specs.declared.query.SignedOperand.{SignedOperand, out-SignedOperand}
use Rattle.query_plan.specs.PlanTerms.{Terms, agg_terms_step, cond_terms, cond_terms_step, named_in, operand_terms_step, signed_terms_step}

abbrev pub cond_names : ℕ → Cond → Bool
cond_names s b = named_in s (cond_terms b)

abbrev pub operand_names : ℕ → Operand → Bool
operand_names s a = named_in s (fold-Operand Terms Terms Terms Terms cond_terms_step operand_terms_step agg_terms_step signed_terms_step a)

-- in a further operand of a chain
abbrev pub part_names : ℕ → SignedOperand → Bool
part_names s part = operand_names s (out-SignedOperand part).operand
