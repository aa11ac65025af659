-- Conditions that ask nothing of histories and sets: no part of them is a `some`, an `each` or an aggregate. Nodes whose
-- conditions are such.
use Rattle.std.specs.Prelude.{◌≡◌, Bool, true, false, ◌&&◌, List}
use Rattle.std.specs.List.{list_all}
use Rattle.da_lang.specs.declared.query.Cond.{Cond}
use Rattle.da_lang.specs.declared.query.Cond.TheFolds.{fold-Cond, fold-Operand}
use Rattle.da_lang.specs.declared.query.Cond.TheOpen.{Cond-F, Operand-F, Agg-F, SignedOperand-F}
use Rattle.da_lang.specs.declared.query.Node.{Node}
use Rattle.da_lang.specs.declared.query.Node.TheVariants as node
use Rattle.da_lang.specs.declared.query.Operand.{Operand}
use Rattle.da_lang.specs.declared.query.SignedOperand.{SignedOperand, out-SignedOperand}

abbrev pub plain_cond_step : Cond-F Bool Bool Bool Bool → Bool
plain_cond_step (Cond-F.Truth t) = true
plain_cond_step (Cond-F.Cmp op a b) = a && b
plain_cond_step (Cond-F.Not b) = b
plain_cond_step (Cond-F.And bs) = list_all (λ b. b) bs
plain_cond_step (Cond-F.Or bs) = list_all (λ b. b) bs
plain_cond_step (Cond-F.Quant each gens b) = false

abbrev pub plain_operand_step : Operand-F Bool Bool Bool Bool → Bool
plain_operand_step (Operand-F.Term t) = true
plain_operand_step (Operand-F.Agg a) = false
plain_operand_step (Operand-F.Chain a more) = a && list_all (λ s. s) more

abbrev pub plain_agg_step : Agg-F Bool Bool Bool Bool → Bool
plain_agg_step a = false

abbrev pub plain_signed_step : SignedOperand-F Bool Bool Bool Bool → Bool
plain_signed_step s = s.operand

unfoldable pub is_plain : Cond → Bool
is_plain = fold-Cond Bool Bool Bool Bool plain_cond_step plain_operand_step plain_agg_step plain_signed_step

unfoldable pub is_plain_operand : Operand → Bool
is_plain_operand = fold-Operand Bool Bool Bool Bool plain_cond_step plain_operand_step plain_agg_step plain_signed_step

-- a further part of a chain
abbrev pub is_plain_part : SignedOperand → Bool
is_plain_part s = is_plain_operand (out-SignedOperand s).operand

-- each of them is such a condition, or a further operand of one
abbrev pub ArePlain : List Cond → Type 0
ArePlain conditions = list_all is_plain conditions ≡ true

abbrev pub ArePlainSigned : List SignedOperand → Type 0
ArePlainSigned more = list_all is_plain_part more ≡ true

-- a node whose condition is such, if it has one
abbrev pub is_plain_node : Node → Bool
is_plain_node (node.Filter p b) = is_plain b
is_plain_node _ = true

-- each of them is
abbrev pub PlainNodes : List Node → Type 0
PlainNodes nodes = list_all is_plain_node nodes ≡ true
