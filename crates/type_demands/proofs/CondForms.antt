-- What conditions, sides and aggregates demand, by their forms.
use Rattle.std.specs.Prelude.{◌≡◌, refl, List, [], ◌∷◌, ◌++◌, map, flat_map}
use Rattle.std.proofs.Common.{◌∙◌, ap, ap₂, sym, append_assoc}
use Rattle.da_lang.specs.declared.query.Agg.{Agg, out-Agg, roll-out-Agg}
use Rattle.da_lang.specs.declared.query.Cond.{Cond}
use Rattle.da_lang.specs.declared.query.Cond.TheVariants as co
use Rattle.da_lang.specs.declared.query.Operand.{Operand}
use Rattle.da_lang.specs.declared.query.Operand.TheVariants as od
use Rattle.da_lang.specs.declared.query.SignedOperand.{SignedOperand, out-SignedOperand, roll-out-SignedOperand}
use Rattle.type_table.specs.declared.scheme.Scheme.{Scheme}
use Rattle.type_table.specs.declared.scheme.Scheme.TheVariants as s
use Rattle.type_demands.specs.Syms.{Context}
use Rattle.type_demands.specs.Terms.{term_sym}
use Rattle.type_demands.specs.Conds.{CondSym, SidedSym, SideSym, side_sym, operand_asks, other_sym, behind, agg_found, cond_sym, operand_sym, agg_sym, signed_sym, where_sym}
use Rattle.type_demands.proofs.PutLaws.{at_line-both}
use Rattle.type_demands.proofs.QueriesAt.{cond-Truth, cond-Cmp, cond-Not, cond-And, cond-Or, cond-Quant, operand-Term, operand-Agg, operand-Chain, agg-of, signed-of}

module _ (context : Context) (row : List Scheme) where
  all_conds : (xs : List Cond) → flat_map (λ (x : CondSym). x row) (map (cond_sym context) xs) ≡ flat_map (λ x. cond_sym context x row) xs
  all_conds [] = refl
  all_conds (x ∷ xs) = ap (λ ds. cond_sym context x row ++ ds) (all_conds xs)

  pub conds-And : (xs : List Cond) → cond_sym context (co.And xs) row ≡ flat_map (λ x. cond_sym context x row) xs
  conds-And xs = cond-And context xs row ∙ all_conds xs

  pub conds-Or : (xs : List Cond) → cond_sym context (co.Or xs) row ≡ flat_map (λ x. cond_sym context x row) xs
  conds-Or xs = cond-Or context xs row ∙ all_conds xs

  signed_is : (x : SignedOperand) → signed_sym context x row ≡ operand_sym context (out-SignedOperand x).operand row
  signed_is x =
      ap (λ (y : SignedOperand). signed_sym context y row) (sym (roll-out-SignedOperand x))
      ∙ ap (λ (f : SidedSym). f row) (signed-of context (out-SignedOperand x).minus (out-SignedOperand x).operand)

  all_signed : (xs : List SignedOperand) → flat_map (λ (x : SidedSym). operand_asks (x row)) (map (signed_sym context) xs) ≡ flat_map (λ x. operand_asks (operand_sym context (out-SignedOperand x).operand row)) xs
  all_signed [] = refl
  all_signed (x ∷ xs) = ap₂ (λ (a : SideSym) ds. operand_asks a ++ ds) (signed_is x) (all_signed xs)

  pub operand-further : (x : Operand) (more : List SignedOperand) → operand_sym context (od.Chain x more) row ≡ side_sym (record { demands = operand_asks (operand_sym context x row) ++ flat_map (λ y. operand_asks (operand_sym context (out-SignedOperand y).operand row)) more; scheme = s.Int })
  operand-further x more =
      operand-Chain context x more row
      ∙ ap (λ ds. side_sym (record { demands = operand_asks (operand_sym context x row) ++ ds; scheme = s.Int })) (all_signed more)

  pub agg-rows : (a : Agg) →
      agg_sym context a row ≡ behind (where_sym context (out-Agg a).gens (out-Agg a).cond row).demands (agg_found (out-Agg a).op (term_sym context (out-Agg a).term (where_sym context (out-Agg a).gens (out-Agg a).cond row).row) (other_sym context (out-Agg a).other row))
  agg-rows a =
      let b = out-Agg a in ap (λ (x : Agg). agg_sym context x row) (sym (roll-out-Agg a)) ∙ agg-of context b.op b.gens b.cond b.term b.other row

pub ruleset cond_rules = (cond-Truth, cond-Cmp, cond-Not, conds-And, conds-Or, cond-Quant, at_line-both, append_assoc)

pub ruleset side_rules = (operand-Term, operand-Agg, operand-further, at_line-both, append_assoc)

pub ruleset agg_rules = (agg-rows, at_line-both, append_assoc)
