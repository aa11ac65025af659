-- What terms, patterns and conditions demand, one layer at a time.
use Rattle.std.specs.Prelude.{ℕ, Bool, List, map, Option, Some, None}
use Rattle.std.specs.Option.{option_map}
use Rattle.std.proofs.Common.{◌≡◌, ◌∙◌, ap, sym}
use Rattle.da_values.specs.declared.value.Value.{Value}
use Rattle.da_lang.specs.declared.query.Agg.{Agg, roll-Agg}
use Rattle.da_lang.specs.declared.query.AggOp.{AggOp}
use Rattle.da_lang.specs.declared.query.Cond.{Cond, roll-Cond}
use Rattle.da_lang.specs.declared.query.Cond.TheVariants as co
use Rattle.da_lang.specs.declared.query.Cond.TheOpen.{Cond-F, Operand-F}
use Rattle.da_lang.specs.declared.query.Cond.TheFolds.{map-Cond, map-Operand, fold-roll-Cond, fold-roll-Operand, fold-roll-Agg, fold-roll-SignedOperand}
use Rattle.da_lang.specs.declared.query.Operand.{Operand, roll-Operand}
use Rattle.da_lang.specs.declared.query.Operand.TheVariants as od
use Rattle.da_lang.specs.declared.query.Pattern.{Pattern, roll-Pattern}
use Rattle.da_lang.specs.declared.query.Pattern.TheVariants as pa
use Rattle.da_lang.specs.declared.query.Pattern.TheOpen.{Pattern-F}
use Rattle.da_lang.specs.declared.query.Pattern.TheFolds.{map-Pattern, fold-roll-Pattern}
use Rattle.da_lang.specs.declared.query.RGen.{RGen}
use Rattle.da_lang.specs.declared.query.SignedOperand.{SignedOperand, roll-SignedOperand}
use Rattle.da_lang.specs.declared.query.Term.{Term, roll-Term}
use Rattle.da_lang.specs.declared.query.Term.TheVariants as te
use Rattle.da_lang.specs.declared.query.Term.TheOpen.{Term-F}
use Rattle.da_lang.specs.declared.query.Term.TheFolds.{map-Term, fold-roll-Term}
use Rattle.da_lang.specs.declared.tree.CmpOp.{CmpOp}
use Rattle.type_table.specs.declared.scheme.Scheme.{Scheme}
use Rattle.type_demands.specs.Syms.{Context}
use Rattle.type_demands.specs.Terms.{TermSym, PatternSym, term_sym, term_sym_step, pattern_sym, pattern_sym_step}
use Rattle.type_demands.specs.Conds.{CondSym, SidedSym, cond_sym, operand_sym, agg_sym, signed_sym, cond_sym_step, operand_sym_step, agg_sym_step, signed_sym_step}

module _ (context : Context) where
  term_layer : (x : Term-F Term) → term_sym context (roll-Term x) ≡ term_sym_step context (map-Term Term TermSym (term_sym context) x)
  unfolding term_sym
  term_layer x = fold-roll-Term TermSym (term_sym_step context) x

  pub term-Const : (value : Value) (row : List Scheme) → term_sym context (te.Const value) row ≡ term_sym_step context (Term-F.Const value) row
  term-Const value row = ap (λ (f : TermSym). f row) (ap (term_sym context) (sym (te.rolls-Const value)) ∙ term_layer (Term-F.Const value))

  pub term-Me : (row : List Scheme) → term_sym context te.Me row ≡ term_sym_step context Term-F.Me row
  term-Me row = ap (λ (f : TermSym). f row) (ap (term_sym context) (sym te.rolls-Me) ∙ term_layer Term-F.Me)

  pub term-Slot : (slot : ℕ) (row : List Scheme) → term_sym context (te.Slot slot) row ≡ term_sym_step context (Term-F.Slot slot) row
  term-Slot slot row = ap (λ (f : TermSym). f row) (ap (term_sym context) (sym (te.rolls-Slot slot)) ∙ term_layer (Term-F.Slot slot))

  pub term-Part : (part : ℕ) (row : List Scheme) → term_sym context (te.Part part) row ≡ term_sym_step context (Term-F.Part part) row
  term-Part part row = ap (λ (f : TermSym). f row) (ap (term_sym context) (sym (te.rolls-Part part)) ∙ term_layer (Term-F.Part part))

  pub term-Tuple : (parts : List Term) (row : List Scheme) → term_sym context (te.Tuple parts) row ≡ term_sym_step context (Term-F.Tuple (map (term_sym context) parts)) row
  term-Tuple parts row = ap (λ (f : TermSym). f row) (ap (term_sym context) (sym (te.rolls-Tuple parts)) ∙ term_layer (Term-F.Tuple parts))

  pub term-Foreign : (row : List Scheme) → term_sym context te.Foreign row ≡ term_sym_step context Term-F.Foreign row
  term-Foreign row = ap (λ (f : TermSym). f row) (ap (term_sym context) (sym te.rolls-Foreign) ∙ term_layer Term-F.Foreign)

  pattern_layer : (x : Pattern-F Pattern) → pattern_sym context (roll-Pattern x) ≡ pattern_sym_step context (map-Pattern Pattern PatternSym (pattern_sym context) x)
  unfolding pattern_sym
  pattern_layer x = fold-roll-Pattern PatternSym (pattern_sym_step context) x

  pub pattern-Any : (asked : Scheme) (row : List Scheme) → pattern_sym context pa.Any asked row ≡ pattern_sym_step context Pattern-F.Any asked row
  pattern-Any asked row = ap (λ (f : PatternSym). f asked row) (ap (pattern_sym context) (sym pa.rolls-Any) ∙ pattern_layer Pattern-F.Any)

  pub pattern-Bind : (asked : Scheme) (row : List Scheme) → pattern_sym context pa.Bind asked row ≡ pattern_sym_step context Pattern-F.Bind asked row
  pattern-Bind asked row = ap (λ (f : PatternSym). f asked row) (ap (pattern_sym context) (sym pa.rolls-Bind) ∙ pattern_layer Pattern-F.Bind)

  pub pattern-Const : (value : Value) (asked : Scheme) (row : List Scheme) → pattern_sym context (pa.Const value) asked row ≡ pattern_sym_step context (Pattern-F.Const value) asked row
  pattern-Const value asked row = ap (λ (f : PatternSym). f asked row) (ap (pattern_sym context) (sym (pa.rolls-Const value)) ∙ pattern_layer (Pattern-F.Const value))

  pub pattern-Me : (asked : Scheme) (row : List Scheme) → pattern_sym context pa.Me asked row ≡ pattern_sym_step context Pattern-F.Me asked row
  pattern-Me asked row = ap (λ (f : PatternSym). f asked row) (ap (pattern_sym context) (sym pa.rolls-Me) ∙ pattern_layer Pattern-F.Me)

  pub pattern-Equal : (x : Term) (asked : Scheme) (row : List Scheme) → pattern_sym context (pa.Equal x) asked row ≡ pattern_sym_step context (Pattern-F.Equal x) asked row
  pattern-Equal x asked row = ap (λ (f : PatternSym). f asked row) (ap (pattern_sym context) (sym (pa.rolls-Equal x)) ∙ pattern_layer (Pattern-F.Equal x))

  pub pattern-Tuple : (ps : List Pattern) (asked : Scheme) (row : List Scheme) → pattern_sym context (pa.Tuple ps) asked row ≡ pattern_sym_step context (Pattern-F.Tuple (map (pattern_sym context) ps)) asked row
  pattern-Tuple ps asked row = ap (λ (f : PatternSym). f asked row) (ap (pattern_sym context) (sym (pa.rolls-Tuple ps)) ∙ pattern_layer (Pattern-F.Tuple ps))

  cond_layer : (x : Cond-F Cond Operand Agg SignedOperand) → cond_sym context (roll-Cond x) ≡ cond_sym_step context (map-Cond Cond Operand Agg SignedOperand CondSym SidedSym SidedSym SidedSym (cond_sym context) (operand_sym context) (agg_sym context) (signed_sym context) x)
  unfolding cond_sym operand_sym agg_sym signed_sym
  cond_layer x = fold-roll-Cond CondSym SidedSym SidedSym SidedSym (cond_sym_step context) (operand_sym_step context) (agg_sym_step context) (signed_sym_step context) x

  pub cond-Truth : (x : Term) (row : List Scheme) → cond_sym context (co.Truth x) row ≡ cond_sym_step context (Cond-F.Truth x) row
  cond-Truth x row = ap (λ (f : CondSym). f row) (ap (cond_sym context) (sym (co.rolls-Truth x)) ∙ cond_layer (Cond-F.Truth x))

  pub cond-Cmp : (o : CmpOp) (x : Operand) (y : Operand) (row : List Scheme) → cond_sym context (co.Cmp o x y) row ≡ cond_sym_step context (Cond-F.Cmp o (operand_sym context x) (operand_sym context y)) row
  cond-Cmp o x y row = ap (λ (f : CondSym). f row) (ap (cond_sym context) (sym (co.rolls-Cmp o x y)) ∙ cond_layer (Cond-F.Cmp o x y))

  pub cond-Not : (x : Cond) (row : List Scheme) → cond_sym context (co.Not x) row ≡ cond_sym_step context (Cond-F.Not (cond_sym context x)) row
  cond-Not x row = ap (λ (f : CondSym). f row) (ap (cond_sym context) (sym (co.rolls-Not x)) ∙ cond_layer (Cond-F.Not x))

  pub cond-And : (xs : List Cond) (row : List Scheme) → cond_sym context (co.And xs) row ≡ cond_sym_step context (Cond-F.And (map (cond_sym context) xs)) row
  cond-And xs row = ap (λ (f : CondSym). f row) (ap (cond_sym context) (sym (co.rolls-And xs)) ∙ cond_layer (Cond-F.And xs))

  pub cond-Or : (xs : List Cond) (row : List Scheme) → cond_sym context (co.Or xs) row ≡ cond_sym_step context (Cond-F.Or (map (cond_sym context) xs)) row
  cond-Or xs row = ap (λ (f : CondSym). f row) (ap (cond_sym context) (sym (co.rolls-Or xs)) ∙ cond_layer (Cond-F.Or xs))

  pub cond-Quant : (each : Bool) (gens : List RGen) (cond : Option Cond) (row : List Scheme) → cond_sym context (co.Quant each gens cond) row ≡ cond_sym_step context (Cond-F.Quant each gens (option_map (cond_sym context) cond)) row
  cond-Quant each gens None row = ap (λ (f : CondSym). f row) (ap (cond_sym context) (sym (co.rolls-Quant each gens None)) ∙ cond_layer (Cond-F.Quant each gens None))
  cond-Quant each gens (Some o) row = ap (λ (f : CondSym). f row) (ap (cond_sym context) (sym (co.rolls-Quant each gens (Some o))) ∙ cond_layer (Cond-F.Quant each gens (Some o)))

  operand_layer : (x : Operand-F Cond Operand Agg SignedOperand) → operand_sym context (roll-Operand x) ≡ operand_sym_step context (map-Operand Cond Operand Agg SignedOperand CondSym SidedSym SidedSym SidedSym (cond_sym context) (operand_sym context) (agg_sym context) (signed_sym context) x)
  unfolding cond_sym operand_sym agg_sym signed_sym
  operand_layer x = fold-roll-Operand CondSym SidedSym SidedSym SidedSym (cond_sym_step context) (operand_sym_step context) (agg_sym_step context) (signed_sym_step context) x

  pub operand-Term : (x : Term) (row : List Scheme) → operand_sym context (od.Term x) row ≡ operand_sym_step context (Operand-F.Term x) row
  operand-Term x row = ap (λ (f : SidedSym). f row) (ap (operand_sym context) (sym (od.rolls-Term x)) ∙ operand_layer (Operand-F.Term x))

  pub operand-Agg : (a : Agg) (row : List Scheme) → operand_sym context (od.Agg a) row ≡ operand_sym_step context (Operand-F.Agg (agg_sym context a)) row
  operand-Agg a row = ap (λ (f : SidedSym). f row) (ap (operand_sym context) (sym (od.rolls-Agg a)) ∙ operand_layer (Operand-F.Agg a))

  pub operand-Chain : (x : Operand) (more : List SignedOperand) (row : List Scheme) → operand_sym context (od.Chain x more) row ≡ operand_sym_step context (Operand-F.Chain (operand_sym context x) (map (signed_sym context) more)) row
  operand-Chain x more row = ap (λ (f : SidedSym). f row) (ap (operand_sym context) (sym (od.rolls-Chain x more)) ∙ operand_layer (Operand-F.Chain x more))

  agg_layer : (o : AggOp) (gens : List RGen) (cond : Option Cond) (x : Term) (other : Option Term) → agg_sym context (roll-Agg (record { op = o; gens = gens; cond = cond; term = x; other = other })) ≡ agg_sym_step context (record { op = o; gens = gens; cond = option_map (cond_sym context) cond; term = x; other = other })
  unfolding cond_sym operand_sym agg_sym signed_sym
  agg_layer o gens None x other = fold-roll-Agg CondSym SidedSym SidedSym SidedSym (cond_sym_step context) (operand_sym_step context) (agg_sym_step context) (signed_sym_step context) (record { op = o; gens = gens; cond = None; term = x; other = other })
  agg_layer o gens (Some c) x other = fold-roll-Agg CondSym SidedSym SidedSym SidedSym (cond_sym_step context) (operand_sym_step context) (agg_sym_step context) (signed_sym_step context) (record { op = o; gens = gens; cond = Some c; term = x; other = other })

  pub agg-of : (o : AggOp) (gens : List RGen) (cond : Option Cond) (x : Term) (other : Option Term) (row : List Scheme) → agg_sym context (roll-Agg (record { op = o; gens = gens; cond = cond; term = x; other = other })) row ≡ agg_sym_step context (record { op = o; gens = gens; cond = option_map (cond_sym context) cond; term = x; other = other }) row
  agg-of o gens cond x other row = ap (λ (f : SidedSym). f row) (agg_layer o gens cond x other)

  pub signed-of : (minus : Bool) (x : Operand) → signed_sym context (roll-SignedOperand (record { minus = minus; operand = x })) ≡ operand_sym context x
  unfolding cond_sym operand_sym agg_sym signed_sym
  signed-of minus x = fold-roll-SignedOperand CondSym SidedSym SidedSym SidedSym (cond_sym_step context) (operand_sym_step context) (agg_sym_step context) (signed_sym_step context) (record { minus = minus; operand = x })
