-- Renamed terms and patterns, the nodes of conditions, and how they are spelled, one equation for each form.
use Rattle.std.specs.Prelude.{◌≡◌, ℕ, Bool, List, [], ◌∷◌, map, Option, Some, None}
use Rattle.std.proofs.Common.{ap, sym, ◌∙◌}
use Rattle.da_values.specs.declared.val.Val.{Val}
use Rattle.da_values.specs.declared.val.Val.TheVariants as val
use Rattle.da_values.specs.declared.value.Value.{Value}
use Rattle.da_lang.specs.declared.query.Agg.{Agg, roll-Agg}
use Rattle.da_lang.specs.declared.query.AggOp.{AggOp}
use Rattle.da_lang.specs.declared.query.Cond.{Cond, roll-Cond}
use Rattle.da_lang.specs.declared.query.Cond.TheVariants as cond
use Rattle.da_lang.specs.declared.query.Cond.TheOpen.{Cond-F, Operand-F, Agg-F, SignedOperand-F}
use Rattle.da_lang.specs.declared.query.Cond.TheFolds.{fold-Operand, fold-SignedOperand, fold-roll-Cond, fold-roll-Operand, fold-roll-Agg, fold-roll-SignedOperand, map-Cond, map-Operand, map-Agg, map-SignedOperand}
use Rattle.da_lang.specs.declared.query.Node.{Node}
use Rattle.da_lang.specs.declared.query.Operand.{Operand, roll-Operand}
use Rattle.da_lang.specs.declared.query.Operand.TheVariants as operand
use Rattle.da_lang.specs.declared.query.Pattern.{Pattern}
use Rattle.da_lang.specs.declared.query.Pattern.TheVariants as pattern
use Rattle.da_lang.specs.declared.query.Pattern.TheOpen as pattern_layer
use Rattle.da_lang.specs.declared.query.Pattern.TheFolds.{fold-roll-Pattern}
use Rattle.da_lang.specs.declared.query.RGen.{RGen}
use Rattle.da_lang.specs.declared.query.SignedOperand.{SignedOperand, roll-SignedOperand}
use Rattle.da_lang.specs.declared.query.Term.{Term}
use Rattle.da_lang.specs.declared.query.Term.TheVariants as term
use Rattle.da_lang.specs.declared.query.Term.TheOpen as term_layer
use Rattle.da_lang.specs.declared.query.Term.TheFolds.{fold-roll-Term}
use Rattle.da_lang.specs.declared.tree.CmpOp.{CmpOp}
use Rattle.da_lang.specs.Live.{tagged, term_spelled}
use Rattle.query_plan.specs.Plans.{Place, Norm, Binding, rename_step, rename, rename_pattern_step, rename_pattern, cond_step, operand_step, agg_step, signed_step, norm, norm_if, operand_bound, agg_bound, signed_bound}
use Rattle.query_plan.specs.Spelled.{number, cmp_op_number, cond_spelled_step, operand_spelled_step, agg_spelled_step, signed_spelled_step, cond_spelled}

module _ (f : ℕ → Term) where
  pub rename-Const : (c : Value) → rename f (term.Const c) ≡ term.Const c
  rename-Const c = ap (rename f) (sym (term.rolls-Const c)) ∙ fold-roll-Term Term (rename_step f) (term_layer.Const c)

  pub rename-Me : rename f term.Me ≡ term.Me
  rename-Me = ap (rename f) (sym term.rolls-Me) ∙ fold-roll-Term Term (rename_step f) term_layer.Me

  pub rename-Slot : (s : ℕ) → rename f (term.Slot s) ≡ term.Slot s
  rename-Slot s = ap (rename f) (sym (term.rolls-Slot s)) ∙ fold-roll-Term Term (rename_step f) (term_layer.Slot s)

  pub rename-Part : (k : ℕ) → rename f (term.Part k) ≡ f k
  rename-Part k = ap (rename f) (sym (term.rolls-Part k)) ∙ fold-roll-Term Term (rename_step f) (term_layer.Part k)

  pub rename-Tuple : (parts : List Term) → rename f (term.Tuple parts) ≡ term.Tuple (map (rename f) parts)
  rename-Tuple parts = ap (rename f) (sym (term.rolls-Tuple parts)) ∙ fold-roll-Term Term (rename_step f) (term_layer.Tuple parts)

  pub rename-Foreign : rename f term.Foreign ≡ term.Foreign
  rename-Foreign = ap (rename f) (sym term.rolls-Foreign) ∙ fold-roll-Term Term (rename_step f) term_layer.Foreign

  pub renamed-Any : rename_pattern f pattern.Any ≡ pattern.Any
  renamed-Any = ap (rename_pattern f) (sym pattern.rolls-Any) ∙ fold-roll-Pattern Pattern (rename_pattern_step f) pattern_layer.Any

  pub renamed-Bind : rename_pattern f pattern.Bind ≡ pattern.Bind
  renamed-Bind = ap (rename_pattern f) (sym pattern.rolls-Bind) ∙ fold-roll-Pattern Pattern (rename_pattern_step f) pattern_layer.Bind

  pub renamed-Const : (c : Value) → rename_pattern f (pattern.Const c) ≡ pattern.Const c
  renamed-Const c = ap (rename_pattern f) (sym (pattern.rolls-Const c)) ∙ fold-roll-Pattern Pattern (rename_pattern_step f) (pattern_layer.Const c)

  pub renamed-Me : rename_pattern f pattern.Me ≡ pattern.Me
  renamed-Me = ap (rename_pattern f) (sym pattern.rolls-Me) ∙ fold-roll-Pattern Pattern (rename_pattern_step f) pattern_layer.Me

  pub renamed-Equal : (t : Term) → rename_pattern f (pattern.Equal t) ≡ pattern.Equal (rename f t)
  renamed-Equal t = ap (rename_pattern f) (sym (pattern.rolls-Equal t)) ∙ fold-roll-Pattern Pattern (rename_pattern_step f) (pattern_layer.Equal t)

  pub renamed-Tuple : (parts : List Pattern) → rename_pattern f (pattern.Tuple parts) ≡ pattern.Tuple (map (rename_pattern f) parts)
  renamed-Tuple parts = ap (rename_pattern f) (sym (pattern.rolls-Tuple parts)) ∙ fold-roll-Pattern Pattern (rename_pattern_step f) (pattern_layer.Tuple parts)

pub ruleset renaming = (rename-Const, rename-Me, rename-Slot, rename-Part, rename-Tuple, rename-Foreign, renamed-Any, renamed-Bind, renamed-Const, renamed-Me, renamed-Equal, renamed-Tuple)

-- Conditions, in terms of their parts.

abbrev CondLayer : Type 0
CondLayer = Cond-F Cond Operand Agg SignedOperand

pub norm-rolled : (layer : CondLayer) → norm (roll-Cond layer) ≡ cond_step (map-Cond Cond Operand Agg SignedOperand Norm (Binding Operand) (Binding Operand) (Binding SignedOperand) norm operand_bound agg_bound signed_bound layer)
norm-rolled layer = fold-roll-Cond Norm (Binding Operand) (Binding Operand) (Binding SignedOperand) cond_step operand_step agg_step signed_step layer

pub operand-rolled : (layer : Operand-F Cond Operand Agg SignedOperand) → operand_bound (roll-Operand layer) ≡ operand_step (map-Operand Cond Operand Agg SignedOperand Norm (Binding Operand) (Binding Operand) (Binding SignedOperand) norm operand_bound agg_bound signed_bound layer)
operand-rolled layer = fold-roll-Operand Norm (Binding Operand) (Binding Operand) (Binding SignedOperand) cond_step operand_step agg_step signed_step layer

pub agg-rolled : (layer : Agg-F Cond Operand Agg SignedOperand) → agg_bound (roll-Agg layer) ≡ agg_step (map-Agg Cond Operand Agg SignedOperand Norm (Binding Operand) (Binding Operand) (Binding SignedOperand) norm operand_bound agg_bound signed_bound layer)
agg-rolled layer = fold-roll-Agg Norm (Binding Operand) (Binding Operand) (Binding SignedOperand) cond_step operand_step agg_step signed_step layer

pub signed-rolled : (layer : SignedOperand-F Cond Operand Agg SignedOperand) → signed_bound (roll-SignedOperand layer) ≡ signed_step (map-SignedOperand Cond Operand Agg SignedOperand Norm (Binding Operand) (Binding Operand) (Binding SignedOperand) norm operand_bound agg_bound signed_bound layer)
signed-rolled layer = fold-roll-SignedOperand Norm (Binding Operand) (Binding Operand) (Binding SignedOperand) cond_step operand_step agg_step signed_step layer

pub norm-Truth : (t : Term) (at : Place) (nodes : List Node) → norm (cond.Truth t) at nodes ≡ cond_step (Cond-F.Truth t) at nodes
norm-Truth t at nodes = ap (λ (f : Norm). f at nodes) (ap norm (sym (cond.rolls-Truth t)) ∙ norm-rolled (Cond-F.Truth t))

pub norm-Cmp : (op : CmpOp) (a b : Operand) (at : Place) (nodes : List Node) → norm (cond.Cmp op a b) at nodes ≡ cond_step (Cond-F.Cmp op (operand_bound a) (operand_bound b)) at nodes
norm-Cmp op a b at nodes = ap (λ (f : Norm). f at nodes) (ap norm (sym (cond.rolls-Cmp op a b)) ∙ norm-rolled (Cond-F.Cmp op a b))

pub norm-Not : (b : Cond) (at : Place) (nodes : List Node) → norm (cond.Not b) at nodes ≡ cond_step (Cond-F.Not (norm b)) at nodes
norm-Not b at nodes = ap (λ (f : Norm). f at nodes) (ap norm (sym (cond.rolls-Not b)) ∙ norm-rolled (Cond-F.Not b))

pub norm-And : (bs : List Cond) (at : Place) (nodes : List Node) → norm (cond.And bs) at nodes ≡ cond_step (Cond-F.And (map norm bs)) at nodes
norm-And bs at nodes = ap (λ (f : Norm). f at nodes) (ap norm (sym (cond.rolls-And bs)) ∙ norm-rolled (Cond-F.And bs))

pub norm-Or : (bs : List Cond) (at : Place) (nodes : List Node) → norm (cond.Or bs) at nodes ≡ cond_step (Cond-F.Or (map norm bs)) at nodes
norm-Or bs at nodes = ap (λ (f : Norm). f at nodes) (ap norm (sym (cond.rolls-Or bs)) ∙ norm-rolled (Cond-F.Or bs))

pub norm-Quant : (each : Bool) (gens : List RGen) (b : Option Cond) (at : Place) (nodes : List Node) → norm (cond.Quant each gens b) at nodes ≡ cond_step (Cond-F.Quant each gens (norm_if b)) at nodes
norm-Quant each gens None at nodes = ap (λ (f : Norm). f at nodes) (ap norm (sym (cond.rolls-Quant each gens None)) ∙ norm-rolled (Cond-F.Quant each gens None))
norm-Quant each gens (Some b) at nodes = ap (λ (f : Norm). f at nodes) (ap norm (sym (cond.rolls-Quant each gens (Some b))) ∙ norm-rolled (Cond-F.Quant each gens (Some b)))

pub bound-Term : (t : Term) (at : Place) (nodes : List Node) → operand_bound (operand.Term t) at nodes ≡ operand_step (Operand-F.Term t) at nodes
bound-Term t at nodes = ap (λ (f : Binding Operand). f at nodes) (ap operand_bound (sym (operand.rolls-Term t)) ∙ operand-rolled (Operand-F.Term t))

pub bound-Agg : (a : Agg) (at : Place) (nodes : List Node) → operand_bound (operand.Agg a) at nodes ≡ operand_step (Operand-F.Agg (agg_bound a)) at nodes
bound-Agg a at nodes = ap (λ (f : Binding Operand). f at nodes) (ap operand_bound (sym (operand.rolls-Agg a)) ∙ operand-rolled (Operand-F.Agg a))

pub bound-Chain : (a : Operand) (more : List SignedOperand) (at : Place) (nodes : List Node) → operand_bound (operand.Chain a more) at nodes ≡ operand_step (Operand-F.Chain (operand_bound a) (map signed_bound more)) at nodes
bound-Chain a more at nodes = ap (λ (f : Binding Operand). f at nodes) (ap operand_bound (sym (operand.rolls-Chain a more)) ∙ operand-rolled (Operand-F.Chain a more))

pub bound-agg : (op : AggOp) (gens : List RGen) (b : Option Cond) (t : Term) (other : Option Term) (at : Place) (nodes : List Node) → agg_bound (roll-Agg (record { op = op; gens = gens; cond = b; term = t; other = other })) at nodes ≡ agg_step (record { op = op; gens = gens; cond = norm_if b; term = t; other = other }) at nodes
bound-agg op gens None t other at nodes = ap (λ (f : Binding Operand). f at nodes) (agg-rolled (record { op = op; gens = gens; cond = None; term = t; other = other }))
bound-agg op gens (Some b) t other at nodes = ap (λ (f : Binding Operand). f at nodes) (agg-rolled (record { op = op; gens = gens; cond = Some b; term = t; other = other }))

pub bound-signed : (minus : Bool) (a : Operand) (at : Place) (nodes : List Node) → signed_bound (roll-SignedOperand (record { minus = minus; operand = a })) at nodes ≡ signed_step (record { minus = minus; operand = operand_bound a }) at nodes
bound-signed minus a at nodes = ap (λ (f : Binding SignedOperand). f at nodes) (signed-rolled (record { minus = minus; operand = a }))

pub ruleset planning = (renaming, norm-Truth, norm-Cmp, norm-Not, norm-And, norm-Or, norm-Quant, bound-Term, bound-Agg, bound-Chain, bound-agg, bound-signed)

-- Flat conditions as values.

abbrev operand_spelled : Operand → Val
operand_spelled = fold-Operand Val Val Val Val cond_spelled_step operand_spelled_step agg_spelled_step signed_spelled_step

abbrev signed_spelled : SignedOperand → Val
signed_spelled = fold-SignedOperand Val Val Val Val cond_spelled_step operand_spelled_step agg_spelled_step signed_spelled_step

pub spelled-Truth : (t : Term) → cond_spelled (cond.Truth t) ≡ tagged 0 (term_spelled t ∷ [])
spelled-Truth t = ap cond_spelled (sym (cond.rolls-Truth t)) ∙ fold-roll-Cond Val Val Val Val cond_spelled_step operand_spelled_step agg_spelled_step signed_spelled_step (Cond-F.Truth t)

pub spelled-Cmp : (op : CmpOp) (a b : Operand) → cond_spelled (cond.Cmp op a b) ≡ tagged 1 (number (cmp_op_number op) ∷ operand_spelled a ∷ operand_spelled b ∷ [])
spelled-Cmp op a b = ap cond_spelled (sym (cond.rolls-Cmp op a b)) ∙ fold-roll-Cond Val Val Val Val cond_spelled_step operand_spelled_step agg_spelled_step signed_spelled_step (Cond-F.Cmp op a b)

pub spelled-Term : (t : Term) → operand_spelled (operand.Term t) ≡ tagged 0 (term_spelled t ∷ [])
spelled-Term t = ap operand_spelled (sym (operand.rolls-Term t)) ∙ fold-roll-Operand Val Val Val Val cond_spelled_step operand_spelled_step agg_spelled_step signed_spelled_step (Operand-F.Term t)

pub spelled-Chain : (a : Operand) (more : List SignedOperand) → operand_spelled (operand.Chain a more) ≡ tagged 2 (operand_spelled a ∷ map signed_spelled more)
spelled-Chain a more = ap operand_spelled (sym (operand.rolls-Chain a more)) ∙ fold-roll-Operand Val Val Val Val cond_spelled_step operand_spelled_step agg_spelled_step signed_spelled_step (Operand-F.Chain a more)

pub spelled-signed : (minus : Bool) (a : Operand) → signed_spelled (roll-SignedOperand (record { minus = minus; operand = a })) ≡ val.Tuple (val.Bool minus ∷ operand_spelled a ∷ [])
spelled-signed minus a = fold-roll-SignedOperand Val Val Val Val cond_spelled_step operand_spelled_step agg_spelled_step signed_spelled_step (record { minus = minus; operand = a })

pub ruleset spelling = (spelled-Truth, spelled-Cmp, spelled-Term, spelled-Chain, spelled-signed)
