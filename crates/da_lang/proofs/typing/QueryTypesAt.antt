-- Types of terms, patterns and conditions, one layer at a time.
use Rattle.std.specs.Prelude.{ℕ, Bool, List, map, Option, Some, None}
use Rattle.std.specs.Option.{option_map}
use Rattle.std.proofs.Common.{◌≡◌, ◌∙◌, ap, sym}
use Rattle.da_values.specs.declared.value.Value.{Value}
use Rattle.da_lang.specs.declared.query.Agg.{Agg, roll-Agg}
use Rattle.da_lang.specs.declared.query.AggOp.{AggOp}
use Rattle.da_lang.specs.declared.query.Cond.{Cond, roll-Cond}
use Rattle.da_lang.specs.declared.query.Cond.TheVariants as co
use Rattle.da_lang.specs.declared.query.Cond.TheOpen.{Cond-F, Operand-F}
use Rattle.da_lang.specs.declared.query.Cond.TheFolds.{map-Cond, map-Operand, fold-roll-Cond, fold-roll-Operand, fold-roll-Agg, fold-roll-SignedOperand}
use Rattle.da_lang.specs.declared.query.Operand.{Operand, roll-Operand}
use Rattle.da_lang.specs.declared.query.Operand.TheVariants as od
use Rattle.da_lang.specs.declared.query.Pattern.{Pattern, roll-Pattern}
use Rattle.da_lang.specs.declared.query.Pattern.TheVariants as pa
use Rattle.da_lang.specs.declared.query.Pattern.TheOpen.{Pattern-F}
use Rattle.da_lang.specs.declared.query.Pattern.TheFolds.{map-Pattern, fold-roll-Pattern}
use Rattle.da_lang.specs.declared.query.RGen.{RGen}
use Rattle.da_lang.specs.declared.query.SignedOperand.{SignedOperand, roll-SignedOperand}
use Rattle.da_lang.specs.declared.query.Term.{Term, roll-Term}
use Rattle.da_lang.specs.declared.query.Term.TheVariants as te
use Rattle.da_lang.specs.declared.query.Term.TheOpen.{Term-F}
use Rattle.da_lang.specs.declared.query.Term.TheFolds.{map-Term, fold-roll-Term}
use Rattle.da_lang.specs.declared.tree.CmpOp.{CmpOp}
use Rattle.da_lang.specs.declared.ty.Ty.{Ty}
use Rattle.da_lang.specs.QueryTypes.{Known, TypeExtension, Holds, Sided, term_type, term_step, pattern_row, pattern_step, cond_holds, operand_side, agg_side, signed_side, cond_step, operand_step, agg_step, signed_step}

term_type_layer : (known : Known) (x : Term-F Term) → (term_type known) (roll-Term x) ≡ (term_step known) (map-Term Term (List Ty → Option Ty) (term_type known) x)
unfolding term_type
term_type_layer known x = fold-roll-Term (List Ty → Option Ty) (term_step known) x

pub term_type-Const : (known : Known) (value : Value) → (term_type known) (te.Const value) ≡ (term_step known) (Term-F.Const value)
term_type-Const known value = ap ((term_type known)) (sym (te.rolls-Const value)) ∙ term_type_layer known (Term-F.Const value)

pub term_type_at-Const : (known : Known) (value : Value) (row : List Ty) → (term_type known) (te.Const value) row ≡ (term_step known) (Term-F.Const value) row
term_type_at-Const known value row = ap (λ (f : List Ty → Option Ty). f row) (term_type-Const known value)

pub term_type-Me : (known : Known) → (term_type known) te.Me ≡ (term_step known) Term-F.Me
term_type-Me known = ap ((term_type known)) (sym te.rolls-Me) ∙ term_type_layer known Term-F.Me

pub term_type_at-Me : (known : Known) (row : List Ty) → (term_type known) te.Me row ≡ (term_step known) Term-F.Me row
term_type_at-Me known row = ap (λ (f : List Ty → Option Ty). f row) (term_type-Me known)

pub term_type-Slot : (known : Known) (slot : ℕ) → (term_type known) (te.Slot slot) ≡ (term_step known) (Term-F.Slot slot)
term_type-Slot known slot = ap ((term_type known)) (sym (te.rolls-Slot slot)) ∙ term_type_layer known (Term-F.Slot slot)

pub term_type_at-Slot : (known : Known) (slot : ℕ) (row : List Ty) → (term_type known) (te.Slot slot) row ≡ (term_step known) (Term-F.Slot slot) row
term_type_at-Slot known slot row = ap (λ (f : List Ty → Option Ty). f row) (term_type-Slot known slot)

pub term_type-Part : (known : Known) (part : ℕ) → (term_type known) (te.Part part) ≡ (term_step known) (Term-F.Part part)
term_type-Part known part = ap ((term_type known)) (sym (te.rolls-Part part)) ∙ term_type_layer known (Term-F.Part part)

pub term_type_at-Part : (known : Known) (part : ℕ) (row : List Ty) → (term_type known) (te.Part part) row ≡ (term_step known) (Term-F.Part part) row
term_type_at-Part known part row = ap (λ (f : List Ty → Option Ty). f row) (term_type-Part known part)

pub term_type-Tuple : (known : Known) (parts : List Term) → (term_type known) (te.Tuple parts) ≡ (term_step known) (Term-F.Tuple (map (term_type known) parts))
term_type-Tuple known parts = ap ((term_type known)) (sym (te.rolls-Tuple parts)) ∙ term_type_layer known (Term-F.Tuple parts)

pub term_type_at-Tuple : (known : Known) (parts : List Term) (row : List Ty) → (term_type known) (te.Tuple parts) row ≡ (term_step known) (Term-F.Tuple (map (term_type known) parts)) row
term_type_at-Tuple known parts row = ap (λ (f : List Ty → Option Ty). f row) (term_type-Tuple known parts)

pub term_type-Foreign : (known : Known) → (term_type known) te.Foreign ≡ (term_step known) Term-F.Foreign
term_type-Foreign known = ap ((term_type known)) (sym te.rolls-Foreign) ∙ term_type_layer known Term-F.Foreign

pub term_type_at-Foreign : (known : Known) (row : List Ty) → (term_type known) te.Foreign row ≡ (term_step known) Term-F.Foreign row
term_type_at-Foreign known row = ap (λ (f : List Ty → Option Ty). f row) (term_type-Foreign known)

pub ruleset typing_terms = (term_type-Const, term_type_at-Const, term_type-Me, term_type_at-Me, term_type-Slot, term_type_at-Slot, term_type-Part, term_type_at-Part, term_type-Tuple, term_type_at-Tuple, term_type-Foreign, term_type_at-Foreign)

pattern_row_layer : (known : Known) (x : Pattern-F Pattern) → (pattern_row known) (roll-Pattern x) ≡ (pattern_step known) (map-Pattern Pattern TypeExtension (pattern_row known) x)
unfolding pattern_row
pattern_row_layer known x = fold-roll-Pattern TypeExtension (pattern_step known) x

pub pattern_row-Any : (known : Known) → (pattern_row known) pa.Any ≡ (pattern_step known) Pattern-F.Any
pattern_row-Any known = ap ((pattern_row known)) (sym pa.rolls-Any) ∙ pattern_row_layer known Pattern-F.Any

pub pattern_row_at-Any : (known : Known) (asked : Ty) (row : List Ty) → (pattern_row known) pa.Any asked row ≡ (pattern_step known) Pattern-F.Any asked row
pattern_row_at-Any known asked row = ap (λ (f : TypeExtension). f asked row) (pattern_row-Any known)

pub pattern_row-Bind : (known : Known) → (pattern_row known) pa.Bind ≡ (pattern_step known) Pattern-F.Bind
pattern_row-Bind known = ap ((pattern_row known)) (sym pa.rolls-Bind) ∙ pattern_row_layer known Pattern-F.Bind

pub pattern_row_at-Bind : (known : Known) (asked : Ty) (row : List Ty) → (pattern_row known) pa.Bind asked row ≡ (pattern_step known) Pattern-F.Bind asked row
pattern_row_at-Bind known asked row = ap (λ (f : TypeExtension). f asked row) (pattern_row-Bind known)

pub pattern_row-Const : (known : Known) (value : Value) → (pattern_row known) (pa.Const value) ≡ (pattern_step known) (Pattern-F.Const value)
pattern_row-Const known value = ap ((pattern_row known)) (sym (pa.rolls-Const value)) ∙ pattern_row_layer known (Pattern-F.Const value)

pub pattern_row_at-Const : (known : Known) (value : Value) (asked : Ty) (row : List Ty) → (pattern_row known) (pa.Const value) asked row ≡ (pattern_step known) (Pattern-F.Const value) asked row
pattern_row_at-Const known value asked row = ap (λ (f : TypeExtension). f asked row) (pattern_row-Const known value)

pub pattern_row-Me : (known : Known) → (pattern_row known) pa.Me ≡ (pattern_step known) Pattern-F.Me
pattern_row-Me known = ap ((pattern_row known)) (sym pa.rolls-Me) ∙ pattern_row_layer known Pattern-F.Me

pub pattern_row_at-Me : (known : Known) (asked : Ty) (row : List Ty) → (pattern_row known) pa.Me asked row ≡ (pattern_step known) Pattern-F.Me asked row
pattern_row_at-Me known asked row = ap (λ (f : TypeExtension). f asked row) (pattern_row-Me known)

pub pattern_row-Equal : (known : Known) (x : Term) → (pattern_row known) (pa.Equal x) ≡ (pattern_step known) (Pattern-F.Equal x)
pattern_row-Equal known x = ap ((pattern_row known)) (sym (pa.rolls-Equal x)) ∙ pattern_row_layer known (Pattern-F.Equal x)

pub pattern_row_at-Equal : (known : Known) (x : Term) (asked : Ty) (row : List Ty) → (pattern_row known) (pa.Equal x) asked row ≡ (pattern_step known) (Pattern-F.Equal x) asked row
pattern_row_at-Equal known x asked row = ap (λ (f : TypeExtension). f asked row) (pattern_row-Equal known x)

pub pattern_row-Tuple : (known : Known) (ps : List Pattern) → (pattern_row known) (pa.Tuple ps) ≡ (pattern_step known) (Pattern-F.Tuple (map (pattern_row known) ps))
pattern_row-Tuple known ps = ap ((pattern_row known)) (sym (pa.rolls-Tuple ps)) ∙ pattern_row_layer known (Pattern-F.Tuple ps)

pub pattern_row_at-Tuple : (known : Known) (ps : List Pattern) (asked : Ty) (row : List Ty) → (pattern_row known) (pa.Tuple ps) asked row ≡ (pattern_step known) (Pattern-F.Tuple (map (pattern_row known) ps)) asked row
pattern_row_at-Tuple known ps asked row = ap (λ (f : TypeExtension). f asked row) (pattern_row-Tuple known ps)

pub ruleset typing_patterns = (pattern_row-Any, pattern_row_at-Any, pattern_row-Bind, pattern_row_at-Bind, pattern_row-Const, pattern_row_at-Const, pattern_row-Me, pattern_row_at-Me, pattern_row-Equal, pattern_row_at-Equal, pattern_row-Tuple, pattern_row_at-Tuple)

cond_holds_layer : (known : Known) (x : Cond-F Cond Operand Agg SignedOperand) → (cond_holds known) (roll-Cond x) ≡ (cond_step known) (map-Cond Cond Operand Agg SignedOperand Holds Sided Sided Sided (cond_holds known) (operand_side known) (agg_side known) (signed_side known) x)
unfolding cond_holds operand_side agg_side signed_side
cond_holds_layer known x = fold-roll-Cond Holds Sided Sided Sided (cond_step known) (operand_step known) (agg_step known) (signed_step known) x

pub cond_holds-Truth : (known : Known) (x : Term) → (cond_holds known) (co.Truth x) ≡ (cond_step known) (Cond-F.Truth x)
cond_holds-Truth known x = ap ((cond_holds known)) (sym (co.rolls-Truth x)) ∙ cond_holds_layer known (Cond-F.Truth x)

pub cond_holds_at-Truth : (known : Known) (x : Term) (row : List Ty) → (cond_holds known) (co.Truth x) row ≡ (cond_step known) (Cond-F.Truth x) row
cond_holds_at-Truth known x row = ap (λ (f : Holds). f row) (cond_holds-Truth known x)

pub cond_holds-Cmp : (known : Known) (o : CmpOp) (x : Operand) (y : Operand) → (cond_holds known) (co.Cmp o x y) ≡ (cond_step known) (Cond-F.Cmp o ((operand_side known) x) ((operand_side known) y))
cond_holds-Cmp known o x y = ap ((cond_holds known)) (sym (co.rolls-Cmp o x y)) ∙ cond_holds_layer known (Cond-F.Cmp o x y)

pub cond_holds_at-Cmp : (known : Known) (o : CmpOp) (x : Operand) (y : Operand) (row : List Ty) → (cond_holds known) (co.Cmp o x y) row ≡ (cond_step known) (Cond-F.Cmp o ((operand_side known) x) ((operand_side known) y)) row
cond_holds_at-Cmp known o x y row = ap (λ (f : Holds). f row) (cond_holds-Cmp known o x y)

pub cond_holds-Not : (known : Known) (x : Cond) → (cond_holds known) (co.Not x) ≡ (cond_step known) (Cond-F.Not ((cond_holds known) x))
cond_holds-Not known x = ap ((cond_holds known)) (sym (co.rolls-Not x)) ∙ cond_holds_layer known (Cond-F.Not x)

pub cond_holds_at-Not : (known : Known) (x : Cond) (row : List Ty) → (cond_holds known) (co.Not x) row ≡ (cond_step known) (Cond-F.Not ((cond_holds known) x)) row
cond_holds_at-Not known x row = ap (λ (f : Holds). f row) (cond_holds-Not known x)

pub cond_holds-And : (known : Known) (xs : List Cond) → (cond_holds known) (co.And xs) ≡ (cond_step known) (Cond-F.And (map (cond_holds known) xs))
cond_holds-And known xs = ap ((cond_holds known)) (sym (co.rolls-And xs)) ∙ cond_holds_layer known (Cond-F.And xs)

pub cond_holds_at-And : (known : Known) (xs : List Cond) (row : List Ty) → (cond_holds known) (co.And xs) row ≡ (cond_step known) (Cond-F.And (map (cond_holds known) xs)) row
cond_holds_at-And known xs row = ap (λ (f : Holds). f row) (cond_holds-And known xs)

pub cond_holds-Or : (known : Known) (xs : List Cond) → (cond_holds known) (co.Or xs) ≡ (cond_step known) (Cond-F.Or (map (cond_holds known) xs))
cond_holds-Or known xs = ap ((cond_holds known)) (sym (co.rolls-Or xs)) ∙ cond_holds_layer known (Cond-F.Or xs)

pub cond_holds_at-Or : (known : Known) (xs : List Cond) (row : List Ty) → (cond_holds known) (co.Or xs) row ≡ (cond_step known) (Cond-F.Or (map (cond_holds known) xs)) row
cond_holds_at-Or known xs row = ap (λ (f : Holds). f row) (cond_holds-Or known xs)

pub cond_holds-Quant : (known : Known) (each : Bool) (gens : List RGen) (cond : Option Cond) → (cond_holds known) (co.Quant each gens cond) ≡ (cond_step known) (Cond-F.Quant each gens (option_map (cond_holds known) cond))
cond_holds-Quant known each gens None = ap ((cond_holds known)) (sym (co.rolls-Quant each gens None)) ∙ cond_holds_layer known (Cond-F.Quant each gens None)
cond_holds-Quant known each gens (Some o) = ap ((cond_holds known)) (sym (co.rolls-Quant each gens (Some o))) ∙ cond_holds_layer known (Cond-F.Quant each gens (Some o))

pub cond_holds_at-Quant : (known : Known) (each : Bool) (gens : List RGen) (cond : Option Cond) (row : List Ty) → (cond_holds known) (co.Quant each gens cond) row ≡ (cond_step known) (Cond-F.Quant each gens (option_map (cond_holds known) cond)) row
cond_holds_at-Quant known each gens cond row = ap (λ (f : Holds). f row) (cond_holds-Quant known each gens cond)

operand_side_layer : (known : Known) (x : Operand-F Cond Operand Agg SignedOperand) → (operand_side known) (roll-Operand x) ≡ (operand_step known) (map-Operand Cond Operand Agg SignedOperand Holds Sided Sided Sided (cond_holds known) (operand_side known) (agg_side known) (signed_side known) x)
unfolding cond_holds operand_side agg_side signed_side
operand_side_layer known x = fold-roll-Operand Holds Sided Sided Sided (cond_step known) (operand_step known) (agg_step known) (signed_step known) x

pub operand_side-Term : (known : Known) (x : Term) → (operand_side known) (od.Term x) ≡ (operand_step known) (Operand-F.Term x)
operand_side-Term known x = ap ((operand_side known)) (sym (od.rolls-Term x)) ∙ operand_side_layer known (Operand-F.Term x)

pub operand_side_at-Term : (known : Known) (x : Term) (row : List Ty) → (operand_side known) (od.Term x) row ≡ (operand_step known) (Operand-F.Term x) row
operand_side_at-Term known x row = ap (λ (f : Sided). f row) (operand_side-Term known x)

pub operand_side-Agg : (known : Known) (a : Agg) → (operand_side known) (od.Agg a) ≡ (operand_step known) (Operand-F.Agg ((agg_side known) a))
operand_side-Agg known a = ap ((operand_side known)) (sym (od.rolls-Agg a)) ∙ operand_side_layer known (Operand-F.Agg a)

pub operand_side_at-Agg : (known : Known) (a : Agg) (row : List Ty) → (operand_side known) (od.Agg a) row ≡ (operand_step known) (Operand-F.Agg ((agg_side known) a)) row
operand_side_at-Agg known a row = ap (λ (f : Sided). f row) (operand_side-Agg known a)

pub operand_side-Chain : (known : Known) (x : Operand) (more : List SignedOperand) → (operand_side known) (od.Chain x more) ≡ (operand_step known) (Operand-F.Chain ((operand_side known) x) (map (signed_side known) more))
operand_side-Chain known x more = ap ((operand_side known)) (sym (od.rolls-Chain x more)) ∙ operand_side_layer known (Operand-F.Chain x more)

pub operand_side_at-Chain : (known : Known) (x : Operand) (more : List SignedOperand) (row : List Ty) → (operand_side known) (od.Chain x more) row ≡ (operand_step known) (Operand-F.Chain ((operand_side known) x) (map (signed_side known) more)) row
operand_side_at-Chain known x more row = ap (λ (f : Sided). f row) (operand_side-Chain known x more)

pub agg_side-of : (known : Known) (op_ : AggOp) (gens_ : List RGen) (cond_ : Option Cond) (term_ : Term) (other_ : Option Term) → (agg_side known) (roll-Agg (record { op = op_; gens = gens_; cond = cond_; term = term_; other = other_ })) ≡ (agg_step known) (record { op = op_; gens = gens_; cond = (option_map (cond_holds known) cond_); term = term_; other = other_ })
unfolding cond_holds operand_side agg_side signed_side
agg_side-of known op_ gens_ None term_ other_ = fold-roll-Agg Holds Sided Sided Sided (cond_step known) (operand_step known) (agg_step known) (signed_step known) (record { op = op_; gens = gens_; cond = None; term = term_; other = other_ })
agg_side-of known op_ gens_ (Some o) term_ other_ = fold-roll-Agg Holds Sided Sided Sided (cond_step known) (operand_step known) (agg_step known) (signed_step known) (record { op = op_; gens = gens_; cond = (Some o); term = term_; other = other_ })

pub agg_side_at-of : (known : Known) (op_ : AggOp) (gens_ : List RGen) (cond_ : Option Cond) (term_ : Term) (other_ : Option Term) (row : List Ty) → (agg_side known) (roll-Agg (record { op = op_; gens = gens_; cond = cond_; term = term_; other = other_ })) row ≡ (agg_step known) (record { op = op_; gens = gens_; cond = (option_map (cond_holds known) cond_); term = term_; other = other_ }) row
agg_side_at-of known op_ gens_ cond_ term_ other_ row = ap (λ (f : Sided). f row) (agg_side-of known op_ gens_ cond_ term_ other_)

pub signed_side-of : (known : Known) (minus_ : Bool) (operand_ : Operand) → (signed_side known) (roll-SignedOperand (record { minus = minus_; operand = operand_ })) ≡ (signed_step known) (record { minus = minus_; operand = ((operand_side known) operand_) })
unfolding cond_holds operand_side agg_side signed_side
signed_side-of known minus_ operand_ = fold-roll-SignedOperand Holds Sided Sided Sided (cond_step known) (operand_step known) (agg_step known) (signed_step known) (record { minus = minus_; operand = operand_ })

pub signed_side_at-of : (known : Known) (minus_ : Bool) (operand_ : Operand) (row : List Ty) → (signed_side known) (roll-SignedOperand (record { minus = minus_; operand = operand_ })) row ≡ (signed_step known) (record { minus = minus_; operand = ((operand_side known) operand_) }) row
signed_side_at-of known minus_ operand_ row = ap (λ (f : Sided). f row) (signed_side-of known minus_ operand_)

pub ruleset typing_conds = (cond_holds-Truth, cond_holds_at-Truth, cond_holds-Cmp, cond_holds_at-Cmp, cond_holds-Not, cond_holds_at-Not, cond_holds-And, cond_holds_at-And, cond_holds-Or, cond_holds_at-Or, cond_holds-Quant, cond_holds_at-Quant, operand_side-Term, operand_side_at-Term, operand_side-Agg, operand_side_at-Agg, operand_side-Chain, operand_side_at-Chain, agg_side-of, agg_side_at-of, signed_side-of, signed_side_at-of)
