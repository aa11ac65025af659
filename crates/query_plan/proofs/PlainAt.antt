-- Which conditions and operands are plain, one equation for each form.
use Rattle.std.specs.Prelude.{◌≡◌, Bool, true, false, ◌&&◌, List, [], ◌∷◌, map, Option, refl}
use Rattle.std.specs.List.{list_all}
use Rattle.std.proofs.Common.{◌∙◌, ap, sym}
use Rattle.da_lang.specs.declared.query.Agg.{Agg}
use Rattle.da_lang.specs.declared.query.Cond.{Cond, roll-Cond}
use Rattle.da_lang.specs.declared.query.Cond.TheVariants as cond
use Rattle.da_lang.specs.declared.query.Cond.TheFolds.{fold-Agg, fold-SignedOperand, fold-roll-Cond, fold-roll-Operand, fold_out-SignedOperand, map-Cond, map-Operand}
use Rattle.da_lang.specs.declared.query.Cond.TheOpen.{Cond-F, Operand-F}
use Rattle.da_lang.specs.declared.query.Operand.{Operand, roll-Operand}
use Rattle.da_lang.specs.declared.query.Operand.TheVariants as operand
use Rattle.da_lang.specs.declared.query.RGen.{RGen}
use Rattle.da_lang.specs.declared.query.SignedOperand.{SignedOperand}
use Rattle.da_lang.specs.declared.query.Term.{Term}
use Rattle.da_lang.specs.declared.tree.CmpOp.{CmpOp}
use Rattle.query_plan.specs.PlainNodes.{is_plain, is_plain_operand, is_plain_part, plain_agg_step, plain_cond_step, plain_operand_step, plain_signed_step}

plain_agg : Agg → Bool
plain_agg = fold-Agg Bool Bool Bool Bool plain_cond_step plain_operand_step plain_agg_step plain_signed_step

plain_signed : SignedOperand → Bool
plain_signed = fold-SignedOperand Bool Bool Bool Bool plain_cond_step plain_operand_step plain_agg_step plain_signed_step

cond_layer : (b : Cond-F Cond Operand Agg SignedOperand) → is_plain (roll-Cond b) ≡ plain_cond_step (map-Cond Cond Operand Agg SignedOperand Bool Bool Bool Bool is_plain is_plain_operand plain_agg plain_signed b)
unfolding is_plain is_plain_operand plain_agg plain_signed
cond_layer b = fold-roll-Cond Bool Bool Bool Bool plain_cond_step plain_operand_step plain_agg_step plain_signed_step b

operand_layer : (a : Operand-F Cond Operand Agg SignedOperand) → is_plain_operand (roll-Operand a) ≡ plain_operand_step (map-Operand Cond Operand Agg SignedOperand Bool Bool Bool Bool is_plain is_plain_operand plain_agg plain_signed a)
unfolding is_plain is_plain_operand plain_agg plain_signed
operand_layer a = fold-roll-Operand Bool Bool Bool Bool plain_cond_step plain_operand_step plain_agg_step plain_signed_step a

signed_layer : (s : SignedOperand) → plain_signed s ≡ is_plain_part s
unfolding is_plain_operand plain_signed
signed_layer s = fold_out-SignedOperand Bool Bool Bool Bool plain_cond_step plain_operand_step plain_agg_step plain_signed_step s

pub plain-Truth : (t : Term) → is_plain (cond.Truth t) ≡ true
plain-Truth t = ap is_plain (sym (cond.rolls-Truth t)) ∙ cond_layer (Cond-F.Truth t)

pub plain-Cmp : (op : CmpOp) (a b : Operand) → is_plain (cond.Cmp op a b) ≡ (is_plain_operand a && is_plain_operand b)
plain-Cmp op a b = ap is_plain (sym (cond.rolls-Cmp op a b)) ∙ cond_layer (Cond-F.Cmp op a b)

pub plain-Not : (b : Cond) → is_plain (cond.Not b) ≡ is_plain b
plain-Not b = ap is_plain (sym (cond.rolls-Not b)) ∙ cond_layer (Cond-F.Not b)

all_map : {A : Type 0} (f : A → Bool) (xs : List A) → list_all (λ b. b) (map f xs) ≡ list_all f xs
all_map f [] = refl
all_map f (x ∷ xs) = ap (λ b. f x && b) (all_map f xs)

pub plain-And : (bs : List Cond) → is_plain (cond.And bs) ≡ list_all is_plain bs
plain-And bs = ap is_plain (sym (cond.rolls-And bs)) ∙ cond_layer (Cond-F.And bs) ∙ all_map is_plain bs

pub plain-Or : (bs : List Cond) → is_plain (cond.Or bs) ≡ list_all is_plain bs
plain-Or bs = ap is_plain (sym (cond.rolls-Or bs)) ∙ cond_layer (Cond-F.Or bs) ∙ all_map is_plain bs

pub plain-Quant : (each : Bool) (gens : List RGen) (b : Option Cond) → is_plain (cond.Quant each gens b) ≡ false
plain-Quant each gens b = ap is_plain (sym (cond.rolls-Quant each gens b)) ∙ cond_layer (Cond-F.Quant each gens b)

all_parts : (more : List SignedOperand) → list_all (λ b. b) (map plain_signed more) ≡ list_all is_plain_part more
all_parts [] = refl
all_parts (s ∷ more) = ap (λ b. b && list_all (λ b. b) (map plain_signed more)) (signed_layer s) ∙ ap (λ b. is_plain_part s && b) (all_parts more)

pub plain-Term : (t : Term) → is_plain_operand (operand.Term t) ≡ true
plain-Term t = ap is_plain_operand (sym (operand.rolls-Term t)) ∙ operand_layer (Operand-F.Term t)

pub plain-Chain : (a : Operand) (more : List SignedOperand) → is_plain_operand (operand.Chain a more) ≡ (is_plain_operand a && list_all is_plain_part more)
plain-Chain a more = ap is_plain_operand (sym (operand.rolls-Chain a more)) ∙ operand_layer (Operand-F.Chain a more) ∙ ap (λ b. is_plain_operand a && b) (all_parts more)

pub plain-Agg : (a : Agg) → is_plain_operand (operand.Agg a) ≡ false
plain-Agg a = ap is_plain_operand (sym (operand.rolls-Agg a)) ∙ operand_layer (Operand-F.Agg a)
