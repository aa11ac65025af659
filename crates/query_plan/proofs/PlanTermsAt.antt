-- Which slots terms and patterns name, and the terms of conditions, one equation for each form.
use Rattle.std.specs.Prelude.{◌≡◌, ℕ, Bool, false, nat_eq, List, [], ◌∷◌, ◌++◌, map, Option, Some, None, refl}
use Rattle.std.specs.List.{list_any, flat_map}
use Rattle.std.proofs.Common.{ap, sym, ◌∙◌}
use Rattle.da_values.specs.declared.value.Value.{Value}
use Rattle.da_lang.specs.declared.query.Agg.{Agg, roll-Agg}
use Rattle.da_lang.specs.declared.query.AggOp.{AggOp}
use Rattle.da_lang.specs.declared.query.Cond.{Cond}
use Rattle.da_lang.specs.declared.query.Cond.TheVariants as cond
use Rattle.da_lang.specs.declared.query.Cond.TheOpen.{Cond-F, Operand-F}
use Rattle.da_lang.specs.declared.query.Cond.TheFolds.{fold-Operand, fold-Agg, fold-SignedOperand, fold-roll-Cond, fold-roll-Operand, fold-roll-Agg, fold-roll-SignedOperand}
use Rattle.da_lang.specs.declared.query.Operand.{Operand}
use Rattle.da_lang.specs.declared.query.Operand.TheVariants as operand
use Rattle.da_lang.specs.declared.query.Pattern.{Pattern}
use Rattle.da_lang.specs.declared.query.Pattern.TheVariants as pattern
use Rattle.da_lang.specs.declared.query.Pattern.TheOpen as pattern_layer
use Rattle.da_lang.specs.declared.query.Pattern.TheFolds.{fold-roll-Pattern}
use Rattle.da_lang.specs.declared.query.RGen.{RGen}
use Rattle.da_lang.specs.declared.query.SignedOperand.{SignedOperand, roll-SignedOperand}
use Rattle.da_lang.specs.declared.query.Term.{Term}
use Rattle.da_lang.specs.declared.query.Term.TheVariants as term
use Rattle.da_lang.specs.declared.query.Term.TheOpen as term_layer
use Rattle.da_lang.specs.declared.query.Term.TheFolds.{fold-roll-Term}
use Rattle.da_lang.specs.declared.tree.CmpOp.{CmpOp}
use Rattle.da_lang.specs.Naming.{names_step, names, pattern_names_step, pattern_names}
use Rattle.da_lang.proofs.LiveLaws.{any-map}
use Rattle.query_plan.specs.PlanTerms.{Terms, all_terms, default_terms, gen_terms, cond_terms_step, operand_terms_step, agg_terms_step, signed_terms_step, cond_terms}

-- Slots.

module _ (s : ℕ) where
  pub names-Const : (c : Value) → names s (term.Const c) ≡ false
  names-Const c = ap (names s) (sym (term.rolls-Const c)) ∙ fold-roll-Term Bool (names_step s) (term_layer.Const c)

  pub names-Me : names s term.Me ≡ false
  names-Me = ap (names s) (sym term.rolls-Me) ∙ fold-roll-Term Bool (names_step s) term_layer.Me

  pub names-Slot : (k : ℕ) → names s (term.Slot k) ≡ nat_eq k s
  names-Slot k = ap (names s) (sym (term.rolls-Slot k)) ∙ fold-roll-Term Bool (names_step s) (term_layer.Slot k)

  pub names-Part : (k : ℕ) → names s (term.Part k) ≡ false
  names-Part k = ap (names s) (sym (term.rolls-Part k)) ∙ fold-roll-Term Bool (names_step s) (term_layer.Part k)

  pub names-Tuple : (parts : List Term) → names s (term.Tuple parts) ≡ list_any (names s) parts
  names-Tuple parts = ap (names s) (sym (term.rolls-Tuple parts)) ∙ fold-roll-Term Bool (names_step s) (term_layer.Tuple parts) ∙ any-map (names s) parts

  pub names-Foreign : names s term.Foreign ≡ false
  names-Foreign = ap (names s) (sym term.rolls-Foreign) ∙ fold-roll-Term Bool (names_step s) term_layer.Foreign

  pub pattern_names-Any : pattern_names s pattern.Any ≡ false
  pattern_names-Any = ap (pattern_names s) (sym pattern.rolls-Any) ∙ fold-roll-Pattern Bool (pattern_names_step s) pattern_layer.Any

  pub pattern_names-Bind : pattern_names s pattern.Bind ≡ false
  pattern_names-Bind = ap (pattern_names s) (sym pattern.rolls-Bind) ∙ fold-roll-Pattern Bool (pattern_names_step s) pattern_layer.Bind

  pub pattern_names-Const : (c : Value) → pattern_names s (pattern.Const c) ≡ false
  pattern_names-Const c = ap (pattern_names s) (sym (pattern.rolls-Const c)) ∙ fold-roll-Pattern Bool (pattern_names_step s) (pattern_layer.Const c)

  pub pattern_names-Me : pattern_names s pattern.Me ≡ false
  pattern_names-Me = ap (pattern_names s) (sym pattern.rolls-Me) ∙ fold-roll-Pattern Bool (pattern_names_step s) pattern_layer.Me

  pub pattern_names-Equal : (t : Term) → pattern_names s (pattern.Equal t) ≡ names s t
  pattern_names-Equal t = ap (pattern_names s) (sym (pattern.rolls-Equal t)) ∙ fold-roll-Pattern Bool (pattern_names_step s) (pattern_layer.Equal t)

  pub pattern_names-Tuple : (parts : List Pattern) → pattern_names s (pattern.Tuple parts) ≡ list_any (pattern_names s) parts
  pattern_names-Tuple parts = ap (pattern_names s) (sym (pattern.rolls-Tuple parts)) ∙ fold-roll-Pattern Bool (pattern_names_step s) (pattern_layer.Tuple parts) ∙ any-map (pattern_names s) parts

-- Terms of conditions.

abbrev pub operand_terms : Operand → Terms
operand_terms = fold-Operand Terms Terms Terms Terms cond_terms_step operand_terms_step agg_terms_step signed_terms_step

abbrev pub agg_terms : Agg → Terms
agg_terms = fold-Agg Terms Terms Terms Terms cond_terms_step operand_terms_step agg_terms_step signed_terms_step

abbrev pub signed_terms : SignedOperand → Terms
signed_terms = fold-SignedOperand Terms Terms Terms Terms cond_terms_step operand_terms_step agg_terms_step signed_terms_step

-- of a condition that may be left out
abbrev pub terms_where : Option Cond → Terms
terms_where None = []
terms_where (Some b) = cond_terms b

all_terms-map : {A : Type 0} (f : A → Terms) (xs : List A) → all_terms (map f xs) ≡ flat_map f xs
all_terms-map f [] = refl
all_terms-map f (x ∷ xs) = ap (λ z. f x ++ z) (all_terms-map f xs)

pub terms-Truth : (t : Term) → cond_terms (cond.Truth t) ≡ t ∷ []
terms-Truth t = ap cond_terms (sym (cond.rolls-Truth t)) ∙ fold-roll-Cond Terms Terms Terms Terms cond_terms_step operand_terms_step agg_terms_step signed_terms_step (Cond-F.Truth t)

pub terms-Cmp : (op : CmpOp) (a b : Operand) → cond_terms (cond.Cmp op a b) ≡ operand_terms a ++ operand_terms b
terms-Cmp op a b = ap cond_terms (sym (cond.rolls-Cmp op a b)) ∙ fold-roll-Cond Terms Terms Terms Terms cond_terms_step operand_terms_step agg_terms_step signed_terms_step (Cond-F.Cmp op a b)

pub terms-Not : (b : Cond) → cond_terms (cond.Not b) ≡ cond_terms b
terms-Not b = ap cond_terms (sym (cond.rolls-Not b)) ∙ fold-roll-Cond Terms Terms Terms Terms cond_terms_step operand_terms_step agg_terms_step signed_terms_step (Cond-F.Not b)

pub terms-And : (bs : List Cond) → cond_terms (cond.And bs) ≡ flat_map cond_terms bs
terms-And bs = ap cond_terms (sym (cond.rolls-And bs)) ∙ fold-roll-Cond Terms Terms Terms Terms cond_terms_step operand_terms_step agg_terms_step signed_terms_step (Cond-F.And bs) ∙ all_terms-map cond_terms bs

pub terms-Or : (bs : List Cond) → cond_terms (cond.Or bs) ≡ flat_map cond_terms bs
terms-Or bs = ap cond_terms (sym (cond.rolls-Or bs)) ∙ fold-roll-Cond Terms Terms Terms Terms cond_terms_step operand_terms_step agg_terms_step signed_terms_step (Cond-F.Or bs) ∙ all_terms-map cond_terms bs

pub terms-Quant : (each : Bool) (gens : List RGen) (b : Option Cond) → cond_terms (cond.Quant each gens b) ≡ flat_map gen_terms gens ++ terms_where b
terms-Quant each gens None = ap cond_terms (sym (cond.rolls-Quant each gens None)) ∙ fold-roll-Cond Terms Terms Terms Terms cond_terms_step operand_terms_step agg_terms_step signed_terms_step (Cond-F.Quant each gens None)
terms-Quant each gens (Some b) = ap cond_terms (sym (cond.rolls-Quant each gens (Some b))) ∙ fold-roll-Cond Terms Terms Terms Terms cond_terms_step operand_terms_step agg_terms_step signed_terms_step (Cond-F.Quant each gens (Some b))

pub terms-Term : (t : Term) → operand_terms (operand.Term t) ≡ t ∷ []
terms-Term t = ap operand_terms (sym (operand.rolls-Term t)) ∙ fold-roll-Operand Terms Terms Terms Terms cond_terms_step operand_terms_step agg_terms_step signed_terms_step (Operand-F.Term t)

pub terms-Agg : (a : Agg) → operand_terms (operand.Agg a) ≡ agg_terms a
terms-Agg a = ap operand_terms (sym (operand.rolls-Agg a)) ∙ fold-roll-Operand Terms Terms Terms Terms cond_terms_step operand_terms_step agg_terms_step signed_terms_step (Operand-F.Agg a)

pub terms-Chain : (a : Operand) (more : List SignedOperand) → operand_terms (operand.Chain a more) ≡ operand_terms a ++ flat_map signed_terms more
terms-Chain a more =
    ap operand_terms (sym (operand.rolls-Chain a more)) ∙ fold-roll-Operand Terms Terms Terms Terms cond_terms_step operand_terms_step agg_terms_step signed_terms_step (Operand-F.Chain a more)
    ∙ ap (λ z. operand_terms a ++ z) (all_terms-map signed_terms more)

pub terms_of_signed : (minus : Bool) (a : Operand) → signed_terms (roll-SignedOperand (record { minus = minus; operand = a })) ≡ operand_terms a
terms_of_signed minus a = fold-roll-SignedOperand Terms Terms Terms Terms cond_terms_step operand_terms_step agg_terms_step signed_terms_step (record { minus = minus; operand = a })

pub terms_of_agg : (op : AggOp) (gens : List RGen) (b : Option Cond) (t : Term) (other : Option Term) → agg_terms (roll-Agg (record { op = op; gens = gens; cond = b; term = t; other = other })) ≡ flat_map gen_terms gens ++ terms_where b ++ t ∷ default_terms op other
terms_of_agg op gens None t other = fold-roll-Agg Terms Terms Terms Terms cond_terms_step operand_terms_step agg_terms_step signed_terms_step (record { op = op; gens = gens; cond = None; term = t; other = other })
terms_of_agg op gens (Some b) t other = fold-roll-Agg Terms Terms Terms Terms cond_terms_step operand_terms_step agg_terms_step signed_terms_step (record { op = op; gens = gens; cond = Some b; term = t; other = other })

pub ruleset naming = (names-Const, names-Me, names-Slot, names-Part, names-Tuple, names-Foreign, pattern_names-Any, pattern_names-Bind, pattern_names-Const, pattern_names-Me, pattern_names-Equal, pattern_names-Tuple, terms-Truth, terms-Cmp, terms-Not, terms-And, terms-Or, terms-Quant, terms-Term, terms-Agg, terms-Chain, terms_of_signed, terms_of_agg)
