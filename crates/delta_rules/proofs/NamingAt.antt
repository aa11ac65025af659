-- Slots in terms, patterns, conditions and operands, one equation for each form.
use Rattle.std.specs.Prelude.{◌≡◌, ℕ, Bool, true, false, ◌||◌, List, [], ◌∷◌, refl}
use Rattle.std.specs.List.{list_any, flat_map}
use Rattle.std.proofs.Common.{◌∙◌, ap, sym}
use Rattle.std.proofs.lemmas.List.Folds.{list_any-append}
use Rattle.da_lang.specs.declared.query.Cond.{Cond}
use Rattle.da_lang.specs.declared.query.Cond.TheVariants as cond
use Rattle.da_lang.specs.declared.query.Cond.TheFolds.{fold_out-SignedOperand}
use Rattle.da_lang.specs.declared.query.Operand.{Operand}
use Rattle.da_lang.specs.declared.query.Operand.TheVariants as operand
use Rattle.da_lang.specs.declared.query.SignedOperand.{SignedOperand}
use Rattle.da_lang.specs.declared.query.Pattern.{Pattern}
use Rattle.da_lang.specs.declared.query.Pattern.TheVariants as pattern
use Rattle.da_lang.specs.declared.query.Term.{Term}
use Rattle.da_lang.specs.declared.query.Term.TheVariants as term
use Rattle.da_lang.specs.declared.tree.CmpOp.{CmpOp}
use Rattle.da_lang.specs.Naming.{names, pattern_names}
use Rattle.query_plan.specs.PlanTerms.{Terms, agg_terms_step, cond_terms, cond_terms_step, named_in, operand_terms_step, signed_terms_step}
use Rattle.query_plan.proofs.PlainAt.{plain-And, plain-Agg, plain-Chain, plain-Cmp, plain-Not, plain-Or, plain-Quant}
use Rattle.query_plan.proofs.PlanTermsAt.{names-Const, names-Foreign, names-Me, names-Part, names-Slot, names-Tuple, operand_terms, pattern_names-Any, pattern_names-Bind, pattern_names-Const, pattern_names-Equal, pattern_names-Me, pattern_names-Tuple, signed_terms, terms-And, terms-Chain, terms-Cmp, terms-Not, terms-Or, terms-Term, terms-Truth}
use Rattle.delta_rules.specs.Naming.{cond_names, operand_names, part_names}

or_false : (b : Bool) → (b || false) ≡ b
or_false true = refl
or_false false = refl

module _ (s : ℕ) where
  -- one term alone
  pub one_names : (t : Term) → named_in s (t ∷ []) ≡ names s t
  one_names t = or_false (names s t)

  -- the terms of parts
  any_flat : {A : Type 0} (f : A → Terms) (xs : List A) → named_in s (flat_map f xs) ≡ list_any (λ x. named_in s (f x)) xs
  any_flat f [] = refl
  any_flat f (x ∷ xs) = list_any-append (names s) (f x) (flat_map f xs) ∙ ap (λ b. named_in s (f x) || b) (any_flat f xs)

  part_named : (more : List SignedOperand) → list_any (λ part. named_in s (signed_terms part)) more ≡ list_any (part_names s) more
  part_named [] = refl
  part_named (part ∷ more) =
      ap (λ terms. named_in s terms || list_any (λ part. named_in s (signed_terms part)) more) (fold_out-SignedOperand Terms Terms Terms Terms cond_terms_step operand_terms_step agg_terms_step signed_terms_step part)
      ∙ ap (λ b. part_names s part || b) (part_named more)

  pub in-Truth : (t : Term) → cond_names s (cond.Truth t) ≡ names s t
  in-Truth t = ap (named_in s) (terms-Truth t) ∙ one_names t

  pub in-Cmp : (op : CmpOp) (a b : Operand) → cond_names s (cond.Cmp op a b) ≡ (operand_names s a || operand_names s b)
  in-Cmp op a b = ap (named_in s) (terms-Cmp op a b) ∙ list_any-append (names s) (operand_terms a) (operand_terms b)

  pub in-Not : (b : Cond) → cond_names s (cond.Not b) ≡ cond_names s b
  in-Not b = ap (named_in s) (terms-Not b)

  pub in-And : (bs : List Cond) → cond_names s (cond.And bs) ≡ list_any (cond_names s) bs
  in-And bs = ap (named_in s) (terms-And bs) ∙ any_flat cond_terms bs

  pub in-Or : (bs : List Cond) → cond_names s (cond.Or bs) ≡ list_any (cond_names s) bs
  in-Or bs = ap (named_in s) (terms-Or bs) ∙ any_flat cond_terms bs

  pub in-Term : (t : Term) → operand_names s (operand.Term t) ≡ names s t
  in-Term t = ap (named_in s) (terms-Term t) ∙ one_names t

  pub in-Chain : (a : Operand) (more : List SignedOperand) → operand_names s (operand.Chain a more) ≡ (operand_names s a || list_any (part_names s) more)
  in-Chain a more =
      ap (named_in s) (terms-Chain a more)
      ∙ list_any-append (names s) (operand_terms a) (flat_map signed_terms more)
      ∙ ap (λ b. operand_names s a || b) (any_flat signed_terms more ∙ part_named more)

-- As code tells it: the form, and what stands in its parts.
module _ (s : ℕ) where
  pub term_parts : (t : Term) (parts found : List Term) → t ≡ term.Tuple parts → found ≡ parts → list_any (names s) found ≡ names s t
  term_parts t parts found is same = ap (list_any (names s)) same ∙ sym (names-Tuple s parts) ∙ sym (ap (names s) is)

  pub pattern_parts : (p : Pattern) (parts found : List Pattern) → p ≡ pattern.Tuple parts → found ≡ parts → list_any (pattern_names s) found ≡ pattern_names s p
  pattern_parts p parts found is same = ap (list_any (pattern_names s)) same ∙ sym (pattern_names-Tuple s parts) ∙ sym (ap (pattern_names s) is)

pub ruleset naming_rules = (names-Const, names-Me, names-Slot, names-Part, names-Tuple, names-Foreign, pattern_names-Any, pattern_names-Bind, pattern_names-Const, pattern_names-Me, pattern_names-Equal, pattern_names-Tuple, in-Truth, in-Cmp, in-Not, in-And, in-Or, in-Term, in-Chain, plain-Cmp, plain-Not, plain-And, plain-Or, plain-Quant, plain-Chain, plain-Agg)
