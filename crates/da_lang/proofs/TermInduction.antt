-- What holds of a term or a pattern where it holds of its parts holds of every one.
use Rattle.std.specs.Prelude.{ℕ, List, [], ◌∷◌, map}
use Rattle.std.specs.List.{AllByRecursion}
use Rattle.std.proofs.Common.{subst, sym}
use Rattle.da_values.specs.declared.value.Value.{Value}
use Rattle.da_lang.specs.declared.query.Pattern.{Pattern, roll-Pattern}
use Rattle.da_lang.specs.declared.query.Pattern.TheVariants as pattern
use Rattle.da_lang.specs.declared.query.Pattern.TheOpen as pattern_layer
use Rattle.da_lang.specs.declared.query.Pattern.TheOpen.{Pattern-F}
use Rattle.da_lang.specs.declared.query.Pattern.TheFolds.{ind-Pattern, map-Pattern}
use Rattle.da_lang.specs.declared.query.Term.{Term, roll-Term}
use Rattle.da_lang.specs.declared.query.Term.TheVariants as term
use Rattle.da_lang.specs.declared.query.Term.TheOpen as term_layer
use Rattle.da_lang.specs.declared.query.Term.TheOpen.{Term-F}
use Rattle.da_lang.specs.declared.query.Term.TheFolds.{ind-Term, map-Term}

-- members of which P holds, as pairs, and the members alone
abbrev pub bare : {A : Type 0} {P : A → Type 0} → List ((x : A) × P x) → List A
bare pairs = map (λ pair. pair.0) pairs

pub all_of-bare : {A : Type 0} (P : A → Type 0) (pairs : List ((x : A) × P x)) → AllByRecursion P (bare pairs)
all_of-bare P [] = tt
all_of-bare P (pair ∷ pairs) = (pair.1, all_of-bare P pairs)

module _ (P : Term → Type 0) (const : (c : Value) → P (term.Const c)) (me : P term.Me) (slot : (s : ℕ) → P (term.Slot s)) (part : (k : ℕ) → P (term.Part k)) (tuple : (parts : List Term) → AllByRecursion P parts → P (term.Tuple parts)) (foreign : P term.Foreign) where
  term_case : (layer : Term-F ((x : Term) × P x)) → P (roll-Term (map-Term ((x : Term) × P x) Term (λ pair. pair.0) layer))
  term_case (term_layer.Const c) = subst P (sym (term.rolls-Const c)) (const c)
  term_case term_layer.Me = subst P (sym term.rolls-Me) me
  term_case (term_layer.Slot s) = subst P (sym (term.rolls-Slot s)) (slot s)
  term_case (term_layer.Part k) = subst P (sym (term.rolls-Part k)) (part k)
  term_case (term_layer.Tuple pairs) = subst P (sym (term.rolls-Tuple (bare pairs))) (tuple (bare pairs) (all_of-bare P pairs))
  term_case term_layer.Foreign = subst P (sym term.rolls-Foreign) foreign

  pub term_induction : (t : Term) → P t
  term_induction = ind-Term P (λ x layer is. subst (λ z. P (roll-Term z)) is (term_case layer))

module _ (P : Pattern → Type 0) (any : P pattern.Any) (bind : P pattern.Bind) (const : (c : Value) → P (pattern.Const c)) (me : P pattern.Me) (equal : (t : Term) → P (pattern.Equal t)) (tuple : (parts : List Pattern) → AllByRecursion P parts → P (pattern.Tuple parts)) where
  pattern_case : (layer : Pattern-F ((x : Pattern) × P x)) → P (roll-Pattern (map-Pattern ((x : Pattern) × P x) Pattern (λ pair. pair.0) layer))
  pattern_case pattern_layer.Any = subst P (sym pattern.rolls-Any) any
  pattern_case pattern_layer.Bind = subst P (sym pattern.rolls-Bind) bind
  pattern_case (pattern_layer.Const c) = subst P (sym (pattern.rolls-Const c)) (const c)
  pattern_case pattern_layer.Me = subst P (sym pattern.rolls-Me) me
  pattern_case (pattern_layer.Equal t) = subst P (sym (pattern.rolls-Equal t)) (equal t)
  pattern_case (pattern_layer.Tuple pairs) = subst P (sym (pattern.rolls-Tuple (bare pairs))) (tuple (bare pairs) (all_of-bare P pairs))

  pub pattern_induction : (p : Pattern) → P p
  pattern_induction = ind-Pattern P (λ x layer is. subst (λ z. P (roll-Pattern z)) is (pattern_case layer))
