-- The types of terms, by their forms.
use Rattle.std.specs.Prelude.{◌≡◌, refl, List, [], ◌∷◌, map, Option}
use Rattle.std.proofs.Common.{◌∙◌, ap}
use Rattle.da_lang.specs.declared.query.Term.{Term}
use Rattle.da_lang.specs.declared.query.Term.TheVariants as te
use Rattle.da_lang.specs.declared.ty.Ty.{Ty}
use Rattle.da_lang.specs.declared.ty.Ty.TheVariants as t
use Rattle.da_lang.specs.QueryTypes.{Known, all_types, flat, given, term_type}
use Rattle.da_lang.proofs.typing.QueryTypesAt.{term_type_at-Const, term_type_at-Me, term_type_at-Slot, term_type_at-Part, term_type_at-Tuple, term_type_at-Foreign}

types_over : (known : Known) (row : List Ty) (terms : List Term) → map (λ (p : List Ty → Option Ty). p row) (map (term_type known) terms) ≡ map (λ x. term_type known x row) terms
types_over known row [] = refl
types_over known row (x ∷ terms) = ap (λ (types : List (Option Ty)). term_type known x row ∷ types) (types_over known row terms)

pub term-parts : (known : Known) (parts : List Term) (row : List Ty) → term_type known (te.Tuple parts) row ≡ given (all_types (map (λ x. term_type known x row) parts)) (λ types. flat (t.Tuple types))
term-parts known parts row = term_type_at-Tuple known parts row ∙ ap (λ found. given (all_types found) (λ types. flat (t.Tuple types))) (types_over known row parts)

pub ruleset term_rules = (term_type_at-Const, term_type_at-Me, term_type_at-Slot, term_type_at-Part, term-parts, term_type_at-Foreign)
