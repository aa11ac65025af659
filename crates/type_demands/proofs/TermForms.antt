-- What terms demand, by their forms.
use Rattle.std.specs.Prelude.{◌≡◌, refl, List, [], ◌∷◌, map}
use Rattle.std.proofs.Common.{◌∙◌, ap, append_assoc}
use Rattle.da_lang.specs.declared.query.Term.{Term}
use Rattle.da_lang.specs.declared.query.Term.TheVariants as te
use Rattle.type_table.specs.declared.scheme.Scheme.{Scheme}
use Rattle.type_demands.specs.Syms.{Sym, Context, flat_sym, tuple_sym}
use Rattle.type_demands.specs.Terms.{TermSym, term_sym}
use Rattle.type_demands.proofs.PutLaws.{at_line-both}
use Rattle.type_demands.proofs.QueriesAt.{term-Const, term-Me, term-Slot, term-Part, term-Tuple, term-Foreign}

syms_over : (context : Context) (row : List Scheme) (terms : List Term) → map (λ (p : TermSym). p row) (map (term_sym context) terms) ≡ map (λ x. term_sym context x row) terms
syms_over context row [] = refl
syms_over context row (x ∷ terms) = ap (λ (xs : List Sym). term_sym context x row ∷ xs) (syms_over context row terms)

pub term-parts : (context : Context) (parts : List Term) (row : List Scheme) → term_sym context (te.Tuple parts) row ≡ flat_sym (tuple_sym (map (λ x. term_sym context x row) parts))
term-parts context parts row = term-Tuple context parts row ∙ ap (λ xs. flat_sym (tuple_sym xs)) (syms_over context row parts)

pub ruleset term_rules = (term-Const, term-Me, term-Slot, term-Part, term-parts, term-Foreign, at_line-both, append_assoc)
