use Rattle.std.specs.Prelude.{List, Option, map}
use Rattle.std.proofs.Common.{◌∙◌, ap, sym}
use Rattle.da_lang.specs.declared.query.Term.{Term}
use Rattle.da_lang.specs.declared.ty.Ty.{Ty}
use Rattle.da_lang.specs.declared.ty.Ty.TheVariants as ty
use Rattle.da_lang.specs.QueryTypes.{all_types, flat, given, term_type}
use Rattle.da_typing.specs.KnownView.{known_of}
use Rattle.da_typing.proofs.TermForms.{term-parts}
use Rattle.da_typing.proofs.terms.+terms.Goals as goal

pub term_type-returns-in_ok-types-in-Tuple : goal.term_type-returns-in_ok-types-in-Tuple
term_type-returns-in_ok-types-in-Tuple t c =
    let known = known_of c.args.known.now in
    let row = c.args.row.now in
    c.tuple_of.ensures
    ∙ ap (λ (found : Option (List Ty)). given found (λ parts. flat (ty.Tuple parts))) (c.in_ok-types-in-Tuple.ensures ∙ ap (λ (xs : List Term). all_types (map (λ x. term_type known x row) xs)) c.as_slice.ensures)
    ∙ sym (ap (λ (x : Term). term_type known x row) c.in-Tuple.is ∙ term-parts known c.in-Tuple.parts row)
