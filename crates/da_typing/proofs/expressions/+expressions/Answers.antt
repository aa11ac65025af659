use Rattle.std.specs.Prelude.{List, Option, map}
use Rattle.std.specs.List.{list_all}
use Rattle.std.proofs.Common.{◌∙◌, ap, arith, sym}
use Rattle.std.proofs.lemmas.Result.{IfOk-weaker}
use Rattle.da_lang.specs.declared.program.RExpr.{RExpr}
use Rattle.da_lang.specs.declared.ty.Ty.{Ty}
use Rattle.da_lang.specs.declared.ty.Ty.TheVariants as ty
use Rattle.da_lang.specs.ExprTypes.{truth, typing}
use Rattle.da_lang.specs.QueryTypes.{all_types, flat, given, when}
use Rattle.da_typing.specs.KnownView.{known_of}
use Rattle.da_typing.proofs.ExprForms.{type-And, type-Ask, type-Chain, type-Clock, type-Cmp, type-Const, type-Me, type-Member, type-Not, type-Or, type-Procs, type-Range, type-SetOf, type-Slot, type-Tuple}
use Rattle.da_typing.proofs.expressions.+expressions.Goals as goal

pub expr_type-returns-in_ok-types-in-Tuple : goal.expr_type-returns-in_ok-types-in-Tuple
expr_type-returns-in_ok-types-in-Tuple t c =
    let known = known_of c.args.known.now in
    let queries = c.args.queries.now in
    c.tuple_of.ensures
    ∙ ap (λ (found : Option (List Ty)). given found (λ parts. flat (ty.Tuple parts))) (c.in_ok-types-in-Tuple.ensures ∙ ap (λ (xs : List RExpr). all_types (map (λ x. (typing known queries x).type_) xs)) c.as_slice.ensures)
    ∙ sym (ap (λ (x : RExpr). (typing known queries x).type_) c.in-Tuple.is ∙ type-Tuple known queries c.in-Tuple.parts)

pub expr_type-returns-in-Or : goal.expr_type-returns-in-Or
expr_type-returns-in-Or t c =
    let known = known_of c.args.known.now in
    let queries = c.args.queries.now in
    IfOk-weaker c.truth_of_all.result _ _ (λ found is. is
    ∙ ap (λ (xs : List RExpr). given (when (list_all (λ x. truth (typing known queries x)) xs) ty.Bool) flat) c.as_slice-in-Or.ensures
    ∙ sym (ap (λ (x : RExpr). (typing known queries x).type_) c.in-Or.is ∙ type-Or known queries c.in-Or.parts)) c.truth_of_all.ensures

pub expr_type-returns-in-And : goal.expr_type-returns-in-And
expr_type-returns-in-And t c =
    let known = known_of c.args.known.now in
    let queries = c.args.queries.now in
    IfOk-weaker c.truth_of_all-in-And.result _ _ (λ found is. is
    ∙ ap (λ (xs : List RExpr). given (when (list_all (λ x. truth (typing known queries x)) xs) ty.Bool) flat) c.as_slice-in-And.ensures
    ∙ sym (ap (λ (x : RExpr). (typing known queries x).type_) c.in-And.is ∙ type-And known queries c.in-And.parts)) c.truth_of_all-in-And.ensures

pub expr_type-returns-in-Const : goal.expr_type-returns-in-Const
expr_type-returns-in-Const t c = grind (arith, type-Const)

pub expr_type-returns-in-Procs : goal.expr_type-returns-in-Procs
expr_type-returns-in-Procs t c = grind (arith, type-Procs)

pub expr_type-returns-in-Me : goal.expr_type-returns-in-Me
expr_type-returns-in-Me t c = grind (arith, type-Me)

pub expr_type-returns-in-Slot : goal.expr_type-returns-in-Slot
expr_type-returns-in-Slot t c = grind (arith, type-Slot)

pub expr_type-returns-in-Clock : goal.expr_type-returns-in-Clock
expr_type-returns-in-Clock t c = grind (arith, type-Clock)

pub expr_type-returns-in-Ask : goal.expr_type-returns-in-Ask
expr_type-returns-in-Ask t c = grind (arith, type-Ask)

pub expr_type-returns-in_ok-expr_type-in-Range : goal.expr_type-returns-in_ok-expr_type-in-Range
expr_type-returns-in_ok-expr_type-in-Range t c = grind (arith, type-Range)

pub expr_type-returns-in_ok-types-in-SetOf : goal.expr_type-returns-in_ok-types-in-SetOf
expr_type-returns-in_ok-types-in-SetOf t c = grind (arith, type-SetOf)

pub expr_type-returns-in_ok-expr_type-in-Not : goal.expr_type-returns-in_ok-expr_type-in-Not
expr_type-returns-in_ok-expr_type-in-Not t c = grind (arith, type-Not)

pub expr_type-returns-in_ok-found-in-Cmp : goal.expr_type-returns-in_ok-found-in-Cmp
expr_type-returns-in_ok-found-in-Cmp t c = grind (arith, type-Cmp)

pub expr_type-returns-in_ok-found-in-Member : goal.expr_type-returns-in_ok-found-in-Member
expr_type-returns-in_ok-found-in-Member t c = grind (arith, type-Member)

pub expr_type-returns-in_ok-found-in-Chain : goal.expr_type-returns-in_ok-found-in-Chain
expr_type-returns-in_ok-found-in-Chain t c = grind (arith, type-Chain)
