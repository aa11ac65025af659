use Rattle.std.proofs.Common.{◌≡◌, ◌∙◌, ap, rules, sym}
use Rattle.std.proofs.lemmas.Result.{IfOk-weaker}
use Rattle.std.specs.List.{list_all, list_any}
use Rattle.da_lang.specs.declared.query.Cond.TheViews.{the_lemmas}
use Rattle.da_lang.specs.Queries.{holds}
use Rattle.row_terms.specs.Locals.{data_of}
use Rattle.query_plan.specs.PlainNodes.{is_plain}
use Rattle.row_terms.proofs.PlainForms.{and_plain, holds_all, holds_any, not_plain, or_plain}
use Rattle.row_terms.proofs.conditions.+conditions.Goals as goal

pub holds-holds-requires : goal.holds-holds-requires
holds-holds-requires t c = (search (rules, the_lemmas), ap is_plain c.get-in-Not.ensures ∙ not_plain c.in-Not.condition (sym (ap is_plain c.in-Not.is) ∙ c.requires))

pub holds-all_hold-requires : goal.holds-all_hold-requires
holds-all_hold-requires t c = (search (rules, the_lemmas), ap (list_all is_plain) c.as_slice.ensures ∙ and_plain c.in-And.conditions (sym (ap is_plain c.in-And.is) ∙ c.requires))

pub holds-some_holds-requires : goal.holds-some_holds-requires
holds-some_holds-requires t c = (search (rules, the_lemmas), ap (list_all is_plain) c.as_slice-in-Or.ensures ∙ or_plain c.in-Or.conditions (sym (ap is_plain c.in-Or.is) ∙ c.requires))

pub holds-returns-in-And : goal.holds-returns-in-And
holds-returns-in-And t c =
    let d = data_of c.args.locals.now in
    let row = c.args.row.now in
    IfOk-weaker c.all_hold.result (λ b. b ≡ list_all (λ x. holds d x row) c.as_slice.result.now) (λ b. b ≡ holds d c.args.condition.now row)
    (λ b is. is ∙ holds_all d row c.args.condition.now c.in-And.conditions c.as_slice.result.now c.in-And.is c.as_slice.ensures) c.all_hold.ensures

pub holds-returns-in-Or : goal.holds-returns-in-Or
holds-returns-in-Or t c =
    let d = data_of c.args.locals.now in
    let row = c.args.row.now in
    IfOk-weaker c.some_holds.result (λ b. b ≡ list_any (λ x. holds d x row) c.as_slice-in-Or.result.now) (λ b. b ≡ holds d c.args.condition.now row)
    (λ b is. is ∙ holds_any d row c.args.condition.now c.in-Or.conditions c.as_slice-in-Or.result.now c.in-Or.is c.as_slice-in-Or.ensures) c.some_holds.ensures
