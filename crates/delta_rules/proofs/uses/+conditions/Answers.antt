use Rattle.std.proofs.Common.{◌∙◌, ap, rules, sym}
use Rattle.std.specs.List.{list_all}
use Rattle.std.proofs.lemmas.Result.{on_ok_weaker}
use Rattle.da_lang.specs.declared.query.Cond.TheViews.{the_lemmas}
use Rattle.query_plan.specs.PlainNodes.{is_plain}
use Rattle.row_terms.proofs.PlainForms.{and_plain, not_plain, or_plain}
use Rattle.delta_rules.proofs.UseLaws.{and_adds, cmp_adds, or_adds}
use Rattle.delta_rules.proofs.uses.+conditions.Goals as goal

pub note_condition-note_condition-requires : goal.note_condition-note_condition-requires
note_condition-note_condition-requires t c =
    (search (rules, the_lemmas), ap is_plain c.get-in-Not.ensures ∙ not_plain c.in-Not.condition (sym (ap is_plain c.in-Not.is) ∙ c.requires))

pub note_condition-note_conditions-requires : goal.note_condition-note_conditions-requires
note_condition-note_conditions-requires t c =
    (search (rules, the_lemmas), ap (list_all is_plain) c.as_slice.ensures ∙ and_plain c.in-And.conditions (sym (ap is_plain c.in-And.is) ∙ c.requires))

pub note_condition-note_conditions-requires-in-Or : goal.note_condition-note_conditions-requires-in-Or
note_condition-note_conditions-requires-in-Or t c =
    (search (rules, the_lemmas), ap (list_all is_plain) c.as_slice-in-Or.ensures ∙ or_plain c.in-Or.conditions (sym (ap is_plain c.in-Or.is) ∙ c.requires))

pub note_condition-returns-in-Cmp : goal.note_condition-returns-in-Cmp
note_condition-returns-in-Cmp t c =
    on_ok_weaker c.note_sides.result (cmp_adds c.args.condition.now _ c.in-Cmp.left c.in-Cmp.right c.get.result.now c.get-in-Cmp.result.now _ _ c.in-Cmp.is c.get.ensures c.get-in-Cmp.ensures) c.note_sides.ensures

pub note_condition-returns-in-And : goal.note_condition-returns-in-And
note_condition-returns-in-And t c =
    on_ok_weaker c.note_conditions.result (and_adds c.args.condition.now c.in-And.conditions c.as_slice.result.now _ _ c.in-And.is c.as_slice.ensures) c.note_conditions.ensures

pub note_condition-returns-in-Or : goal.note_condition-returns-in-Or
note_condition-returns-in-Or t c =
    on_ok_weaker c.note_conditions-in-Or.result (or_adds c.args.condition.now c.in-Or.conditions c.as_slice-in-Or.result.now _ _ c.in-Or.is c.as_slice-in-Or.ensures) c.note_conditions-in-Or.ensures
