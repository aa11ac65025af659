use Rattle.std.proofs.Common.{◌∙◌, [], ap, length, map, refl, subst, sym}
use Rattle.query_plan.specs.Nodes.{IsPlan, in_order, width_step}
use Rattle.std.specs.List.{All}
use Rattle.answer_index.specs.Answers.{IsSet}
use Rattle.delta_rules.specs.Empty.{AreEmpty, live_width}
use Rattle.delta_rules.proofs.FirstLaws.{first_kept}
use Rattle.delta_rules.proofs.HoldingLaws.{first_held, first_still, laid_first, none_held}
use Rattle.delta_rules.proofs.answers.Answers.new.Goals as goal

pub laid_for-requires-clause-plan : goal.laid_for-requires-clause-plan
laid_for-requires-clause-plan c = subst IsPlan (sym c.as_slice-nodes.ensures) c.requires.plan

pub first_rows-requires-clause-plan : goal.first_rows-requires-clause-plan
first_rows-requires-clause-plan c = subst IsPlan (sym c.as_slice-nodes.ensures) c.requires.plan

pub first_rows-requires-clause-sets : goal.first_rows-requires-clause-sets
first_rows-requires-clause-sets c = c.in_ok-laid.ensures.laid.sets c.intern_row.new.pool

pub first_rows-requires-clause-live_sets : goal.first_rows-requires-clause-live_sets
first_rows-requires-clause-live_sets c = subst (All (λ set. IsSet set c.intern_row.new.pool)) (sym c.as_slice-5.ensures.value) (c.in_ok-laid.ensures.laid.live_sets c.intern_row.new.pool)

pub first_rows-requires-clause-none : goal.first_rows-requires-clause-none
first_rows-requires-clause-none c = c.in_ok-laid.ensures.rows c.intern_row.new.pool

pub first_rows-requires-clause-live_none : goal.first_rows-requires-clause-live_none
first_rows-requires-clause-live_none c = subst (λ sets. AreEmpty sets c.intern_row.new.pool) (sym c.as_slice-5.ensures.value) (c.in_ok-laid.ensures.live_rows c.intern_row.new.pool)

pub first_rows-requires-clause-held : goal.first_rows-requires-clause-held
first_rows-requires-clause-held c = none_held _ _ c.in_ok-laid.ensures.laid.ids

pub returns-clause-kept : goal.returns-clause-kept
returns-clause-kept c d me slots no_sent no_received =
    first_kept _ _ c.first_rows.new.pool c.args.plan.now.nodes c.as_slice-nodes.result.now c.in_ok-first_rows.ensures.rows c.as_slice-nodes.ensures refl
    (first_still _ _ _ _ _ _ c.in_ok-ids.ensures.ok c.in_ok-first_rows.ensures.trades c.in_ok-laid.ensures.laid.ids ∙ c.in_ok-ids.ensures.values ∙ c.as_slice-2.ensures) c.in_ok-values.ensures
    (c.in_ok-laid.ensures.laid.live_many ∙ ap length (c.as_slice.ensures ∙ c.in_ok-live.ensures)) (c.in_ok-laid.ensures.live_rows c.first_rows.new.pool) d me slots no_sent no_received

pub returns-clause-laid : goal.returns-clause-laid
returns-clause-laid c =
    laid_first _ c.first_rows.new.pool c.args.plan.now.nodes c.as_slice-nodes.result.now c.as_slice.result.now c.in_ok-laid.laid c.as_slice-nodes.ensures (c.as_slice.ensures ∙ c.in_ok-live.ensures) c.in_ok-laid.ensures.laid
    (c.in_ok-values.ensures ∙ sym (first_still _ _ _ _ _ _ c.in_ok-ids.ensures.ok c.in_ok-first_rows.ensures.trades c.in_ok-laid.ensures.laid.ids ∙ c.in_ok-ids.ensures.values ∙ c.as_slice-2.ensures))
    c.in_ok-first_rows.ensures.sets c.in_ok-first_rows.ensures.keys refl refl c.in_ok-live.ensures c.in_ok-named.ensures c.in_ok-used.ensures

pub returns-clause-width : goal.returns-clause-width
returns-clause-width c = (
  c.in_ok-first_rows.ensures.widths ∙ c.in_ok-laid.ensures.laid.widths ∙ ap (in_order 0 width_step []) c.as_slice-nodes.ensures,
  c.in_ok-laid.ensures.laid.live_widths ∙ ap (map live_width) (c.as_slice.ensures ∙ c.in_ok-live.ensures),
)

pub returns-clause-held : goal.returns-clause-held
returns-clause-held c = first_held _ _ _ _ _ _ _ c.requires.none c.in_ok-ids.ensures.ok c.in_ok-first_rows.ensures.trades c.in_ok-laid.ensures.laid.ids c.in_ok-laid.ensures.laid.live_ids
