use Rattle.std.proofs.Common.{◌≡◌, map, drop}
use Rattle.std.specs.Ordering.{eq_by_cmp}
use Rattle.da_lang.specs.Matching.{term_value}
use Rattle.da_pattern.specs.RowView.{row_of}
use Rattle.da_values.specs.Order.{row_cmp}
use Rattle.da_values.specs.Value.{vals}
use Rattle.da_pattern.proofs.term.+terms.Given as goal

abbrev pub invariant-are_terms-loop-t : goal.invariant-are_terms-loop-t
invariant-are_terms-loop-t l =
    eq_by_cmp row_cmp (vals l.values) (map (term_value l.process.me l.process.slots.now (row_of l.row)) l.terms)
    ≡ eq_by_cmp row_cmp (vals l.left) (map (term_value l.process.me l.process.slots.now (row_of l.row)) (drop l.t-index l.terms))
