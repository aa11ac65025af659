use Rattle.std.specs.Int.{w128}
use Rattle.std.proofs.Common.{FitsSigned, to_z-of_z, rules, refl, sym, subst, ◌∙◌}
use Rattle.std.proofs.lemmas.Bool.{false≢true}
use Rattle.da_values.specs.Proper.{AreValues}
use Rattle.da_values.specs.declared.value.Value.TheVariants as kept
use Rattle.trace_join.proofs.ProperLaws.{left_ends, left_on, none_left, some_process, tests_value}
use Rattle.trace_join.proofs.proper.+proper.Goals as goal

pub all_proper-returns-then-not-is_proper : goal.all_proper-returns-then-not-is_proper
all_proper-returns-then-not-is_proper t c =
    left_ends c.args.values.now c.loop-value.value-index c.value-item.result c.is_proper.result c.loop-value-test.true c.value-item.is c.is_proper.ensures
    (λ passes. false≢true (sym c.if-not-is_proper.true ∙ passes)) c.loop-value.invariant

pub all_proper-loop-value-preserved : goal.all_proper-loop-value-preserved
all_proper-loop-value-preserved t c =
    left_on c.args.values.now c.loop-value.value-index c.value-item.result c.is_proper.result c.loop-value-test.true c.value-item.is c.is_proper.ensures
    c.if-not-is_proper.false c.loop-value.invariant

pub all_proper-returns : goal.all_proper-returns
all_proper-returns t c = none_left c.args.values.now c.loop-value.value-index c.loop-value-test.false c.loop-value.invariant

pub is_proper-returns-in-Int : goal.is_proper-returns-in-Int
is_proper-returns-in-Int t c =
    let fits : FitsSigned w128 c.in-Int.number = search rules in
    tests_value c.args.v.now (kept.Int c.in-Int.number) _ c.in-Int.is (simp to_z-of_z at c.is_wide.ensures)

pub is_proper-returns-in-Bool : goal.is_proper-returns-in-Bool
is_proper-returns-in-Bool t c = tests_value c.args.v.now _ _ c.in-Bool.is (λ passes. tt, λ fits. refl)

pub is_proper-returns-in-Text : goal.is_proper-returns-in-Text
is_proper-returns-in-Text t c = tests_value c.args.v.now _ _ c.in-Text.is c.is_text.ensures

pub is_proper-returns-in-Proc : goal.is_proper-returns-in-Proc
is_proper-returns-in-Proc t c = tests_value c.args.v.now (kept.Proc c.in-Proc.process) _ c.in-Proc.is (some_process c.in-Proc.process (search rules))

pub is_proper-returns-in-Tuple : goal.is_proper-returns-in-Tuple
is_proper-returns-in-Tuple t c = tests_value c.args.v.now _ _ c.in-Tuple.is (rw c.as_slice.ensures at c.all_proper.ensures)

pub is_proper-returns-in-Set : goal.is_proper-returns-in-Set
is_proper-returns-in-Set t c =
    let items = c.as_slice-in-Set.ensures.items in
    tests_value c.args.v.now _ _ c.in-Set.is (
      λ passes. (subst AreValues items (c.all_proper-in-Set.ensures.0 passes), c.as_slice-in-Set.ensures.ascends),
      λ both. c.all_proper-in-Set.ensures.1 (subst AreValues (sym items) both.0),
    )
