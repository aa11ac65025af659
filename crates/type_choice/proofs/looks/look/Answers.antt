use Rattle.std.proofs.Common.{sym, subst}
use Rattle.type_choice.specs.Order.{IsOrder}
use Rattle.type_choice.proofs.looks.look.Goals as goal

pub ordered_marks-requires-clause-order : goal.ordered_marks-requires-clause-order
ordered_marks-requires-clause-order c = subst (IsOrder c.args.forms.now) (sym c.as_slice-order.ensures) c.in_ok-numbers.ensures

pub set_marks-requires-clause-order : goal.set_marks-requires-clause-order
set_marks-requires-clause-order c = subst (IsOrder c.args.forms.now) (sym c.as_slice-order.ensures) c.in_ok-numbers.ensures

pub level_numbers-requires-clause-order : goal.level_numbers-requires-clause-order
level_numbers-requires-clause-order c = subst (IsOrder c.args.forms.now) (sym c.as_slice-order.ensures) c.in_ok-numbers.ensures

pub token_numbers-requires-clause-order : goal.token_numbers-requires-clause-order
token_numbers-requires-clause-order c = subst (IsOrder c.args.forms.now) (sym c.as_slice-order.ensures) c.in_ok-numbers.ensures
