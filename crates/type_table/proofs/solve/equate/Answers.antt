use Rattle.std.proofs.Common.{◌∙◌, sym, arith}
use Rattle.type_table.proofs.SolveLaws.{roots_last, roots_clash, linked_table, linked_equates}
use Rattle.type_table.proofs.solve.equate.Goals as goal

pub returns-then-not-branch-clause-clash : goal.returns-then-not-branch-clause-clash
returns-then-not-branch-clause-clash c =
    λ can. roots_clash c.args.forms.now c.root-one.new.forms c.root-other.new.forms c.args.first c.args.second c.root-one.result c.root-other.result _ _ c.root-one.ensures.found c.root-other.ensures.found c.in_order-low.ensures.same
    _ _ c.form_at.ensures c.form_at-2.ensures
    ((roots_last c.args.forms.now c.root-one.new.forms c.root-other.new.forms c.args.first c.args.second c.root-one.result c.root-other.result _ _ c.root-one.ensures.found c.root-other.ensures.found c.in_order-low.ensures.same c.root-one.ensures.root c.root-one.ensures.within c.root-other.ensures.root).0 _ c.form_at.ensures)
    ((roots_last c.args.forms.now c.root-one.new.forms c.root-other.new.forms c.args.first c.args.second c.root-one.result c.root-other.result _ _ c.root-one.ensures.found c.root-other.ensures.found c.in_order-low.ensures.same c.root-one.ensures.root c.root-one.ensures.within c.root-other.ensures.root).1 _ c.form_at-2.ensures)
    (sym c.in_ok-join.ensures.joins ∙ c.if-not-branch.true)

pub returns-clause-table : goal.returns-clause-table
returns-clause-table c =
    linked_table c.args.forms.now c.root-one.new.forms c.root-other.new.forms c.args.first c.args.second c.root-one.result c.root-other.result _ _ c.root-one.ensures.found c.root-other.ensures.found c.in_order-low.ensures.same
    _ _ c.form_at.ensures c.form_at-2.ensures
    ((roots_last c.args.forms.now c.root-one.new.forms c.root-other.new.forms c.args.first c.args.second c.root-one.result c.root-other.result _ _ c.root-one.ensures.found c.root-other.ensures.found c.in_order-low.ensures.same c.root-one.ensures.root c.root-one.ensures.within c.root-other.ensures.root).0 _ c.form_at.ensures)
    ((roots_last c.args.forms.now c.root-one.new.forms c.root-other.new.forms c.args.first c.args.second c.root-one.result c.root-other.result _ _ c.root-one.ensures.found c.root-other.ensures.found c.in_order-low.ensures.same c.root-one.ensures.root c.root-one.ensures.within c.root-other.ensures.root).1 _ c.form_at-2.ensures)
    c.connect.new.forms c.args.todo.now c.join.new.todo (omega (arith, c.in_order-low.ensures.order, c.if-low-high.false)) (sym c.in_ok-join.ensures.joins ∙ c.if-not-branch.false) c.connect.ensures c.in_ok-join.ensures.todo

pub returns-clause-solved : goal.returns-clause-solved
returns-clause-solved c =
    λ can. linked_equates c.args.forms.now c.root-one.new.forms c.root-other.new.forms c.args.first c.args.second c.root-one.result c.root-other.result _ _ c.root-one.ensures.found c.root-other.ensures.found c.in_order-low.ensures.same
    _ _ c.form_at.ensures c.form_at-2.ensures
    ((roots_last c.args.forms.now c.root-one.new.forms c.root-other.new.forms c.args.first c.args.second c.root-one.result c.root-other.result _ _ c.root-one.ensures.found c.root-other.ensures.found c.in_order-low.ensures.same c.root-one.ensures.root c.root-one.ensures.within c.root-other.ensures.root).0 _ c.form_at.ensures)
    ((roots_last c.args.forms.now c.root-one.new.forms c.root-other.new.forms c.args.first c.args.second c.root-one.result c.root-other.result _ _ c.root-one.ensures.found c.root-other.ensures.found c.in_order-low.ensures.same c.root-one.ensures.root c.root-one.ensures.within c.root-other.ensures.root).1 _ c.form_at-2.ensures)
    c.connect.new.forms c.args.todo.now c.join.new.todo (omega (arith, c.in_order-low.ensures.order, c.if-low-high.false)) (sym c.in_ok-join.ensures.joins ∙ c.if-not-branch.false) c.connect.ensures c.in_ok-join.ensures.todo
    c.requires.todo
