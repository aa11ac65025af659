use Rattle.std.proofs.Common.{◌∙◌, sym, refl}
use Rattle.type_table.proofs.RootLaws.{linked_as, linked_left_as}
use Rattle.type_table.proofs.roots.connect.Goals as goal

pub returns-then-is_open : goal.returns-then-is_open
returns-then-is_open c =
    linked_as c.args.forms.now c.args.low c.args.high _ _ c.requires.order c.form_at.ensures c.replace-form.ensures.value _ _ c.replace-form.new.self _ (sym c.is_open.ensures ∙ c.if-is_open.true) refl refl c.replace-form.ensures.put c.set.ensures

pub returns : goal.returns
returns c = linked_left_as c.args.forms.now c.args.low c.args.high _ c.requires.order c.requires.high c.form_at.ensures _ (sym c.is_open.ensures ∙ c.if-is_open.false) c.set-2.ensures
