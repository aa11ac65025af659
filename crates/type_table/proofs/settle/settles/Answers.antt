use Rattle.std.proofs.Common.{◌≡◌, ap, arith, subst, ◌∙◌, length}
use Rattle.std.specs.List.{list_all}
use Rattle.std.specs.Vec.{with_items}
use Rattle.type_table.specs.Settling.{Passed}
use Rattle.type_table.proofs.SettleLaws.{Settling, taken_whole, held_less, settled_all, settled_none}
use Rattle.type_table.proofs.settle.settles.Goals as goal

pub loop-more-smaller : goal.loop-more-smaller
loop-more-smaller c =
    let marks = c.loop-more.marks in
    let new = c.pass-more.new.marks in
    let whole : length new ≡ marks.len = omega (arith, c.pass-more.ensures.count, ap length c.as_mut_slice.ensures.value, marks.ok.0) in
    held_less c.args.forms.now marks.items new (with_items marks new).items _ c.pass-more.result (taken_whole new _ marks.len whole) c.loop-more-test.true c.loop-more.invariant
    (subst (λ z. Passed c.args.forms.now z new (length c.args.forms.now) c.pass-more.result) c.as_mut_slice.ensures.value c.pass-more.ensures)

pub returns-clause-fits : goal.returns-clause-fits
returns-clause-fits c =
    settled_all c.args.forms.now c.loop-more.marks.items c.are_marked.result (subst (Settling c.args.forms.now c.loop-more.marks.items) c.loop-more-test.false c.loop-more.invariant)
    (c.are_marked.ensures ∙ ap (list_all (λ b. b)) c.as_slice.ensures.value)

pub returns-clause-circle : goal.returns-clause-circle
returns-clause-circle c =
    settled_none c.args.forms.now c.loop-more.marks.items c.are_marked.result c.requires (subst (Settling c.args.forms.now c.loop-more.marks.items) c.loop-more-test.false c.loop-more.invariant)
    (c.are_marked.ensures ∙ ap (list_all (λ b. b)) c.as_slice.ensures.value)
