use Rattle.std.proofs.Common.{◌≡◌, ◌+◌, ◌||◌, ap, sym, subst, ◌∙◌}
use Rattle.type_table.specs.Settling.{Passed}
use Rattle.type_table.proofs.SettleLaws.{pass_goes}
use Rattle.type_table.proofs.settle.pass.Goals as goal
use Rattle.type_table.proofs.settle.pass.Goals.{then-more, else-more}

pub loop-k-preserved : goal.loop-k-preserved
loop-k-preserved c =
    let did = c.mark-marked.result in
    let either : c.if-more.more ≡ (c.loop-k.more || did) = elim c.if-more.branch [
      | then-more w ↦ w.more-is ∙ w.if-more.true ∙ sym (ap (λ z. z || did) w.if-more.true)
      | else-more w ↦ w.more-is ∙ sym (ap (λ z. z || did) w.if-more.false)
    ] in
    subst (λ z. Passed c.args.forms.now c.args.marks.now c.mark-marked.new.marks (c.loop-k.k + 1) z) (sym either)
    (pass_goes c.args.forms.now c.args.marks.now c.loop-k.marks c.loop-k.k c.loop-k.more c.loop-k.invariant c.mark-marked.new.marks did c.mark-marked.ensures.marked c.mark-marked.ensures.open c.mark-marked.ensures.rests c.mark-marked.ensures.same c.mark-marked.ensures.stuck)
