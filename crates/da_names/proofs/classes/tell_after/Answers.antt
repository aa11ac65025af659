use Rattle.std.proofs.Common.{◌∙◌, ap, sym}
use Rattle.std.specs.Prelude.{◌||◌}
use Rattle.da_names.specs.ClassRules.{is_once}
use Rattle.da_names.proofs.ClassSteps.{behind_more, after_none, some_more, some_none, when_both, when_first, when_not}
use Rattle.da_names.proofs.classes.tell_after.Goals as goal
use Rattle.da_names.proofs.classes.tell_after.Goals.{then-is_part+then-seen, then-is_part+else-seen, else-is_part}

pub loop-body-init : goal.loop-body-init
loop-body-init c = record {
  told = after_none (is_once c.args.part) c.args.least.now;
  some = some_none (is_once c.args.part);
}

pub loop-body-preserved : goal.loop-body-preserved
loop-body-preserved c =
    let l = c.loop-body in
    let x = c.body-item.result in
    record {
      told = behind_more (is_once c.args.part) c.args.least.now l.least c.if-is_part.least c.args.bodies.now l.body-index x c.is_part.result l.seen c.loop-body-test.true c.body-item.is l.invariant.told l.invariant.some c.is_part.ensures
          (elim c.if-is_part.branch [
            | then-is_part+then-seen w ↦ when_both _ _ _ _ _ w.if-is_part.true w.if-seen.true (w.least-is ∙ w.tell.ensures)
            | then-is_part+else-seen w ↦ when_first _ _ _ _ _ w.if-is_part.true w.if-seen.false w.least-is
            | else-is_part w ↦ when_not _ _ _ _ _ w.if-is_part.false w.least-is
          ]);
      some = some_more (is_once c.args.part) c.args.bodies.now l.body-index x c.is_part.result l.seen c.if-is_part.seen c.loop-body-test.true c.body-item.is l.invariant.some c.is_part.ensures
          (elim c.if-is_part.branch [
            | then-is_part+then-seen w ↦ w.seen-is ∙ sym (ap (λ t. t || l.seen) w.if-is_part.true)
            | then-is_part+else-seen w ↦ w.seen-is ∙ sym (ap (λ t. t || l.seen) w.if-is_part.true)
            | else-is_part w ↦ w.seen-is ∙ sym (ap (λ t. t || l.seen) w.if-is_part.false)
          ]);
    }
