use Rattle.std.proofs.Common.{refl, arith}
use Rattle.type_choice.proofs.VisitLaws.{part_inside, visit_stays, visit_comes, visit_waits}
use Rattle.type_choice.proofs.order.visit.Goals as goal

pub queue-requires : goal.queue-requires
queue-requires c =
    omega (arith, c.requires.sizes.waits, part_inside c.args.forms.now c.requires.table c.args.number c.in-Some.place c.in-Some.part _ c.form_in.ensures (c.waits_for.ensures.is c.in-Some.place c.in-Some.part c.in-Some.is))

pub returns-then-is_marked_in : goal.returns-then-is_marked_in
returns-then-is_marked_in c = visit_stays c.args.forms.now c.args.number c.args.walk.now c.as_slice.result.now c.as_slice.ensures c.is_marked_in.result c.is_marked_in.ensures c.if-is_marked_in.true

pub returns-in_ok-push-in-None : goal.returns-in_ok-push-in-None
returns-in_ok-push-in-None c =
    visit_comes c.args.forms.now c.args.number c.args.walk.now c.as_slice.result.now c.as_slice.ensures c.is_marked_in.result c.is_marked_in.ensures c.if-is_marked_in.false _ c.form_in.ensures c.as_slice-2.result.now c.as_slice-2.ensures c.args.from c.requires.from
    (omega (arith, c.requires.sizes.marks, c.requires.number)) (c.waits_for.ensures.all c.in-None.is) _ c.set.ensures refl c.in_ok-push-in-None.ensures.ok

pub returns-in_ok-queue-in-Some : goal.returns-in_ok-queue-in-Some
returns-in_ok-queue-in-Some c =
    visit_waits c.args.forms.now c.args.number c.args.walk.now c.as_slice.result.now c.as_slice.ensures c.is_marked_in.result c.is_marked_in.ensures c.if-is_marked_in.false _ c.form_in.ensures c.as_slice-2.result.now c.as_slice-2.ensures c.args.from c.requires.from
    c.in-Some.place c.in-Some.part (c.waits_for.ensures.is c.in-Some.place c.in-Some.part c.in-Some.is) (c.waits_for.ensures.unset c.in-Some.place c.in-Some.part c.in-Some.is) (c.waits_for.ensures.before c.in-Some.place c.in-Some.part c.in-Some.is) _ refl c.in_ok-queue-in-Some.ensures refl
