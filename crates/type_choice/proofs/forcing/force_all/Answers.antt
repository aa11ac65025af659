use Rattle.std.proofs.Common.{◌-◌, ◌<◌, length, sym, subst}
use Rattle.type_table.specs.Settling.{marked}
use Rattle.type_choice.specs.Marks.{Forcing}
use Rattle.type_choice.proofs.LoopLaws.{forcing_ends, both_still, found_inside, found_fails, found_goes, fewer}
use Rattle.type_choice.proofs.forcing.force_all.Goals as goal

pub forced-requires-clause-both : goal.forced-requires-clause-both
forced-requires-clause-both c = both_still c.args.forms.now c.args.adds.now c.args.receives.now c.loop-place.forms c.loop-place.marks c.loop-place.invariant c.args.proc c.args.set c.requires.both

pub unify-requires-clause-first : goal.unify-requires-clause-first
unify-requires-clause-first c =
    (found_inside c.loop-place.forms c.args.adds.now c.args.receives.now c.in-Some.place c.in-Some.first c.in-Some.second (c.forced.ensures.inside c.in-Some.place c.in-Some.first c.in-Some.second c.in-Some.is) (c.forced.ensures.forces c.in-Some.place c.in-Some.first c.in-Some.second c.in-Some.is)).0

pub unify-requires-clause-second : goal.unify-requires-clause-second
unify-requires-clause-second c =
    (found_inside c.loop-place.forms c.args.adds.now c.args.receives.now c.in-Some.place c.in-Some.first c.in-Some.second (c.forced.ensures.inside c.in-Some.place c.in-Some.first c.in-Some.second c.in-Some.is) (c.forced.ensures.forces c.in-Some.place c.in-Some.first c.in-Some.second c.in-Some.is)).1

pub returns-then-not-branch-clause-none : goal.returns-then-not-branch-clause-none
returns-then-not-branch-clause-none c =
    λ can. found_fails c.loop-place.forms c.args.adds.now c.args.receives.now c.in-Some.place c.in-Some.first c.in-Some.second (c.forced.ensures.inside c.in-Some.place c.in-Some.first c.in-Some.second c.in-Some.is) (c.forced.ensures.forces c.in-Some.place c.in-Some.first c.in-Some.second c.in-Some.is)
    c.args.forms.now c.loop-place.marks c.loop-place.invariant (c.in_ok-unify.ensures.clash c.if-not-branch.true)

pub loop-place-preserved : goal.loop-place-preserved
loop-place-preserved c =
    subst (Forcing c.args.forms.now c.args.adds.now c.args.receives.now c.unify.new.forms) (sym c.set.ensures)
    (found_goes c.loop-place.forms c.args.adds.now c.args.receives.now c.in-Some.place c.in-Some.first c.in-Some.second (c.forced.ensures.inside c.in-Some.place c.in-Some.first c.in-Some.second c.in-Some.is) (c.forced.ensures.forces c.in-Some.place c.in-Some.first c.in-Some.second c.in-Some.is)
    c.args.forms.now c.loop-place.marks c.loop-place.invariant c.unify.new.forms c.unify.ensures.table c.unify.ensures.size (c.in_ok-unify.ensures.solved c.if-not-branch.false))

pub loop-place-smaller : goal.loop-place-smaller
loop-place-smaller c =
    subst (λ z. length c.args.receives.now - marked z < length c.args.receives.now - marked c.loop-place.marks) (sym c.set.ensures)
    (fewer c.args.receives.now c.loop-place.marks c.in-Some.place c.loop-place.invariant.count (c.forced.ensures.unset c.in-Some.place c.in-Some.first c.in-Some.second c.in-Some.is))

pub returns-clause-ready : goal.returns-clause-ready
returns-clause-ready c = λ can. forcing_ends c.args.forms.now c.args.adds.now c.args.receives.now c.loop-place.forms c.loop-place.marks c.loop-place.invariant (c.forced.ensures.done c.in_default.is)
