use Rattle.std.proofs.Common.{rules, ◌≡◌, ◌∙◌, refl}
use Rattle.std.proofs.lemmas.Slice.Zip.{either_empty_from_Zip}
use Rattle.da_values.specs.Value.{vals}
use Rattle.da_core.proofs.Binding.{binds_end, binds_first, binds_on, binds_some}
use Rattle.da_core.proofs.known.bind.Goals as goal

pub loop-slot-init : goal.loop-slot-init
loop-slot-init c =
    let all : c.into_iter-slot-iterator.result.a.rest.now ≡ c.args.slots.now = search rules in
    let those : vals c.into_iter-slot-iterator.result.b.rest.now ≡ c.args.row.now = search rules in
    (binds_first c.args.slots.now _ c.args.row.now _ c.args.known.now all those, refl)

pub give-requires : goal.give-requires
give-requires c = binds_some c.args.slots.now _ c.args.row.now _ c.args.known.now c.loop-slot.known c.requires c.loop-slot.invariant.0

pub loop-slot-preserved : goal.loop-slot-preserved
loop-slot-preserved c = (
  binds_on c.args.slots.now _ _ c.args.row.now _ _ _ _ c.args.known.now c.loop-slot.known c.give.new.self c.in-Some.ensures.steps.0 c.in-Some.ensures.steps.1 c.in_ok-give.ensures.known c.loop-slot.invariant.0,
  c.give.ensures.actions ∙ c.loop-slot.invariant.1,
)

pub returns-clause-bound : goal.returns-clause-bound
returns-clause-bound c =
    binds_end c.args.slots.now _ c.args.row.now _ c.args.known.now c.loop-slot.known (either_empty_from_Zip c.loop-slot.slot-iterator c.next.new.self _ c.in-None.is c.next.ensures.steps) c.loop-slot.invariant.0
