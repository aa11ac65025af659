use Rattle.std.specs.Prelude.{slice_set}
use Rattle.std.proofs.Common.{ap, arith, length, ◌∙◌}
use Rattle.place_blocks.proofs.NumberedLaws.{counted_set}
use Rattle.place_blocks.proofs.places.Places.set.Goals as goal

pub set_place-requires-clause-blocks : goal.set_place-requires-clause-blocks
set_place-requires-clause-blocks c = c.self.invariant.blocks_are

pub set_place-requires-clause-at : goal.set_place-requires-clause-at
set_place-requires-clause-at c = omega (arith, c.requires, ap length c.self.view_is)

pub invariant_of-self : goal.invariant_of-self
invariant_of-self c =
    counted_set c.self.inside.count c.self.inside.blocks.items c.set_place.new.blocks.items c.self.invariant c.set_place.ensures.blocks c.args.at c.args.place
    c.set_place.ensures.places

pub returns : goal.returns
returns c = c.set_place.ensures.places ∙ ap (λ zs. slice_set zs c.args.at c.args.place) c.self.view_is
