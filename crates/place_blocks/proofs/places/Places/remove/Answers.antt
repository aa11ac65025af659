use Rattle.std.specs.Prelude.{remove, slice_get}
use Rattle.std.proofs.Common.{ap, arith, length, sym, ◌∙◌}
use Rattle.place_blocks.proofs.places.Places.remove.Goals as goal

pub remove_place-requires-clause-at : goal.remove_place-requires-clause-at
remove_place-requires-clause-at c = omega (arith, c.requires, ap length c.self.view_is)

pub returns-clause-value : goal.returns-clause-value
returns-clause-value c = ap (λ zs. slice_get zs c.args.at) (sym c.self.view_is) ∙ c.remove_place.ensures.value

pub returns-clause-rest : goal.returns-clause-rest
returns-clause-rest c = c.remove_place.ensures.rest ∙ ap (λ zs. remove zs c.args.at) c.self.view_is
