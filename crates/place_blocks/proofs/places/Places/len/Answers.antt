use Rattle.std.proofs.Common.{ap, length, sym, ◌∙◌}
use Rattle.place_blocks.proofs.places.Places.len.Goals as goal

pub returns : goal.returns
returns c = sym c.self.invariant.whole ∙ ap length c.self.view_is
