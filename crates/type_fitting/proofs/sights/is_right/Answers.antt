use Rattle.std.proofs.Common.{◌∙◌, ap, sym}
use Rattle.type_table.specs.Values.{types_of}
use Rattle.type_fitting.specs.Sights.{is_seen}
use Rattle.type_fitting.proofs.sights.is_right.Goals as goal

pub returns-in-Ordered : goal.returns-in-Ordered
returns-in-Ordered c = λ forms are inside. c.is_ordered.ensures forms are inside ∙ ap (λ k. is_seen k (types_of forms c.args.note.now.number)) (sym c.in-Ordered.is)

pub returns-in-Flat : goal.returns-in-Flat
returns-in-Flat c = λ forms are inside. c.is_flat.ensures forms are inside ∙ ap (λ k. is_seen k (types_of forms c.args.note.now.number)) (sym c.in-Flat.is)
