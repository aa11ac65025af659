use Rattle.std.proofs.Common.{◌<◌, ap, arith, length}
use Rattle.da_system.specs.Counted.{Counted}
use Rattle.da_system.proofs.CountLaws.{row_as}
use Rattle.da_system.proofs.counts.Counts.put_row_at.Goals as goal

pub index_mut-requires : goal.index_mut-requires
index_mut-requires c = omega (arith, c.requires.place, c.self.inside.deliveries.ok.0, ap (λ (counts : Counted). length counts.deliveries) c.self.view_is)

pub returns : goal.returns
returns c =
    let inside : c.args.place < length c.self.inside.deliveries.items = omega (arith, c.requires.place, ap (λ (counts : Counted). length counts.deliveries) c.self.view_is) in
    row_as c.self.inside.moves c.self.inside.deliveries.items c.args.self.now c.args.place c.args.q c.args.count c.index_mut.result.now c.put.new.self c.self.view_is inside c.index_mut.ensures.value
    c.put.ensures
