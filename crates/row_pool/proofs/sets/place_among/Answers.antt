use Rattle.std.proofs.Common.{rules}
use Rattle.std.proofs.lemmas.Fn.{always_returns_same}
use Rattle.da_values.specs.Order.{val_cmp}
use Rattle.da_values.specs.Value.{val_of}
use Rattle.da_values.proofs.OrderLaws.{val_order, same_from_val_cmp}
use Rattle.da_values.proofs.PlaceLaws.{searched}
use Rattle.row_pool.proofs.sets.place_among.Goals as goal

-- the closure compares an element with the value, and changes nothing
pub returns : goal.returns
returns c =
    let by_value = c.binary_search_by.ensures.position (λ element. val_cmp (val_of element) (val_of c.args.v.now)) (always_returns_same _ _ _ (λ a r f called. search rules)) in
    searched val_cmp val_order same_from_val_cmp val_of c.args.elements.now (val_of c.args.v.now) c.binary_search_by.result c.requires c.binary_search_by.ensures.bound by_value
