-- The laws of the order of values stand in `specs`, where a type's members may cite them.
pub use Rattle.da_values.specs.OrderLaws.{cmp_layers, val_cmp-out, list_cmp-map, same_from_val_cmp, same_from_row_cmp, val_order, row_order}
