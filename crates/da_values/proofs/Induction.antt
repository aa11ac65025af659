-- The induction over values stands in `specs`, where a type's members may cite it.
pub use Rattle.da_values.specs.Induction.{val_induction, Parts, layer_induction}
