-- The extents of the copies of methods, by the names of the methods.
use Rattle.std.specs.Prelude.{ℕ, List, Option, option_and_then, slice_get, unwrap_or}
use Rattle.da_calls.specs.CallGraph.{number_of}
use Rattle.da_limits.specs.declared.copies.Copies.{Copies}
use Rattle.da_limits.specs.declared.extent.Extent.{Extent}
use Rattle.da_limits.specs.Extents.{Called, nothing}

-- by the number of a name, of which there may be none
unfoldable pub copied_by : (List ℕ → Option ℕ) → List Extent → Called
copied_by number extents name = unwrap_or (option_and_then (slice_get extents) (number name)) nothing

unfoldable pub copied : Copies → Called
copied copies = copied_by (number_of copies.graph.now) copies.extents
