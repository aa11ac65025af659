-- The parts of the members of a class.
use Rattle.std.specs.Prelude.{Bool, true, false, List, find, filter, filter_map, map, Option}
use Rattle.std.specs.List.{fold}
use Rattle.da_lang.specs.declared.tree.Member.{Member}
use Rattle.da_lang.specs.declared.tree.Member.TheVariants as member
use Rattle.da_lang.specs.ClassParts.{Body, body_in, is_handler, is_run, is_setup}
use Rattle.da_limits.specs.declared.extent.Extent.{Extent}
use Rattle.da_limits.specs.Extents.{Called, beside, handler_extent}

-- the first `setup`, the first `run`
unfoldable pub setup_in : List Member → Option Body
setup_in ms = find (λ b. is_setup b.place) (filter_map body_in ms)

unfoldable pub run_in : List Member → Option Body
run_in ms = find (λ b. is_run b.place) (filter_map body_in ms)

-- an extent with those of the handlers
unfoldable pub with_handlers : Called → Extent → List Member → Extent
with_handlers called x ms = fold beside x (map (handler_extent called) (filter (λ b. is_handler b.place) (filter_map body_in ms)))

abbrev pub is_variable : Member → Bool
is_variable (member.Var name ty line) = true
is_variable _ = false
