use Rattle.std.proofs.Common.{◌≡◌, drop}
use Rattle.std.specs.List.{list_any}
use Rattle.da_lang.specs.Limits.{wide}
use Rattle.da_lang.specs.Written.{type_width}
use Rattle.da_limits.proofs.tree.some_wide_type.Given as goal

abbrev pub invariant-loop-ty : goal.invariant-loop-ty
invariant-loop-ty l = list_any (λ ty. wide (type_width ty)) (drop l.ty-index l.types) ≡ list_any (λ ty. wide (type_width ty)) l.types
