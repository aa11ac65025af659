-- The refusals by limits, one by one in the order in which they are looked for.
use Rattle.std.specs.Prelude.{ℕ, nat_lt, List, flat_map, Option}
use Rattle.da_lang.specs.declared.refusal.LimitKind.{LimitKind}
use Rattle.da_lang.specs.Limits.{line_if, most_parts, most_generators}
use Rattle.da_lang.specs.Scopes.{at_lines}
use Rattle.da_limits.specs.declared.sizes.DeedSize.{DeedSize}
use Rattle.da_bodies.specs.Telling.{LimitRefusal as Refusal, telling_limits as telling}

-- a limit is exceeded at these lines
unfoldable pub told_at : LimitKind → Option Refusal → List ℕ → Option Refusal
told_at kind found lines = telling found (at_lines kind lines)

-- the lines of what is written with too wide a tuple, with a query of too many generators
unfoldable pub wide_lines : List DeedSize → List ℕ
wide_lines ds = flat_map (λ d. line_if (nat_lt most_parts d.written.widest) d.line) ds

unfoldable pub gen_lines : List DeedSize → List ℕ
gen_lines ds = flat_map (λ d. line_if (nat_lt most_generators d.written.largest.gens) d.line) ds
