-- The limit on the nodes of a plan.
use Rattle.std.specs.Prelude.{ℕ, Bool, nat_lt, List, map, length, Option}
use Rattle.std.specs.List.{filter}
use Rattle.da_lang.specs.declared.program.Class.{Class}
use Rattle.da_lang.specs.declared.program.Program.{Program}
use Rattle.da_lang.specs.Typing.{least}
use Rattle.query_plan.specs.Questions.{norm_class}

-- the most nodes that the plan of a class may have
abbrev pub most_nodes : ℕ
most_nodes = 4096

-- the plan of the class has more
abbrev pub is_large : Class → Bool
is_large class = nat_lt most_nodes (length (norm_class class).nodes)

-- the lines of such classes, and the earliest of them, if there is one
abbrev pub large_lines : List Class → List ℕ
large_lines classes = map (λ c. c.line) (filter is_large classes)

abbrev pub nodes_fault : Program → Option ℕ
nodes_fault p = least (large_lines p.classes)
