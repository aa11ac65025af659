-- What is told of a process: the answers of its queries, and how many rows it keeps.
use Rattle.std.specs.Prelude.{ℕ, List, [], map, length, Option, Some, None}
use Rattle.std.specs.List.{range_with_len}
use Rattle.da_lang.specs.declared.event.Action.{Action}
use Rattle.da_lang.specs.declared.event.Action.TheVariants.{Answer}
use Rattle.da_lang.specs.declared.program.Class.{Class}
use Rattle.da_lang.specs.declared.query.Query.{Query}
use Rattle.da_lang.specs.Live.{kept}
use Rattle.da_lang.specs.Queries.{shown_set}
use Rattle.da_lang.specs.World.{Data}

-- the numbers of so many processes or queries: 1, 2 and so on
abbrev pub numbers_to : ℕ → List ℕ
numbers_to count = range_with_len 1 count

-- an answer of each query, ascending by number
abbrev pub answers : ℕ → List Query → Data → List Action
answers p queries d = map (λ n. Answer p n (shown_set queries n d)) (numbers_to (length queries))

-- a process of no class has no queries, and keeps no rows
abbrev pub answers_of : ℕ → Option Class → Data → List Action
answers_of p None d = []
answers_of p (Some class) d = answers p class.queries d

abbrev pub kept_of : Option Class → Data → ℕ
kept_of None d = 0
kept_of (Some class) d = kept class d
