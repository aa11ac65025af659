-- What is seen of nodes behind a part of an `and`. The nodes are those of an `await` of two parts, each an `each`: nodes 1 to 5 are
-- those of the first one and nodes 6 to 10 those of the second one over the root, node 11 is that of the first part, nodes 12 to 16
-- are those of the second part over it, and node 17 is that of both.
use Rattle.std.specs.Prelude.{◌≡◌, ℕ, pos, Bool, true, false, List, [], ◌∷◌, get_or, refl}
use Rattle.da_values.specs.declared.val.Val.TheVariants as val
use Rattle.da_lang.specs.Matching.{Row}
use Rattle.query_plan.specs.declared.stored.Seen.{Seen}
use Rattle.query_plan.specs.declared.stored.Test.{Test}
use Rattle.query_plan.specs.Nodes.{Tables}
use Rattle.query_plan.specs.Seen.{seen_rows}
use Rattle.query_plan.specs.Storing.{rank, renumbered}

abbrev one : List Row
one = [] ∷ []

abbrev number : ℕ → Row
number n = val.Int (pos n) ∷ []

-- node k has none
abbrev none_of : ℕ → Test
none_of k = record { node = k; filled = false }

abbrev itself : ℕ → Seen
itself k = record { node = k; tests = [] }

-- a node as node k, where node 5 has no row
abbrev behind : ℕ → Seen
behind k = record { node = k; tests = none_of 5 ∷ [] }

-- the first 11 nodes are stored
abbrev table : List Seen
table =
    itself 0 ∷ itself 1 ∷ itself 2 ∷ itself 3 ∷ itself 4 ∷ itself 5 ∷ itself 6 ∷ itself 7 ∷ itself 8 ∷ itself 9 ∷ itself 10
    ∷ behind 0 ∷ behind 6 ∷ behind 7 ∷ behind 8 ∷ behind 9 ∷ behind 10
    ∷ record { node = 0; tests = none_of 5 ∷ none_of 10 ∷ [] }
    ∷ []

-- the rows that are stored, where nodes 5, 6, 9 and 10 have these
abbrev stored : List Row → List Row → List Row → List Row → ℕ → List Row
stored fifth sixth ninth tenth i = get_or (one ∷ [] ∷ [] ∷ [] ∷ [] ∷ fifth ∷ sixth ∷ [] ∷ [] ∷ ninth ∷ tenth ∷ []) i []

-- The first part does not hold: the nodes behind it have no rows, nor has the last one.
abbrev not_yet : Tables
not_yet = stored (number 7 ∷ []) (number 2 ∷ number 3 ∷ []) (number 2 ∷ number 3 ∷ []) []

first_part_open : seen_rows not_yet table 11 ≡ []
first_part_open = refl

behind_it : seen_rows not_yet table 12 ≡ []
behind_it = refl

both_open : seen_rows not_yet table 17 ≡ []
both_open = refl

-- It holds, and the second one does not.
abbrev half : Tables
half = stored [] (number 2 ∷ number 3 ∷ []) (number 2 ∷ []) (number 3 ∷ [])

first_part_holds : seen_rows half table 11 ≡ one
first_part_holds = refl

as_over_the_root : seen_rows half table 12 ≡ number 2 ∷ number 3 ∷ []
as_over_the_root = refl

whom_it_waits_for : seen_rows half table 16 ≡ number 3 ∷ []
whom_it_waits_for = refl

second_part_open : seen_rows half table 17 ≡ []
second_part_open = refl

-- Both hold.
abbrev whole : Tables
whole = stored [] (number 2 ∷ number 3 ∷ []) (number 2 ∷ number 3 ∷ []) []

both_hold : seen_rows whole table 17 ≡ one
both_hold = refl

-- There is no node 18.
no_such_node : seen_rows whole table 18 ≡ []
no_such_node = refl

-- Of nodes 0 to 4 the nodes 0, 2 and 3 are kept: node 3 is number 2 among them, and an entry is renumbered so.
abbrev kept : List Bool
kept = true ∷ false ∷ true ∷ true ∷ false ∷ []

number_of_three : rank kept 3 ≡ 2
number_of_three = refl

by_new_numbers : renumbered (rank kept) (record { node = 0; tests = none_of 3 ∷ [] }) ≡ record { node = 0; tests = none_of 2 ∷ [] }
by_new_numbers = refl
