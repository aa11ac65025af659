-- Which messages are still read.
use Rattle.std.specs.Prelude.{◌≡◌, ℕ, List, [], Some}
use Rattle.da_values.specs.declared.val.Val.{Val}
use Rattle.da_values.specs.Sets.{Has}
use Rattle.da_lang.specs.declared.query.LivePattern.{LivePattern}
use Rattle.da_lang.specs.declared.query.Node.{Node}
use Rattle.da_lang.specs.declared.query.Source.{Source}
use Rattle.da_lang.specs.Matching.{Row, matched_entry}
use Rattle.da_lang.specs.World.{Data}
use Rattle.query_plan.specs.PlanLive.{plan_live}

-- the live patterns of some plan
abbrev pub CanGive : List LivePattern → Type 0
CanGive patterns = (nodes : List Node) × (patterns ≡ plan_live nodes)

-- a pattern of this source that matches a message with the other process, in a process
abbrev pub IsMatch : Source → Val → ℕ → Data → LivePattern → Type 0
IsMatch source m peer d p = (p.source ≡ source) × ((row : Row) × (matched_entry d p.message p.peer m peer [] ≡ Some row))

-- one of the patterns is
abbrev pub Matches : List LivePattern → Source → Val → ℕ → Data → Type 0
Matches patterns source m peer d = (p : LivePattern) × Has patterns p × IsMatch source m peer d p
