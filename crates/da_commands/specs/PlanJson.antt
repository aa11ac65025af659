-- The printed plans of a program.
use Rattle.std.specs.Prelude.{ℕ, List, ◌++◌, codes, map}
use Rattle.serde_json.specs.Data.{Data, unsigned, number, string, array, object, no_members, member}
use Rattle.serde_json.specs.View.{items_of}
use Rattle.serde_json.specs.Written.{compact_text}
use Rattle.da_lang.specs.declared.program.Class.{Class}
use Rattle.da_lang.specs.declared.program.Program.{Program}
use Rattle.query_plan.specs.declared.plan.Plan.{Plan}
use Rattle.query_plan.specs.PlanLive.{plan_live}
use Rattle.query_plan.specs.PlanText.{live_text, node_texts, query_texts}
use Rattle.query_plan.specs.Questions.{norm_class}

-- texts, and numbers, as an array
abbrev pub texts : List (List ℕ) → Data
texts lines = array (items_of (map string lines))

abbrev pub numbers : List ℕ → Data
numbers list = array (items_of (map (λ n. number (unsigned n)) list))

-- a name, and of a plan the flags, the live patterns, the nodes and the queries; the keys are in the order of their bytes
unfoldable pub named_plan : List ℕ → Plan → Data
named_plan name plan =
    object
    (member (codes "class") (string name)
    (member (codes "flags") (numbers plan.flags)
    (member (codes "live") (texts (map live_text (plan_live plan.nodes)))
    (member (codes "nodes") (texts (node_texts plan.nodes))
    (member (codes "queries") (texts (query_texts plan.queries))
    no_members)))))

-- a class, by its name and its plan
abbrev pub class_data : Class → Data
class_data class = named_plan class.name (norm_class class)

-- all classes, in the order of the text
abbrev pub plan_data : Program → Data
plan_data p = array (items_of (map class_data p.classes))

-- without spaces, on one line
abbrev pub plan_text : Program → List ℕ
plan_text p = compact_text (plan_data p) ++ codes "\n"
