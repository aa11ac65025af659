-- What a walk through the headers of a class makes of the slots and of the list of headers.
use Rattle.std.specs.Prelude.{◌≡◌, List, ◌++◌, flat_map, map}
use Rattle.da_lang.specs.declared.program.Class.{Class}
use Rattle.da_lang.specs.declared.query.Query.{Query}
use Rattle.type_demands.specs.declared.demand.Demand.{Demand}
use Rattle.type_demands.specs.declared.demand.LineDemand.{LineDemand}
use Rattle.type_demands.specs.declared.known.MessageScheme.{MessageScheme}
use Rattle.type_demands.specs.declared.known.SlotScheme.{SlotScheme}
use Rattle.type_demands.specs.Syms.{Context}
use Rattle.untyped_laws.specs.Flow.{Step, class_steps}
use Rattle.class_demands.specs.declared.demands.Head.{Head}
use Rattle.class_demands.specs.Heads.{after_steps, heads}
use Rattle.class_demands.specs.Statements.{handler_demands, item_demands}
use Rattle.class_demands.specs.Unknowns.{declared_slot}

-- the slots stand as after these headers, which come after those that were there
abbrev pub Goes : List MessageScheme → List Query → List Step → List SlotScheme → List SlotScheme → List Head → List Head → Type 0
Goes messages queries steps slots then_slots found then_found = (then_slots ≡ after_steps messages queries steps slots) × (then_found ≡ found ++ heads messages queries steps slots)

-- demands without their lines
abbrev pub unlined : List LineDemand → List Demand
unlined listed = map (λ (x : LineDemand). x.demand) listed

-- what stands for the slots of a class after its headers, and these headers
abbrev pub class_slots : List MessageScheme → Class → List SlotScheme
class_slots messages c = after_steps messages c.queries (class_steps c) (map declared_slot c.slots)

abbrev pub class_heads : List MessageScheme → Class → List Head
class_heads messages c = heads messages c.queries (class_steps c) (map declared_slot c.slots)

-- what the statements of a class demand, where this stands for its slots
abbrev pub lines_in : Context → Class → List LineDemand
lines_in context c = flat_map (item_demands context c.queries) (c.setup ++ c.run) ++ flat_map (handler_demands context c.queries) c.handlers
