-- The events that may be picked in a state, in their order: first the moves and timeouts, and then the deliveries.
use Rattle.std.specs.Prelude.{ℕ, Bool, List, [], ◌∷◌, ◌++◌, map, length, Option, Some, None, is_some}
use Rattle.std.specs.List.{filter, flat_map}
use Rattle.da_lang.specs.declared.event.Event.{Event}
use Rattle.da_lang.specs.declared.event.Event.TheVariants.{Move, Take, Timeout, Deliver}
use Rattle.da_lang.specs.declared.program.Alt.{Alt}
use Rattle.da_lang.specs.declared.program.Item.{Item}
use Rattle.da_lang.specs.declared.program.ItemKind.{ItemKind}
use Rattle.da_lang.specs.declared.program.ItemKind.TheOpen.{ItemKind-F, Await}
use Rattle.da_lang.specs.declared.program.Program.{Program}
use Rattle.da_lang.specs.declared.program.RBranch.{RBranch}
use Rattle.da_lang.specs.Turns.{kind_of}
use Rattle.da_lang.specs.World.{Task, Do, World, Phase, Waiting, at_number}
use Rattle.da_core.specs.Told.{numbers_to}
use Rattle.da_system.specs.SystemStep.{SystemState, sys_step}

-- how many alternatives a process may have to take: those of the `await` at which it waits
abbrev pub alternatives_in : ItemKind-F ItemKind Alt Item RBranch → ℕ
alternatives_in (Await alts timeout label) = length alts
alternatives_in _ = 0

abbrev pub alternatives : Phase → List Task → ℕ
alternatives Waiting (Do item ∷ todo) = alternatives_in (kind_of item)
alternatives _ _ = 0

abbrev pub alternatives_at : Option World → ℕ
alternatives_at None = 0
alternatives_at (Some w) = alternatives w.phase w.todo

-- the numbers of the processes, ascending
abbrev pub processes : SystemState → List ℕ
processes s = numbers_to (length s.worlds)

-- the moves of process p: the one from the opening or a label, then one for each alternative, and then the timeout
abbrev pub moves_of : SystemState → ℕ → List Event
moves_of s p = Move p ∷ map (Take p) (numbers_to (alternatives_at (at_number s.worlds p))) ++ Timeout p ∷ []

-- the deliveries of the first four messages from process p to q, and those from p to each process
abbrev pub deliveries_to : ℕ → ℕ → List Event
deliveries_to p q = map (Deliver p q) (numbers_to 4)

abbrev pub deliveries_from : SystemState → ℕ → List Event
deliveries_from s p = flat_map (deliveries_to p) (processes s)

abbrev pub candidates : SystemState → List Event
candidates s = flat_map (moves_of s) (processes s) ++ flat_map (deliveries_from s) (processes s)

-- THE EVENTS THAT MAY BE PICKED: the candidates that are allowed

abbrev pub is_allowed : Program → SystemState → Event → Bool
is_allowed program s e = is_some (sys_step program s e)

abbrev pub choices : Program → SystemState → List Event
choices program s = filter (is_allowed program s) (candidates s)
