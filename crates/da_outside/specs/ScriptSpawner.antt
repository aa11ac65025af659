-- Children in memory.
use Rattle.std.specs.Prelude.{ℕ, ◌-◌, List, [], slice_get}
use Rattle.std.specs.Option.{unwrap_or}
use Rattle.da_outside.specs.declared.script.Script.{Script}
use Rattle.da_outside.specs.declared.script_spawner.ScriptSpawner.{ScriptSpawner}
use Rattle.da_outside.specs.declared.spawner.Ended.{Ended}
use Rattle.da_outside.specs.declared.spawner.SpawnEntry.{SpawnEntry}

-- how the children end, in the order of their numbers
abbrev pub endings_of : ScriptSpawner → List Ended
endings_of spawner = spawner.endings

-- how many were started, the content, and when the calls fail
abbrev pub started_of : ScriptSpawner → ℕ
started_of spawner = spawner.started

abbrev pub spawned_of : ScriptSpawner → List SpawnEntry
spawned_of spawner = spawner.told

abbrev pub spawns_of : ScriptSpawner → Script
spawns_of spawner = spawner.script

-- a child that writes nothing and ends with status 0
abbrev pub quiet_ending : Ended
quiet_ending = record { status = 0; output = [] }

-- how the child of this number ends: as the list says, and quietly after it
abbrev pub ending_of : List Ended → ℕ → Ended
ending_of endings number = unwrap_or (slice_get endings (number - 1)) quiet_ending
