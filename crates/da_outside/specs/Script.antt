-- The calls at which an object in memory fails.
use Rattle.std.specs.Prelude.{ℕ, ◌+◌, ◌-◌, ◌^◌, ◌==◌, min, Bool, Result, Ok, Err}
use Rattle.std.specs.List.{list_any}
use Rattle.da_outside.specs.declared.outside.Trouble.{Trouble}
use Rattle.da_outside.specs.declared.outside.Trouble.TheVariants.{Failed, Memory}
use Rattle.da_outside.specs.declared.script.Script.{Script}

-- a count after one more, which stays at the greatest u64
abbrev pub one_more : ℕ → ℕ
one_more count = min (count + 1) (2 ^ 64 - 1)

-- whether the script names the call that comes next
abbrev pub is_named : Script → Bool
is_named script = list_any (λ call. call == one_more script.calls) script.named

-- after a call
abbrev pub called : Script → Script
called script = record script { calls = one_more script.calls }

-- after a fault
abbrev pub failed : Script → Script
failed script = record script { faults = one_more script.faults }

-- after a call with this result
abbrev pub script_after : {T : Type 0} → Script → Result T Trouble → Script
script_after script (Ok x) = called script
script_after script (Err Failed) = failed (called script)
script_after script (Err Memory) = called script
