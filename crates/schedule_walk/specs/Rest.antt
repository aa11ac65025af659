-- Where a run goes no further.
use Rattle.std.specs.Prelude.{◌≡◌, Bool, true, false, None, IsTrue}
use Rattle.da_lang.specs.declared.event.Event.{Event}
use Rattle.da_lang.specs.declared.event.Event.TheVariants as event
use Rattle.da_lang.specs.declared.program.Program.{Program}
use Rattle.da_system.specs.SystemStep.{SystemState, sys_step}

-- a move, a timeout or a delivery: by such an event a run goes on
abbrev pub goes_on : Event → Bool
goes_on (event.Move p) = true
goes_on (event.Take p k) = true
goes_on (event.Timeout p) = true
goes_on (event.Deliver p q i) = true
goes_on _ = false

-- an event is none of these
abbrev pub IsIdle : Event → Type 0
IsIdle e = goes_on e ≡ false

-- no move, no timeout and no delivery is allowed in this state, whatever the process and the message
abbrev pub IsAtRest : Program → SystemState → Type 0
IsAtRest program s = (e : Event) → IsTrue (goes_on e) → sys_step program s e ≡ None
