-- How long a reliable link tells what it does.
use Rattle.std.specs.Prelude.{ℕ, true, false, List, [], Option, None, ⊤}
use Rattle.std.specs.Option.{option_map}
use Rattle.std.specs.Coded.{Unit-prop}
use Rattle.da_outside.specs.declared.link.LinkEntry.{LinkEntry}
use Rattle.arq_link.specs.declared.telling.Telling.{Telling}
use Rattle.arq_link.specs.declared.telling.Telling.TheVariants.{Unbound, Whole, Failed, Silent}
use Rattle.arq_link.specs.Endpoint.{Endpoint}
use Rattle.arq_link.specs.Telling.{TellsOf, TellsOf-prop, TellsDue, TellsDue-prop, retold}

-- the content, where that of the inner link is this
abbrev pub told_by : Telling → Option (List LinkEntry) → Option (List LinkEntry)
told_by Unbound entries = option_map (λ _. []) entries
told_by Whole entries = option_map retold entries
told_by (Failed false) entries = option_map (λ _. []) entries
told_by (Failed true) entries = option_map retold entries
told_by Silent entries = None

-- after a call that succeeded
abbrev pub after_call : Telling → Telling
after_call Whole = Whole
after_call _ = Silent

-- after a binding that succeeded
abbrev pub after_binding : Telling → Telling
after_binding Unbound = Whole
after_binding _ = Silent

-- after a call that failed
abbrev pub after_failure : Telling → Telling
after_failure Unbound = Failed false
after_failure Whole = Failed true
after_failure _ = Silent

-- the endpoint of this process is the one to which what the inner link tells leads; after a failure all was due
abbrev pub Agrees : Telling → (me : ℕ) → Endpoint → Option (List LinkEntry) → Type 0
Agrees Unbound me endpoint entries = ⊤
Agrees Whole me endpoint entries = TellsOf me endpoint entries
Agrees (Failed false) me endpoint entries = ⊤
Agrees (Failed true) me endpoint entries = TellsDue entries
Agrees Silent me endpoint entries = ⊤

pub Agrees-prop : (telling : Telling) (me : ℕ) (endpoint : Endpoint) (entries : Option (List LinkEntry)) → IsProp (Agrees telling me endpoint entries)
Agrees-prop Unbound me endpoint entries = Unit-prop
Agrees-prop Whole me endpoint entries = TellsOf-prop me endpoint entries
Agrees-prop (Failed false) me endpoint entries = Unit-prop
Agrees-prop (Failed true) me endpoint entries = TellsDue-prop entries
Agrees-prop Silent me endpoint entries = Unit-prop
