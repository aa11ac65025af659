-- How it is found what the actions of a run show.
use Rattle.std.specs.Prelude.{◌≡◌, ℕ, List}
use Rattle.da_values.specs.declared.val.Val.{Val}
use Rattle.da_values.specs.declared.value.Value.{Value}
use Rattle.da_values.specs.Value.{val_of}
use Rattle.da_lang.specs.declared.event.Action.{Action}
use Rattle.da_system.specs.Queues.{IsAmong}
use Rattle.schedule_hunt.specs.Shown.{HasEnded, IsMet, PutsOut, Says}

-- a process puts out something
abbrev pub IsOutput : Action → Type 0
IsOutput a = (v : Value) × PutsOut v a

-- a process puts out another value than this
abbrev pub IsOtherOutput : Value → Action → Type 0
IsOtherOutput value a = (v : Value) × PutsOut v a × (val_of v ≡ val_of value → ⊥)

-- a process enters, and another one meets it in what follows
abbrev pub EntersAndIsMet : Val → Val → Action → List Action → Type 0
EntersAndIsMet enter leave a others = (q : ℕ) × Says enter q a × IsMet enter leave q others

-- one of so many processes has not ended
abbrev pub HasUnended : ℕ → List Action → Type 0
HasUnended count actions = (p : ℕ) × IsAmong count p × (HasEnded p actions → ⊥)

-- each of the first so many processes has ended
abbrev pub AllEnded : ℕ → List Action → Type 0
AllEnded count actions = (p : ℕ) → IsAmong count p → HasEnded p actions
