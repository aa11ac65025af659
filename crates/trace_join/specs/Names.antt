-- The events that a line of a schedule can name.
use Rattle.da_lang.specs.declared.event.Event.{Event}
use Rattle.da_lang.specs.declared.event.Event.TheVariants.{Move, Take, Timeout, Deliver, Lose, Repeat, Show, Stat}
use Rattle.sched_text.specs.EventText.{IsNamed}

-- a schedule can name all numbers of the event
abbrev pub IsNameable : Event → Type 0
IsNameable (Move p) = IsNamed p
IsNameable (Take p k) = IsNamed p × IsNamed k
IsNameable (Timeout p) = IsNamed p
IsNameable (Deliver p q i) = IsNamed p × IsNamed q × IsNamed i
IsNameable (Lose p q i) = IsNamed p × IsNamed q × IsNamed i
IsNameable (Repeat p q i) = IsNamed p × IsNamed q × IsNamed i
IsNameable (Show p) = IsNamed p
IsNameable (Stat p) = IsNamed p
