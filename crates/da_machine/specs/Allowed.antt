-- What the store has to be able to answer for an instruction.
use Rattle.std.specs.Prelude.{ℕ, nat_le, Bool, true, false, List, [], ◌∷◌, Option, Some, None}
use Rattle.da_values.specs.declared.val.Val.{Val}
use Rattle.da_lang.specs.declared.code.Instr.{Instr}
use Rattle.da_lang.specs.declared.code.Instr.TheVariants as op
use Rattle.da_lang.specs.declared.program.Class.{Class}
use Rattle.da_lang.specs.declared.program.Program.{Program}
use Rattle.da_lang.specs.Matching.{Row}
use Rattle.da_lang.specs.Queries.{least_row}
use Rattle.da_lang.specs.Turns.{recipients, packet_len, max_packet}
use Rattle.da_lang.specs.World.{Data}
use Rattle.da_machine.specs.declared.machine.Machine.{Machine}
use Rattle.da_machine.specs.Acts.{top, below, innermost}
use Rattle.da_machine.specs.Conditions.{IsKnown, HasSlot, HasQuery, HasSome, Takes, TakesElement, TakesAll, IsSendable, IsPrintable}

module _ (p : Program) (class : Class) where
  -- the slot takes the next element, if there is one
  abbrev pub TakesNext : ℕ → List Val → Type 0
  TakesNext s [] = Unit {0}
  TakesNext s (x ∷ xs) = Takes p class s x

  -- the slots take the parts of the row, if there is one
  abbrev pub TakesRow : List ℕ → Option Row → Type 0
  TakesRow slots None = Unit {0}
  TakesRow slots (Some row) = TakesAll p class slots row

  -- the message may be sent, if it is small enough
  abbrev pub SendableIf : Bool → Val → List ℕ → Type 0
  SendableIf true m ps = IsSendable p m ps
  SendableIf false m ps = Unit {0}

  abbrev pub Asks : Option Instr → Machine → Data → Type 0
  Asks (Some (op.Slot s)) m d = HasSlot class s
  Asks (Some (op.Ask n)) m d = HasQuery class n
  Asks (Some (op.SetSlot s)) m d = Takes p class s (top m.stack)
  Asks (Some (op.Add s)) m d = TakesElement p class s (top m.stack)
  Asks (Some (op.Del s)) m d = TakesElement p class s (top m.stack)
  Asks (Some op.Send) m d =
      SendableIf (nat_le (packet_len (top (below m.stack))) max_packet) (top (below m.stack)) (recipients (top m.stack))
  Asks (Some op.Output) m d = IsPrintable p (top m.stack)
  Asks (Some (op.Next s done)) m d = TakesNext s (innermost m.loops)
  Asks (Some (op.Found n slots)) m d = HasSome class n × TakesRow slots (least_row class.queries n d)
  Asks _ m d = Unit {0}

  -- the process may know this, and the store may be asked what the instruction asks
  pub record IsAllowed (i : Option Instr) (m : Machine) (d : Data) : Type 0 where
    pub known : IsKnown p class d
    pub asks : Asks i m d
