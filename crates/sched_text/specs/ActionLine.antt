-- The lines of actions, without their ends.
use Rattle.std.specs.Prelude.{◌≡◌, ℕ, ◌^◌, ◌<◌, ◌≤◌, List}
use Rattle.std.specs.List.{join_with_byte}
use Rattle.da_lang.specs.declared.event.Action.{Action}
use Rattle.da_lang.specs.declared.event.Action.TheVariants.{Took, Sent, Got, Lost, Again, Out, End, Fault, Answer, Kept, Stop}
use Rattle.da_values.specs.declared.val.Val.{Val}
use Rattle.da_values.specs.declared.val.Val.TheVariants.{Set}
use Rattle.da_values.specs.Nesting.{nesting}
use Rattle.da_values.specs.Proper.{IsValue}
use Rattle.da_values.specs.Value.{val_of}
use Rattle.sched_text.specs.ActionText.{action_words}

-- a number of so many bits
abbrev pub Fits : ℕ → ℕ → Type 0
Fits bits n = n < 2 ^ bits

-- a value that has a text: nested at most 64 deep
abbrev pub IsShown : Val → Type 0
IsShown x = IsValue x × (nesting x ≤ 64)

-- an action as a program keeps it
abbrev pub IsAction : Action → Type 0
IsAction (Took p k) = Fits 16 p × Fits 32 k
IsAction (Sent p q t v) = Fits 16 p × Fits 16 q × Fits 64 t × IsShown (val_of v)
IsAction (Got q p t v) = Fits 16 q × Fits 16 p × Fits 64 t × IsShown (val_of v)
IsAction (Lost p q t) = Fits 16 p × Fits 16 q × Fits 64 t
IsAction (Again p q t) = Fits 16 p × Fits 16 q × Fits 64 t
IsAction (Out p v) = Fits 16 p × IsShown (val_of v)
IsAction (End p) = Fits 16 p
IsAction (Fault p kind line) = Fits 16 p × Fits 32 line
IsAction (Answer p n rows) = Fits 16 p × Fits 32 n × IsShown (Set rows)
IsAction (Kept p n) = Fits 16 p × Fits 128 n
IsAction (Stop i) = Fits 64 i

-- the line of an action, without its end: its words, with a space between each two
abbrev pub bare_line : Action → List ℕ
bare_line a = join_with_byte 32 (action_words a)

-- the line is that of this action
pub record IsLineOf (a : Action) (line : List ℕ) : Type 0 where
  pub action : IsAction a
  pub is : line ≡ bare_line a

-- a line of some action
abbrev pub IsActionLine : List ℕ → Type 0
IsActionLine line = (a : Action) × IsLineOf a line
