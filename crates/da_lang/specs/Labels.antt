-- The label at which a process waits, and which messages it takes there.
use Rattle.std.specs.Prelude.{ℕ, Bool, false, not, ◌&&◌, ◌||◌, ◌==◌, List, [], ◌∷◌, length, Option, Some, None, is_some}
use Rattle.std.specs.List.{filter, list_any}
use Rattle.da_values.specs.declared.val.Val.{Val}
use Rattle.da_values.specs.declared.val.Val.TheVariants as val
use Rattle.da_lang.specs.declared.program.Alt.{Alt}
use Rattle.da_lang.specs.declared.program.Class.{Class}
use Rattle.da_lang.specs.declared.program.Handler.{Handler}
use Rattle.da_lang.specs.declared.program.Item.{Item}
use Rattle.da_lang.specs.declared.program.ItemKind.{ItemKind}
use Rattle.da_lang.specs.declared.program.ItemKind.TheOpen.{ItemKind-F, Await, Label}
use Rattle.da_lang.specs.declared.program.RBranch.{RBranch}
use Rattle.da_lang.specs.Live.{live_pattern}
use Rattle.da_lang.specs.Matching.{matched}
use Rattle.da_lang.specs.Turns.{kind_of}
use Rattle.da_lang.specs.World.{Task, Do, World}

-- that of a label, or of an `await` directly after one
abbrev pub label_in : ItemKind-F ItemKind Alt Item RBranch → Option ℕ
label_in (Label l) = Some l
label_in (Await alts timeout label) = label
label_in _ = None

-- the label at which a process waits that has this to do
abbrev pub label_before : List Task → Option ℕ
label_before (Do i ∷ todo) = label_in (kind_of i)
label_before _ = None

-- a handler that names no label is open everywhere, another one at its labels
abbrev pub is_at : Option ℕ → List ℕ → Bool
is_at None at = false
is_at (Some l) at = list_any (λ k. k == l) at

abbrev pub is_open : Option ℕ → Handler → Bool
is_open label h = length h.at == 0 || is_at label h.at

abbrev pub open_handlers : Class → List Task → List Handler
open_handlers class todo = filter (is_open (label_before todo)) class.handlers

-- the patterns of a handler match this message and sender, whatever slots and variables hold
abbrev pub may_match : ℕ → Val → ℕ → Handler → Bool
may_match me m p h = is_some (matched me [] (live_pattern h.message) m []) && is_some (matched me [] (live_pattern h.from) (val.Proc p) [])

-- a message is taken where no handler may match it, or an open one may
abbrev pub takes : Class → World → Val → ℕ → Bool
takes class w m p = not (list_any (may_match w.data'.me m p) class.handlers) || list_any (may_match w.data'.me m p) (open_handlers class w.todo)
