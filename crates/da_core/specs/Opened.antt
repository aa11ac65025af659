-- The patterns of handlers that match whatever slots and variables hold, and which messages a process takes by them.
use Rattle.std.specs.Prelude.{ℕ, Bool, not, ◌&&◌, ◌||◌, List, [], Option, is_some}
use Rattle.std.specs.List.{filter, list_any}
use Rattle.da_values.specs.declared.val.Val.{Val}
use Rattle.da_values.specs.declared.val.Val.TheVariants as val
use Rattle.da_lang.specs.declared.program.Handler.{Handler}
use Rattle.da_lang.specs.Labels.{is_open}
use Rattle.da_lang.specs.Live.{live_pattern}
use Rattle.da_lang.specs.Matching.{matched}
use Rattle.da_core.specs.declared.opened.Opened.{Opened}

-- the two patterns of a handler, with a variable for each term that varies
abbrev pub opened : Handler → Opened
opened h = record { message = live_pattern h.message; from = live_pattern h.from }

-- they match this message and sender in process `me`
abbrev pub lets_in : ℕ → Val → ℕ → Opened → Bool
lets_in me m p patterns = is_some (matched me [] patterns.message m []) && is_some (matched me [] patterns.from (val.Proc p) [])

-- By which of these handlers may match a message: it is taken at a label where none may, or one that is open there may.
abbrev pub taken_by : (Handler → Bool) → Option ℕ → List Handler → Bool
taken_by matches label handlers = not (list_any matches handlers) || list_any matches (filter (is_open label) handlers)
