-- The rows that statements and handlers bind, and slots whose type is not known.
use Rattle.std.specs.Prelude.{ℕ, Bool, true, false, ◌||◌, List, [], Option, Some, None, slice_get}
use Rattle.da_lang.specs.declared.program.Handler.{Handler}
use Rattle.da_lang.specs.declared.query.Query.{Query}
use Rattle.da_lang.specs.declared.ty.Ty.{Ty}
use Rattle.da_lang.specs.declared.ty.Ty.TheVariants as t
use Rattle.da_lang.specs.QueryTypes.{Known, given, holds_of, message_row, pattern_row, query_row}
use Rattle.da_lang.specs.Types.{element_of, is_proc}
use Rattle.da_lang.specs.World.{at_number}

-- of the `some` of this number, if there is one
abbrev pub found_with : Known → List Query → Option ℕ → Option (List Ty)
found_with known queries found = given (given found (at_number queries)) (query_row known)

-- of a handler
abbrev pub heard_with : Known → Handler → Option (List Ty)
heard_with known h = given (message_row known h.message []) (pattern_row known h.from t.Proc)

abbrev pub is_unknown : Option Ty → Bool
is_unknown None = true
is_unknown (Some ty) = false

-- there is a slot at this place, and its type is not known
abbrev pub unknown_at : List (Option Ty) → ℕ → Bool
unknown_at slots at = holds_of (slice_get slots at) is_unknown

-- a process, or a set of them
abbrev pub goes_to : Ty → Bool
goes_to ty = is_proc ty || holds_of (element_of ty) is_proc
