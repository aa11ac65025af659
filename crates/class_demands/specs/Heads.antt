-- What stands for the slots that take types from headers, and what these headers demand.
use Rattle.std.specs.Prelude.{ℕ, zero, suc, List, [], ◌∷◌, slice_set}
use Rattle.da_lang.specs.declared.query.Query.{Query}
use Rattle.da_lang.specs.QueryTypes.{given}
use Rattle.da_lang.specs.World.{at_number}
use Rattle.type_table.specs.declared.scheme.Scheme.{Scheme}
use Rattle.type_table.specs.declared.scheme.Scheme.TheVariants as s
use Rattle.type_demands.specs.declared.demand.Demand.TheVariants as d
use Rattle.type_demands.specs.declared.known.MessageScheme.{MessageScheme}
use Rattle.type_demands.specs.declared.known.SlotScheme.{SlotScheme}
use Rattle.type_demands.specs.declared.known.SlotScheme.TheVariants as slot
use Rattle.type_demands.specs.Exprs.{is_one}
use Rattle.type_demands.specs.KnownView.{slot_in, message_in}
use Rattle.type_demands.specs.Syms.{Context}
use Rattle.type_demands.specs.Terms.{RowSym, row_sym}
use Rattle.untyped_laws.specs.Flow.{Step, Loops, Finds, Takes, step_binds}
use Rattle.class_demands.specs.declared.demands.Head.{Head}
use Rattle.class_demands.specs.Statements.{found_rows, handler_rows, sym_of}

-- what stands for slots and messages
abbrev pub context_in : List MessageScheme → List SlotScheme → Context
context_in messages slots = record { slot = slot_in slots; message = message_in messages }

-- what a header demands, and the row of types from it: a loop takes the elements of a set
abbrev pub elements_row : Context → List Query → Step → RowSym
elements_row context queries (Loops slot x) =
    row_sym (is_one d.Elements (sym_of context queries x)) (s.Element (sym_of context queries x).itself.scheme ∷ [])
elements_row context queries (Finds binds found) = found_rows context (given found (at_number queries))
elements_row context queries (Takes h) = handler_rows context h

-- slots take their types from a row, as far as it goes
abbrev pub bind_slot : ℕ → Scheme → List SlotScheme → List SlotScheme
bind_slot zero x slots = slots
bind_slot (suc place) x slots = slice_set slots place (slot.Bound x)

abbrev pub bind_slots : List ℕ → List Scheme → List SlotScheme → List SlotScheme
bind_slots [] xs slots = slots
bind_slots (b ∷ bs) [] slots = slots
bind_slots (b ∷ bs) (x ∷ xs) slots = bind_slots bs xs (bind_slot b x slots)

module _ (messages : List MessageScheme) (queries : List Query) where
  -- the row of a header, where this stands for the slots so far
  abbrev pub step_row : Step → List SlotScheme → RowSym
  step_row step slots = elements_row (context_in messages slots) queries step

  abbrev pub after_step : Step → List SlotScheme → List SlotScheme
  after_step step slots = bind_slots (step_binds step) (step_row step slots).row slots

  -- what stands for the slots after headers in turn
  abbrev pub after_steps : List Step → List SlotScheme → List SlotScheme
  after_steps [] slots = slots
  after_steps (step ∷ steps) slots = after_steps steps (after_step step slots)

  -- the headers
  abbrev pub heads : List Step → List SlotScheme → List Head
  heads [] slots = []
  heads (step ∷ steps) slots = record { binds = step_binds step; demands = (step_row step slots).demands } ∷ heads steps (after_step step slots)
