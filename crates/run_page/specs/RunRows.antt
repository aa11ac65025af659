-- The rows of a run: its opening, and then an event after the other, each with what it did and what it changed.
use Rattle.std.specs.Prelude.{◌≡◌, ◌==◌, ℕ, ◌+◌, false, List, [], ◌∷◌, codes, length, map, Option, Some, None, slice_get, unwrap_or}
use Rattle.std.specs.List.{flat_map, list_any}
use Rattle.da_lang.specs.declared.event.Action.{Action}
use Rattle.da_lang.specs.declared.event.Action.TheVariants.{Stop}
use Rattle.da_lang.specs.declared.event.Event.{Event}
use Rattle.da_lang.specs.declared.program.Class.{Class}
use Rattle.da_lang.specs.declared.program.ProcDecl.{ProcDecl}
use Rattle.da_lang.specs.declared.program.Program.{Program}
use Rattle.da_lang.specs.declared.tree.ClassTree.{ClassTree}
use Rattle.da_lang.specs.declared.tree.Tree.{Tree}
use Rattle.da_lang.specs.ClassParts.{variables}
use Rattle.da_lang.specs.World.{at_number, class_of}
use Rattle.da_core.specs.Told.{numbers_to}
use Rattle.da_system.specs.SystemStep.{AfterEvent, SystemState, start, sys_step}
use Rattle.sched_text.specs.EventText.{event_text}
use Rattle.trace_page.specs.declared.page.Column.{Column}
use Rattle.trace_page.specs.declared.page.Kind.TheVariants.{Run}
use Rattle.trace_page.specs.declared.page.Page.{Page}
use Rattle.trace_page.specs.declared.page.Row.{Row}
use Rattle.trace_page.specs.PageText.{page_text}
use Rattle.run_page.specs.declared.cells.Cell.{Cell}
use Rattle.run_page.specs.Cells.{all_cells, changes}
use Rattle.run_page.specs.Remarks.{events_named, remarks_in}

-- THE NAMES: the variables of the class of a process, in the order of the text, which are its first slots

abbrev pub names_in : ClassTree → List (List ℕ)
names_in c = map (λ v. v.name) (variables c)

abbrev pub names_by_class : Tree → List (List (List ℕ))
names_by_class tree = map names_in tree.classes

-- of each process
abbrev pub names_for : Tree → ProcDecl → List (List ℕ)
names_for tree d = unwrap_or (slice_get (names_by_class tree) d.class) []

abbrev pub names_by_process : Program → Tree → List (List (List ℕ))
names_by_process program tree = map (names_for tree) program.procs

abbrev pub names_at : List (List (List ℕ)) → ℕ → List (List ℕ)
names_at names p = unwrap_or (at_number names p) []

-- ONE ROW

abbrev pub opening_row : List (List Cell) → Row
opening_row now = record { words = codes "the opening"; actions = []; changes = changes [] now; is_marked = false }

abbrev pub event_row : List ℕ → ℕ → Event → List Action → List (List Cell) → List (List Cell) → Row
event_row marked i e actions old now = record { words = event_text e; actions = actions; changes = changes old now; is_marked = list_any (λ n. n == i) marked }

-- an event that is not allowed changes nothing
abbrev pub stop_row : List ℕ → ℕ → Event → Row
stop_row marked i e = record { words = event_text e; actions = Stop i ∷ []; changes = []; is_marked = list_any (λ n. n == i) marked }

-- ALL ROWS

-- the rows of event i by its step: it stops the run where it is not allowed
abbrev pub AtEvent : List ℕ → ℕ → Event → Option AfterEvent → (AfterEvent → List Row → Type 0) → List Row → Type 0
AtEvent marked i e None Rest rows = rows ≡ stop_row marked i e ∷ []
AtEvent marked i e (Some after) Rest rows = Rest after rows

-- the rows of these events from a state with these cells, numbered from i on; the lines where processes wait are any
abbrev pub AreRows : Program → (ℕ → List (List ℕ)) → List ℕ → ℕ → SystemState → List (List Cell) → List Event → List Row → Type 0
AreRows program names marked i s old [] rows = rows ≡ []
AreRows program names marked i s old (e ∷ events) rows =
    AtEvent marked i e (sys_step program s e) (λ after found.
    (lines : List ℕ) × (others : List Row)
    × (found ≡ event_row marked i e after.actions old (all_cells program names after.state lines) ∷ others)
    × AreRows program names marked (i + 1) after.state (all_cells program names after.state lines) events others) rows

pub record AreRunRows (program : Program) (names : ℕ → List (List ℕ)) (marked : List ℕ) (events : List Event) (rows : List Row) : Type 0 where
  pub lines : List ℕ
  pub others : List Row
  pub is : rows ≡ opening_row (all_cells program names (start program) lines) ∷ others
  pub each : AreRows program names marked 1 (start program) (all_cells program names (start program) lines) events others

-- THE PAGE: a column for each process by its class, the remark at the end of the schedule, and the rows, of which those are marked
-- that the remark names

abbrev pub class_name : Option Class → List ℕ
class_name None = []
class_name (Some class) = class.name

abbrev pub run_column : Program → ℕ → Column
run_column program p = record { process = p; name = class_name (class_of program p) }

abbrev pub page_of_rows : Program → List (List ℕ) → List Row → Page
page_of_rows program remarks rows =
    record { kind = Run; remarks = remarks; columns = map (run_column program) (numbers_to (length program.procs)); rows = rows }

abbrev pub run_page : Program → List ℕ → List Row → Page
run_page program schedule rows = page_of_rows program (remarks_in schedule) rows

abbrev pub marked_in : List ℕ → List ℕ
marked_in schedule = flat_map events_named (remarks_in schedule)

-- the page of these events of a program, whose text, tree and schedule these are
pub record IsRunPage (program : Program) (tree : Tree) (text schedule : List ℕ) (events : List Event) (page : List ℕ) : Type 0 where
  pub rows : List Row
  pub are : AreRunRows program (names_at (names_by_process program tree)) (marked_in schedule) events rows
  pub is : page ≡ page_text (run_page program schedule rows) text
