-- The bytes of a page: what stands in it of a run, read from the top.
use Rattle.std.specs.Prelude.{ℕ, ◌+◌, ◌*◌, ◌-◌, nat_lt, Bool, false, if◌then◌else◌, List, [], ◌∷◌, ◌++◌, codes, length, map, take}
use Rattle.std.specs.List.{flat_map}
use Rattle.std.specs.Str.Lines.{lines}
use Rattle.da_lang.specs.declared.event.Action.{Action}
use Rattle.da_lang.specs.declared.event.Action.TheVariants.{End, Fault, Stop}
use Rattle.sched_text.specs.ActionLine.{bare_line}
use Rattle.trace_page.specs.declared.markup.Frame.{Frame}
use Rattle.trace_page.specs.declared.markup.Frame.TheVariants as f
use Rattle.trace_page.specs.declared.markup.Markup.{Markup}
use Rattle.trace_page.specs.declared.markup.Markup.TheVariants as m
use Rattle.trace_page.specs.declared.page.Change.{Change}
use Rattle.trace_page.specs.declared.page.Column.{Column}
use Rattle.trace_page.specs.declared.page.Kind.{Kind}
use Rattle.trace_page.specs.declared.page.Kind.TheVariants.{Trace, Run}
use Rattle.trace_page.specs.declared.page.Page.{Page}
use Rattle.trace_page.specs.declared.page.Row.{Row}
use Rattle.trace_page.specs.Arrows.{arrow_text}
use Rattle.trace_page.specs.Layout.{column_in, first_number, height_of, processes_of, top_of, width_of, x_of, y_of}
use Rattle.trace_page.specs.Parts.{Part, frame, mark, number, parts_text, text}
use Rattle.trace_page.specs.Rows.{Placed, Spot, height, placed, process_of, rows_of, spots_of}
use Rattle.trace_page.specs.Shapes.{is_left, label_of, shape_of, word_of}

-- THE HEAD: what was remarked of the run, and how much it is

abbrev pub remark_text : List ℕ → List ℕ
remark_text remark = parts_text (frame f.Remark ∷ text remark ∷ frame f.ParagraphEnd ∷ [])

-- the opening of a run is no event
abbrev pub event_count : Page → ℕ
event_count page = length page.rows + first_number page.kind - 1

abbrev pub counts_text : Page → List Spot → List ℕ
counts_text page spots =
    parts_text (
    frame f.Events ∷ number (event_count page) ∷ frame f.Actions ∷ number (length spots) ∷ frame f.Processes ∷ number (length page.columns)
    ∷ frame f.Names ∷ number (width_of page) ∷ frame f.NamesBox ∷ number (width_of page) ∷ frame f.NamesOpen ∷ []
    )

abbrev pub name_text : Page → Column → List ℕ
name_text page c =
    parts_text (mark m.Name ∷ number (x_of page c.process) ∷ mark m.LabelOpen ∷ text c.name ∷ mark m.Space ∷ number c.process ∷ mark m.LabelClose ∷ [])

abbrev pub diagram_text : Page → List ℕ
diagram_text page =
    parts_text (
    mark m.Diagram ∷ number (width_of page) ∷ mark m.Height ∷ number (height_of page) ∷ mark m.ViewBox ∷ number (width_of page) ∷ mark m.Space
    ∷ number (height_of page) ∷ mark m.DiagramOpen ∷ []
    )

-- THE ROWS: each a band over all columns, with its number and the words of its event

abbrev pub band_word : Bool → Markup
band_word is_marked = if is_marked then m.MarkedBand else m.Band

abbrev pub band_text : Page → Placed → List ℕ
band_text page at =
    parts_text (
    mark (band_word at.row.is_marked) ∷ number at.event ∷ mark m.BandAt ∷ number (top_of at.line) ∷ mark m.Width ∷ number (width_of page) ∷ mark m.Height
    ∷ number (18 * height at.row) ∷ mark m.LinkTo ∷ number at.event ∷ mark m.BandLabel ∷ number (top_of at.line + 13) ∷ mark m.LabelOpen ∷ number at.event
    ∷ mark m.Space ∷ text at.row.words ∷ mark m.BandEnd ∷ []
    )

-- THE COLUMNS: each a line downwards, faint after the end of its process

abbrev pub life_text : Page → Column → List ℕ
life_text page c =
    parts_text (
    mark m.Life ∷ number (x_of page c.process) ∷ mark m.Space ∷ number 0 ∷ mark m.LineTo ∷ number (x_of page c.process) ∷ mark m.Space
    ∷ number (height_of page) ∷ mark m.PathEnd ∷ []
    )

abbrev pub past_parts : Page → ℕ → ℕ → List Part
past_parts page p line =
    mark m.Past ∷ number (x_of page p) ∷ mark m.Space ∷ number (y_of line) ∷ mark m.LineTo ∷ number (x_of page p) ∷ mark m.Space
    ∷ number (height_of page) ∷ mark m.PathEnd ∷ []

abbrev pub past_of : Page → ℕ → Action → List Part
past_of page line (End p) = past_parts page p line
past_of page line (Fault p kind l) = past_parts page p line
past_of page line _ = []

abbrev pub past_text : Page → Spot → List ℕ
past_text page s = parts_text (past_of page s.line s.action)

-- THE MARKS: one for each action, in its line and in the column of its process, with its whole line as a title

abbrev pub dots : List ℕ → Markup
dots label = if nat_lt 22 (length label) then m.DotsClose else m.LabelClose

abbrev pub label_x : Page → Action → ℕ
label_x page a = if is_left a then x_of page (process_of a) - 10 else x_of page (process_of a) + 10

abbrev pub label_word : Action → Markup
label_word a = if is_left a then m.LabelLeft else m.LabelOpen

abbrev pub mark_parts : Page → ℕ → ℕ → Action → List Part
mark_parts page event line a =
    mark m.MarkOpen ∷ mark (word_of a) ∷ mark m.InColumn ∷ number (column_in page.columns (process_of a) + 1) ∷ mark m.OfEvent ∷ number event
    ∷ mark m.Title ∷ text (bare_line a) ∷ mark m.ShapeAt ∷ number (x_of page (process_of a)) ∷ mark m.Space ∷ number (y_of line) ∷ mark (shape_of a)
    ∷ mark m.Label ∷ number (label_x page a) ∷ mark m.Y ∷ number (y_of line + 4) ∷ mark (label_word a)
    ∷ text (take 22 (label_of a)) ∷ mark (dots (label_of a)) ∷ mark m.MarkEnd ∷ []

-- the stop of a run goes across all columns
abbrev pub stop_parts : Page → ℕ → ℕ → Action → List Part
stop_parts page event line a =
    mark m.StopOpen ∷ number event ∷ mark m.Title ∷ text (bare_line a) ∷ mark m.Across ∷ number (y_of line) ∷ mark m.AcrossTo ∷ number (width_of page)
    ∷ mark m.Space ∷ number (y_of line) ∷ mark m.StopLabel ∷ number (y_of line + 4) ∷ mark m.LabelOpen ∷ mark m.StopWords ∷ text (label_of a)
    ∷ mark m.LabelClose ∷ mark m.MarkEnd ∷ []

abbrev pub parts_at : Page → ℕ → ℕ → Action → List Part
parts_at page event line (Stop i) = stop_parts page event line (Stop i)
parts_at page event line a = mark_parts page event line a

abbrev pub mark_text : Page → Spot → List ℕ
mark_text page s = parts_text (parts_at page s.event s.line s.action)

-- THE PROGRAM, line by line

abbrev pub program_line : List ℕ → List ℕ
program_line line = parts_text (frame f.ProgramLine ∷ text line ∷ frame f.ItemEnd ∷ [])

abbrev pub program_text : Kind → List ℕ → List ℕ
program_text Trace program = parts_text (frame f.PictureEnd ∷ [])
program_text Run program = parts_text (frame f.Program ∷ []) ++ flat_map program_line (lines program) ++ parts_text (frame f.ProgramEnd ∷ [])

-- THE TABLE: of each row its number, its words, the lines of its actions, and what it changed in the states

abbrev pub action_item : Action → List ℕ
action_item a = parts_text (text (bare_line a) ∷ frame f.Break ∷ [])

abbrev pub change_item : Change → List ℕ
change_item c =
    parts_text (
    frame f.ChangeOf ∷ number c.process ∷ frame f.ChangeAt ∷ number c.place ∷ frame f.ChangeOpen ∷ number c.process ∷ frame f.ChangeName ∷ text c.name
    ∷ frame f.ChangeValue ∷ text (take 1000 c.value) ∷ frame (if nat_lt 1000 (length c.value) then f.ChangeCut else f.ChangeEnd) ∷ []
    )

abbrev pub changes_text : Kind → List Change → List ℕ
changes_text Trace changes = []
changes_text Run changes = parts_text (frame f.Changes ∷ []) ++ flat_map change_item changes ++ parts_text (frame f.ChangesEnd ∷ [])

abbrev pub row_word : Bool → Frame
row_word is_marked = if is_marked then f.MarkedRow else f.RowOpen

abbrev pub row_text : Kind → Placed → List ℕ
row_text kind at =
    parts_text (frame (row_word at.row.is_marked) ∷ number at.event ∷ frame f.RowNumber ∷ number at.event ∷ frame f.RowWords ∷ text at.row.words ∷ frame f.CellNext ∷ [])
    ++ flat_map action_item at.row.actions
    ++ parts_text (frame f.CellEnd ∷ [])
    ++ changes_text kind at.row.changes
    ++ parts_text (frame f.RowEnd ∷ [])

abbrev pub table_word : Kind → Frame
table_word Trace = f.TableOfTrace
table_word Run = f.TableOfRun

-- THE WHOLE PAGE

abbrev pub picture_text : Page → List Placed → List Spot → List ℕ
picture_text page rows spots =
    diagram_text page
    ++ flat_map (band_text page) rows
    ++ parts_text (mark m.Lives ∷ [])
    ++ flat_map (life_text page) page.columns
    ++ flat_map (past_text page) spots
    ++ parts_text (mark m.Arrows ∷ [])
    ++ flat_map (arrow_text page spots) spots
    ++ parts_text (mark m.Marks ∷ [])
    ++ flat_map (mark_text page) spots

abbrev pub text_of_rows : Page → List ℕ → List Placed → List Spot → List ℕ
text_of_rows page program rows spots =
    parts_text (frame f.Head ∷ [])
    ++ flat_map remark_text page.remarks
    ++ counts_text page spots
    ++ flat_map (name_text page) page.columns
    ++ picture_text page rows spots
    ++ program_text page.kind program
    ++ parts_text (frame (table_word page.kind) ∷ [])
    ++ flat_map (row_text page.kind) rows
    ++ parts_text (frame f.Foot ∷ [])

-- the rows that a page has, and its actions
abbrev pub rows_in : Page → List Placed
rows_in page = placed (first_number page.kind) 0 page.rows

abbrev pub page_text : Page → List ℕ → List ℕ
page_text page program = text_of_rows page program (rows_in page) (spots_of (rows_in page))

-- THE PAGE OF A TRACE

abbrev pub trace_row : List Action → Row
trace_row actions = record { words = []; actions = actions; changes = []; is_marked = false }

abbrev pub trace_column : ℕ → Column
trace_column p = record { process = p; name = codes "process" }

abbrev pub trace_page : List Action → Page
trace_page actions =
    record { kind = Trace; remarks = []; columns = map trace_column (processes_of actions); rows = map trace_row (rows_of actions) }

-- the bytes of the page of these actions
abbrev pub page_of : List Action → List ℕ
page_of actions = page_text (trace_page actions) []
