-- Where things stand in the picture of a page, in pixels from the left and from the top.
use Rattle.std.specs.Prelude.{ℕ, ◌+◌, ◌*◌, ◌-◌, nat_lt, if◌then◌else◌, List, [], ◌∷◌, count_by, length}
use Rattle.std.specs.List.{flat_map}
use Rattle.std.specs.BTreeSet.{insert_key}
use Rattle.std.specs.Ordering.{nat_cmp}
use Rattle.da_lang.specs.declared.event.Action.{Action}
use Rattle.da_lang.specs.declared.event.Action.TheVariants.{Took, Sent, Got, Lost, Again, Out, End, Fault, Answer, Kept, Stop}
use Rattle.trace_page.specs.declared.page.Column.{Column}
use Rattle.trace_page.specs.declared.page.Kind.{Kind}
use Rattle.trace_page.specs.declared.page.Kind.TheVariants.{Trace, Run}
use Rattle.trace_page.specs.declared.page.Page.{Page}
use Rattle.trace_page.specs.Rows.{lines_in}

-- how far the first column lies from the left: before it stand the numbers of rows, of a run the words of its events too, and labels
abbrev pub left : Kind → ℕ
left Trace = 190
left Run = 300

-- the number of the first row: that of a run is its opening
abbrev pub first_number : Kind → ℕ
first_number Trace = 1
first_number Run = 0

-- how many columns stand before that of a process
abbrev pub column_in : List Column → ℕ → ℕ
column_in columns p = count_by (λ c. nat_lt c.process p) columns

abbrev pub x_of : Page → ℕ → ℕ
x_of page p = left page.kind + 160 * column_in page.columns p

-- the top of a line, and its middle
abbrev pub top_of : ℕ → ℕ
top_of line = 20 + 18 * line

abbrev pub y_of : ℕ → ℕ
y_of line = top_of line + 9

abbrev pub width_of : Page → ℕ
width_of page = left page.kind + 160 * length page.columns + 30

abbrev pub height_of : Page → ℕ
height_of page = top_of (lines_in page.rows) + 20

-- A POINT

pub record Point : Type 0 where
  pub x : ℕ
  pub y : ℕ

abbrev pub point : Page → ℕ → ℕ → Point
point page p line = record { x = x_of page p; y = y_of line }

-- a little way from one column to another
abbrev pub beside : ℕ → ℕ → ℕ
beside from to = if nat_lt to from then from - 32 else from + 32

-- THE COLUMNS OF A TRACE: the processes that it names, ascending

abbrev pub named_in : Action → List ℕ
named_in (Took p k) = p ∷ []
named_in (Sent p q t v) = p ∷ q ∷ []
named_in (Got q p t v) = q ∷ p ∷ []
named_in (Lost p q t) = p ∷ q ∷ []
named_in (Again p q t) = p ∷ q ∷ []
named_in (Out p v) = p ∷ []
named_in (End p) = p ∷ []
named_in (Fault p kind line) = p ∷ []
named_in (Answer p n rows) = p ∷ []
named_in (Kept p n) = p ∷ []
named_in (Stop i) = []

-- ascending numbers, with these besides
abbrev pub with_numbers : List ℕ → List ℕ → List ℕ
with_numbers numbers [] = numbers
with_numbers numbers (p ∷ more) = with_numbers (insert_key nat_cmp numbers p) more

abbrev pub processes_of : List Action → List ℕ
processes_of actions = with_numbers [] (flat_map named_in actions)
