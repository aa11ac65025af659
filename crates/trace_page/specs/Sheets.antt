-- What code keeps while it draws a page.
use Rattle.std.specs.Prelude.{◌≡◌, ℕ, ◌+◌, ◌*◌, ◌^◌, ◌<◌, ◌≤◌, ◌||◌, if◌then◌else◌, List, length, map, Option, None, Some}
use Rattle.std.specs.BTreeMap.{BTreeMap, get}
use Rattle.std.specs.BTreeSet.{BTreeSet, contains}
use Rattle.std.specs.Ordering.{nat_cmp}
use Rattle.da_lang.specs.declared.event.Action.{Action}
use Rattle.da_lang.specs.declared.event.Action.TheVariants.{Got, Lost, Sent}
use Rattle.trace_page.specs.declared.page.Page.{Page}
use Rattle.trace_page.specs.declared.sheet.Place.{Place}
use Rattle.trace_page.specs.declared.sheet.Sending.{Sending}
use Rattle.trace_page.specs.declared.sheet.Sheet.{Sheet}
use Rattle.trace_page.specs.declared.spots.ActionAt.{ActionAt}
use Rattle.trace_page.specs.declared.spots.RowAt.{RowAt}
use Rattle.trace_page.specs.Arrows.{has_end, place_of, sends, sent_at, tells_end}
use Rattle.trace_page.specs.PageText.{rows_in, text_of_rows}
use Rattle.trace_page.specs.Rows.{Placed, Spot, lines_in, spots_of}

abbrev pub row_at : RowAt → Placed
row_at r = record { event = r.event; line = r.line; row = r.row.now }

abbrev pub action_at : ActionAt → Spot
action_at s = record { event = s.event; line = s.line; action = s.action.now }

abbrev pub rows_at : List RowAt → List Placed
rows_at = map row_at

abbrev pub actions_at : List ActionAt → List Spot
actions_at = map action_at

-- the key of the message that a process sent at a time
abbrev pub key_of : (from time : ℕ) → ℕ
key_of from time = time * 65536 + from

-- a map leads from each message to the place where it was sent first, and a set has the messages whose end is told
abbrev pub HasSends : BTreeMap ℕ Place → List Spot → Type 0
HasSends known spots = (p t : ℕ) → p < 2 ^ 16 → get nat_cmp known (key_of p t) ≡ sent_at spots p t

abbrev pub HasEnds : BTreeSet ℕ → List Spot → Type 0
HasEnds known spots = (p t : ℕ) → p < 2 ^ 16 → contains nat_cmp known (key_of p t) ≡ has_end spots p t

-- the message that an action sends, or of which it tells what became of it, by its sender and time
abbrev pub message_in : Sending → ℕ × ℕ
message_in message = (message.process, message.time)

abbrev pub sent_by : Action → Option (ℕ × ℕ)
sent_by (Sent p q t v) = Some (p, t)
sent_by _ = None

abbrev pub ended_by : Action → Option (ℕ × ℕ)
ended_by (Got q p t v) = Some (p, t)
ended_by (Lost p q t) = Some (p, t)
ended_by _ = None

-- one more action
abbrev pub AddsSending : BTreeMap ℕ Place → Spot → BTreeMap ℕ Place → Type 0
AddsSending old s new = (p t : ℕ) → p < 2 ^ 16 → get nat_cmp new (key_of p t) ≡ (if sends p t s.action then Some (place_of s) else get nat_cmp old (key_of p t))

abbrev pub AddsEnd : BTreeSet ℕ → Spot → BTreeSet ℕ → Type 0
AddsEnd old s new = (p t : ℕ) → p < 2 ^ 16 → contains nat_cmp new (key_of p t) ≡ (tells_end p t s.action || contains nat_cmp old (key_of p t))

-- at most as many columns as a process may have numbers
abbrev pub IsNarrow : Page → Type 0
IsNarrow page = length page.columns ≤ 65536

-- the sheet is that of its page: its rows and actions, and how many lines there are
pub record IsSheet (sheet : Sheet) : Type 0 where
  pub narrow : IsNarrow sheet.page.now
  pub rows : rows_at sheet.rows ≡ rows_in sheet.page.now
  pub spots : actions_at sheet.spots ≡ spots_of (rows_in sheet.page.now)
  pub lines : sheet.lines ≡ lines_in sheet.page.now.rows
  pub sends : HasSends sheet.sends (actions_at sheet.spots)
  pub ends : HasEnds sheet.ends (actions_at sheet.spots)

-- the bytes of its page
abbrev pub sheet_text : Sheet → List ℕ → List ℕ
sheet_text sheet program = text_of_rows sheet.page.now program (rows_at sheet.rows) (actions_at sheet.spots)
