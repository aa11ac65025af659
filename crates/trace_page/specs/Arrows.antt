-- The arrows of a picture: from where a message was sent to where it arrived.
use Rattle.std.specs.Prelude.{ℕ, ◌+◌, ◌-◌, ◌==◌, ◌&&◌, Bool, false, if◌then◌else◌, List, [], ◌∷◌, Option, Some, None, find, option_map}
use Rattle.std.specs.List.{list_any}
use Rattle.da_lang.specs.declared.event.Action.{Action}
use Rattle.da_lang.specs.declared.event.Action.TheVariants.{Sent, Got, Lost}
use Rattle.trace_page.specs.declared.markup.Markup.{Markup}
use Rattle.trace_page.specs.declared.markup.Markup.TheVariants.{Arrow, Broken, Stub, InColumn, FromEvent, ToEvent, PathAt, Space, CurveTo, PathEnd}
use Rattle.trace_page.specs.declared.page.Page.{Page}
use Rattle.trace_page.specs.declared.sheet.Place.{Place}
use Rattle.trace_page.specs.Layout.{Point, beside, column_in, point, x_of, y_of}
use Rattle.trace_page.specs.Parts.{Part, mark, number, parts_text}
use Rattle.trace_page.specs.Rows.{Spot}

-- A message is told from all others by its sender and the time of the sender's clock. These say whether an action sent it, and
-- whether it tells what became of it.
abbrev pub sends : ℕ → ℕ → Action → Bool
sends p t (Sent from to time v) = (from == p) && (time == t)
sends p t _ = false

abbrev pub tells_end : ℕ → ℕ → Action → Bool
tells_end p t (Got q from time v) = (from == p) && (time == t)
tells_end p t (Lost from to time) = (from == p) && (time == t)
tells_end p t _ = false

-- where it was sent: at the first action that sent it
abbrev pub place_of : Spot → Place
place_of s = record { event = s.event; line = s.line }

abbrev pub sent_at : List Spot → ℕ → ℕ → Option Place
sent_at spots p t = option_map place_of (find (λ s. sends p t s.action) spots)

abbrev pub has_end : List Spot → ℕ → ℕ → Bool
has_end spots p t = list_any (λ s. tells_end p t s.action) spots

-- a way between the columns of two processes, of these events; within one column it goes out to the left
abbrev pub way_parts : Page → Markup → ℕ → ℕ → ℕ → ℕ → Point → Point → List Part
way_parts page opening p q from to a b =
    mark opening ∷ number (column_in page.columns p + 1) ∷ mark InColumn ∷ number (column_in page.columns q + 1)
    ∷ mark FromEvent ∷ number from ∷ mark ToEvent ∷ number to
    ∷ mark PathAt ∷ number a.x ∷ mark Space ∷ number a.y
    ∷ mark CurveTo ∷ number (if a.x == b.x then a.x - 40 else a.x) ∷ mark Space ∷ number a.y
    ∷ mark Space ∷ number b.x ∷ mark Space ∷ number b.y ∷ mark PathEnd ∷ []

-- the arrow of a message that q got from p; where nothing sent it, it comes from nowhere
abbrev pub got_parts : Page → ℕ → ℕ → ℕ → ℕ → Option Place → List Part
got_parts page p q event line (Some s) = way_parts page Arrow p q s.event event (point page p s.line) (point page q line)
got_parts page p q event line None =
    way_parts page Arrow p q event event (record { x = beside (x_of page q) (x_of page p); y = y_of line - 9 }) (point page q line)

-- a message that is lost ends in its sender's column
abbrev pub lost_parts : Page → ℕ → ℕ → ℕ → ℕ → Option Place → List Part
lost_parts page p q event line (Some s) = way_parts page Broken p q s.event event (point page p s.line) (point page p line)
lost_parts page p q event line None = []

-- one of which nothing more is told is drawn a little way
abbrev pub sent_parts : Page → ℕ → ℕ → ℕ → ℕ → Bool → List Part
sent_parts page p q event line ends =
    if ends then [] else way_parts page Stub p q event event (point page p line) (record { x = beside (x_of page p) (x_of page q); y = y_of line + 9 })

abbrev pub arrow_parts : Page → List Spot → ℕ → ℕ → Action → List Part
arrow_parts page spots event line (Got q p t v) = got_parts page p q event line (sent_at spots p t)
arrow_parts page spots event line (Lost p q t) = lost_parts page p q event line (sent_at spots p t)
arrow_parts page spots event line (Sent p q t v) = sent_parts page p q event line (has_end spots p t)
arrow_parts page spots event line _ = []

abbrev pub arrow_text : Page → List Spot → Spot → List ℕ
arrow_text page spots s = parts_text (arrow_parts page spots s.event s.line s.action)
