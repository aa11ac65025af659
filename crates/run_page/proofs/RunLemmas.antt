-- A run on its way: whatever rows the rest of the events have, they are those of the whole run behind the rows up to here.
use Rattle.std.proofs.Common.{◌≡◌, refl, sym, ◌∙◌, ap, subst, ℕ, ◌+◌, ◌≤◌, Bool, true, false, List, [], ◌∷◌, ◌++◌, ◌<◌, drop, get_or, length, take, append_assoc, append-nil}
use Rattle.std.proofs.lemmas.Bool.{eq-eqb, ne_eqb, or_from}
use Rattle.std.proofs.lemmas.List.{drop_all, take_all}
use Rattle.std.proofs.lemmas.List.Folds.{list_any_at, list_any_more}
use Rattle.std.specs.List.{list_any}
use Rattle.std.specs.Prelude.{◌==◌, None, Option, Some}
use Rattle.da_lang.specs.declared.event.Action.{Action}
use Rattle.da_lang.specs.declared.event.Event.{Event}
use Rattle.da_lang.specs.declared.program.Program.{Program}
use Rattle.da_system.specs.SourceRun.{and_then, at_event, src_run_from}
use Rattle.da_system.specs.State.{Stands, Whichever, program_of}
use Rattle.da_system.specs.SystemStep.{AfterEvent, SystemState, start, sys_step}
use Rattle.replay_run.specs.Replay.{run_on}
use Rattle.trace_page.specs.declared.page.Change.{Change}
use Rattle.trace_page.specs.declared.page.Row.{Row}
use Rattle.run_page.specs.declared.cells.Cell.{Cell}
use Rattle.run_page.specs.declared.running.Asked.{Asked}
use Rattle.run_page.specs.declared.running.Running.{Running}
use Rattle.run_page.specs.Cells.{all_cells}
use Rattle.run_page.specs.RunRows.{AreRows, AreRunRows, AtEvent, event_row, names_at, opening_row, stop_row}
use Rattle.run_page.specs.Running.{HasAdded, HasGone, HasMore, HasStepped, HasTold, IsOnItsWay, IsOpened, program_in}

-- THE OPENING

pub opened : (asked : Asked) (running : Running) (none : List Row) (row : Row) → running.asked ≡ asked → program_of running.system ≡ program_in asked → Stands running.system (start (program_in asked))
    → ((lines : List ℕ) × Whichever running.system (λ s. running.cells ≡ all_cells (program_of running.system) (names_at asked.names.now) s lines)) → none ≡ [] → row ≡ opening_row running.cells → running.rows ≡ none ++ row ∷ []
    → IsOpened asked running
opened asked running none row same program stands its empty is adds = record {
  asked_is = same;
  program = program;
  stands = stands;
  lines = its.0;
  cells = its.1 (start (program_in asked)) stands ∙ ap (λ p. all_cells p (names_at asked.names.now) (start (program_in asked)) its.0) program;
  rows = adds ∙ ap (λ x. x ++ row ∷ []) empty ∙ ap (λ r. r ∷ []) is;
}

-- ONE EVENT: the step was made between the first two, and the row was added between the last two

module _ (number : ℕ) (e : Event) (s : SystemState) (old mid new : Running) (asked_same : mid.asked ≡ old.asked) (cells_same : mid.cells ≡ old.cells) (rows_same : mid.rows ≡ old.rows) where
  pub gone : (actions : List Action) (allowed : Bool) → program_of old.system ≡ program_in old.asked → program_of mid.system ≡ program_of old.system → HasStepped (program_of old.system) s e (Some actions) mid.system
      → allowed ≡ true → HasTold number e actions mid new → HasGone number e s old allowed new
  gone actions false program kept done never told = absurd (cc)
  gone actions true program kept done is told = record {
    after = done.after;
    is = ap (λ p. sys_step p s e) (sym program) ∙ done.is;
    stands = subst (λ x. Stands x done.after.state) (sym told.system_is) done.stands;
    asked_is = told.asked_is ∙ asked_same;
    program = ap program_of told.system_is ∙ kept ∙ program;
    lines = told.lines;
    cells =
        told.cells done.after.state (subst (λ x. Stands x done.after.state) (sym told.system_is) done.stands)
        ∙ ap (λ a. all_cells (program_in a) (names_at a.names.now) done.after.state told.lines) asked_same;
    rows =
        told.rows ∙ ap (λ rows. rows ++ event_row mid.asked.marked.now number e actions mid.cells new.cells ∷ []) rows_same
        ∙ ap (λ a. old.rows ++ event_row a.marked.now number e actions mid.cells new.cells ∷ []) asked_same
        ∙ ap (λ cells. old.rows ++ event_row old.asked.marked.now number e actions cells new.cells ∷ []) cells_same
        ∙ ap (λ did. old.rows ++ event_row old.asked.marked.now number e did old.cells new.cells ∷ []) done.told;
  }

  pub stops_here : (allowed : Bool) → program_of old.system ≡ program_in old.asked → HasStepped (program_of old.system) s e None mid.system → allowed ≡ false → new.rows ≡ mid.rows ++ stop_row mid.asked.marked.now number e ∷ [] → HasGone number e s old allowed new
  stops_here true program never same adds = absurd (cc)
  stops_here false program never same adds = (
    ap (λ p. sys_step p s e) (sym program) ∙ never.0,
    adds ∙ ap (λ rows. rows ++ stop_row mid.asked.marked.now number e ∷ []) rows_same ∙ ap (λ a. old.rows ++ stop_row a.marked.now number e ∷ []) asked_same,
  )

  -- the system is on its way after a step
  pub stepped_on : (actions : List Action) → program_of old.system ≡ program_in old.asked → program_of mid.system ≡ program_of old.system → HasStepped (program_of old.system) s e (Some actions) mid.system → IsOnItsWay mid
  stepped_on actions program kept done = record { state = done.after.state; stands = done.stands; program = kept ∙ program ∙ ap program_in (sym asked_same) }

  -- whatever it did
  pub gone_on : (found : Option (List Action)) (allowed : Bool) → program_of old.system ≡ program_in old.asked → program_of mid.system ≡ program_of old.system → HasStepped (program_of old.system) s e found mid.system
      → HasAdded number e found mid allowed new → HasGone number e s old allowed new
  gone_on (Some actions) allowed program kept done added = gone actions allowed program kept done added.0 added.1
  gone_on None allowed program kept never added = stops_here allowed program never added.0 added.1

  pub way_on : (found : Option (List Action)) → program_of old.system ≡ program_in old.asked → program_of mid.system ≡ program_of old.system → HasStepped (program_of old.system) s e found mid.system → IsOnItsWay mid
  way_on (Some actions) program kept done = stepped_on actions program kept done
  way_on None program kept never = record { state = s; stands = never.1; program = kept ∙ program ∙ ap program_in (sym asked_same) }

-- what was told of an event that was carried out
pub told : (number : ℕ) (e : Event) (actions : List Action) (old new : Running) → new.asked ≡ old.asked → new.system ≡ old.system → program_of old.system ≡ program_in old.asked
    → ((lines : List ℕ) × Whichever old.system (λ s. new.cells ≡ all_cells (program_of old.system) (names_at old.asked.names.now) s lines)) → new.rows ≡ old.rows ++ event_row old.asked.marked.now number e actions old.cells new.cells ∷ []
    → HasTold number e actions old new
told number e actions old new asked system program its rows = record {
  asked_is = asked;
  system_is = system;
  lines = its.0;
  cells = λ s stands. its.1 s (subst (λ x. Stands x s) system stands) ∙ ap (λ p. all_cells p (names_at old.asked.names.now) s its.0) program;
  rows = rows;
}

-- ONE ROW

abbrev row : List ℕ → List Action → List Change → Bool → Row
row words actions changes marked = record { words = words; actions = actions; changes = changes; is_marked = marked }

pub row_of : (words is_words : List ℕ) (actions is_actions : List Action) (changes is_changes : List Change) (marked is_marked : Bool) → words ≡ is_words → actions ≡ is_actions → changes ≡ is_changes → marked ≡ is_marked
    → row words actions changes marked ≡ row is_words is_actions is_changes is_marked
row_of words is_words actions is_actions changes is_changes marked is_marked a b c d =
    ap (λ (w : List ℕ). row w actions changes marked) a ∙ ap (λ (as' : List Action). row is_words as' changes marked) b ∙ ap (λ (cs : List Change). row is_words is_actions cs marked) c
    ∙ ap (λ (m : Bool). row is_words is_actions is_changes m) d

-- whether a number is among others
pub among_on : (numbers : List ℕ) (i d number : ℕ) → i < length numbers → (get_or numbers i d ≡ number → ⊥) → list_any (λ n. n == number) (take i numbers) ≡ false → list_any (λ n. n == number) (take (i + 1) numbers) ≡ false
among_on numbers i d number inside other so_far =
    list_any_more (λ n. n == number) numbers i d inside ∙ or_from (list_any (λ n. n == number) (take i numbers)) (get_or numbers i d == number) so_far (ne_eqb (get_or numbers i d) number other)

pub among_here : (numbers : List ℕ) (i d number : ℕ) → i < length numbers → get_or numbers i d ≡ number → true ≡ list_any (λ n. n == number) numbers
among_here numbers i d number inside same = sym (list_any_at (λ n. n == number) numbers i d inside (eq-eqb (get_or numbers i d) number same))

pub among_none : (numbers : List ℕ) (i number : ℕ) → length numbers ≤ i → list_any (λ n. n == number) (take i numbers) ≡ false → false ≡ list_any (λ n. n == number) numbers
among_none numbers i number past none = sym none ∙ ap (list_any (λ n. n == number)) (take_all i numbers past)

-- THE WHOLE RUN

-- what an event that is allowed leaves, and one that is not
pub went_on : (number : ℕ) (e : Event) (s : SystemState) (old new : Running) (allowed : Bool) → allowed ≡ true → HasGone number e s old allowed new → HasMore number e s old new
went_on number e s old new allowed is gone = subst (λ b. HasGone number e s old b new) is gone

pub was_stopped : (number : ℕ) (e : Event) (s : SystemState) (old new : Running) (allowed : Bool) → allowed ≡ false → HasGone number e s old allowed new
    → (sys_step (program_in old.asked) s e ≡ None) × (new.rows ≡ old.rows ++ stop_row old.asked.marked.now number e ∷ [])
was_stopped number e s old new allowed is gone = subst (λ b. HasGone number e s old b new) is gone

pub record Came (asked : Asked) (events : List Event) (place : ℕ) (running : Running) : Type 0 where
  pub state : SystemState
  pub stands : Stands running.system state
  pub asked_is : running.asked ≡ asked
  pub program : program_of running.system ≡ program_in asked
  pub stop : (run_on (program_in asked) (start (program_in asked)) events).stop ≡ (src_run_from (program_in asked) (place + 1) state (drop place events)).stop
  pub rows : (rest : List Row) → AreRows (program_in asked) (names_at asked.names.now) asked.marked.now (place + 1) state running.cells (drop place events) rest
      → AreRunRows (program_in asked) (names_at asked.names.now) asked.marked.now events (running.rows ++ rest)

pub came_first : (asked : Asked) (events : List Event) (running : Running) → IsOpened asked running → Came asked events 0 running
came_first asked events running opened = record {
  state = start (program_in asked);
  stands = opened.stands;
  asked_is = opened.asked_is;
  program = opened.program;
  stop = refl;
  rows = λ rest are. record {
    lines = opened.lines;
    others = rest;
    is = ap (λ rows. rows ++ rest) opened.rows ∙ ap (λ cells. opening_row cells ∷ rest) opened.cells;
    each = subst (λ cells. AreRows (program_in asked) (names_at asked.names.now) asked.marked.now 1 (start (program_in asked)) cells events rest) opened.cells are;
  };
}

-- the rows of the events behind one that was carried out
abbrev Later : Program → (ℕ → List (List ℕ)) → List ℕ → ℕ → Event → List (List Cell) → List Event → AfterEvent → List Row → Type 0
Later program names marked i e old events after found =
    (lines : List ℕ) × (others : List Row)
    × (found ≡ event_row marked i e after.actions old (all_cells program names after.state lines) ∷ others)
    × AreRows program names marked (i + 1) after.state (all_cells program names after.state lines) events others

-- one more event was carried out
module _ (asked : Asked) (events : List Event) (place : ℕ) (e : Event) (old new : Running) (here : drop place events ≡ e ∷ drop (place + 1) events) (came : Came asked events place old) (more : HasMore (place + 1) e came.state old new) where
  abbrev program : Program
  program = program_in asked

  step_is : sys_step program came.state e ≡ Some more.after
  step_is = ap (λ a. sys_step (program_in a) came.state e) (sym came.asked_is) ∙ more.is

  on_from : src_run_from program (place + 1) came.state (e ∷ drop (place + 1) events) ≡ and_then more.after.actions (src_run_from program (place + 1 + 1) more.after.state (drop (place + 1) events))
  on_from = ap (λ o. at_event (place + 1) came.state o (λ next. src_run_from program (place + 1 + 1) next (drop (place + 1) events))) step_is

  cells_are : new.cells ≡ all_cells program (names_at asked.names.now) more.after.state more.lines
  cells_are = more.cells ∙ ap (λ a. all_cells (program_in a) (names_at a.names.now) more.after.state more.lines) came.asked_is

  rest_are : (rest : List Row) → AreRows program (names_at asked.names.now) asked.marked.now (place + 1 + 1) more.after.state new.cells (drop (place + 1) events) rest
      → AreRows program (names_at asked.names.now) asked.marked.now (place + 1) came.state old.cells (drop place events) (event_row asked.marked.now (place + 1) e more.after.actions old.cells new.cells ∷ rest)
  rest_are rest are =
      subst (λ es. AreRows program (names_at asked.names.now) asked.marked.now (place + 1) came.state old.cells es (event_row asked.marked.now (place + 1) e more.after.actions old.cells new.cells ∷ rest)) (sym here)
      (subst (λ o. AtEvent asked.marked.now (place + 1) e o (Later program (names_at asked.names.now) asked.marked.now (place + 1) e old.cells (drop (place + 1) events)) (event_row asked.marked.now (place + 1) e more.after.actions old.cells new.cells ∷ rest)) (sym step_is) (
        more.lines,
        rest,
        ap (λ cells. event_row asked.marked.now (place + 1) e more.after.actions old.cells cells ∷ rest) cells_are,
        subst (λ cells. AreRows program (names_at asked.names.now) asked.marked.now (place + 1 + 1) more.after.state cells (drop (place + 1) events) rest) cells_are are,
      ))

  pub came_on : Came asked events (place + 1) new
  came_on = record {
    state = more.after.state;
    stands = more.stands;
    asked_is = more.asked_is ∙ came.asked_is;
    program = more.program ∙ ap program_in came.asked_is;
    stop = came.stop ∙ ap (λ es. (src_run_from program (place + 1) came.state es).stop) here ∙ ap (λ r. r.stop) on_from;
    rows = λ rest are.
        subst (λ rows. AreRunRows program (names_at asked.names.now) asked.marked.now events rows)
        (sym (append_assoc old.rows (event_row asked.marked.now (place + 1) e more.after.actions old.cells new.cells ∷ []) rest) ∙ ap (λ rows. rows ++ rest) (sym rows_are))
        (came.rows (event_row asked.marked.now (place + 1) e more.after.actions old.cells new.cells ∷ rest) (rest_are rest are));
  }
    where
      rows_are : new.rows ≡ old.rows ++ event_row asked.marked.now (place + 1) e more.after.actions old.cells new.cells ∷ []
      rows_are = more.rows ∙ ap (λ a. old.rows ++ event_row a.marked.now (place + 1) e more.after.actions old.cells new.cells ∷ []) came.asked_is

pub on_its_way : (asked : Asked) (events : List Event) (place : ℕ) (running : Running) → Came asked events place running → IsOnItsWay running
on_its_way asked events place running came = record { state = came.state; stands = came.stands; program = came.program ∙ ap program_in (sym came.asked_is) }

module _ (asked : Asked) (events : List Event) (place : ℕ) (running : Running) (came : Came asked events place running) where
  -- no event is left
  module _ (past : length events ≤ place) where
    left : drop place events ≡ []
    left = drop_all place events past

    pub ran_all : AreRunRows (program_in asked) (names_at asked.names.now) asked.marked.now events running.rows
    ran_all =
        subst (AreRunRows (program_in asked) (names_at asked.names.now) asked.marked.now events) (append-nil running.rows)
        (came.rows [] (subst (λ es. AreRows (program_in asked) (names_at asked.names.now) asked.marked.now (place + 1) came.state running.cells es []) (sym left) refl))

    pub never_stopped : (run_on (program_in asked) (start (program_in asked)) events).stop ≡ None
    never_stopped = came.stop ∙ ap (λ es. (src_run_from (program_in asked) (place + 1) came.state es).stop) left

  -- the next event is not allowed
  module _ (e : Event) (here : drop place events ≡ e ∷ drop (place + 1) events) (new : List Row) (none : sys_step (program_in running.asked) came.state e ≡ None) (added : new ≡ running.rows ++ stop_row running.asked.marked.now (place + 1) e ∷ []) where
    none_here : sys_step (program_in asked) came.state e ≡ None
    none_here = ap (λ a. sys_step (program_in a) came.state e) (sym came.asked_is) ∙ none

    pub stopped_rows : AreRunRows (program_in asked) (names_at asked.names.now) asked.marked.now events new
    stopped_rows =
        subst (AreRunRows (program_in asked) (names_at asked.names.now) asked.marked.now events) (sym (added ∙ ap (λ a. running.rows ++ stop_row a.marked.now (place + 1) e ∷ []) came.asked_is))
        (came.rows (stop_row asked.marked.now (place + 1) e ∷ [])
        (subst (λ es. AreRows (program_in asked) (names_at asked.names.now) asked.marked.now (place + 1) came.state running.cells es (stop_row asked.marked.now (place + 1) e ∷ [])) (sym here)
        (subst (λ o. AtEvent asked.marked.now (place + 1) e o (Later (program_in asked) (names_at asked.names.now) asked.marked.now (place + 1) e running.cells (drop (place + 1) events)) (stop_row asked.marked.now (place + 1) e ∷ [])) (sym none_here) refl)))

    pub stopped_there : (run_on (program_in asked) (start (program_in asked)) events).stop ≡ Some (place + 1)
    stopped_there =
        came.stop ∙ ap (λ es. (src_run_from (program_in asked) (place + 1) came.state es).stop) here
        ∙ ap (λ o. (at_event (place + 1) came.state o (λ next. src_run_from (program_in asked) (place + 1 + 1) next (drop (place + 1) events))).stop) none_here
