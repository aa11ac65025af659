-- The cells of processes, one after the other.
use Rattle.std.proofs.Common.{◌≡◌, refl, sym, ◌∙◌, ap, subst, ℕ, zero, suc, ◌+◌, ◌-◌, ◌<◌, ◌≤◌, List, [], ◌∷◌, ◌++◌, drop, length, map, take, arith, append_assoc, append-nil, get_or}
use Rattle.std.proofs.lemmas.List.{drop_all, drop_more, get_or_past, length-drop, take_all}
use Rattle.std.proofs.lemmas.Option.{get_or_from_slice_get, slice_get_within}
use Rattle.std.specs.List.{slice_get}
use Rattle.std.specs.Prelude.{codes, decimal, IfSome, None, Option, option_map, Some}
use Rattle.da_values.specs.declared.val.Val.{Val}
use Rattle.da_values.specs.declared.value.Value.{Value}
use Rattle.da_values.specs.Text.{value_text}
use Rattle.da_values.specs.Value.{val_of, vals}
use Rattle.da_lang.specs.declared.event.Action.{Action}
use Rattle.da_lang.specs.declared.event.Action.TheVariants.{Answer}
use Rattle.da_lang.specs.declared.program.Program.{Program}
use Rattle.da_lang.specs.World.{World, at_number, class_of}
use Rattle.da_core.specs.declared.place.Place.{Place}
use Rattle.da_core.specs.Made.{phase_at}
use Rattle.da_core.specs.Told.{answers_of, numbers_to}
use Rattle.da_system.specs.Looking.{answers_at, slots_at}
use Rattle.da_system.specs.SystemStep.{SystemState}
use Rattle.run_page.specs.declared.cells.Cell.{Cell}
use Rattle.run_page.specs.Cells.{answer_cell, cell, cells, cells_from, flight_cell, line_text, phase_text, slot_cells, slot_name, behind}

-- WHERE A PROCESS STANDS

pub stands_as : (found : Option World) (place : Place) (word : List ℕ) → option_map (λ (w : World). w.phase) found ≡ option_map phase_at (Some place) → word ≡ phase_text (phase_at place)
    → IfSome found (λ w. word ≡ phase_text w.phase)
stands_as None place word same is = tt
stands_as (Some w) place word same is = let phases : w.phase ≡ phase_at place = cc in is ∙ ap phase_text (sym phases)

pub stands_nowhere : (found : Option World) (place : Option Place) (word : List ℕ) → option_map (λ (w : World). w.phase) found ≡ option_map phase_at place → place ≡ None → IfSome found (λ w. word ≡ phase_text w.phase)
stands_nowhere None place word same is = tt
stands_nowhere (Some w) None word same is = absurd (cc)
stands_nowhere (Some w) (Some place) word same is = absurd (cc)

pub placed_as : (found : Option World) (word line : List ℕ) (old mid new : List Cell) → IfSome found (λ w. word ≡ phase_text w.phase) → mid ≡ old ++ cell (codes "stands") word ∷ [] → new ≡ mid ++ cell (codes "line") line ∷ []
    → IfSome found (λ w. new ≡ old ++ cell (codes "stands") (phase_text w.phase) ∷ cell (codes "line") line ∷ [])
placed_as None word line old mid new stands first second = tt
placed_as (Some w) word line old mid new stands first second =
    second ∙ ap (λ x. x ++ cell (codes "line") line ∷ []) first ∙ append_assoc old (cell (codes "stands") word ∷ []) (cell (codes "line") line ∷ [])
    ∙ ap (λ x. old ++ cell (codes "stands") x ∷ cell (codes "line") line ∷ []) stands

-- ONE CELL

pub cell_made : (name value is_name is_value : List ℕ) (old new : List Cell) → name ≡ is_name → value ≡ is_value → new ≡ old ++ record { name = name; value = value } ∷ [] → new ≡ old ++ cell is_name is_value ∷ []
cell_made name value is_name is_value old new names values adds = adds ∙ ap (λ (n : List ℕ). old ++ cell n value ∷ []) names ∙ ap (λ (v : List ℕ). old ++ cell is_name v ∷ []) values

-- the first of some names, and the others
pub named_first : (names : List (List ℕ)) (number : ℕ) (name : List ℕ) → 1 ≤ length names → name ≡ get_or names 0 name → name ≡ slot_name names number
named_first [] number name some is = absurd (omega (arith, some))
named_first (n ∷ names) number name some is = is

pub named_none : (names : List (List ℕ)) (number : ℕ) → length names < 1 → codes "#" ++ decimal number ≡ slot_name names number
named_none [] number none = refl
named_none (n ∷ names) number none = absurd (omega (arith, none))

pub behind_first : (names : List (List ℕ)) → 1 ≤ length names → take (length names - 1) (drop 1 names) ≡ behind names
behind_first [] some = absurd (omega (arith, some))
behind_first (n ∷ names) some = take_all (length (n ∷ names) - 1) names (omega arith)

pub behind_none : (names : List (List ℕ)) → length names < 1 → [] ≡ behind names
behind_none [] none = refl
behind_none (n ∷ names) none = absurd (omega (arith, none))

-- an action that is no answer
pub answer_others : (a : Action) → ((p n : ℕ) (rows : List Val) → a ≡ Answer p n rows → ⊥) → cell [] [] ≡ answer_cell a
answer_others (Answer p n rows) none = absurd (none p n rows refl)
answer_others _ none = refl

-- ITS SLOTS AND ANSWERS

pub slots_as : (found : Option World) (names : List (List ℕ)) (slots : List Val) (old new : List Cell) → slots ≡ slots_at found → new ≡ old ++ slot_cells names 1 slots → IfSome found (λ w. new ≡ old ++ slot_cells names 1 w.data'.slots)
slots_as None names slots old new is adds = tt
slots_as (Some w) names slots old new is adds = adds ∙ ap (λ x. old ++ slot_cells names 1 x) is

pub answers_as : (found : Option World) (program : Program) (p : ℕ) (none told : List Action) (old new : List Cell) → none ≡ [] → told ≡ none ++ answers_at program p found → new ≡ old ++ map answer_cell told
    → IfSome found (λ w. new ≡ old ++ map answer_cell (answers_of p (class_of program p) w.data'))
answers_as None program p none told old new empty is adds = tt
answers_as (Some w) program p none told old new empty is adds =
    adds ∙ ap (λ x. old ++ map answer_cell x) (is ∙ ap (λ x. x ++ answers_of p (class_of program p) w.data') empty)

-- one slot more is behind
pub slot_on : (whole : List Cell) (names others : List (List ℕ)) (number next : ℕ) (values : List Value) (place : ℕ) (v : Value) (found more : List Cell) → place < length values → v ≡ get_or values place v
    → whole ≡ found ++ slot_cells names number (vals (drop place values)) → more ≡ found ++ cell (slot_name names number) (value_text (val_of v)) ∷ [] → others ≡ behind names → next ≡ number + 1
    → whole ≡ more ++ slot_cells others next (vals (drop (place + 1) values))
slot_on whole names others number next values place v found more inside here is adds left counted =
    let first = cell (slot_name names number) (value_text (val_of v)) in
    let rest = slot_cells (behind names) (number + 1) (vals (drop (place + 1) values)) in
    is ∙ ap (λ vs. found ++ slot_cells names number (vals vs)) (drop_more values place v inside ∙ ap (λ x. x ∷ drop (place + 1) values) (sym here))
    ∙ sym (append_assoc found (first ∷ []) rest) ∙ ap (λ cs. cs ++ rest) (sym adds)
    ∙ ap (λ ns. more ++ slot_cells ns (number + 1) (vals (drop (place + 1) values))) (sym left) ∙ ap (λ n. more ++ slot_cells others n (vals (drop (place + 1) values))) (sym counted)

pub slots_end : (old new : List Cell) (names left : List (List ℕ)) (number place : ℕ) (values : List Value) → length values ≤ place → old ++ slot_cells names 1 (vals values) ≡ new ++ slot_cells left number (vals (drop place values))
    → new ≡ old ++ slot_cells names 1 (vals values)
slots_end old new names left number place values past is =
    sym (append-nil new) ∙ ap (λ vs. new ++ slot_cells left number (vals vs)) (sym (drop_all place values past)) ∙ sym is

-- ALL OF A PROCESS

pub parts_are : (program : Program) (names : List (List ℕ)) (s : SystemState) (p line count : ℕ) (found : Option World) (none placed slotted told whole : List Cell) → none ≡ [] → count ≡ length s.worlds
    → IfSome found (λ w. placed ≡ none ++ cell (codes "stands") (phase_text w.phase) ∷ cell (codes "line") (line_text line) ∷ []) → IfSome found (λ w. slotted ≡ placed ++ slot_cells names 1 w.data'.slots)
    → IfSome found (λ w. told ≡ slotted ++ map answer_cell (answers_of p (class_of program p) w.data')) → whole ≡ told ++ map (flight_cell s p) (numbers_to count)
    → IfSome found (λ w. whole ≡ cells program names s p line w)
parts_are program names s p line count None none placed slotted told whole empty counted first second third fourth = tt
parts_are program names s p line count (Some w) none placed slotted told whole empty counted first second third fourth =
    let head = cell (codes "stands") (phase_text w.phase) ∷ cell (codes "line") (line_text line) ∷ [] in
    let slots = slot_cells names 1 w.data'.slots in
    let answers = map answer_cell (answers_of p (class_of program p) w.data') in
    let flights = map (flight_cell s p) (numbers_to (length s.worlds)) in
    fourth ∙ ap (λ n. told ++ map (flight_cell s p) (numbers_to n)) counted
    ∙ ap (λ x. x ++ flights) (third ∙ ap (λ x. x ++ answers) (second ∙ ap (λ x. x ++ slots) (first ∙ ap (λ x. x ++ head) empty)))

-- ONE PROCESS AFTER THE OTHER

-- the world at a place, and those behind it
world_at : (worlds : List World) (place : ℕ) → place < length worlds → (w : World) × (slice_get worlds place ≡ Some w)
world_at [] place inside = absurd (omega (arith, inside))
world_at (w ∷ worlds) zero inside = (w, refl)
world_at (w ∷ worlds) (suc place) inside = world_at worlds place (omega (arith, inside))

from_place : (worlds : List World) (place : ℕ) (w : World) → slice_get worlds place ≡ Some w → drop place worlds ≡ w ∷ drop (place + 1) worlds
from_place worlds place w there =
    drop_more worlds place w (slice_get_within worlds place w there) ∙ ap (λ x. x ∷ drop (place + 1) worlds) (get_or_from_slice_get worlds place w w there)

module _ (program : Program) (names : ℕ → List (List ℕ)) (s : SystemState) where
  -- the first of some worlds, where these lines are left
  cut : (p place : ℕ) (lines : List ℕ) (w : World) (worlds : List World)
      → cells_from program names s p (drop place lines) (w ∷ worlds) ≡ cells program (names p) s p (get_or lines place 0) w ∷ cells_from program names s (p + 1) (drop (place + 1) lines) worlds
  cut p place lines w worlds = at (drop place lines) refl
    where
      at : (left : List ℕ) → drop place lines ≡ left
          → cells_from program names s p (drop place lines) (w ∷ worlds) ≡ cells program (names p) s p (get_or lines place 0) w ∷ cells_from program names s (p + 1) (drop (place + 1) lines) worlds
      at [] none =
          let past : length lines ≤ place = omega (arith, ap length none, length-drop place lines) in
          let later : length lines ≤ place + 1 = omega (arith, past) in
          ap (λ ls. cells_from program names s p ls (w ∷ worlds)) none
          ∙ ap (λ l. cells program (names p) s p l w ∷ cells_from program names s (p + 1) [] worlds) (sym (get_or_past lines place 0 past))
          ∙ ap (λ ls. cells program (names p) s p (get_or lines place 0) w ∷ cells_from program names s (p + 1) ls worlds) (sym (drop_all (place + 1) lines later))
      at (l ∷ left) some =
          let inside : place < length lines = omega (arith, ap length some, length-drop place lines) in
          ap (λ ls. cells_from program names s p ls (w ∷ worlds)) (drop_more lines place 0 inside)

  -- so far, the cells of the first processes
  abbrev pub CellsUpTo : ℕ → List ℕ → List (List Cell) → Type 0
  CellsUpTo place lines found = found ++ cells_from program names s (place + 1) (drop place lines) (drop place s.worlds) ≡ cells_from program names s 1 lines s.worlds

  pub cells_first : (lines : List ℕ) (found : List (List Cell)) → found ≡ [] → CellsUpTo 0 lines found
  cells_first lines found empty = ap (λ x. x ++ cells_from program names s 1 lines s.worlds) empty

  pub cells_next : (lines : List ℕ) (place p line : ℕ) (own : List (List ℕ)) (old new : List (List Cell)) (more : List Cell) → place < length s.worlds → p ≡ place + 1 → own ≡ names p → line ≡ get_or lines place 0
      → CellsUpTo place lines old → IfSome (at_number s.worlds p) (λ w. more ≡ cells program own s p line w) → new ≡ old ++ more ∷ [] → CellsUpTo (place + 1) lines new
  cells_next lines place p line own old new more inside number named lined so_far is adds =
      let (w, there) = world_at s.worlds place inside in
      let world_is : at_number s.worlds p ≡ Some w = ap (at_number s.worlds) (let here : p ≡ suc place = omega (arith, number) in here) ∙ there in
      let its : more ≡ cells program own s p line w = subst (λ o. IfSome o (λ x. more ≡ cells program own s p line x)) world_is is in
      let exact : more ≡ cells program (names (place + 1)) s (place + 1) (get_or lines place 0) w =
      its ∙ ap (λ ns. cells program ns s p line w) (named ∙ ap names number) ∙ ap (λ k. cells program (names (place + 1)) s k line w) number ∙ ap (λ l. cells program (names (place + 1)) s (place + 1) l w) lined in
      let rest = cells_from program names s (place + 1 + 1) (drop (place + 1) lines) (drop (place + 1) s.worlds) in
      ap (λ x. x ++ rest) adds ∙ append_assoc old (more ∷ []) rest ∙ ap (λ m. old ++ m ∷ rest) exact
      ∙ ap (λ x. old ++ x) (sym (cut (place + 1) place lines w (drop (place + 1) s.worlds)))
      ∙ ap (λ ws. old ++ cells_from program names s (place + 1) (drop place lines) ws) (sym (from_place s.worlds place w there)) ∙ so_far

  pub cells_all : (lines : List ℕ) (place : ℕ) (found : List (List Cell)) → length s.worlds ≤ place → CellsUpTo place lines found → found ≡ cells_from program names s 1 lines s.worlds
  cells_all lines place found past so_far =
      sym (append-nil found) ∙ ap (λ ws. found ++ cells_from program names s (place + 1) (drop place lines) ws) (sym (drop_all place s.worlds past)) ∙ so_far
