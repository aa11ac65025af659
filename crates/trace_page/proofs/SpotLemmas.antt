-- Rows and actions in their places, one after the other: what is placed, and what is left.
use Rattle.std.proofs.Common.{◌≡◌, sym, ◌∙◌, ap, ℕ, ◌+◌, ◌<◌, ◌≤◌, List, [], ◌∷◌, ◌++◌, append_assoc, append-nil, arith, drop, get_or, length}
use Rattle.std.proofs.lemmas.List.{drop_all, drop_more, map-append}
use Rattle.da_lang.specs.declared.event.Action.{Action}
use Rattle.trace_page.specs.declared.page.Row.{Row}
use Rattle.trace_page.specs.declared.spots.ActionAt.{ActionAt}
use Rattle.trace_page.specs.declared.spots.RowAt.{RowAt}
use Rattle.trace_page.specs.Rows.{Placed, Spot, height, lines_in, placed, spots_in}
use Rattle.trace_page.specs.Sheets.{action_at, actions_at, row_at, rows_at}

pub rows_on : (whole : List Placed) (left : List Row) (row : Row) (event line : ℕ) (r : RowAt) (found more : List RowAt) → whole ≡ rows_at found ++ placed event line (row ∷ left)
    → row_at r ≡ record { event = event; line = line; row = row } → more ≡ found ++ r ∷ [] → whole ≡ rows_at more ++ placed (event + 1) (line + height row) left
rows_on whole left row event line r found more is one adds =
    let rest = placed (event + 1) (line + height row) left in
    is ∙ ap (λ p. rows_at found ++ p ∷ rest) (sym one) ∙ sym (append_assoc (rows_at found) (row_at r ∷ []) rest)
    ∙ ap (λ x. x ++ rest) (sym (map-append row_at found (r ∷ []))) ∙ ap (λ rs. rows_at rs ++ rest) (sym adds)

pub actions_on : (whole : List Spot) (left : List Action) (a : Action) (event line : ℕ) (s : ActionAt) (found more : List ActionAt) → whole ≡ actions_at found ++ spots_in event line (a ∷ left)
    → action_at s ≡ record { event = event; line = line; action = a } → more ≡ found ++ s ∷ [] → whole ≡ actions_at more ++ spots_in event (line + 1) left
actions_on whole left a event line s found more is one adds =
    let rest = spots_in event (line + 1) left in
    is ∙ ap (λ p. actions_at found ++ p ∷ rest) (sym one) ∙ sym (append_assoc (actions_at found) (action_at s ∷ []) rest)
    ∙ ap (λ x. x ++ rest) (sym (map-append action_at found (s ∷ []))) ∙ ap (λ ss. actions_at ss ++ rest) (sym adds)

-- WHAT IS LEFT, from a place on

from_place : {X : Type 0} (xs : List X) (i : ℕ) (x : X) → i < length xs → x ≡ get_or xs i x → drop i xs ≡ x ∷ drop (i + 1) xs
from_place xs i x inside is = drop_more xs i x inside ∙ ap (λ y. y ∷ drop (i + 1) xs) (sym is)

pub place_on : (whole : List Placed) (rows : List Row) (i : ℕ) (row : Row) (event line next below : ℕ) (r : RowAt) (found more : List RowAt) → i < length rows → row ≡ get_or rows i row
    → whole ≡ rows_at found ++ placed event line (drop i rows) → more ≡ found ++ r ∷ [] → row_at r ≡ record { event = event; line = line; row = row } → next ≡ event + 1 → below ≡ line + height row
    → whole ≡ rows_at more ++ placed next below (drop (i + 1) rows)
place_on whole rows i row event line next below r found more inside here is adds one counted lower =
    rows_on whole (drop (i + 1) rows) row event line r found more (is ∙ ap (λ left. rows_at found ++ placed event line left) (from_place rows i row inside here)) one adds
    ∙ ap (λ n. rows_at more ++ placed n (line + height row) (drop (i + 1) rows)) (sym counted)
    ∙ ap (λ n. rows_at more ++ placed next n (drop (i + 1) rows)) (sym lower)

pub lines_on : (whole : ℕ) (rows : List Row) (i : ℕ) (row : Row) (line below : ℕ) → i < length rows → row ≡ get_or rows i row → whole ≡ line + lines_in (drop i rows) → below ≡ line + height row
    → whole ≡ below + lines_in (drop (i + 1) rows)
lines_on whole rows i row line below inside here is lower =
    let first : lines_in (drop i rows) ≡ height row + lines_in (drop (i + 1) rows) = ap lines_in (from_place rows i row inside here) in
    omega (arith, is, lower, first)

pub rows_end : (items rows : List Row) (first i event line : ℕ) (found : List RowAt) → length items ≤ i → items ≡ rows → placed first 0 items ≡ rows_at found ++ placed event line (drop i items) → rows_at found ≡ placed first 0 rows
rows_end items rows first i event line found past same is =
    sym (append-nil (rows_at found)) ∙ ap (λ left. rows_at found ++ placed event line left) (sym (drop_all i items past)) ∙ sym is ∙ ap (λ all. placed first 0 all) same

pub lines_end : (items rows : List Row) (i line : ℕ) → length items ≤ i → items ≡ rows → lines_in items ≡ line + lines_in (drop i items) → line ≡ lines_in rows
lines_end items rows i line past same is =
    let none : lines_in (drop i items) ≡ 0 = ap lines_in (drop_all i items past) in
    let all : line ≡ lines_in items = omega (arith, is, none) in
    all ∙ ap lines_in same

pub action_on : (whole : List Spot) (actions : List Action) (i : ℕ) (a : Action) (event line below : ℕ) (s : ActionAt) (found more : List ActionAt) → i < length actions → a ≡ get_or actions i a
    → whole ≡ actions_at found ++ spots_in event line (drop i actions) → more ≡ found ++ s ∷ [] → action_at s ≡ record { event = event; line = line; action = a } → below ≡ line + 1
    → whole ≡ actions_at more ++ spots_in event below (drop (i + 1) actions)
action_on whole actions i a event line below s found more inside here is adds one lower =
    actions_on whole (drop (i + 1) actions) a event line s found more (is ∙ ap (λ left. actions_at found ++ spots_in event line left) (from_place actions i a inside here)) one adds
    ∙ ap (λ n. actions_at more ++ spots_in event n (drop (i + 1) actions)) (sym lower)

pub actions_end : (items actions : List Action) (i event first line : ℕ) (old new : List ActionAt) → length items ≤ i → items ≡ actions
    → actions_at old ++ spots_in event first items ≡ actions_at new ++ spots_in event line (drop i items) → actions_at new ≡ actions_at old ++ spots_in event first actions
actions_end items actions i event first line old new past same is =
    sym (append-nil (actions_at new)) ∙ ap (λ left. actions_at new ++ spots_in event line left) (sym (drop_all i items past)) ∙ sym is ∙ ap (λ all. actions_at old ++ spots_in event first all) same
