-- What is walked side by side: slots with names, and cells with those before.
use Rattle.std.proofs.Common.{◌≡◌, refl, sym, ◌∙◌, ap, subst, ℕ, ◌+◌, ◌-◌, ◌<◌, ◌≤◌, List, [], ◌∷◌, ◌++◌, append_assoc, append-nil, arith, drop, get_or, length, take}
use Rattle.std.proofs.lemmas.List.{drop_all, drop_more, take_all}
use Rattle.trace_page.specs.declared.page.Change.{Change}
use Rattle.run_page.specs.declared.cells.Cell.{Cell}
use Rattle.run_page.specs.Cells.{change, changed, changes_from, changes_of}
use Rattle.run_page.specs.Walking.{MatchFirst, MatchValue}

-- the changes of one cell more
cut_cells : (p place : ℕ) (old others now : List Cell) (value : List ℕ) (c : Cell) → MatchValue old value others → changes_of p place old (c ∷ now) ≡ change p place value c ++ changes_of p (place + 1) others now
cut_cells p place [] others now value c first = ap (λ v. change p place v c ++ changes_of p (place + 1) [] now) (sym first.0) ∙ ap (λ os. change p place value c ++ changes_of p (place + 1) os now) (sym first.1)
cut_cells p place (o ∷ old) others now value c first = ap (λ v. change p place v c ++ changes_of p (place + 1) old now) (sym first.0) ∙ ap (λ os. change p place value c ++ changes_of p (place + 1) os now) (sym first.1)

pub cell_on : (whole : List Change) (p place : ℕ) (old others now : List Cell) (value : List ℕ) (c : Cell) (found more : List Change) → MatchValue old value others
    → whole ≡ found ++ changes_of p place old (c ∷ now) → more ≡ found ++ change p place value c → whole ≡ more ++ changes_of p (place + 1) others now
cell_on whole p place old others now value c found more first is adds =
    is ∙ ap (λ x. found ++ x) (cut_cells p place old others now value c first) ∙ sym (append_assoc found (change p place value c) (changes_of p (place + 1) others now))
    ∙ ap (λ x. x ++ changes_of p (place + 1) others now) (sym adds)

-- the changes of one process more
cut_lists : (p : ℕ) (old others now : List (List Cell)) (first cells : List Cell) → MatchFirst old first others → changes_from p old (cells ∷ now) ≡ changes_of p 0 first cells ++ changes_from (p + 1) others now
cut_lists p [] others now first cells is = ap (λ f. changes_of p 0 f cells ++ changes_from (p + 1) [] now) (sym is.0) ∙ ap (λ os. changes_of p 0 first cells ++ changes_from (p + 1) os now) (sym is.1)
cut_lists p (o ∷ old) others now first cells is = ap (λ f. changes_of p 0 f cells ++ changes_from (p + 1) old now) (sym is.0) ∙ ap (λ os. changes_of p 0 first cells ++ changes_from (p + 1) os now) (sym is.1)

pub process_on : (whole : List Change) (p : ℕ) (old others now : List (List Cell)) (first cells : List Cell) (found more : List Change) → MatchFirst old first others
    → whole ≡ found ++ changes_from p old (cells ∷ now) → more ≡ found ++ changes_of p 0 first cells → whole ≡ more ++ changes_from (p + 1) others now
process_on whole p old others now first cells found more matched is adds =
    is ∙ ap (λ x. found ++ x) (cut_lists p old others now first cells matched) ∙ sym (append_assoc found (changes_of p 0 first cells) (changes_from (p + 1) others now))
    ∙ ap (λ x. x ++ changes_from (p + 1) others now) (sym adds)

-- FROM A PLACE ON

-- a list with a first member is that member and the others
pub first_cut : {X : Type 0} (xs : List X) (x : X) → 1 ≤ length xs → x ≡ get_or xs 0 x → xs ≡ x ∷ take (length xs - 1) (drop 1 xs)
first_cut [] x some is = absurd (omega (arith, some))
first_cut (y ∷ ys) x some is = ap (λ z. z ∷ ys) (sym is) ∙ ap (λ zs. x ∷ zs) (sym (take_all (length (y ∷ ys) - 1) ys (omega arith)))

from_place : {X : Type 0} (xs : List X) (i : ℕ) (x : X) → i < length xs → x ≡ get_or xs i x → drop i xs ≡ x ∷ drop (i + 1) xs
from_place xs i x inside is = drop_more xs i x inside ∙ ap (λ y. y ∷ drop (i + 1) xs) (sym is)

pub matched_first : (lists : List (List Cell)) (item first : List Cell) (others : List (List Cell)) → lists ≡ item ∷ others → first ≡ item → MatchFirst lists first others
matched_first lists item first others cut is = subst (λ ls. MatchFirst ls first others) (sym cut) (is, refl)

pub no_first : (lists : List (List Cell)) → length lists < 1 → MatchFirst lists [] []
no_first [] none = (refl, refl)
no_first (c ∷ lists) none = absurd (omega (arith, none))

pub matched_value : (cells : List Cell) (item : Cell) (value : List ℕ) (others : List Cell) → cells ≡ item ∷ others → value ≡ item.value → MatchValue cells value others
matched_value cells item value others cut is = subst (λ cs. MatchValue cs value others) (sym cut) (is, refl)

pub no_value : (cells : List Cell) → length cells < 1 → MatchValue cells [] []
no_value [] none = (refl, refl)
no_value (c ∷ cells) none = absurd (omega (arith, none))

pub process_next : (whole : List Change) (p next : ℕ) (old others later : List (List Cell)) (i : ℕ) (first cells : List Cell) (found more : List Change) → i < length later → cells ≡ get_or later i cells
    → whole ≡ found ++ changes_from p old (drop i later) → MatchFirst old first others → more ≡ found ++ changes_of p 0 first cells → next ≡ p + 1 → whole ≡ more ++ changes_from next others (drop (i + 1) later)
process_next whole p next old others later i first cells found more inside here is matched adds counted =
    process_on whole p old others (drop (i + 1) later) first cells found more matched (is ∙ ap (λ now. found ++ changes_from p old now) (from_place later i cells inside here)) adds
    ∙ ap (λ n. more ++ changes_from n others (drop (i + 1) later)) (sym counted)

pub processes_end : (whole found : List Change) (p : ℕ) (old later : List (List Cell)) (i : ℕ) → length later ≤ i → whole ≡ found ++ changes_from p old (drop i later) → found ≡ whole
processes_end whole found p old later i past is = sym (append-nil found) ∙ ap (λ now. found ++ changes_from p old now) (sym (drop_all i later past)) ∙ sym is

pub cell_next : (whole : List Change) (p place next : ℕ) (old others later : List Cell) (i : ℕ) (value : List ℕ) (c : Cell) (found more : List Change) → i < length later → c ≡ get_or later i c
    → whole ≡ found ++ changes_of p place old (drop i later) → MatchValue old value others → more ≡ found ++ change p place value c → next ≡ place + 1 → whole ≡ more ++ changes_of p next others (drop (i + 1) later)
cell_next whole p place next old others later i value c found more inside here is matched adds counted =
    cell_on whole p place old others (drop (i + 1) later) value c found more matched (is ∙ ap (λ now. found ++ changes_of p place old now) (from_place later i c inside here)) adds
    ∙ ap (λ n. more ++ changes_of p n others (drop (i + 1) later)) (sym counted)

pub cells_end : (whole found : List Change) (p place : ℕ) (old later : List Cell) (i : ℕ) → length later ≤ i → whole ≡ found ++ changes_of p place old (drop i later) → found ≡ whole
cells_end whole found p place old later i past is = sym (append-nil found) ∙ ap (λ now. found ++ changes_of p place old now) (sym (drop_all i later past)) ∙ sym is

-- one change
abbrev made : ℕ → ℕ → List ℕ → List ℕ → Change
made p place name value = record { process = p; place = place; name = name; value = value }

pub change_made : (p place : ℕ) (c : Cell) (name value : List ℕ) (old new : List Change) → name ≡ c.name → value ≡ c.value → new ≡ old ++ record { process = p; place = place; name = name; value = value } ∷ [] → new ≡ old ++ changed p place c ∷ []
change_made p place c name value old new names values adds = adds ∙ ap (λ (n : List ℕ). old ++ made p place n value ∷ []) names ∙ ap (λ (v : List ℕ). old ++ made p place c.name v ∷ []) values
