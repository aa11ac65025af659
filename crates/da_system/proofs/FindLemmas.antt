-- The search for an event of a list that is walked piece by piece.
use Rattle.std.proofs.Common.{◌≡◌, refl, sym, ◌∙◌, ap, subst, ℕ, suc, ◌+◌, ◌-◌, ◌<◌, ◌≤◌, Bool, List, [], ◌∷◌, ◌++◌, map, arith, length-append}
use Rattle.std.specs.Prelude.{Result, Ok, Err, slice_get}
use Rattle.std.specs.List.{filter, flat_map, range_with_len}
use Rattle.std.proofs.lemmas.List.Elements.{filter-append}
use Rattle.std.proofs.lemmas.Option.{slice_get_within}
use Rattle.da_lang.specs.declared.event.Event.{Event}
use Rattle.da_system.specs.Picking.{Finds}
use Rattle.da_system.proofs.FlatLemmas.{get_after, get_front}

-- A PIECE, AND WHAT COMES AFTER IT

pub found_first : (xs ys : List Event) (j : ℕ) (e : Event) → Finds xs j (Ok e) → Finds (xs ++ ys) j (Ok e)
found_first xs ys j e found = get_front xs ys j (slice_get_within xs j e found) ∙ found

pub found_after : (xs ys : List Event) (j past : ℕ) (r : Result Event ℕ) → Finds xs j (Err past) → Finds ys past r → Finds (xs ++ ys) j r
found_after xs ys j past (Ok e) over found = ap (slice_get (xs ++ ys)) over ∙ get_after xs ys past ∙ found
found_after xs ys j past (Err rest) over found = let long = length-append xs ys in omega (arith, over, found, long)

-- what is found from place j on in the rest of a list is found from the first place on in the whole list
abbrev pub Leads : List Event → ℕ → List Event → ℕ → Type 0
Leads whole first rest j = (r : Result Event ℕ) → Finds rest j r → Finds whole first r

pub leads_all : (whole : List Event) (j : ℕ) → Leads whole j whole j
leads_all whole j r found = found

module _ (allowed : Event → Bool) (whole : List Event) (first : ℕ) (piece more : List Event) (j : ℕ) (leads : Leads whole first (filter allowed (piece ++ more)) j) where
  split : filter allowed (piece ++ more) ≡ filter allowed piece ++ filter allowed more
  split = filter-append allowed piece more

  pub leads_here : (e : Event) → Finds (filter allowed piece) j (Ok e) → Finds whole first (Ok e)
  leads_here e found = leads (Ok e) (subst (λ xs. Finds xs j (Ok e)) (sym split) (found_first (filter allowed piece) (filter allowed more) j e found))

  pub leads_on : (past : ℕ) → Finds (filter allowed piece) j (Err past) → Leads whole first (filter allowed more) past
  leads_on past over r found = leads r (subst (λ xs. Finds xs j r) (sym split) (found_after (filter allowed piece) (filter allowed more) j past r over found))

pub leads_none : (whole : List Event) (first j : ℕ) → Leads whole first [] j → Finds whole first (Err j)
leads_none whole first j leads = leads (Err j) (let here : j ≡ 0 + j = omega arith in here)

-- PIECES BY NUMBERS, FROM 1 ON

-- what is left of so many numbers where those up to this place have been walked
abbrev pub left_of : ℕ → ℕ → List ℕ
left_of count place = range_with_len (place + 1) (count - place)

pub left_all : (count : ℕ) → left_of count 0 ≡ range_with_len 1 count
left_all count = ap (λ k. range_with_len k (count - 0)) (let here : 0 + 1 ≡ 1 = omega arith in here) ∙ ap (range_with_len 1) (let here : count - 0 ≡ count = omega arith in here)

pub left_next : (count place : ℕ) → place < count → left_of count place ≡ (place + 1) ∷ left_of count (place + 1)
left_next count place inside = ap (range_with_len (place + 1)) (let here : count - place ≡ suc (count - (place + 1)) = omega (arith, inside) in here)

pub left_none : (count place : ℕ) → count ≤ place → left_of count place ≡ []
left_none count place past = ap (range_with_len (place + 1)) (let here : count - place ≡ 0 = omega (arith, past) in here)

-- the numbers after this place lead on
abbrev pub LeadsFrom : (Event → Bool) → (ℕ → List Event) → List Event → ℕ → ℕ → ℕ → ℕ → Type 0
LeadsFrom allowed pieces whole first count place j = Leads whole first (filter allowed (flat_map pieces (left_of count place))) j

module _ (allowed : Event → Bool) (pieces : ℕ → List Event) (whole : List Event) (first count place j : ℕ) (leads : LeadsFrom allowed pieces whole first count place j) where
  next_of : place < count → Leads whole first (filter allowed (pieces (place + 1) ++ flat_map pieces (left_of count (place + 1)))) j
  next_of inside = subst (λ ns. Leads whole first (filter allowed (flat_map pieces ns)) j) (left_next count place inside) leads

  pub piece_here : place < count → (e : Event) → Finds (filter allowed (pieces (place + 1))) j (Ok e) → Finds whole first (Ok e)
  piece_here inside = leads_here allowed whole first (pieces (place + 1)) _ j (next_of inside)

  pub piece_on : place < count → (past : ℕ) → Finds (filter allowed (pieces (place + 1))) j (Err past) → LeadsFrom allowed pieces whole first count (place + 1) past
  piece_on inside = leads_on allowed whole first (pieces (place + 1)) _ j (next_of inside)

  pub pieces_end : count ≤ place → Finds whole first (Err j)
  pieces_end past = leads_none whole first j (subst (λ ns. Leads whole first (filter allowed (flat_map pieces ns)) j) (left_none count place past) leads)

pub pieces_start : (allowed : Event → Bool) (pieces : ℕ → List Event) (count many j : ℕ) → count ≡ many → LeadsFrom allowed pieces (filter allowed (flat_map pieces (range_with_len 1 many))) j count 0 j
pieces_start allowed pieces count many j same =
    let whole = filter allowed (flat_map pieces (range_with_len 1 many)) in
    subst (λ ns. Leads whole j (filter allowed (flat_map pieces ns)) j) (sym (left_all count ∙ ap (range_with_len 1) same)) (leads_all whole j)

-- where each piece is one event
pub single_pieces : (f : ℕ → Event) (ns : List ℕ) → flat_map (λ n. f n ∷ []) ns ≡ map f ns
single_pieces f [] = refl
single_pieces f (n ∷ ns) = ap (λ es. f n ∷ es) (single_pieces f ns)
