-- A slot takes a type where none is known, and otherwise stays.
use Rattle.std.specs.Prelude.{◌≡◌, refl, ℕ, zero, suc, ◌+◌, ◌-◌, ◌<◌, ◌≤◌, true, false, List, [], ◌∷◌, ◌++◌, map, length, Option, Some, None, slice_set}
use Rattle.std.proofs.Common.{◌∙◌, ap, sym, arith, get_or, drop}
use Rattle.std.proofs.lemmas.Bool.{false≢true}
use Rattle.da_lang.specs.declared.ty.Ty.{Ty}
use Rattle.da_lang.specs.QueryTypes.{type_at}
use Rattle.da_lang.specs.Typing.{Slots, known_or, with_type, with_types, in_turn}
use Rattle.da_types.specs.Rows.{unknown_at}
use Rattle.da_typing.proofs.Walks.{at_element, at_end}

taken_in : (slots : Slots) (place : ℕ) (ty : Option Ty) → unknown_at slots place ≡ true → slice_set slots place (known_or (type_at slots (suc place)) ty) ≡ slice_set slots place ty
taken_in [] place ty none = absurd (false≢true none)
taken_in (None ∷ slots) zero ty none = refl
taken_in (Some x ∷ slots) zero ty none = absurd (false≢true none)
taken_in (x ∷ slots) (suc place) ty none = ap (λ (rest : Slots). x ∷ rest) (taken_in slots place ty none)

kept_in : (slots : Slots) (place : ℕ) (ty : Option Ty) → unknown_at slots place ≡ false → slice_set slots place (known_or (type_at slots (suc place)) ty) ≡ slots
kept_in [] place ty some = refl
kept_in (None ∷ slots) zero ty some = absurd (false≢true (sym some))
kept_in (Some x ∷ slots) zero ty some = refl
kept_in (x ∷ slots) (suc place) ty some = ap (λ (rest : Slots). x ∷ rest) (kept_in slots place ty some)

within_in : (slots : Slots) (place : ℕ) → unknown_at slots place ≡ true → place < length slots
within_in [] place none = absurd (false≢true none)
within_in (x ∷ slots) zero none = omega arith
within_in (x ∷ slots) (suc place) none = omega (arith, within_in slots place none)

pub unknown_within : (slots : Slots) (place : ℕ) → unknown_at slots place ≡ true → place < length slots
unknown_within = within_in

pub type_taken : (slots : Slots) (slot : ℕ) (ty : Option Ty) → 0 < slot → unknown_at slots (slot - 1) ≡ true → with_type slot ty slots ≡ slice_set slots (slot - 1) ty
type_taken slots zero ty some none = absurd (omega arith)
type_taken slots (suc place) ty some none =
    let e : suc place - 1 ≡ place = omega arith in
    taken_in slots place ty (ap (unknown_at slots) (sym e) ∙ none) ∙ ap (λ n. slice_set slots n ty) (sym e)

pub type_kept : (slots : Slots) (slot : ℕ) (ty : Option Ty) → 0 < slot → unknown_at slots (slot - 1) ≡ false → with_type slot ty slots ≡ slots
type_kept slots zero ty some known = absurd (omega arith)
type_kept slots (suc place) ty some known =
    let e : suc place - 1 ≡ place = omega arith in
    kept_in slots place ty (ap (unknown_at slots) (sym e) ∙ known)

pub slot_none : (slots : Slots) (slot : ℕ) (ty : Option Ty) → slot ≡ 0 → with_type slot ty slots ≡ slots
slot_none slots zero ty none = refl
slot_none slots (suc place) ty none = absurd (omega arith)

pub ruleset slot_rules = (unknown_within, type_taken, type_kept, slot_none)

-- one after the other
pub in_turn-append : (fs gs : List (Slots → Slots)) (slots : Slots) → in_turn (fs ++ gs) slots ≡ in_turn gs (in_turn fs slots)
in_turn-append [] gs slots = refl
in_turn-append (f ∷ fs) gs slots = in_turn-append fs gs (f slots)

-- one step more of what is done for each
pub turn_more : {A : Type 0} (f : A → Slots → Slots) (xs : List A) (i : ℕ) (x : A) (before after whole : Slots) → i < length xs → x ≡ get_or xs i x → in_turn (map f (drop i xs)) before ≡ whole → after ≡ f x before → in_turn (map f (drop (i + 1) xs)) after ≡ whole
turn_more f xs i x before after whole within here so_far step =
    ap (in_turn (map f (drop (i + 1) xs))) step ∙ at_element (λ ys. in_turn (map f ys) before ≡ whole) xs i x within here so_far

pub turn_done : {A : Type 0} (f : A → Slots → Slots) (xs : List A) (i : ℕ) (now whole : Slots) → length xs ≤ i → in_turn (map f (drop i xs)) now ≡ whole → now ≡ whole
turn_done f xs i now whole past so_far = at_end (λ ys. in_turn (map f ys) now ≡ whole) xs i past so_far

pub bind_more : (bs : List ℕ) (types : List Ty) (i b : ℕ) (ty : Ty) (others : List Ty) (before after whole : Slots) → i < length bs → b ≡ get_or bs i b → types ≡ ty ∷ others → with_types (drop i bs) types before ≡ whole → after ≡ with_type b (Some ty) before → with_types (drop (i + 1) bs) others after ≡ whole
bind_more bs types i b ty others before after whole within here form so_far step =
    ap (with_types (drop (i + 1) bs) others) step
    ∙ at_element (λ ys. with_types ys (ty ∷ others) before ≡ whole) bs i b within here (ap (λ ts. with_types (drop i bs) ts before) (sym form) ∙ so_far)

-- no types are left
pub bind_short : (bs : List ℕ) (types : List Ty) (now whole : Slots) → types ≡ [] → with_types bs types now ≡ whole → now ≡ whole
bind_short [] types now whole none so_far = so_far
bind_short (b ∷ bs) [] now whole none so_far = so_far
bind_short (b ∷ bs) (ty ∷ types) now whole none so_far = cc

pub bind_done : (bs : List ℕ) (types : List Ty) (i : ℕ) (now whole : Slots) → length bs ≤ i → with_types (drop i bs) types now ≡ whole → now ≡ whole
bind_done bs types i now whole past so_far = at_end (λ ys. with_types ys types now ≡ whole) bs i past so_far
