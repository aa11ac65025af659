-- The lines at which limits are exceeded, one by one.
use Rattle.std.specs.Prelude.{◌≡◌, refl, ℕ, zero, suc, ◌+◌, ◌<◌, ◌≤◌, nat_lt, ◌||◌, Bool, true, false, List, [], ◌∷◌, ◌++◌, length, flat_map, Option}
use Rattle.std.proofs.Common.{◌∙◌, ap, sym, arith, get_or, take, drop, append-nil}
use Rattle.std.proofs.lemmas.List.{map-append, take_all}
use Rattle.std.proofs.lemmas.Grind.{flat_map-append}
use Rattle.da_lang.specs.declared.refusal.LimitKind.{LimitKind}
use Rattle.da_lang.specs.Limits.{line_if, most_parts, most_generators, most_variables, most_items, most_blocks, most_classes, most_processes}
use Rattle.da_lang.specs.Scopes.{Refused, at_lines}
use Rattle.da_limits.specs.declared.sizes.DeedSize.{DeedSize}
use Rattle.da_limits.specs.LimitLines.{told_at, wide_lines, gen_lines}
use Rattle.da_bodies.specs.Telling.{LimitRefusal as Refusal, telling_limits as telling}
use Rattle.da_limits.proofs.Alike.{telling-nil, telling-append}
use Rattle.std.specs.List.{list_any}
use Rattle.std.proofs.lemmas.Bool.{lt-ltb, le-ltb}
use Rattle.da_limits.proofs.ClassMembersAt.{dropped, dropped_all}
use Rattle.da_lang.proofs.Taken.{taken}

pub told-none : (kind : LimitKind) (found : Option Refusal) → told_at kind found [] ≡ found
unfolding told_at
told-none kind found = telling-nil found

pub told-one : (kind : LimitKind) (found : Option Refusal) (line : ℕ) → told_at kind found (line ∷ []) ≡ telling found (record { kind = kind; line = line } ∷ [])
unfolding told_at
told-one kind found line = refl

pub told-append : (kind : LimitKind) (found : Option Refusal) (xs ys : List ℕ) → told_at kind found (xs ++ ys) ≡ told_at kind (told_at kind found xs) ys
unfolding told_at
told-append kind found xs ys =
    let one : ℕ → Refused LimitKind = λ line. record { kind = kind; line = line } in
    ap (telling found) (map-append one xs ys) ∙ telling-append found (at_lines kind xs) (at_lines kind ys)

pub ruleset if_rules = (told-none, told-one)

-- one thing more
pub told_step : {A : Type 0} (kind : LimitKind) (lines : A → List ℕ) (xs : List A) (i : ℕ) (x : A) (start found more : Option Refusal)
    → i < length xs → x ≡ get_or xs i x → found ≡ told_at kind start (flat_map lines (take i xs)) → more ≡ told_at kind found (lines x) → more ≡ told_at kind start (flat_map lines (take (i + 1) xs))
told_step kind lines xs i x start found more inside here so_far grown =
    let longer : flat_map lines (take (i + 1) xs) ≡ flat_map lines (take i xs) ++ lines x =
    ap (flat_map lines) (taken xs i x inside here) ∙ flat_map-append lines (take i xs) (x ∷ []) ∙ ap (λ ls. flat_map lines (take i xs) ++ ls) (append-nil (lines x)) in
    grown ∙ ap (λ f. told_at kind f (lines x)) so_far ∙ sym (told-append kind start (flat_map lines (take i xs)) (lines x)) ∙ ap (told_at kind start) (sym longer)

-- the numbers of the limits
pub parts-is : most_parts ≡ 255
unfolding most_parts
parts-is = refl

pub generators-is : most_generators ≡ 8
unfolding most_generators
generators-is = refl

pub variables-is : most_variables ≡ 1024
unfolding most_variables
variables-is = refl

pub items-is : most_items ≡ 16384
unfolding most_items
items-is = refl

pub blocks-is : most_blocks ≡ 64
unfolding most_blocks
blocks-is = refl

pub classes-is : most_classes ≡ 32
unfolding most_classes
classes-is = refl

pub processes-is : most_processes ≡ 64
unfolding most_processes
processes-is = refl

pub ruleset limit_rules = (parts-is, generators-is, variables-is, items-is, blocks-is)

abbrev pub wide_line : DeedSize → List ℕ
wide_line d = line_if (nat_lt most_parts d.written.widest) d.line

abbrev pub gen_line : DeedSize → List ℕ
gen_line d = line_if (nat_lt most_generators d.written.largest.gens) d.line

pub wide-is : (ds : List DeedSize) → flat_map wide_line ds ≡ wide_lines ds
unfolding wide_lines
wide-is ds = refl

pub gens-is : (ds : List DeedSize) → flat_map gen_line ds ≡ gen_lines ds
unfolding gen_lines
gens-is ds = refl

-- a number is over a limit, or within it
pub over : (most limit n : ℕ) → most ≡ limit → limit < n → nat_lt most n ≡ true
over most limit n is h = ap (λ m. nat_lt m n) is ∙ lt-ltb limit n h

pub within : (most limit n : ℕ) → most ≡ limit → n ≤ limit → nat_lt most n ≡ false
within most limit n is h = ap (λ m. nat_lt m n) is ∙ le-ltb limit n h

-- some element passes a test
pub any_step : {A : Type 0} (p : A → Bool) (xs : List A) (i : ℕ) (x : A) → i < length xs → x ≡ get_or xs i x → p x ≡ false → list_any p (drop i xs) ≡ list_any p xs → list_any p (drop (i + 1) xs) ≡ list_any p xs
any_step p xs i x inside here not_it so_far = sym (ap (list_any p) (dropped xs i x inside here) ∙ ap (λ b. b || list_any p (drop (i + 1) xs)) not_it) ∙ so_far

pub any_here : {A : Type 0} (p : A → Bool) (xs : List A) (i : ℕ) (x : A) → i < length xs → x ≡ get_or xs i x → p x ≡ true → list_any p (drop i xs) ≡ list_any p xs → true ≡ list_any p xs
any_here p xs i x inside here it so_far = sym (ap (list_any p) (dropped xs i x inside here) ∙ ap (λ b. b || list_any p (drop (i + 1) xs)) it) ∙ so_far

pub any_end : {A : Type 0} (p : A → Bool) (xs : List A) (i : ℕ) → length xs ≤ i → list_any p (drop i xs) ≡ list_any p xs → false ≡ list_any p xs
any_end p xs i end so_far = sym (ap (list_any p) (dropped_all xs i end)) ∙ so_far

-- all of a list
pub told_end : {A : Type 0} (kind : LimitKind) (lines : A → List ℕ) (xs : List A) (i : ℕ) (start found : Option Refusal) → length xs ≤ i → found ≡ told_at kind start (flat_map lines (take i xs)) → found ≡ told_at kind start (flat_map lines xs)
told_end kind lines xs i start found end so_far = so_far ∙ ap (λ ys. told_at kind start (flat_map lines ys)) (take_all i xs end)

pub told_none_yet : (kind : LimitKind) (found : Option Refusal) → found ≡ told_at kind found []
told_none_yet kind found = sym (told-none kind found)

-- the same where the element is read at its place
itself : {A : Type 0} (xs : List A) (i : ℕ) (d : A) → i < length xs → get_or xs i d ≡ get_or xs i (get_or xs i d)
itself [] i d inside = absurd (omega (arith, inside))
itself (x ∷ xs) zero d inside = refl
itself (x ∷ xs) (suc i) d inside = itself xs i d (omega (arith, inside))

pub told_step_at : {A : Type 0} (kind : LimitKind) (lines : A → List ℕ) (xs : List A) (i : ℕ) (d : A) (start found more : Option Refusal)
    → i < length xs → found ≡ told_at kind start (flat_map lines (take i xs)) → more ≡ told_at kind found (lines (get_or xs i d)) → more ≡ told_at kind start (flat_map lines (take (i + 1) xs))
told_step_at kind lines xs i d start found more inside so_far grown = told_step kind lines xs i (get_or xs i d) start found more inside (itself xs i d inside) so_far grown

pub any_step_at : {A : Type 0} (p : A → Bool) (xs : List A) (i : ℕ) (d : A) → i < length xs → p (get_or xs i d) ≡ false → list_any p (drop i xs) ≡ list_any p xs → list_any p (drop (i + 1) xs) ≡ list_any p xs
any_step_at p xs i d inside not_it so_far = any_step p xs i (get_or xs i d) inside (itself xs i d inside) not_it so_far

pub any_here_at : {A : Type 0} (p : A → Bool) (xs : List A) (i : ℕ) (d : A) → i < length xs → p (get_or xs i d) ≡ true → list_any p (drop i xs) ≡ list_any p xs → true ≡ list_any p xs
any_here_at p xs i d inside it so_far = any_here p xs i (get_or xs i d) inside (itself xs i d inside) it so_far
