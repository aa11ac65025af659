-- Loops over equations, over what is asked, and over numbers.
use Rattle.std.specs.Prelude.{◌≡◌, refl, ℕ, zero, suc, ◌+◌, ◌<◌, ◌≤◌, ◌⊎◌, Bool, true, false, ◌&&◌, if◌then◌else◌, List, [], ◌∷◌, ◌++◌, length, Some, slice_get}
use Rattle.std.specs.List.{list_all, AllByRecursion}
use Rattle.std.proofs.Common.{◌∙◌, ap, sym, subst, arith, inl, inr, drop, append_assoc, get_or}
use Rattle.std.proofs.lemmas.Bool.{false≢true, cases_eq}
use Rattle.std.proofs.lemmas.List.{length_push, drop_all}
use Rattle.da_lang.specs.declared.ty.Ty.{Ty}
use Rattle.type_table.specs.declared.form.Form.{Form}
use Rattle.type_table.specs.Fits.{Meaning, IsTable, AreWithin}
use Rattle.type_table.specs.Solves.{Alike, Clashes}
use Rattle.type_table.specs.Values.{types_of}
use Rattle.type_table.proofs.TableLaws.{read_at}
use Rattle.type_choice.specs.Looks.{AreLooks, is_short}
use Rattle.type_choice.proofs.ListLaws.{some_same, all_at, push_front, push_last}
use Rattle.type_choice.specs.declared.looks.Looks.{Looks}
use Rattle.type_fitting.specs.declared.table.Kind.{Kind}
use Rattle.type_fitting.specs.declared.table.Note.{Note}
use Rattle.type_fitting.specs.Notes.{IsInside}
use Rattle.type_fitting.specs.Sights.{seen_at, is_seen, AreShort, AreFirst, numbers_where}

-- what is left from a place on
further : {A : Type 0} (x : A) (xs : List A) (i : ℕ) → drop (suc i + 1) (x ∷ xs) ≡ drop (i + 1) xs
further x xs i = let e : suc i + 1 ≡ suc (i + 1) = omega arith in ap (λ n. drop n (x ∷ xs)) e

pub drop_one : {A : Type 0} (xs : List A) (i : ℕ) (x : A) → slice_get xs i ≡ Some x → drop i xs ≡ x ∷ drop (i + 1) xs
drop_one [] i x e = absurd (cc)
drop_one (y ∷ ys) zero x e = ap (λ z. z ∷ ys) (some_same y e)
drop_one (y ∷ ys) (suc i) x e = drop_one ys i x e ∙ ap (λ zs. x ∷ zs) (sym (further y ys i))

-- equations
pub record Unified (start : List Form) (all : List (ℕ × ℕ)) (now : List Form) (left : List (ℕ × ℕ)) : Type 0 where
  pub table : IsTable now
  pub size : length now ≡ length start
  pub within : AreWithin (length now) left
  pub alike : Alike start all now left

pub unified_begins : (forms : List Form) (all : List (ℕ × ℕ)) → IsTable forms → AreWithin (length forms) all → Unified forms all forms (drop 0 all)
unified_begins forms all table within = record { table = table; size = refl; within = within; alike = record { keeps = λ m fits same. (fits, same); gives = λ m fits same. (fits, same) } }

module _ (start now : List Form) (all : List (ℕ × ℕ)) (i : ℕ) (pair : ℕ × ℕ) (there : slice_get all i ≡ Some pair) (so_far : Unified start all now (drop i all)) where
  apart : Unified start all now (pair ∷ drop (i + 1) all)
  apart = subst (Unified start all now) (drop_one all i pair there) so_far

  pub pair_inside : (pair.0 < length now) × (pair.1 < length now)
  pair_inside = (apart.within.0, apart.within.1)

  pub unified_goes : (next : List Form) → IsTable next → length next ≡ length now → Alike now (pair ∷ []) next [] → Unified start all next (drop (i + 1) all)
  unified_goes next table size alike =
      record {
        table = table;
        size = size ∙ apart.size;
        within = subst (λ n. AreWithin n (drop (i + 1) all)) (sym size) apart.within.2;
        alike = record {
          keeps = λ m fits same.
              let before = apart.alike.keeps m fits same in
              ((alike.keeps m before.0 (before.1.0, tt)).0, before.1.1);
          gives = λ m fits same.
              let before = alike.gives m fits tt in
              apart.alike.gives m before.0 (before.1.0, same);
        };
      }

  pub unified_clashes : Clashes now (pair ∷ []) → Clashes start all
  unified_clashes clash m fits same = let before = apart.alike.keeps m fits same in clash m before.0 (before.1.0, tt)

-- the same, as code finds it
module _ (start now : List Form) (all : List (ℕ × ℕ)) (i : ℕ) (none : ℕ × ℕ) (inside : i < length all) (so_far : Unified start all now (drop i all)) where
  pair_there : slice_get all i ≡ Some (get_or all i none)
  pair_there = read_at all i (get_or all i none) none inside refl

  pub first_inside : (get_or all i none).0 < length now
  first_inside = (pair_inside start now all i (get_or all i none) pair_there so_far).0

  pub second_inside : (get_or all i none).1 < length now
  second_inside = (pair_inside start now all i (get_or all i none) pair_there so_far).1

  pub next_goes : (next : List Form) → IsTable next → length next ≡ length now → Alike now (((get_or all i none).0, (get_or all i none).1) ∷ []) next [] → Unified start all next (drop (i + 1) all)
  next_goes = unified_goes start now all i (get_or all i none) pair_there so_far

  pub next_clashes : Clashes now (((get_or all i none).0, (get_or all i none).1) ∷ []) → Clashes start all
  next_clashes = unified_clashes start now all i (get_or all i none) pair_there so_far

pub unified_ends : (start now : List Form) (all : List (ℕ × ℕ)) (i : ℕ) → length all ≤ i → Unified start all now (drop i all) → Alike start all now []
unified_ends start now all i past so_far = subst (Alike start all now) (drop_all i all past) so_far.alike

-- the numbers of which such is asked
one_where : (b : Bool) (number : ℕ) (numbers grown rest whole : List ℕ) → b ≡ true → grown ≡ numbers ++ number ∷ [] → numbers ++ (if b then number ∷ rest else rest) ≡ whole → grown ++ rest ≡ whole
one_where true number numbers grown rest whole is grown_is so_far = ap (λ zs. zs ++ rest) grown_is ∙ append_assoc numbers (number ∷ []) rest ∙ so_far
one_where false number numbers grown rest whole is grown_is so_far = absurd (false≢true is)

none_where : (b : Bool) (number : ℕ) (numbers rest whole : List ℕ) → b ≡ false → numbers ++ (if b then number ∷ rest else rest) ≡ whole → numbers ++ rest ≡ whole
none_where true number numbers rest whole is so_far = absurd (false≢true (sym is))
none_where false number numbers rest whole is so_far = so_far

module _ (test : Kind → Bool) (notes : List Note) (i : ℕ) (note : Note) (there : slice_get notes i ≡ Some note) (numbers : List ℕ) (so_far : numbers ++ numbers_where test (drop i notes) ≡ numbers_where test notes) where
  apart_where : numbers ++ numbers_where test (note ∷ drop (i + 1) notes) ≡ numbers_where test notes
  apart_where = ap (λ zs. numbers ++ numbers_where test zs) (sym (drop_one notes i note there)) ∙ so_far

  pub where_comes : (grown : List ℕ) → test note.kind ≡ true → grown ≡ numbers ++ note.number ∷ [] → grown ++ numbers_where test (drop (i + 1) notes) ≡ numbers_where test notes
  where_comes grown is grown_is = one_where (test note.kind) note.number numbers grown (numbers_where test (drop (i + 1) notes)) (numbers_where test notes) is grown_is apart_where

  pub where_passes : test note.kind ≡ false → numbers ++ numbers_where test (drop (i + 1) notes) ≡ numbers_where test notes
  where_passes is = none_where (test note.kind) note.number numbers (numbers_where test (drop (i + 1) notes)) (numbers_where test notes) is apart_where

module _ (test : Kind → Bool) (notes : List Note) (i : ℕ) (none : Note) (inside : i < length notes) (numbers : List ℕ) (so_far : numbers ++ numbers_where test (drop i notes) ≡ numbers_where test notes) where
  note_there : slice_get notes i ≡ Some (get_or notes i none)
  note_there = read_at notes i (get_or notes i none) none inside refl

  pub next_comes : (grown : List ℕ) → test (get_or notes i none).kind ≡ true → grown ≡ numbers ++ (get_or notes i none).number ∷ [] → grown ++ numbers_where test (drop (i + 1) notes) ≡ numbers_where test notes
  next_comes = where_comes test notes i (get_or notes i none) note_there numbers so_far

  pub next_passes : test (get_or notes i none).kind ≡ false → numbers ++ numbers_where test (drop (i + 1) notes) ≡ numbers_where test notes
  next_passes = where_passes test notes i (get_or notes i none) note_there numbers so_far

pub where_ends : (test : Kind → Bool) (notes : List Note) (i : ℕ) (numbers : List ℕ) → length notes ≤ i → numbers ++ numbers_where test (drop i notes) ≡ numbers_where test notes → numbers ≡ numbers_where test notes
where_ends test notes i numbers past so_far = sym (append_none numbers) ∙ ap (λ zs. numbers ++ numbers_where test zs) (sym (drop_all i notes past)) ∙ so_far
  where
    append_none : (xs : List ℕ) → xs ++ [] ≡ xs
    append_none [] = refl
    append_none (x ∷ xs) = ap (λ zs. x ∷ zs) (append_none xs)

-- what is seen of the numbers of which something is asked
abbrev pub SeenFrom : Looks → List Note → ℕ → Type 0
SeenFrom looks notes i =
    (forms : List Form) → AreLooks forms looks → AllByRecursion (IsInside (length forms)) notes → list_all (seen_at (types_of forms)) (drop i notes) ≡ list_all (seen_at (types_of forms)) notes

abbrev pub Tells : Looks → Note → Bool → Type 0
Tells looks note right = (forms : List Form) → AreLooks forms looks → note.number < length forms → right ≡ is_seen note.kind (types_of forms note.number)

module _ (looks : Looks) (notes : List Note) (i : ℕ) (note : Note) (there : slice_get notes i ≡ Some note) (so_far : SeenFrom looks notes i) (right : Bool) (tells : Tells looks note right) where
  pub seen_on : right ≡ true → SeenFrom looks notes (i + 1)
  seen_on is forms are inside =
      let here : seen_at (types_of forms) note ≡ true = sym (tells forms are (all_at (IsInside (length forms)) notes i note inside there)) ∙ is in
      sym (ap (λ zs. list_all (seen_at (types_of forms)) zs) (drop_one notes i note there) ∙ passes (seen_at (types_of forms) note) (list_all (seen_at (types_of forms)) (drop (i + 1) notes)) here)
      ∙ so_far forms are inside
    where
      passes : (a b : Bool) → a ≡ true → (a && b) ≡ b
      passes true b e = refl
      passes false b e = absurd (false≢true e)

  pub seen_fails : right ≡ false → (forms : List Form) → AreLooks forms looks → AllByRecursion (IsInside (length forms)) notes → false ≡ list_all (seen_at (types_of forms)) notes
  seen_fails is forms are inside =
      let here : seen_at (types_of forms) note ≡ false = sym (tells forms are (all_at (IsInside (length forms)) notes i note inside there)) ∙ is in
      sym (ap (λ zs. list_all (seen_at (types_of forms)) zs) (drop_one notes i note there) ∙ stops (seen_at (types_of forms) note) (list_all (seen_at (types_of forms)) (drop (i + 1) notes)) here)
      ∙ so_far forms are inside
    where
      stops : (a b : Bool) → a ≡ false → (a && b) ≡ false
      stops true b e = absurd (false≢true (sym e))
      stops false b e = refl

module _ (looks : Looks) (notes : List Note) (i : ℕ) (none : Note) (inside : i < length notes) (so_far : SeenFrom looks notes i) (right : Bool) (tells : Tells looks (get_or notes i none) right) where
  seen_there : slice_get notes i ≡ Some (get_or notes i none)
  seen_there = read_at notes i (get_or notes i none) none inside refl

  pub next_seen : right ≡ true → SeenFrom looks notes (i + 1)
  next_seen = seen_on looks notes i (get_or notes i none) seen_there so_far right tells

  pub next_fails : right ≡ false → (forms : List Form) → AreLooks forms looks → AllByRecursion (IsInside (length forms)) notes → false ≡ list_all (seen_at (types_of forms)) notes
  next_fails = seen_fails looks notes i (get_or notes i none) seen_there so_far right tells

pub seen_ends : (looks : Looks) (notes : List Note) (i : ℕ) → length notes ≤ i → SeenFrom looks notes i → (forms : List Form) → AreLooks forms looks → AllByRecursion (IsInside (length forms)) notes → true ≡ list_all (seen_at (types_of forms)) notes
seen_ends looks notes i past so_far forms are inside = ap (λ zs. list_all (seen_at (types_of forms)) zs) (sym (drop_all i notes past)) ∙ so_far forms are inside

-- the first numbers
abbrev pub ShortTo : Looks → ℕ → ℕ → Type 0
ShortTo looks count bound = (forms : List Form) → AreLooks forms looks → count ≤ length forms → AreShort bound (types_of forms)

pub short_on : (looks : Looks) (count k : ℕ) (short : Bool) → k < count → ShortTo looks count k → ((forms : List Form) → AreLooks forms looks → k < length forms → short ≡ is_short (types_of forms k)) → short ≡ true → ShortTo looks count (k + 1)
short_on looks count k short below so_far tells is forms are counts j under = go (cases_eq j k)
  where
    go : ((j ≡ k) ⊎ (j ≡ k → ⊥)) → is_short (types_of forms j) ≡ true
    go (inl here) = ap (λ z. is_short (types_of forms z)) here ∙ sym (tells forms are (omega (arith, below, counts))) ∙ is
    go (inr off) = so_far forms are counts j (omega (arith, under, off))

pub short_fails : (looks : Looks) (count k : ℕ) (short : Bool) → k < count → ((forms : List Form) → AreLooks forms looks → k < length forms → short ≡ is_short (types_of forms k)) → short ≡ false → (forms : List Form) → AreLooks forms looks → count ≤ length forms → AreShort count (types_of forms) → ⊥
short_fails looks count k short below tells is forms are counts all = false≢true (sym is ∙ tells forms are (omega (arith, below, counts)) ∙ all k below)

-- the types of the first numbers
pub first_none : (m : Meaning) (types : List Ty) → types ≡ [] → AreFirst 0 m types
first_none m types none = record { size = ap length none; each = λ k below. absurd (omega (arith, below)) }

pub first_on : (m : Meaning) (types grown : List Ty) (k : ℕ) (ty : Ty) → AreFirst k m types → ty ≡ m k → grown ≡ types ++ ty ∷ [] → AreFirst (k + 1) m grown
first_on m types grown k ty so_far is grown_is =
    subst (AreFirst (k + 1) m) (sym grown_is) (record { size = length_push types ty ∙ ap (λ n. n + 1) so_far.size; each = λ j under. go j under (cases_eq j k) })
  where
    go : (j : ℕ) → j < k + 1 → ((j ≡ k) ⊎ (j ≡ k → ⊥)) → slice_get (types ++ ty ∷ []) j ≡ Some (m j)
    go j under (inl here) = ap (slice_get (types ++ ty ∷ [])) (here ∙ sym so_far.size) ∙ push_last types ty ∙ ap (λ z. Some z) (is ∙ ap m (sym here))
    go j under (inr off) = push_front types ty j (m j) (so_far.each j (omega (arith, under, off)))
