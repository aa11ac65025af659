-- Slots that take types from a row, and what stands for them.
use Rattle.std.specs.Prelude.{◌≡◌, refl, ℕ, zero, suc, ◌==◌, ◌⊎◌, Bool, true, false, ◌&&◌, ◌||◌, if◌then◌else◌, List, [], ◌∷◌, ◌++◌, Option, Some, None, slice_get, slice_set}
use Rattle.std.specs.List.{AllByRecursion}
use Rattle.std.proofs.Common.{◌∙◌, ap, sym, subst, inl, inr}
use Rattle.std.proofs.lemmas.Bool.{false≢true, eq-eqb, eqb-true, ne_eqb, cases_eq, or_from, or_left, or_right}
use Rattle.da_lang.specs.declared.ty.Ty.{Ty}
use Rattle.da_lang.specs.QueryTypes.{type_at, given}
use Rattle.da_lang.specs.Typing.{Slots, known_or, with_type, with_types, with_row_types}
use Rattle.da_lang.specs.World.{at_number}
use Rattle.type_table.specs.declared.scheme.Scheme.{Scheme}
use Rattle.type_table.specs.Fits.{Meaning}
use Rattle.type_table.specs.Schemes.{stands}
use Rattle.type_demands.specs.declared.known.SlotScheme.{SlotScheme}
use Rattle.type_demands.specs.declared.known.SlotScheme.TheVariants as slot
use Rattle.type_demands.specs.Demands.{all_met}
use Rattle.type_demands.specs.KnownView.{slot_sym, slot_in}
use Rattle.type_demands.specs.Meets.{Stand, RowAgrees}
use Rattle.type_demands.specs.Syms.{found}
use Rattle.type_demands.specs.Terms.{RowSym}
use Rattle.type_demands.proofs.FoundLaws.{guard, and_true}
use Rattle.untyped_laws.proofs.FollowLaws.{with_none}
use Rattle.class_demands.specs.Heads.{bind_slot, bind_slots}
use Rattle.class_demands.specs.Prefix.{binds}

-- lists of numbers
pub weaker : (P Q : ℕ → Type 0) → ((k : ℕ) → P k → Q k) → (ks : List ℕ) → AllByRecursion P ks → AllByRecursion Q ks
weaker P Q each [] all = tt
weaker P Q each (k ∷ ks) all = (each k all.0, weaker P Q each ks all.1)

pub both : (P Q : ℕ → Type 0) (ks : List ℕ) → AllByRecursion P ks → AllByRecursion Q ks → AllByRecursion (λ k. P k × Q k) ks
both P Q [] p q = tt
both P Q (k ∷ ks) p q = ((p.0, q.0), both P Q ks p.1 q.1)

pub of_first : (P : ℕ → Type 0) (ks later : List ℕ) → AllByRecursion P (ks ++ later) → AllByRecursion P ks
of_first P [] later all = tt
of_first P (k ∷ ks) later all = (all.0, of_first P ks later all.1)

pub of_later : (P : ℕ → Type 0) (ks later : List ℕ) → AllByRecursion P (ks ++ later) → AllByRecursion P later
of_later P [] later all = all
of_later P (k ∷ ks) later all = of_later P ks later all.1

-- no number stands twice
abbrev pub Once : List ℕ → Type 0
Once [] = Unit {0}
Once (k ∷ ks) = AllByRecursion (λ j. k ≡ j → ⊥) ks × Once ks

once_later : (ks later : List ℕ) → Once (ks ++ later) → Once later
once_later [] later once = once
once_later (k ∷ ks) later once = once_later ks later once.1

-- each of these is among them
each_bound : (ks : List ℕ) → AllByRecursion (λ k. binds ks k ≡ true) ks
each_bound [] = tt
each_bound (k ∷ ks) = (or_left (k == k) (binds ks k) (eq-eqb k k refl), weaker (λ j. binds ks j ≡ true) (λ j. binds (k ∷ ks) j ≡ true) (λ j e. or_right (k == j) (binds ks j) e) ks (each_bound ks))

-- none of those after them is
none_bound : (ks later : List ℕ) → Once (ks ++ later) → AllByRecursion (λ j. binds ks j ≡ false) later
none_bound [] later once = weaker (λ j. Unit {0}) (λ j. false ≡ false) (λ j u. refl) later (every later)
  where
    every : (js : List ℕ) → AllByRecursion (λ j. Unit {0}) js
    every [] = tt
    every (j ∷ js) = (tt, every js)
none_bound (k ∷ ks) later once =
    weaker (λ j. (k ≡ j → ⊥) × (binds ks j ≡ false)) (λ j. binds (k ∷ ks) j ≡ false) (λ j p. or_from (k == j) (binds ks j) (ne_eqb k j p.0) p.1) later
    (both (λ j. k ≡ j → ⊥) (λ j. binds ks j ≡ false) later (of_later (λ j. k ≡ j → ⊥) ks later once.0) (none_bound ks later once.1))

-- what holds of each holds of one that is among them
of_bound : (P : ℕ → Type 0) (ks : List ℕ) (k : ℕ) → AllByRecursion P ks → binds ks k ≡ true → P k
of_bound P [] k all e = absurd (false≢true e)
of_bound P (j ∷ ks) k all e = go (j == k) refl (λ other. of_bound P ks k all.1 (sym (ap (λ c. c || binds ks k) other) ∙ e))
  where
    go : (c : Bool) → (j == k) ≡ c → ((j == k) ≡ false → P k) → P k
    go true same others = subst P (eqb-true j k same) all.0
    go false other others = others other

-- entries that are set
set_there : {A : Type 0} (xs : List A) (at : ℕ) (u v : A) → slice_get xs at ≡ Some u → slice_get (slice_set xs at v) at ≡ Some v
set_there [] zero u v e = absurd (cc)
set_there [] (suc at) u v e = absurd (cc)
set_there (x ∷ xs) zero u v e = refl
set_there (x ∷ xs) (suc at) u v e = set_there xs at u v e

set_other : {A : Type 0} (xs : List A) (at k : ℕ) (v : A) → (at ≡ k → ⊥) → slice_get (slice_set xs at v) k ≡ slice_get xs k
set_other [] at k v apart = refl
set_other (x ∷ xs) zero zero v apart = absurd (apart refl)
set_other (x ∷ xs) zero (suc k) v apart = refl
set_other (x ∷ xs) (suc at) zero v apart = refl
set_other (x ∷ xs) (suc at) (suc k) v apart = set_other xs at k v (λ e. apart (ap suc e))

set_number : {A : Type 0} (xs : List A) (at k : ℕ) (v : A) → (suc at ≡ k → ⊥) → at_number (slice_set xs at v) k ≡ at_number xs k
set_number xs at zero v apart = refl
set_number xs at (suc k) v apart = set_other xs at k v (λ e. apart (ap suc e))

module _ (m : Meaning) where
  -- nothing stands for a slot, and it has no type
  pub record IsFree (slots : Slots) (schemes : List SlotScheme) (k : ℕ) : Type 0 where
    pub scheme : at_number schemes k ≡ Some slot.Untyped
    pub ty : at_number slots k ≡ Some None

  -- Slots have the types that are found by what stands for them, where of these slots all is met that their headers demand.
  -- Nothing stands yet for those that take types later, each once, and nothing is demanded for them.
  pub record Tied (headed : ℕ → Bool) (slots : Slots) (schemes : List SlotScheme) (later : List ℕ) : Type 0 where
    pub means : (k : ℕ) → type_at slots k ≡ found m headed (slot_in schemes k)
    pub free : AllByRecursion (IsFree slots schemes) later
    pub once : Once later

  -- one slot takes the type that is found
  module _ (headed : ℕ → Bool) (slots : Slots) (schemes : List SlotScheme) (at : ℕ) (x : Scheme) (ty : Option Ty) (is : ty ≡ guard (headed (suc at)) (stands m x)) where
    abbrev typed : Slots
    typed = slice_set slots at (known_or (type_at slots (suc at)) ty)

    abbrev bound : List SlotScheme
    bound = slice_set schemes at (slot.Bound x)

    here : IsFree slots schemes (suc at) → type_at typed (suc at) ≡ found m headed (slot_in bound (suc at))
    here f =
        let none : type_at slots (suc at) ≡ None = ap (λ (z : Option (Option Ty)). given z (λ o. o)) f.ty in
        ap (λ (z : Option (Option Ty)). given z (λ o. o)) (set_there slots at None (known_or (type_at slots (suc at)) ty) f.ty)
        ∙ ap (λ z. known_or z ty) none ∙ is
        ∙ ap (λ b. guard b (stands m x)) (sym (and_true (headed (suc at))))
        ∙ sym (ap (λ z. found m headed (slot_sym (suc at) z)) (set_there schemes at slot.Untyped (slot.Bound x) f.scheme))

    elsewhere : (k : ℕ) → (suc at ≡ k → ⊥) → type_at slots k ≡ found m headed (slot_in schemes k) → type_at typed k ≡ found m headed (slot_in bound k)
    elsewhere k apart old =
        ap (λ (z : Option (Option Ty)). given z (λ o. o)) (set_number slots at k (known_or (type_at slots (suc at)) ty) apart) ∙ old
        ∙ sym (ap (λ z. found m headed (slot_sym k z)) (set_number schemes at k (slot.Bound x) apart))

    still_free : (k : ℕ) → (suc at ≡ k → ⊥) → IsFree slots schemes k → IsFree typed bound k
    still_free k apart f = record {
      scheme = set_number schemes at k (slot.Bound x) apart ∙ f.scheme;
      ty = set_number slots at k (known_or (type_at slots (suc at)) ty) apart ∙ f.ty;
    }

    pub slot_ties : (later : List ℕ) → Tied headed slots schemes (suc at ∷ later) → Tied headed typed bound later
    slot_ties later t = record {
      means = λ k. one k (cases_eq (suc at) k);
      free = weaker (λ k. (suc at ≡ k → ⊥) × IsFree slots schemes k) (IsFree typed bound) (λ k p. still_free k p.0 p.1) later (both (λ k. suc at ≡ k → ⊥) (IsFree slots schemes) later t.once.0 t.free.1);
      once = t.once.1;
    }
      where
        one : (k : ℕ) → (suc at ≡ k) ⊎ (suc at ≡ k → ⊥) → type_at typed k ≡ found m headed (slot_in bound k)
        one k (inl e) = subst (λ j. type_at typed j ≡ found m headed (slot_in bound j)) e (here t.free.0)
        one k (inr apart) = elsewhere k apart (t.means k)

  one_ties : (headed : ℕ → Bool) (slots : Slots) (schemes : List SlotScheme) (b : ℕ) (x : Scheme) (ty : Option Ty) (later : List ℕ) → ty ≡ guard (headed b) (stands m x) → Tied headed slots schemes (b ∷ later) → Tied headed (with_type b ty slots) (bind_slot b x schemes) later
  one_ties headed slots schemes zero x ty later is t = let none : ◌≡◌ {A = Option SlotScheme} None (Some slot.Untyped) = t.free.0.scheme in absurd (cc)
  one_ties headed slots schemes (suc at) x ty later is t = slot_ties headed slots schemes at x ty is later t

  forget : (headed : ℕ → Bool) (slots : Slots) (schemes : List SlotScheme) (ks later : List ℕ) → Tied headed slots schemes (ks ++ later) → Tied headed slots schemes later
  forget headed slots schemes ks later t = record { means = t.means; free = of_later (IsFree slots schemes) ks later t.free; once = once_later ks later t.once }

  -- slots take the types of a row
  some_tie : (headed : ℕ → Bool) (bs : List ℕ) (row : List Scheme) (types : List Ty) (slots : Slots) (schemes : List SlotScheme) (later : List ℕ) → Stand m headed row types → AllByRecursion (λ b. headed b ≡ true) bs → Tied headed slots schemes (bs ++ later)
      → Tied headed (with_types bs types slots) (bind_slots bs row schemes) later
  some_tie headed [] row types slots schemes later so met t = t
  some_tie headed (b ∷ bs) [] [] slots schemes later so met t = forget headed slots schemes (b ∷ bs) later t
  some_tie headed (b ∷ bs) [] (ty ∷ types) slots schemes later so met t = absurd so
  some_tie headed (b ∷ bs) (x ∷ row) [] slots schemes later so met t = absurd so
  some_tie headed (b ∷ bs) (x ∷ row) (ty ∷ types) slots schemes later so met t =
      some_tie headed bs row types (with_type b (Some ty) slots) (bind_slot b x schemes) later so.1 met.1
      (one_ties headed slots schemes b x (Some ty) (bs ++ later) (sym so.0 ∙ sym (ap (λ c. guard c (stands m x)) met.0)) t)

  -- or none
  none_tie : (headed : ℕ → Bool) (bs : List ℕ) (row : List Scheme) (slots : Slots) (schemes : List SlotScheme) (later : List ℕ) → AllByRecursion (λ b. headed b ≡ false) bs → Tied headed slots schemes (bs ++ later) → Tied headed slots (bind_slots bs row schemes) later
  none_tie headed [] row slots schemes later met t = t
  none_tie headed (b ∷ bs) [] slots schemes later met t = forget headed slots schemes (b ∷ bs) later t
  none_tie headed (b ∷ bs) (x ∷ row) slots schemes later met t =
      none_tie headed bs row slots (bind_slot b x schemes) later met.1
      (subst (λ z. Tied headed z (bind_slot b x schemes) (bs ++ later)) (with_none b slots)
      (one_ties headed slots schemes b x None (bs ++ later) (sym (ap (λ c. guard c (stands m x)) met.0)) t))

  -- of these slots the header's demands are met from now on, or not
  module _ (before : ℕ → Bool) (bs : List ℕ) (fine : Bool) where
    abbrev pub after : ℕ → Bool
    after k = before k && (if binds bs k then fine else true)

    same_sym : (k : ℕ) (o : Option SlotScheme) → (binds bs k ≡ true → o ≡ Some slot.Untyped) → found m before (slot_sym k o) ≡ found m after (slot_sym k o)
    same_sym k None free = refl
    same_sym k (Some slot.Untyped) free = refl
    same_sym k (Some (slot.Declared x)) free = refl
    same_sym k (Some (slot.Bound x)) free = go (binds bs k) refl
      where
        go : (c : Bool) → binds bs k ≡ c → found m before (slot_sym k (Some (slot.Bound x))) ≡ found m after (slot_sym k (Some (slot.Bound x)))
        go true e = let never : Some (slot.Bound x) ≡ Some slot.Untyped = free e in absurd (cc)
        go false e = ap (λ b. guard (b && true) (stands m x)) (sym (ap (λ c. before k && (if c then fine else true)) e ∙ and_true (before k)))

    again : (slots : Slots) (schemes : List SlotScheme) (later : List ℕ) → Tied before slots schemes (bs ++ later) → Tied after slots schemes (bs ++ later)
    again slots schemes later t = record {
      means = λ k. t.means k ∙ same_sym k (at_number schemes k) (λ e. (of_bound (IsFree slots schemes) bs k (of_first (IsFree slots schemes) bs later t.free) e).scheme);
      free = t.free;
      once = t.once;
    }

    met_now : AllByRecursion (λ k. before k ≡ true) bs → AllByRecursion (λ k. after k ≡ fine) bs
    met_now open_ =
        weaker (λ k. (before k ≡ true) × (binds bs k ≡ true)) (λ k. after k ≡ fine) (λ k p. ap (λ b. b && (if binds bs k then fine else true)) p.0 ∙ ap (λ c. if c then fine else true) p.1) bs
        (both (λ k. before k ≡ true) (λ k. binds bs k ≡ true) bs open_ (each_bound bs))

    pub open_still : (later : List ℕ) → Once (bs ++ later) → AllByRecursion (λ k. before k ≡ true) later → AllByRecursion (λ k. after k ≡ true) later
    open_still later once open_ =
        weaker (λ k. (before k ≡ true) × (binds bs k ≡ false)) (λ k. after k ≡ true) (λ k p. ap (λ b. b && (if binds bs k then fine else true)) p.0 ∙ ap (λ c. if c then fine else true) p.1) later
        (both (λ k. before k ≡ true) (λ k. binds bs k ≡ false) later open_ (none_bound bs later once))

  -- slots take their types from a row that is there where its demands are met
  module _ (before : ℕ → Bool) (bs : List ℕ) (o : Option (List Ty)) (rows : RowSym) (slots : Slots) (schemes : List SlotScheme) (later : List ℕ) (agree : RowAgrees m before o rows) (open_ : AllByRecursion (λ k. before k ≡ true) bs) (t : Tied before slots schemes (bs ++ later)) where
    abbrev fine : Bool
    fine = all_met m before rows.demands

    abbrev now : ℕ → Bool
    now = after before bs fine

    ties_where : (c : Bool) → fine ≡ c → Tied now (with_row_types bs o slots) (bind_slots bs rows.row schemes) later
    ties_where true e =
        let (types, is, so) = agree.there e in
        subst (λ z. Tied now (with_row_types bs z slots) (bind_slots bs rows.row schemes) later) (sym is)
        (some_tie now bs rows.row types slots schemes later so (weaker (λ k. now k ≡ fine) (λ k. now k ≡ true) (λ k p. p ∙ e) bs (met_now before bs fine open_)) (again before bs fine slots schemes later t))
    ties_where false e =
        subst (λ z. Tied now (with_row_types bs z slots) (bind_slots bs rows.row schemes) later) (sym (agree.missing e))
        (none_tie now bs rows.row slots schemes later (weaker (λ k. now k ≡ fine) (λ k. now k ≡ false) (λ k p. p ∙ e) bs (met_now before bs fine open_)) (again before bs fine slots schemes later t))

    pub row_ties : Tied now (with_row_types bs o slots) (bind_slots bs rows.row schemes) later
    row_ties = ties_where fine refl
