-- What is asked of types, and what is left to be looked at.
use Rattle.std.specs.Prelude.{◌≡◌, refl, ℕ, ◌<◌, ◌≤◌, Bool, true, false, if◌then◌else◌, List, [], ◌∷◌, length, Option, Some, MatchOption, slice_get}
use Rattle.std.specs.List.{list_all, AllByRecursion}
use Rattle.std.proofs.Common.{◌∙◌, ap, sym, subst, arith}
use Rattle.std.proofs.lemmas.Bool.{false≢true, and_parts}
use Rattle.da_lang.specs.declared.ty.Ty.{Ty}
use Rattle.da_lang.specs.Types.{is_set, levels, is_flat, most_levels}
use Rattle.type_table.specs.declared.form.Form.{Form}
use Rattle.type_table.specs.Fits.{Meaning, AreWithin}
use Rattle.type_table.specs.Solves.{Alike, Clashes}
use Rattle.type_table.specs.Values.{types_of}
use Rattle.type_table.proofs.TableLaws.{get_inside}
use Rattle.type_choice.specs.Choice.{is_added, is_recipient, AllAre, AreInside, Chosen, Meets}
use Rattle.type_choice.specs.Lean.{IsLean}
use Rattle.type_choice.specs.Looks.{AreLooks}
use Rattle.type_choice.specs.declared.looks.Looks.{Looks}
use Rattle.type_choice.proofs.KeepLaws.{no_deeper, still_ordered, still_no_set}
use Rattle.type_choice.proofs.ListLaws.{all_from, some_same, test_at}
use Rattle.type_fitting.specs.declared.table.Kind.{Kind}
use Rattle.type_fitting.specs.declared.table.Kind.TheVariants as kind
use Rattle.type_fitting.specs.declared.table.Note.{Note}
use Rattle.type_fitting.specs.declared.table.Table.{Table}
use Rattle.type_fitting.specs.Notes.{is_as, IsNoted, AreNoted, IsInside, IsSound, Holds}
use Rattle.type_fitting.specs.Sights.{is_seen, seen_at, AreShort, AreFirst, MayDeclare, adds, receives, numbers_where, plain, IsRefused, IsSolved, IsBlocked, IsPassed}
use Rattle.type_fitting.specs.Narrow.{narrow}
use Rattle.type_fitting.proofs.DeclarableLaws.{declared_narrow, declared_short, may_declare, lean_declared}
use Rattle.type_fitting.proofs.ListLaws.{all_weaker, all_both, all_true, le_true, true_le, match_weaker}

-- what is lean passes where the other is as is asked
flat_lean : (x y : Ty) → levels x ≤ levels y → is_flat y ≡ true → is_flat x ≡ true
unfolding most_levels
flat_lean x y less flat = true_le (levels x) 32 (omega (arith, less, le_true (levels y) 32 flat))

single_no_set : (b : Bool) → (if b then false else true) ≡ true → b ≡ false
single_no_set true e = absurd (false≢true e)
single_no_set false e = refl

no_set_single : (b : Bool) → b ≡ false → (if b then false else true) ≡ true
no_set_single b e = ap (λ c. if c then false else true) e

seen_lean : (k : Kind) (x y : Ty) → IsLean x y → is_as k y ≡ true → is_seen k x ≡ true
seen_lean kind.Ordered x y lean is = still_ordered x y lean is
seen_lean kind.Adds x y lean is = refl
seen_lean kind.Single x y lean is = no_set_single (is_set x) (still_no_set x y lean (single_no_set (is_set y) is))
seen_lean kind.Receives x y lean is = refl
seen_lean kind.Flat x y lean is = flat_lean x y (no_deeper x y lean) is

-- the numbers that are added and sent to
one_inside : (b : Bool) (size number : ℕ) (numbers : List ℕ) → number < size → AreInside size numbers → AreInside size (if b then number ∷ numbers else numbers)
one_inside true size number numbers inside all = (inside, all)
one_inside false size number numbers inside all = all

pub where_inside : (test : Kind → Bool) (size : ℕ) (notes : List Note) → AllByRecursion (IsInside size) notes → AreInside size (numbers_where test notes)
where_inside test size [] all = tt
where_inside test size (note ∷ notes) all = one_inside (test note.kind) size note.number (numbers_where test notes) all.0 (where_inside test size notes all.1)

module _ (m : Meaning) where
  one_apart : (k : Kind) (number : ℕ) (added received : List ℕ) → is_as k (m number) ≡ true → AllAre is_added m added → AllAre is_recipient m received
      → AllAre is_added m (if adds k then number ∷ added else added) × AllAre is_recipient m (if receives k then number ∷ received else received)
  one_apart kind.Ordered number added received is a r = (a, r)
  one_apart kind.Adds number added received is a r = ((is, a), r)
  one_apart kind.Single number added received is a r = (a, r)
  one_apart kind.Receives number added received is a r = (a, (is, r))
  one_apart kind.Flat number added received is a r = (a, r)

  pub noted_apart : (notes : List Note) → AreNoted m notes → AllAre is_added m (numbers_where adds notes) × AllAre is_recipient m (numbers_where receives notes)
  noted_apart [] all = (tt, tt)
  noted_apart (note ∷ notes) all =
      let rest = noted_apart notes all.1 in
      one_apart note.kind note.number (numbers_where adds notes) (numbers_where receives notes) all.0 rest.0 rest.1

  one_back : (k : Kind) (number : ℕ) (added received : List ℕ) → is_seen k (m number) ≡ true → AllAre is_added m (if adds k then number ∷ added else added) → AllAre is_recipient m (if receives k then number ∷ received else received)
      → (is_as k (m number) ≡ true) × AllAre is_added m added × AllAre is_recipient m received
  one_back kind.Ordered number added received is a r = (is, a, r)
  one_back kind.Adds number added received is a r = (a.0, a.1, r)
  one_back kind.Single number added received is a r = (is, a, r)
  one_back kind.Receives number added received is a r = (r.0, a, r.1)
  one_back kind.Flat number added received is a r = (is, a, r)

  pub noted_back : (notes : List Note) → list_all (seen_at m) notes ≡ true → AllAre is_added m (numbers_where adds notes) → AllAre is_recipient m (numbers_where receives notes) → AreNoted m notes
  noted_back [] seen a r = tt
  noted_back (note ∷ notes) seen a r =
      let both = and_parts (seen_at m note) (list_all (seen_at m) notes) seen in
      let (is, as_rest, rs_rest) = one_back note.kind note.number (numbers_where adds notes) (numbers_where receives notes) both.0 a r in
      (is, noted_back notes both.1 as_rest rs_rest)

-- the table once its equations are solved
module _ (table : Table) (now : List Form) (alike : Alike table.forms table.equations now []) (count : ℕ) where
  pub solve_refuses : IsRefused count (plain now table.notes) → IsRefused count table
  solve_refuses refused m h may = refused m (record { fits = (alike.keeps m h.fits h.same).0; same = tt; noted = h.noted }) may

  pub solve_solves : (types : List Ty) → IsSolved count (plain now table.notes) types → IsSolved count table types
  solve_solves types s =
      let before = alike.gives s.meaning s.holds.fits tt in
      record {
        meaning = s.meaning;
        holds = record { fits = before.0; same = before.1; noted = s.holds.noted };
        may = s.may;
        first = s.first;
        lean = λ m h. s.lean m (record { fits = (alike.keeps m h.fits h.same).0; same = tt; noted = h.noted });
      }

pub clash_refuses : (table : Table) (count : ℕ) → Clashes table.forms table.equations → IsRefused count table
clash_refuses table count clash m h may = clash m h.fits h.same

-- the choice of types
module _ (old : List Form) (notes : List Note) (inside : AllByRecursion (IsInside (length old)) notes) where
  meets_plain : (m : Meaning) → Holds (plain old notes) m → Meets old (numbers_where adds notes) (numbers_where receives notes) m
  meets_plain m h = let both = noted_apart m notes h.noted in record { fits = h.fits; added = both.0; received = both.1 }

  pub choice_refuses : (count : ℕ) → ((m : Meaning) → Meets old (numbers_where adds notes) (numbers_where receives notes) m → ⊥) → IsRefused count (plain old notes)
  choice_refuses count none m h may = none m (meets_plain m h)

  module _ (chosen : Meaning) (choice : Chosen old (numbers_where adds notes) (numbers_where receives notes) chosen) where
    seen_chosen : (m : Meaning) → Holds (plain old notes) m → list_all (seen_at chosen) notes ≡ true
    seen_chosen m h =
        all_true (λ note. IsInside (length old) note × IsNoted m note) (seen_at chosen)
        (λ note both. seen_lean note.kind (chosen note.number) (m note.number) (choice.lean m (meets_plain m h) note.number both.0) both.1) notes
        (all_both (IsInside (length old)) (IsNoted m) (λ note. IsInside (length old) note × IsNoted m note) (λ note within is. (within, is)) notes inside h.noted)

    may_chosen : (count : ℕ) → count ≤ length old → (m : Meaning) → Holds (plain old notes) m → MayDeclare count m → MayDeclare count chosen
    may_chosen count counts m h may k below = lean_declared (chosen k) (m k) (choice.lean m (meets_plain m h) k (omega (arith, below, counts))) (may k below)

    -- what does not pass refuses all
    pub sight_refuses : (count : ℕ) → count ≤ length old → IsBlocked count chosen notes → IsRefused count (plain old notes)
    sight_refuses count counts blocked m h may = blocked (seen_chosen m h) (may_chosen count counts m h may)

    pub sight_solves : (count : ℕ) → count ≤ length old → (types : List Ty) → IsPassed count chosen notes types → IsSolved count (plain old notes) types
    sight_solves count counts types passed =
        record {
          meaning = chosen;
          holds = record { fits = choice.meets.fits; same = tt; noted = noted_back chosen notes passed.seen choice.meets.added choice.meets.received };
          may = passed.may;
          first = passed.first;
          lean = λ m h k below. choice.lean m (meets_plain m h) k (omega (arith, below, counts));
        }

-- as calls tell it
module _ (old new : List Form) (notes : List Note) (inside : AllByRecursion (IsInside (length old)) notes) (added received : List ℕ) (added_are : added ≡ numbers_where adds notes) (received_are : received ≡ numbers_where receives notes) where
  pub added_inside : AreInside (length old) added
  added_inside = subst (AreInside (length old)) (sym added_are) (where_inside adds (length old) notes inside)

  pub received_inside : AreInside (length old) received
  received_inside = subst (AreInside (length old)) (sym received_are) (where_inside receives (length old) notes inside)

  pub larger_inside : length old ≤ length new → AllByRecursion (IsInside (length new)) notes
  larger_inside le = all_weaker (IsInside (length old)) (IsInside (length new)) (λ note within. omega (arith, within, le)) notes inside

  pub call_refuses : (count : ℕ) → ((m : Meaning) → Meets old added received m → ⊥) → IsRefused count (plain old notes)
  call_refuses count none = choice_refuses old notes inside count (λ m meets. none m (subst (λ z. Meets old z received m) (sym added_are) (subst (λ z. Meets old (numbers_where adds notes) z m) (sym received_are) meets)))

  pub call_solves : (slice : List Form) (count : ℕ) (found : Option (List Ty)) → slice ≡ new → count ≤ length old → Chosen old added received (types_of new) → MatchOption found (IsBlocked count (types_of slice) notes) (IsPassed count (types_of slice) notes)
      → MatchOption found (IsRefused count (plain old notes)) (IsSolved count (plain old notes))
  call_solves slice count found same counts choice is =
      let chosen : Chosen old (numbers_where adds notes) (numbers_where receives notes) (types_of slice) =
      subst (λ z. Chosen old (numbers_where adds notes) (numbers_where receives notes) (types_of z)) (sym same) (subst (λ z. Chosen old (numbers_where adds notes) z (types_of new)) received_are (subst (λ z. Chosen old z received (types_of new)) added_are choice))
      in
      match_weaker found (IsBlocked count (types_of slice) notes) (IsRefused count (plain old notes)) (IsPassed count (types_of slice) notes) (IsSolved count (plain old notes)) (sight_refuses old notes inside (types_of slice) chosen count counts)
      (sight_solves old notes inside (types_of slice) chosen count counts) is

pub solve_found : (table : Table) (now : List Form) (pairs : List (ℕ × ℕ)) (notes : List Note) (count : ℕ) (found : Option (List Ty)) → pairs ≡ table.equations → notes ≡ table.notes → Alike table.forms pairs now []
    → MatchOption found (IsRefused count (plain now notes)) (IsSolved count (plain now notes)) → MatchOption found (IsRefused count table) (IsSolved count table)
solve_found table now pairs notes count found pairs_are notes_are alike is =
    let solves : Alike table.forms table.equations now [] = subst (λ z. Alike table.forms z now []) pairs_are alike in
    match_weaker found (IsRefused count (plain now table.notes)) (IsRefused count table) (IsSolved count (plain now table.notes)) (IsSolved count table) (solve_refuses table now solves count) (solve_solves table now solves count)
    (subst (λ z. MatchOption found (IsRefused count (plain now z)) (IsSolved count (plain now z))) notes_are is)

module _ (table : Table) (sound : IsSound table) where
  pub pairs_within : (pairs : List (ℕ × ℕ)) → pairs ≡ table.equations → AreWithin (length table.forms) pairs
  pairs_within pairs pairs_are = subst (AreWithin (length table.forms)) (sym pairs_are) sound.pairs

  pub notes_inside : (now : List Form) (notes : List Note) → length now ≡ length table.forms → notes ≡ table.notes → AllByRecursion (IsInside (length now)) notes
  notes_inside now notes size notes_are = subst (AllByRecursion (IsInside (length now))) (sym notes_are) (subst (λ n. AllByRecursion (IsInside n) table.notes) (sym size) sound.notes)

pub pairs_refuse : (table : Table) (pairs : List (ℕ × ℕ)) (count : ℕ) → pairs ≡ table.equations → Clashes table.forms pairs → IsRefused count table
pairs_refuse table pairs count pairs_are clash = clash_refuses table count (subst (Clashes table.forms) pairs_are clash)

-- the look at the types
module _ (forms : List Form) (notes : List Note) (count : ℕ) (looks : Looks) (are : AreLooks forms looks) where
  pub blocked_seen : (right : Bool) → ((forms : List Form) → AreLooks forms looks → AllByRecursion (IsInside (length forms)) notes → right ≡ list_all (seen_at (types_of forms)) notes) → AllByRecursion (IsInside (length forms)) notes → right ≡ false
      → IsBlocked count (types_of forms) notes
  blocked_seen right tells inside is seen may = false≢true (sym is ∙ tells forms are inside ∙ seen)

  pub blocked_short : ((forms : List Form) → AreLooks forms looks → count ≤ length forms → AreShort count (types_of forms) → ⊥) → count ≤ length forms → IsBlocked count (types_of forms) notes
  blocked_short fails counts seen may = fails forms are counts (λ k below. declared_short (types_of forms k) (may k below))

narrow_first : (count : ℕ) (m : Meaning) (types : List Ty) → AreFirst count m types → MayDeclare count m → list_all narrow types ≡ true
narrow_first count m types first may = all_true (λ x. narrow x ≡ true) narrow (λ x is. is) types (all_from (λ x. narrow x ≡ true) types each)
  where
    each : (i : ℕ) (x : Ty) → slice_get types i ≡ Some x → narrow x ≡ true
    each i x e =
        let below : i < count = omega (arith, get_inside types i x e, first.size) in
        subst (λ z. narrow z ≡ true) (some_same x (sym (first.each i below) ∙ e)) (declared_narrow (m i) (may i below))

module _ (count : ℕ) (m : Meaning) (notes : List Note) (types slice : List Ty) (slice_is : slice ≡ types) (first : AreFirst count m types) where
  pub blocked_narrow : (right : Bool) → right ≡ list_all narrow slice → right ≡ false → IsBlocked count m notes
  blocked_narrow right tells is seen may = false≢true (sym is ∙ tells ∙ ap (λ zs. list_all narrow zs) slice_is ∙ narrow_first count m types first may)

  pub all_passed : (right : Bool) → right ≡ list_all narrow slice → right ≡ true → AreShort count m → list_all (seen_at m) notes ≡ true → IsPassed count m notes types
  all_passed right tells is short seen =
      let all : list_all narrow types ≡ true = sym (tells ∙ ap (λ zs. list_all narrow zs) slice_is) ∙ is in
      record { seen = seen; may = λ k below. may_declare (m k) (short k below) (test_at narrow types k (m k) all (first.each k below)); first = first }
