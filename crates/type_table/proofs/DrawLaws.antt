-- A type is put into a table, form by form.
use Rattle.std.specs.Prelude.{◌≡◌, refl, ℕ, zero, suc, ◌+◌, ◌<◌, ◌≤◌, ◌==◌, ◌⊎◌, Bool, true, false, if◌then◌else◌, List, [], ◌∷◌, ◌++◌, map, length, replicate, Option, Some, None, slice_get, slice_set}
use Rattle.std.specs.List.{AllByRecursion}
use Rattle.std.proofs.Common.{◌∙◌, ap, sym, subst, arith, inl, inr, append_assoc, add-one}
use Rattle.std.proofs.lemmas.Bool.{eq-eqb, eqb-true, cases_eq}
use Rattle.std.proofs.lemmas.List.{length_push, length-append, length-map, length-set}
use Rattle.da_lang.specs.declared.ty.Ty.{Ty, out-Ty, roll-Ty, roll-out-Ty}
use Rattle.da_lang.specs.declared.ty.Ty.TheVariants as t
use Rattle.da_lang.specs.declared.ty.Ty.TheOpen as layer
use Rattle.da_lang.specs.QueryTypes.{given}
use Rattle.da_lang.specs.Types.{element_of, element_in, parts_of, parts_in as tuple_in}
use Rattle.type_table.specs.declared.form.Form.{Form}
use Rattle.type_table.specs.declared.form.Form.TheVariants as f
use Rattle.type_table.specs.Draws.{Agree, Draws, Numbered, AreNumbered, Told, IsOpenAt, HasPart, numbers_from}
use Rattle.type_table.specs.Fits.{Meaning, Fits, HasForm, IsTable, IsWithin, AreSame, AreWithin}
use Rattle.type_table.specs.Joins.{is_open}
use Rattle.type_table.specs.Schemes.{part_in, part_of}
use Rattle.type_table.specs.Values.{built}
use Rattle.type_table.proofs.AgreeLaws.{put, put_there, put_elsewhere, agree_put, agree_then, agree_map, agree_form, agree_fits, agree_same, all_larger, larger_pairs, all_push, fits_front, fits_last, fits_push, table_push, fits_opens, table_opens}
use Rattle.type_table.proofs.FormLaws.{open_has, none_has}
use Rattle.type_table.proofs.TableLaws.{some_form, get_inside, set_there, set_elsewhere, set_cases, set_table, same_both, same_prefix, same_back, within_both}

some_is : {A : Type 0} (d : A) {x y : A} → Some x ≡ Some y → x ≡ y
some_is {A} d {x} {y} e = ap (λ (o : Option A). or_else o) e
  where
    or_else : Option A → A
    or_else None = d
    or_else (Some z) = z

given_is : {A B : Type 0} (o : Option A) (g : A → Option B) (y : B) → given o g ≡ Some y → (x : A) × (o ≡ Some x) × (g x ≡ Some y)
given_is None g y e = absurd (cc)
given_is (Some x) g y e = (x, refl, e)

-- the same may be asked in other words
pub numbered_as : (old new : List Form) (olds news : List (ℕ × ℕ)) (asked other : Meaning → Option Ty) (k : ℕ) → ((m : Meaning) → other m ≡ asked m) → Numbered old olds new news asked k → Numbered old olds new news other k
numbered_as old new olds news asked other k same d =
    record {
      within = d.within;
      draws = record {
        table = d.draws.table;
        pairs = d.draws.pairs;
        grows = d.draws.grows;
        gives = λ m fits all. let (a, b, c) = d.draws.gives m fits all in (a, b, same m ∙ c);
        takes = λ m ty fits all has. d.draws.takes m ty fits all (sym (same m) ∙ has);
      };
    }

pub are_numbered_as : (old new : List Form) (olds news : List (ℕ × ℕ)) (asked other : Meaning → Option (List Ty)) (ks : List ℕ) → ((m : Meaning) → other m ≡ asked m) → AreNumbered old olds new news asked ks → AreNumbered old olds new news other ks
are_numbered_as old new olds news asked other ks same d =
    record {
      within = d.within;
      draws = record {
        table = d.draws.table;
        pairs = d.draws.pairs;
        grows = d.draws.grows;
        gives = λ m fits all. let (a, b, c) = d.draws.gives m fits all in (a, b, same m ∙ c);
        takes = λ m ty fits all has. d.draws.takes m ty fits all (sym (same m) ∙ has);
      };
    }

-- one after the other
draws_then : {A : Type 0} (old mid new : List Form) (olds mids news : List (ℕ × ℕ)) (first : Meaning → Option A) (read : Meaning → A) (g : A → Option Ty) (k : ℕ) → Draws old olds mid mids first read → Draws mid mids new news (λ m. g (read m)) (λ m. m k)
    → Draws old olds new news (λ m. given (first m) g) (λ m. m k)
draws_then old mid new olds mids news first read g k a b =
    record {
      table = b.table;
      pairs = b.pairs;
      grows = omega (arith, a.grows, b.grows);
      gives = λ m fits same.
          let (fits_mid, same_mid, second_is) = b.gives m fits same in
          let (fits_old, same_old, first_is) = a.gives m fits_mid same_mid in
          (fits_old, same_old, ap (λ o. given o g) first_is ∙ second_is);
      takes = λ m ty fits same has.
          let (x, x_is, ty_is) = given_is (first m) g ty has in
          let (n, agree, fits_mid, same_mid, read_is) = a.takes m x fits same x_is in
          let (o, agree_more, fits_new, same_new, k_is) = b.takes n ty fits_mid same_mid (ap g read_is ∙ ty_is) in
          (o, agree_then (length old) (length mid) m n o a.grows agree agree_more, fits_new, same_new, k_is);
    }

pub numbered_then : (old mid new : List Form) (olds mids news : List (ℕ × ℕ)) (first : Meaning → Option Ty) (g : Ty → Option Ty) (j k : ℕ) → Numbered old olds mid mids first j → Numbered mid mids new news (λ m. g (m j)) k → Numbered old olds new news (λ m. given (first m) g) k
numbered_then old mid new olds mids news first g j k a b = record { within = b.within; draws = draws_then old mid new olds mids news first (λ m. m j) g k a.draws b.draws }

pub numbered_after : (old mid new : List Form) (olds mids news : List (ℕ × ℕ)) (first : Meaning → Option (List Ty)) (g : List Ty → Option Ty) (js : List ℕ) (k : ℕ) → AreNumbered old olds mid mids first js → Numbered mid mids new news (λ m. g (map m js)) k → Numbered old olds new news (λ m. given (first m) g) k
numbered_after old mid new olds mids news first g js k a b = record { within = b.within; draws = draws_then old mid new olds mids news first (λ m. map m js) g k a.draws b.draws }

module _ (old : List Form) (olds : List (ℕ × ℕ)) (table : IsTable old) (pairs : AreWithin (length old) olds) where
  -- a number that is there
  pub numbered_there : (k : ℕ) (asked : Meaning → Option Ty) → k < length old → ((m : Meaning) → asked m ≡ Some (m k)) → Numbered old olds old olds asked k
  numbered_there k asked below is =
      record {
        within = below;
        draws = record {
          table = table;
          pairs = pairs;
          grows = omega arith;
          gives = λ m fits same. (fits, same, is m);
          takes = λ m ty fits same has. (m, (λ j small. refl), fits, same, some_is t.Int (sym (is m) ∙ has));
        };
      }

  -- a form at the end
  pub numbered_push : (form : Form) (asked : Meaning → Option Ty) → IsWithin (length old) (length old) form → ((m : Meaning) (ty : Ty) → HasForm m form ty → asked m ≡ Some ty) → ((m : Meaning) → HasForm m form (built m form))
      → Numbered old olds (old ++ form ∷ []) olds asked (length old)
  numbered_push form asked inside is has_built =
      record {
        within = omega (arith, size);
        draws = record {
          table = table_push old form table inside;
          pairs = larger_pairs (length old) (length (old ++ form ∷ [])) olds (omega (arith, size)) pairs;
          grows = omega (arith, size);
          gives = λ m fits same. (fits_front old (form ∷ []) m fits, same, is m (m (length old)) (fits_last old form m fits));
          takes = λ m ty fits same has.
              let n = put m (length old) (built m form) in
              let agree = agree_put (length old) m (length old) (built m form) (omega arith) in
              let there = put_there m (length old) (built m form) in (
                n,
                agree,
                fits_push old form n (agree_fits old m n table agree fits) (subst (HasForm n form) (sym there) (agree_form (length old) (length old) m n form (built m form) agree (omega arith) inside (has_built m))),
                agree_same (length old) m n olds agree pairs same,
                there ∙ some_is t.Int (sym (is m (built m form) (has_built m)) ∙ has),
              );
        };
      }
    where
      size : length (old ++ form ∷ []) ≡ length old + 1
      size = length_push old form

  pub none_numbered : AreNumbered old olds old olds (λ m. Some []) []
  none_numbered =
      record {
        within = tt;
        draws = record {
          table = table;
          pairs = pairs;
          grows = omega arith;
          gives = λ m fits same. (fits, same, refl);
          takes = λ m x fits same has. (m, (λ j small. refl), fits, same, some_is [] has);
        };
      }

-- one number more
pub more_numbered : (old mid new : List Form) (olds mids news : List (ℕ × ℕ)) (all : Meaning → Option (List Ty)) (one : Meaning → Option Ty) (ks : List ℕ) (k : ℕ)
    → AreNumbered old olds mid mids all ks → Numbered mid mids new news one k → ((m n : Meaning) → Agree (length old) m n → one n ≡ one m)
    → AreNumbered old olds new news (λ m. given (all m) (λ types. given (one m) (λ ty. Some (types ++ ty ∷ [])))) (ks ++ k ∷ [])
more_numbered old mid new olds mids news all one ks k a b asks =
    record {
      within = all_push (length new) ks k (all_larger (length mid) (length new) ks b.draws.grows a.within) b.within;
      draws = record {
        table = b.draws.table;
        pairs = b.draws.pairs;
        grows = omega (arith, a.draws.grows, b.draws.grows);
        gives = λ m fits same.
            let (fits_mid, same_mid, one_is) = b.draws.gives m fits same in
            let (fits_old, same_old, all_are) = a.draws.gives m fits_mid same_mid in
            (fits_old, same_old, ap (λ o. given o (λ types. given (one m) (λ ty. Some (types ++ ty ∷ [])))) all_are ∙ ap (λ o. given o (λ ty. Some (map m ks ++ ty ∷ []))) one_is ∙ ap (λ z. Some z) (sym (map_push m ks)));
        takes = λ m x fits same has.
            let (types, all_are, rest) = given_is (all m) (λ types. given (one m) (λ ty. Some (types ++ ty ∷ []))) x has in
            let (ty, one_is, both) = given_is (one m) (λ ty. Some (types ++ ty ∷ [])) x rest in
            let (n, agree, fits_mid, same_mid, types_are) = a.draws.takes m types fits same all_are in
            let (o, agree_more, fits_new, same_new, ty_is) = b.draws.takes n ty fits_mid same_mid (asks m n agree ∙ one_is) in (
              o,
              agree_then (length old) (length mid) m n o a.draws.grows agree agree_more,
              fits_new,
              same_new,
              map_push o ks ∙ ap (λ z. map o ks ++ z ∷ []) ty_is ∙ ap (λ zs. zs ++ ty ∷ []) (agree_map (length mid) n o ks agree_more a.within ∙ types_are) ∙ some_is [] both,
            );
      };
    }
  where
    map_push : (m : Meaning) (ks : List ℕ) → map m (ks ++ k ∷ []) ≡ map m ks ++ m k ∷ []
    map_push m [] = refl
    map_push m (j ∷ ks) = ap (λ zs. m j ∷ zs) (map_push m ks)

-- types of elements and parts
element_layer : (l : layer.Ty-F Ty) (ty : Ty) → element_in l ≡ Some ty → l ≡ layer.Set ty
element_layer (layer.Set x) ty e = ap layer.Set (some_is t.Int e)
element_layer _ ty e = absurd (cc)

pub set_of : (whole ty : Ty) → element_of whole ≡ Some ty → whole ≡ t.Set ty
set_of whole ty e = sym (roll-out-Ty whole) ∙ ap roll-Ty (element_layer (out-Ty whole) ty e) ∙ t.rolls-Set ty

parts_layer : (l : layer.Ty-F Ty) (types : List Ty) → tuple_in l ≡ Some types → l ≡ layer.Tuple types
parts_layer (layer.Tuple x) types e = ap layer.Tuple (some_is [] e)
parts_layer _ types e = absurd (cc)

tuple_of : (whole : Ty) (types : List Ty) → parts_of whole ≡ Some types → whole ≡ t.Tuple types
tuple_of whole types e = sym (roll-out-Ty whole) ∙ ap roll-Ty (parts_layer (out-Ty whole) types e) ∙ t.rolls-Tuple types

counted : (b : Bool) (o : Option Ty) (ty : Ty) → (if b then o else None) ≡ Some ty → (b ≡ true) × (o ≡ Some ty)
counted true o ty e = (refl, e)
counted false o ty e = absurd (cc)

-- a type that has a part is a tuple of so many types
pub whole_of : (at count : ℕ) (whole ty : Ty) → part_of at count whole ≡ Some ty → (types : List Ty) × (whole ≡ t.Tuple types) × (length types ≡ count) × (slice_get types at ≡ Some ty)
whole_of at count whole ty e =
    let (types, parts_are, rest) = given_is (parts_of whole) (part_in at count) ty e in
    let (long, there) = counted (length types == count) (slice_get types at) ty rest in
    (types, tuple_of whole types parts_are, eqb-true (length types) count long, there)

pub part_is : (at count : ℕ) (types : List Ty) (whole ty : Ty) → whole ≡ t.Tuple types → length types ≡ count → slice_get types at ≡ Some ty → part_of at count whole ≡ Some ty
part_is at count types whole ty is long there =
    ap (part_of at count) is ∙ ap (λ o. given (tuple_in o) (part_in at count)) (t.outs-Tuple types) ∙ ap (λ b. if b then slice_get types at else None) (eq-eqb (length types) count long) ∙ there

-- a number that is told nothing gets a form
pub told_there : (old : List Form) (olds : List (ℕ × ℕ)) (whole : ℕ) (x form : Form) → IsTable old → AreWithin (length old) olds → slice_get old whole ≡ Some x → is_open x ≡ true → IsWithin (length old) whole form → Told old olds (slice_set old whole form) olds whole form
told_there old olds whole x form table pairs at unset within =
    record {
      table = set_table old whole form table inside within;
      pairs = subst (λ n. AreWithin n olds) (sym (length-set old whole form)) pairs;
      grows = omega (arith, length-set old whole form);
      gives = λ m fits same. (back m fits, same, fits whole form (set_there old whole form inside));
      takes = λ m fits same has. (m, (λ j small. refl), onward m fits has, same);
    }
  where
    inside : whole < length old
    inside = get_inside old whole x at

    onward : (m : Meaning) → Fits m old → HasForm m form (m whole) → Fits m (slice_set old whole form)
    onward m fits has k other e = go (set_cases old whole form k other inside e)
      where
        go : (((k ≡ whole) × (form ≡ other)) ⊎ ((k ≡ whole → ⊥) × (slice_get old k ≡ Some other))) → HasForm m other (m k)
        go (inl (here, is)) = subst (λ z. HasForm m z (m k)) is (subst (HasForm m form) (sym (ap m here)) has)
        go (inr (off, before)) = fits k other before

    back : (m : Meaning) → Fits m (slice_set old whole form) → Fits m old
    back m fits k other e = go (cases_eq k whole)
      where
        go : ((k ≡ whole) ⊎ (k ≡ whole → ⊥)) → HasForm m other (m k)
        go (inl here) =
            let is : x ≡ other = some_form (sym at ∙ ap (slice_get old) (sym here) ∙ e) in
            subst (λ z. HasForm m z (m k)) is (open_has m x (m k) unset)
        go (inr off) = fits k other (set_elsewhere old k whole form off ∙ e)

same_push : (m : Meaning) (pairs : List (ℕ × ℕ)) (a b : ℕ) → AreSame m pairs → m a ≡ m b → AreSame m (pairs ++ (a, b) ∷ [])
same_push m pairs a b same e = same_both m pairs ((a, b) ∷ []) same (e, tt)

-- a number of its own has the form, and an equation makes both the same
pub told_equal : (old : List Form) (olds : List (ℕ × ℕ)) (whole : ℕ) (form : Form) → IsTable old → AreWithin (length old) olds → whole < length old → IsWithin (length old) (length old) form → Told old olds (old ++ form ∷ []) (olds ++ (whole, length old) ∷ []) whole form
told_equal old olds whole form table pairs inside within =
    record {
      table = table_push old form table within;
      pairs = within_both (length (old ++ form ∷ [])) olds ((whole, length old) ∷ []) (larger_pairs (length old) (length (old ++ form ∷ [])) olds (omega (arith, size)) pairs) (omega (arith, size, inside), omega (arith, size), tt);
      grows = omega (arith, size);
      gives = λ m fits same.
          let equal = (same_back m olds ((whole, length old) ∷ []) same).0 in
          (fits_front old (form ∷ []) m fits, same_prefix m olds ((whole, length old) ∷ []) same, subst (HasForm m form) (sym equal) (fits_last old form m fits));
      takes = λ m fits same has.
          let n = put m (length old) (m whole) in
          let agree = agree_put (length old) m (length old) (m whole) (omega arith) in
          let there = put_there m (length old) (m whole) in (
            n,
            agree,
            fits_push old form n (agree_fits old m n table agree fits) (subst (HasForm n form) (sym there) (agree_form (length old) (length old) m n form (m whole) agree (omega arith) within has)),
            same_push n olds whole (length old) (agree_same (length old) m n olds agree pairs same) (agree whole inside ∙ sym there),
          );
    }
  where
    size : length (old ++ form ∷ []) ≡ length old + 1
    size = length_push old form

-- the elements of a whole
pub numbered_element : (old mid new : List Form) (olds news : List (ℕ × ℕ)) (whole : ℕ) → IsTable old → AreWithin (length old) olds → whole < length old → mid ≡ old ++ f.Open ∷ [] → Told mid olds new news whole (f.Set (length old)) → Numbered old olds new news (λ m. element_of (m whole)) (length old)
numbered_element old mid new olds news whole table pairs inside mid_is d =
    record {
      within = omega (arith, size, d.grows);
      draws = record {
        table = d.table;
        pairs = d.pairs;
        grows = omega (arith, size, d.grows);
        gives = λ m fits same.
            let (fits_mid, same_mid, is_set) = d.gives m fits same in
            (fits_front old (f.Open ∷ []) m (subst (Fits m) mid_is fits_mid), same_mid, ap element_of is_set ∙ ap element_in (t.outs-Set (m (length old))));
        takes = λ m ty fits same has.
            let n = put m (length old) ty in
            let agree = agree_put (length old) m (length old) ty (omega arith) in
            let there = put_there m (length old) ty in
            let fits_mid : Fits n mid = subst (Fits n) (sym mid_is) (fits_push old f.Open n (agree_fits old m n table agree fits) tt) in
            let is_set : n whole ≡ t.Set (n (length old)) = agree whole inside ∙ set_of (m whole) ty has ∙ ap t.Set (sym there) in
            let (o, agree_more, fits_new, same_new) = d.takes n fits_mid (agree_same (length old) m n olds agree pairs same) is_set in
            (o, agree_then (length old) (length mid) m n o (omega (arith, size)) agree agree_more, fits_new, same_new, agree_more (length old) (omega (arith, size)) ∙ there);
      };
    }
  where
    size : length mid ≡ length old + 1
    size = ap length mid_is ∙ length_push old f.Open

-- an element that is told already
pub element_told : (old : List Form) (olds : List (ℕ × ℕ)) (whole element : ℕ) → IsTable old → AreWithin (length old) olds → slice_get old whole ≡ Some (f.Set element) → Numbered old olds old olds (λ m. element_of (m whole)) element
element_told old olds whole element table pairs at =
    record {
      within = table whole (f.Set element) at;
      draws = record {
        table = table;
        pairs = pairs;
        grows = omega arith;
        gives = λ m fits same. (fits, same, is m fits);
        takes = λ m ty fits same has. (m, (λ j small. refl), fits, same, some_is t.Int (sym (is m fits) ∙ has));
      };
    }
  where
    is : (m : Meaning) → Fits m old → element_of (m whole) ≡ Some (m element)
    is m fits = ap element_of (fits whole (f.Set element) at) ∙ ap element_in (t.outs-Set (m element))

-- lists of types by their places
get_map : (m : Meaning) (ks : List ℕ) (at k : ℕ) → slice_get ks at ≡ Some k → slice_get (map m ks) at ≡ Some (m k)
get_map m [] at k e = absurd (cc)
get_map m (j ∷ ks) zero k e = ap (λ z. Some (m z)) (some_is 0 e)
get_map m (j ∷ ks) (suc at) k e = get_map m ks at k e

all_at : (size : ℕ) (ks : List ℕ) (at k : ℕ) → AllByRecursion (λ j. j < size) ks → slice_get ks at ≡ Some k → k < size
all_at size [] at k within e = absurd (cc)
all_at size (j ∷ ks) zero k within e = subst (λ z. z < size) (some_is 0 e) within.0
all_at size (j ∷ ks) (suc at) k within e = all_at size ks at k within.1 e

-- a part that is told already
pub part_told : (old : List Form) (olds : List (ℕ × ℕ)) (whole at count part : ℕ) (ks : List ℕ) → IsTable old → AreWithin (length old) olds → slice_get old whole ≡ Some (f.Tuple ks) → length ks ≡ count → slice_get ks at ≡ Some part
    → Numbered old olds old olds (λ m. part_of at count (m whole)) part
part_told old olds whole at count part ks table pairs there long part_there =
    record {
      within = all_at (length old) ks at part (table whole (f.Tuple ks) there) part_there;
      draws = record {
        table = table;
        pairs = pairs;
        grows = omega arith;
        gives = λ m fits same. (fits, same, is m fits);
        takes = λ m ty fits same has. (m, (λ j small. refl), fits, same, some_is t.Int (sym (is m fits) ∙ has));
      };
    }
  where
    is : (m : Meaning) → Fits m old → part_of at count (m whole) ≡ Some (m part)
    is m fits = part_is at count (map m ks) (m whole) (m part) (fits whole (f.Tuple ks) there) (length-map ks m ∙ long) (get_map m ks at part part_there)

-- types for all numbers from one on
abbrev puts : Meaning → ℕ → List Ty → Meaning
puts m k [] = m
puts m k (ty ∷ types) = put (puts m (suc k) types) k ty

puts_below : (m : Meaning) (k : ℕ) (types : List Ty) → Agree k m (puts m k types)
puts_below m k [] j below = refl
puts_below m k (ty ∷ types) j below = put_elsewhere (puts m (suc k) types) k j ty (λ e. omega (arith, below, e)) ∙ puts_below m (suc k) types j (omega (arith, below))

above : (m n : Meaning) (bound k count : ℕ) → bound ≤ k → ((j : ℕ) → bound ≤ j → n j ≡ m j) → map n (numbers_from k count) ≡ map m (numbers_from k count)
above m n bound k zero le same = refl
above m n bound k (suc count) le same = ap (λ z. z ∷ map n (numbers_from (suc k) count)) (same k le) ∙ ap (λ zs. m k ∷ zs) (above m n bound (suc k) count (omega (arith, le)) same)

puts_read : (m : Meaning) (k : ℕ) (types : List Ty) → map (puts m k types) (numbers_from k (length types)) ≡ types
puts_read m k [] = refl
puts_read m k (ty ∷ types) =
    ap (λ z. z ∷ map (puts m k (ty ∷ types)) (numbers_from (suc k) (length types))) (put_there (puts m (suc k) types) k ty)
    ∙ ap (λ zs. ty ∷ zs) (above (puts m (suc k) types) (puts m k (ty ∷ types)) (suc k) (suc k) (length types) (omega arith) (λ j past. put_elsewhere (puts m (suc k) types) k j ty (λ e. omega (arith, past, e))) ∙ puts_read m (suc k) types)

pub length_from : (k count : ℕ) → length (numbers_from k count) ≡ count
length_from k zero = refl
length_from k (suc count) = ap suc (length_from (suc k) count)

from_within : (k count size : ℕ) → k + count ≤ size → AllByRecursion (λ j. j < size) (numbers_from k count)
from_within k zero size le = tt
from_within k (suc count) size le = (omega (arith, le), from_within (suc k) count size (omega (arith, le)))

length_opens : (forms : List Form) (count : ℕ) → length (forms ++ replicate count f.Open) ≡ length forms + count
length_opens forms count = length-append forms (replicate count f.Open) ∙ ap (λ n. length forms + n) (length_replicate count)
  where
    length_replicate : (n : ℕ) → length (replicate n f.Open) ≡ n
    length_replicate zero = refl
    length_replicate (suc n) = ap suc (length_replicate n)

-- the numbers of new parts lie in the table that has them
pub opens_within : (old mid : List Form) (whole count : ℕ) (ks : List ℕ) → mid ≡ old ++ replicate count f.Open → ks ≡ numbers_from (length old) count → IsWithin (length mid) whole (f.Tuple ks)
opens_within old mid whole count ks mid_is ks_are =
    subst (AllByRecursion (λ j. j < length mid)) (sym ks_are) (from_within (length old) count (length mid) (omega (arith, ap length mid_is, length_opens old count)))

-- a part of a whole that is told to be a tuple of new parts
pub numbered_part : (old mid new : List Form) (olds news : List (ℕ × ℕ)) (whole at count part : ℕ) (ks : List ℕ) → IsTable old → AreWithin (length old) olds → whole < length old → mid ≡ old ++ replicate count f.Open → ks ≡ numbers_from (length old) count
    → slice_get ks at ≡ Some part → Told mid olds new news whole (f.Tuple ks) → Numbered old olds new news (λ m. part_of at count (m whole)) part
numbered_part old mid new olds news whole at count part ks table pairs inside mid_is ks_are part_there d =
    record {
      within = omega (arith, part_in_mid, d.grows);
      draws = record {
        table = d.table;
        pairs = d.pairs;
        grows = omega (arith, size, d.grows);
        gives = λ m fits same.
            let (fits_mid, same_mid, is_tuple) = d.gives m fits same in (
              fits_front old (replicate count f.Open) m (subst (Fits m) mid_is fits_mid),
              same_mid,
              part_is at count (map m ks) (m whole) (m part) is_tuple (length-map ks m ∙ long) (get_map m ks at part part_there),
            );
        takes = λ m ty fits same has.
            let (types, whole_is, count_is, ty_there) = whole_of at count (m whole) ty has in
            let n = puts m (length old) types in
            let agree = puts_below m (length old) types in
            let read : map n ks ≡ types = ap (map n) (ks_are ∙ ap (numbers_from (length old)) (sym count_is)) ∙ puts_read m (length old) types in
            let fits_mid : Fits n mid = subst (Fits n) (sym mid_is) (fits_opens old count n (agree_fits old m n table agree fits)) in
            let is_tuple : n whole ≡ t.Tuple (map n ks) = agree whole inside ∙ whole_is ∙ ap t.Tuple (sym read) in
            let (o, agree_more, fits_new, same_new) = d.takes n fits_mid (agree_same (length old) m n olds agree pairs same) is_tuple in (
              o,
              agree_then (length old) (length mid) m n o (omega (arith, size)) agree agree_more,
              fits_new,
              same_new,
              agree_more part part_in_mid ∙ some_is t.Int (sym (get_map n ks at part part_there) ∙ ap (λ zs. slice_get zs at) read ∙ ty_there),
            );
      };
    }
  where
    size : length mid ≡ length old + count
    size = ap length mid_is ∙ length_opens old count

    long : length ks ≡ count
    long = ap length ks_are ∙ length_from (length old) count

    part_in_mid : part < length mid
    part_in_mid = all_at (length mid) ks at part (opens_within old mid whole count ks mid_is ks_are) part_there

-- what no type is asked for
pub no_part : (at count : ℕ) (whole ty : Ty) → count ≤ at → part_of at count whole ≡ Some ty → ⊥
no_part at count whole ty past e =
    let (types, whole_is, count_is, there) = whole_of at count whole ty e in
    let inside : at < length types = get_inside types at ty there in
    omega (arith, inside, count_is, past)

pub never_numbered : (old one two : List Form) (olds news : List (ℕ × ℕ)) (asked : Meaning → Option Ty) (first second : ℕ) → IsTable old → AreWithin (length old) olds → ((m : Meaning) (ty : Ty) → asked m ≡ Some ty → ⊥)
    → first ≡ length old → one ≡ old ++ f.Int ∷ [] → second ≡ length one → two ≡ one ++ f.Bool ∷ [] → news ≡ olds ++ (first, second) ∷ [] → Numbered old olds two news asked first
never_numbered old one two olds news asked first second table pairs never first_is one_is second_is two_is news_are =
    record {
      within = omega (arith, size_one, size_two, first_is);
      draws = record {
        table = subst IsTable (sym two_is) (table_push one f.Bool (subst IsTable (sym one_is) (table_push old f.Int table tt)) tt);
        pairs = subst (AreWithin (length two)) (sym news_are) (within_both (length two) olds ((first, second) ∷ []) (larger_pairs (length old) (length two) olds (omega (arith, size_one, size_two)) pairs) (omega (arith, size_one, size_two, first_is), omega (arith, size_two, second_is), tt));
        grows = omega (arith, size_one, size_two);
        gives = λ m fits same. absurd (apart m fits same);
        takes = λ m ty fits same has. absurd (never m ty has);
      };
    }
  where
    size_one : length one ≡ length old + 1
    size_one = ap length one_is ∙ length_push old f.Int

    size_two : length two ≡ length one + 1
    size_two = ap length two_is ∙ length_push one f.Bool

    apart : (m : Meaning) → Fits m two → AreSame m news → ⊥
    apart m fits same =
        let fits_two : Fits m (one ++ f.Bool ∷ []) = subst (Fits m) two_is fits in
        let fits_one : Fits m (old ++ f.Int ∷ []) = subst (Fits m) one_is (fits_front one (f.Bool ∷ []) m fits_two) in
        let is_int : m first ≡ t.Int = ap m first_is ∙ fits_last old f.Int m fits_one in
        let is_bool : m second ≡ t.Bool = ap m second_is ∙ fits_last one f.Bool m fits_two in
        let equal : m first ≡ m second = (same_back m olds ((first, second) ∷ []) (subst (AreSame m) news_are same)).0 in
        none_has m f.Int f.Bool (m first) refl refl refl is_int (equal ∙ is_bool)

-- as code does it
raised_within : (size low high : ℕ) (form : Form) → low ≤ high → IsWithin size low form → IsWithin size high form
raised_within size low high f.Open le within = tt
raised_within size low high (f.Same k) le within = omega (arith, le, within)
raised_within size low high f.Int le within = tt
raised_within size low high f.Bool le within = tt
raised_within size low high f.Text le within = tt
raised_within size low high f.Proc le within = tt
raised_within size low high (f.Tuple ks) le within = within
raised_within size low high (f.Set k) le within = within

pub told_set : (old new : List Form) (olds : List (ℕ × ℕ)) (whole : ℕ) (form : Form) → IsOpenAt old whole → new ≡ slice_set old whole form → IsTable old → AreWithin (length old) olds → whole < length old → IsWithin (length old) whole form → Told old olds new olds whole form
told_set old new olds whole form unset is table pairs inside within =
    let (x, at, none) = unset in
    subst (λ z. Told old olds z olds whole form) (sym is) (told_there old olds whole x form table pairs at none within)

pub told_added : (old new : List Form) (olds news : List (ℕ × ℕ)) (whole : ℕ) (form : Form) (number : ℕ) → number ≡ length old → new ≡ old ++ form ∷ [] → news ≡ olds ++ (whole, number) ∷ [] → IsTable old → AreWithin (length old) olds → whole < length old → IsWithin (length old) whole form
    → Told old olds new news whole form
told_added old new olds news whole form number at grown pairs_are table pairs inside within =
    subst (λ z. Told old olds new z whole form) (sym (pairs_are ∙ ap (λ k. olds ++ (whole, k) ∷ []) at))
    (subst (λ z. Told old olds z (olds ++ (whole, length old) ∷ []) whole form) (sym grown)
    (told_equal old olds whole form table pairs inside (raised_within (length old) whole (length old) form (omega (arith, inside)) within)))

-- the table once new numbers stand in it
module _ (old mid new : List Form) (olds news : List (ℕ × ℕ)) (whole : ℕ) (table : IsTable old) (pairs : AreWithin (length old) olds) (inside : whole < length old) where
  pub new_element : (element : ℕ) → element ≡ length old → mid ≡ old ++ f.Open ∷ [] → (IsTable mid → AreWithin (length mid) olds → whole < length mid → IsWithin (length mid) whole (f.Set element) → Told mid olds new news whole (f.Set element))
      → Numbered old olds new news (λ m. element_of (m whole)) element
  new_element element at grown next =
      let size : length mid ≡ length old + 1 = ap length grown ∙ length_push old f.Open in
      let mid_table : IsTable mid = subst IsTable (sym grown) (table_push old f.Open table tt) in
      let told = next mid_table (larger_pairs (length old) (length mid) olds (omega (arith, size)) pairs) (omega (arith, size, inside)) (omega (arith, size, at)) in
      subst (Numbered old olds new news (λ m. element_of (m whole))) (sym at)
      (numbered_element old mid new olds news whole table pairs inside grown (subst (λ k. Told mid olds new news whole (f.Set k)) at told))

  pub new_part : (at count part : ℕ) (ks : List ℕ) → mid ≡ old ++ replicate count f.Open → ks ≡ numbers_from (length old) count → slice_get ks at ≡ Some part
      → (IsTable mid → AreWithin (length mid) olds → whole < length mid → IsWithin (length mid) whole (f.Tuple ks) → Told mid olds new news whole (f.Tuple ks)) → Numbered old olds new news (λ m. part_of at count (m whole)) part
  new_part at count part ks grown ks_are there next =
      let size : length mid ≡ length old + count = ap length grown ∙ length_opens old count in
      let mid_table : IsTable mid = subst IsTable (sym grown) (table_opens old count table (omega (arith, length_opens old count))) in
      numbered_part old mid new olds news whole at count part ks table pairs inside grown ks_are there
      (next mid_table (larger_pairs (length old) (length mid) olds (omega (arith, size)) pairs) (omega (arith, size, inside)) (opens_within old mid whole count ks grown ks_are))

pub has_part : (old : List Form) (olds : List (ℕ × ℕ)) (whole at count part : ℕ) → HasPart old whole at count part → IsTable old → AreWithin (length old) olds → Numbered old olds old olds (λ m. part_of at count (m whole)) part
has_part old olds whole at count part has table pairs = let (ks, there, long, part_there) = has in part_told old olds whole at count part ks table pairs there long part_there

-- one open number more
replicate_more : (i : ℕ) → replicate (suc i) f.Open ≡ replicate i f.Open ++ f.Open ∷ []
replicate_more zero = refl
replicate_more (suc i) = ap (λ zs. f.Open ∷ zs) (replicate_more i)

from_more : (k i : ℕ) → numbers_from k (suc i) ≡ numbers_from k i ++ (k + i) ∷ []
from_more k zero = let e : k ≡ k + 0 = omega arith in ap (λ n. n ∷ []) e
from_more k (suc i) = let e : suc k + i ≡ k + suc i = omega arith in ap (λ zs. k ∷ zs) (from_more (suc k) i) ∙ ap (λ n. k ∷ numbers_from (suc k) i ++ n ∷ []) e

pub opens_more : (old now new : List Form) (ks more : List ℕ) (i number : ℕ) → now ≡ old ++ replicate i f.Open → ks ≡ numbers_from (length old) i → number ≡ length now → new ≡ now ++ f.Open ∷ [] → more ≡ ks ++ number ∷ []
    → (new ≡ old ++ replicate (i + 1) f.Open) × (more ≡ numbers_from (length old) (i + 1))
opens_more old now new ks more i number now_is ks_are number_is new_is more_is = (
  new_is ∙ ap (λ z. z ++ f.Open ∷ []) now_is ∙ append_assoc old (replicate i f.Open) (f.Open ∷ []) ∙ ap (λ z. old ++ z) (sym (replicate_more i)) ∙ ap (λ n. old ++ replicate n f.Open) (sym (add-one i)),
  more_is ∙ ap (λ z. z ++ number ∷ []) ks_are ∙ ap (λ n. numbers_from (length old) i ++ n ∷ []) (number_is ∙ ap length now_is ∙ length_opens old i) ∙ sym (from_more (length old) i) ∙ ap (numbers_from (length old)) (sym (add-one i)),
)
