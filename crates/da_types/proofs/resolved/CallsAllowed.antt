-- Where names refuse nothing, each call names a method with as many parameters, and no chain of calls is longer than the
-- number of members of its class.
use Rattle.std.specs.Prelude.{◌≡◌, refl, ℕ, zero, suc, ◌+◌, ◌<◌, ◌≤◌, Bool, true, false, not, ◌||◌, List, [], ◌∷◌, map, length, Option, Some, None, filter, filter_map, flat_map, is_none, option_to_list, bytes_eq}
use Rattle.std.specs.List.{cons_option, list_any}
use Rattle.std.proofs.Common.{◌∙◌, ap, sym, subst, arith, inl, inr, ◌⊎◌, ⊎_elim, cond}
use Rattle.std.proofs.lemmas.Bool.{cases_Bool, false≢true, true≢false, or_cases, or_left, or_right, eqb-true}
use Rattle.std.proofs.lemmas.Slice.Eq.{bytes_eq-Decides}
use Rattle.da_values.specs.Sets.{Has}
use Rattle.da_values.proofs.Members.{Has-filter, Has-from_any, any_from_has, Has-flat_map, Has-filter_map, of_filter_map}
use Rattle.da_lang.specs.declared.tree.ClassTree.{ClassTree}
use Rattle.da_lang.specs.Calls.{called, calls_in, deeds_in, leads, leads_within}
use Rattle.da_lang.specs.ClassParts.{Body, Place, InSetup, InRun, InMethod, InHandler, bodies, body_in, is_method, method_name, method_of, stmts_if}
use Rattle.da_lang.specs.Deeds.{Deed, Doing, Sends, Outputs, Labels, Calls, Loops, Awaits, TimesOut, Other, deeds}
use Rattle.da_lang.specs.LabelNames.{all_deeds}
use Rattle.da_lang.specs.NameRules.{calls_none, class_refusals, fits_params, leads_back, lines_where, method_names, misfits, recursive_in}
use Rattle.da_types.proofs.resolved.ClassesFill.{CallsOk, find_has}
use Rattle.da_types.proofs.resolved.CopiesFill.{OkWithin}
use Rattle.da_types.proofs.resolved.StatementsFill.{OkAt, AllOk}
use Rattle.da_types.proofs.totality.Awaits.{no_left, no_right, none_of}

same_name : (a b : List ℕ) → bytes_eq a b ≡ true → a ≡ b
same_name a b e = (bytes_eq-Decides a b).0 e

name_same : (a b : List ℕ) → a ≡ b → bytes_eq a b ≡ true
name_same a b e = (bytes_eq-Decides a b).1 e

-- reach by calls
within_zero : (c : ClassTree) (a b : List ℕ) → a ≡ b → leads_within zero c a b ≡ true
unfolding leads_within
within_zero c a b e = name_same a b e

zero_within : (c : ClassTree) (a b : List ℕ) → leads_within zero c a b ≡ true → a ≡ b
unfolding leads_within
zero_within c a b e = same_name a b e

within_here : (most : ℕ) (c : ClassTree) (a b : List ℕ) → a ≡ b → leads_within most c a b ≡ true
unfolding leads_within
within_here zero c a b e = name_same a b e
within_here (suc most) c a b e = or_left (bytes_eq a b) _ (name_same a b e)

within_on : (most : ℕ) (c : ClassTree) (a next b : List ℕ) → Has (calls_in c a) next → leads_within most c next b ≡ true → leads_within (suc most) c a b ≡ true
unfolding leads_within
within_on most c a next b step rest = or_right (bytes_eq a b) _ (any_from_has (λ n. leads_within most c n b) (calls_in c a) next step rest)

within_parts : (most : ℕ) (c : ClassTree) (a b : List ℕ) → leads_within (suc most) c a b ≡ true → (a ≡ b) ⊎ ((next : List ℕ) × Has (calls_in c a) next × (leads_within most c next b ≡ true))
unfolding leads_within
within_parts most c a b e = ⊎_elim (λ same. inl (same_name a b same)) (λ later. inr (Has-from_any (λ n. leads_within most c n b) (calls_in c a) later)) (or_cases (bytes_eq a b) _ e)

-- one call more at the end
within_end : (most : ℕ) (c : ClassTree) (a b next : List ℕ) → leads_within most c a b ≡ true → Has (calls_in c b) next → leads_within (suc most) c a next ≡ true
within_end zero c a b next e step = within_on zero c a next next (subst (λ n. Has (calls_in c n) next) (sym (zero_within c a b e)) step) (within_zero c next next refl)
within_end (suc most) c a b next e step =
    ⊎_elim
    (λ same. within_on (suc most) c a next next (subst (λ n. Has (calls_in c n) next) (sym same) step) (within_here (suc most) c next next refl))
    (λ later. let (m, first, rest) = later in within_on (suc most) c a m next first (within_end most c m b next rest step))
    (within_parts most c a b e)

within_more : (most : ℕ) (c : ClassTree) (a b : List ℕ) → leads_within most c a b ≡ true → leads_within (suc most) c a b ≡ true
within_more zero c a b e = within_here (suc zero) c a b (zero_within c a b e)
within_more (suc most) c a b e =
    ⊎_elim
    (λ same. within_here (suc (suc most)) c a b same)
    (λ later. let (m, first, rest) = later in within_on (suc most) c a m b first (within_more most c m b rest))
    (within_parts most c a b e)

within_all : (left most : ℕ) (c : ClassTree) (a b : List ℕ) → left + most ≡ length c.members → leads_within most c a b ≡ true → leads c a b ≡ true
within_all zero most c a b sum e = let same : most ≡ length c.members = omega (arith, sum) in subst (λ n. leads_within n c a b ≡ true) same e
within_all (suc left) most c a b sum e = within_all left (suc most) c a b (omega (arith, sum)) (within_more most c a b e)

-- what is asked of each call
all_at : (Ok : List ℕ → ℕ → Type 0) (ds : List Deed) → ((d : Deed) → Has ds d → (name : List ℕ) → d.does ≡ Calls name → Ok name (length d.says)) → AllOk Ok ds
all_at Ok [] each = tt
all_at Ok (d ∷ ds) each = (go d.does refl, all_at Ok ds (λ e h. each e (inr h)))
  where
    go : (does : Doing) → d.does ≡ does → OkAt Ok does d.says
    go (Calls name) is = each d (inl refl) name is
    go Sends is = tt
    go Outputs is = tt
    go (Labels name) is = tt
    go Loops is = tt
    go Awaits is = tt
    go TimesOut is = tt
    go Other is = tt

-- the names without one
abbrev without : List ℕ → List (List ℕ) → List (List ℕ)
without x names = filter (λ y. not (bytes_eq x y)) names

length-without : (x : List ℕ) (names : List (List ℕ)) → length (without x names) ≤ length names
length-without x [] = omega arith
length-without x (z ∷ zs) = go (bytes_eq x z) (length-without x zs)
  where
    go : (b : Bool) → length (without x zs) ≤ length zs → length (cond (not b) (z ∷ without x zs) (without x zs)) ≤ suc (length zs)
    go true rest = omega (arith, rest)
    go false rest = omega (arith, rest)

without_fewer : (x : List ℕ) (names : List (List ℕ)) → Has names x → length (without x names) < length names
without_fewer x [] has = absurd has
without_fewer x (z ∷ zs) has = go (bytes_eq x z) refl (λ h. without_fewer x zs h)
  where
    kept : length (without x zs) ≤ length zs
    kept = length-without x zs

    go : (b : Bool) → bytes_eq x z ≡ b → (Has zs x → length (without x zs) < length zs) → length (cond (not b) (z ∷ without x zs) (without x zs)) < suc (length zs)
    go true e later = omega (arith, kept)
    go false e later = ⊎_elim (λ same. absurd (false≢true (sym e ∙ name_same x z same))) (λ h. let rest : length (without x zs) < length zs = later h in omega (arith, rest)) has

-- the methods of a class
length-filter_map : {A B : Type 0} (f : A → Option B) (xs : List A) → length (filter_map f xs) ≤ length xs
length-filter_map f [] = omega arith
length-filter_map {A} {B} f (x ∷ xs) = go (f x) (length-filter_map f xs)
  where
    go : (o : Option B) → length (filter_map f xs) ≤ length xs → length (cons_option o (filter_map f xs)) ≤ suc (length xs)
    go None rest = omega (arith, rest)
    go (Some y) rest = omega (arith, rest)

few_names : (c : ClassTree) → length (method_names c) ≤ length c.members
few_names c =
    let names : length (method_names c) ≤ length (bodies c) = length-filter_map (λ (b : Body). method_name b.place) (bodies c) in
    let all : length (bodies c) ≤ length c.members = length-filter_map body_in c.members in
    omega (arith, names, all)

method_is : (name : List ℕ) (p : Place) → is_method name p ≡ true → method_name p ≡ Some name
method_is name (InMethod other) e = ap Some (same_name other name e)
method_is name InSetup e = absurd (false≢true e)
method_is name InRun e = absurd (false≢true e)
method_is name (InHandler message from labels) e = absurd (false≢true e)

named : (c : ClassTree) (name : List ℕ) (b : Body) → method_of c name ≡ Some b → Has (method_names c) name
named c name b e =
    let (has, is) = find_has (λ (x : Body). is_method name x.place) (bodies c) b e in
    Has-filter_map (λ (x : Body). method_name x.place) (bodies c) b name has (method_is name b.place is)

-- what names allow: a call names a method with as many parameters, which does not lead back
pub record Allows (c : ClassTree) : Type 0 where
  pub fits : (b : Body) → Has (bodies c) b → (d : Deed) → Has (deeds b.stmts) d → (name : List ℕ) → d.does ≡ Calls name → (m : Body) × (method_of c name ≡ Some m) × (length m.params ≡ length d.says)
  pub leaves : (name next : List ℕ) → Has (calls_in c name) next → Has (method_names c) name → leads c next name ≡ false

module _ (c : ClassTree) (allows : Allows c) where
  -- each method was not yet met, or leads to this one by so many calls
  abbrev Led : List (List ℕ) → ℕ → List ℕ → Type 0
  Led names k name = (p : List ℕ) → Has (method_names c) p → Has names p ⊎ (leads_within k c p name ≡ true)

  deed_calls : (name : List ℕ) (b : Body) (d : Deed) (next : List ℕ) → method_of c name ≡ Some b → Has (deeds b.stmts) d → d.does ≡ Calls next → Has (calls_in c name) next
  deed_calls name b d next is has does =
      subst (λ m. Has (filter_map (λ (d : Deed). called d.does) (deeds (stmts_if m))) next) (sym is) (Has-filter_map (λ (d : Deed). called d.does) (deeds b.stmts) d next has (ap called does))

  still_led : (names : List (List ℕ)) (k : ℕ) (name next : List ℕ) → Has (calls_in c name) next → Led names k name → Led (without name names) (suc k) next
  still_led names k name next step led p h =
      ⊎_elim
      (λ there. ⊎_elim
      (λ same. inr (within_on k c p next next (subst (λ n. Has (calls_in c n) next) (same_name name p same) step) (within_here k c next next refl)))
      (λ other. inl (Has-filter (λ y. not (bytes_eq name y)) names p there (ap not other)))
      (cases_Bool (bytes_eq name p)))
      (λ way. inr (within_end k c p name next way step))
      (led p h)

  -- what a method calls was not yet met
  new_call : (most : ℕ) (names : List (List ℕ)) (k : ℕ) (name next : List ℕ) → suc most + k ≡ length c.members → Has (method_names c) name → Has (method_names c) next → Has (calls_in c name) next → Led names k name → Has (without name names) next
  new_call most names k name next sum own other step led =
      let no : leads c next name ≡ false = allows.leaves name next step own in
      let there : Has names next = ⊎_elim (λ h. h) (λ way. absurd (true≢false (sym (within_all (suc most) k c next name sum way) ∙ no))) (led next other) in
      ⊎_elim
      (λ same. absurd (true≢false (sym (within_here (length c.members) c next name (sym (same_name name next same))) ∙ no)))
      (λ differs. Has-filter (λ y. not (bytes_eq name y)) names next there (ap not differs))
      (cases_Bool (bytes_eq name next))

  ok_call : (most k : ℕ) (names : List (List ℕ)) (name : List ℕ) (n : ℕ) (b : Body) → most + k ≡ length c.members → length names ≤ most → method_of c name ≡ Some b → length b.params ≡ n → Has names name → Led names k name → OkWithin most c name n
  ok_call zero k names name n b sum few is many there led = let some : length (without name names) < length names = without_fewer name names there in absurd (omega (arith, some, few))
  ok_call (suc most) k names name n b sum few is many there led =
      let some : length (without name names) < length names = without_fewer name names there in
      let found = find_has (λ (x : Body). is_method name x.place) (bodies c) b is in (
        b,
        is,
        many,
        all_at (OkWithin most c) (deeds b.stmts) (λ d has next does.
            let (m, of, fit) = allows.fits b found.0 d has next does in
            let step = deed_calls name b d next is has does in
            ok_call most (suc k) (without name names) next (length d.says) m (omega (arith, sum)) (omega (arith, some, few)) of fit
            (new_call most names k name next sum (named c name b is) (named c next m of) step led) (still_led names k name next step led)),
      )

  pub calls_ok : CallsOk c
  calls_ok b has =
      all_at (OkWithin (length c.members) c) (deeds b.stmts) (λ d there name does.
      let (m, is, fit) = allows.fits b has d there name does in
      ok_call (length c.members) zero (method_names c) name (length d.says) m (omega arith) (few_names c) is fit (named c name m is) (λ p h. inl h))

-- from the refusals
pub map_none : {A B : Type 0} (f : A → B) (xs : List A) → map f xs ≡ [] → xs ≡ []
map_none f [] e = refl
map_none f (x ∷ xs) e = absurd (cc)

none_where : (test : Deed → Bool) (ds : List Deed) (d : Deed) → lines_where test ds ≡ [] → Has ds d → test d ≡ false
none_where test ds d e has =
    let none : filter test ds ≡ [] = map_none (λ (d : Deed). d.line) (filter test ds) e in
    ⊎_elim (λ yes_. absurd (subst (λ xs. Has xs d) none (Has-filter test ds d has yes_))) (λ no_. no_) (cases_Bool (test d))

called_is : (does : Doing) (next : List ℕ) → called does ≡ Some next → does ≡ Calls next
called_is (Calls name) next e = let same : name ≡ next = cc in ap Calls same
called_is Sends next e = absurd (cc)
called_is Outputs next e = absurd (cc)
called_is (Labels name) next e = absurd (cc)
called_is Loops next e = absurd (cc)
called_is Awaits next e = absurd (cc)
called_is TimesOut next e = absurd (cc)
called_is Other next e = absurd (cc)

not_false : (b : Bool) → (not b || false) ≡ false → b ≡ true
not_false true e = refl
not_false false e = absurd (true≢false e)

module _ (c : ClassTree) (unknown : lines_where (λ (d : Deed). calls_none c d.does) (all_deeds c) ≡ []) (misfit : lines_where (λ (d : Deed). misfits c d d.does) (all_deeds c) ≡ []) (back : flat_map (recursive_in c) (method_names c) ≡ []) where
  fits_by : (d : Deed) (name : List ℕ) (m : Option Body) → method_of c name ≡ m → is_none m ≡ false → list_any (λ (b : Body). not (fits_params d.says b)) (option_to_list m) ≡ false → (b : Body) × (method_of c name ≡ Some b) × (length b.params ≡ length d.says)
  fits_by d name None is some fit = absurd (true≢false some)
  fits_by d name (Some b) is some fit = (b, is, sym (eqb-true _ _ (not_false (fits_params d.says b) fit)))

  pub allowed : Allows c
  allowed = record {
    fits = λ b has d there name does.
        let all : Has (all_deeds c) d = Has-flat_map (λ (b : Body). deeds b.stmts) (bodies c) b d has there in
        let some : is_none (method_of c name) ≡ false = subst (λ x. calls_none c x ≡ false) does (none_where (λ (d : Deed). calls_none c d.does) (all_deeds c) d unknown all) in
        let fit : misfits c d (Calls name) ≡ false = subst (λ x. misfits c d x ≡ false) does (none_where (λ (d : Deed). misfits c d d.does) (all_deeds c) d misfit all) in
        fits_by d name (method_of c name) refl some fit;
    leaves = λ name next step own.
        let (d, has, calls) = of_filter_map (λ (d : Deed). called d.does) (deeds_in c name) next step in
        let none : recursive_in c name ≡ [] = none_of (recursive_in c) (method_names c) back name own in
        subst (λ x. leads_back c name x ≡ false) (called_is d.does next calls) (none_where (λ (d : Deed). leads_back c name d.does) (deeds_in c name) d none has);
  }

pub class_allowed : (c : ClassTree) → class_refusals c ≡ [] → CallsOk c
class_allowed c e =
    let arity = map_none _ _ (no_right _ _ e) in
    let to_recursive = no_left _ _ (no_left _ _ (no_left _ _ (no_left _ _ e))) in
    let recursive = map_none _ _ (no_right _ _ to_recursive) in
    let unknown = map_none _ _ (no_left _ _ (no_left _ _ (no_left _ _ (no_left _ _ to_recursive)))) in
    calls_ok c (allowed c unknown arity recursive)
