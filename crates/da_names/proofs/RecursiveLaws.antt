-- Which calls lead back: what is reported of the first methods of all names is reported of all methods.
use Rattle.std.proofs.Common.{◌≡◌, ◌∙◌, ℕ, zero, suc, ◌+◌, ◌<◌, Bool, true, false, List, [], ◌∷◌, ◌++◌, length, map, take, get_or, find, flat_map, cond, Option, Some, None, Contains, subst, sym, refl, ap, ⊎_elim, arith}
use Rattle.std.specs.List.{slice_get}
use Rattle.std.specs.Option.{option_and_then}
use Rattle.std.proofs.lemmas.List.{append-nil, map-append, take_more}
use Rattle.std.proofs.lemmas.Grind.{flat_map-append}
use Rattle.da_lang.specs.declared.refusal.ScopeKind.TheVariants.{Recursive}
use Rattle.da_lang.specs.declared.tree.ClassTree.{ClassTree}
use Rattle.da_lang.specs.Calls.{called, deeds_in}
use Rattle.da_lang.specs.ClassParts.{Body, Place, InSetup, InRun, InMethod, InHandler, bodies, is_method, method_name, method_of, stmts_if}
use Rattle.da_lang.specs.Deeds.{Deed, Doing, Sends, Outputs, Labels, Calls, Loops, Awaits, TimesOut, Other, deeds}
use Rattle.da_lang.specs.NameRules.{leads_back, method_names, recursive_in}
use Rattle.da_lang.specs.Scopes.{at_lines}
use Rattle.da_calls.specs.declared.methods.Method.{Method}
use Rattle.da_names.specs.declared.deeds.Deed as code
use Rattle.da_calls.specs.CallMethods.{Numbering, body_of}
use Rattle.da_names.specs.ClassRules.{goes_round}
use Rattle.da_names.specs.DeedView as view
use Rattle.da_bodies.specs.Telling.{Refusal, telling}
use Rattle.da_calls.proofs.CallAnswers.{leads_back-call}
use Rattle.da_calls.proofs.CallBounds.{false_true, none_is_some, some_same, in_first, in_later, in_cases, in_none, in_filter_map, filter_map_in, find_in, method_in_names}
use Rattle.da_calls.proofs.CallNames.{same_name, name_same}
use Rattle.da_calls.proofs.CallRows.{method_read}
use Rattle.da_bodies.proofs.KindOrders.{name_order}
use Rattle.da_bodies.proofs.TellingLaws.{telling-append, telling-same}
use Rattle.da_bodies.proofs.AgainLaws.{at_lines-append}

abbrev pub name_of : Method → List ℕ
name_of m = m.name.now

-- a method with a number is the first one of its name
module _ (c : ClassTree) (ms : List Method) (number : List ℕ → Option ℕ) (w : Numbering (bodies c) (map body_of ms) number) where
  pub first_method : (i : ℕ) (m : Method) → i < length ms → m ≡ get_or ms i m → method_of c m.name.now ≡ Some (body_of m)
  first_method i m within is =
      let there : slice_get (map body_of ms) i ≡ Some (body_of m) = method_read body_of ms i m within is in
      let named : (name : List ℕ) × (number name ≡ Some i) = w.named i (omega (arith, within, length-map_of ms)) in
      let found : method_of c named.0 ≡ Some (body_of m) = w.found named.0 ∙ ap (option_and_then (slice_get (map body_of ms))) named.1 ∙ there in
      subst (λ n. method_of c n ≡ Some (body_of m)) (sym (same_name m.name.now named.0 (find_in (λ b. is_method named.0 b.place) (bodies c) (body_of m) found).1)) found
    where
      length-map_of : (xs : List Method) → length (map body_of xs) ≡ length xs
      length-map_of [] = refl
      length-map_of (x ∷ xs) = ap suc (length-map_of xs)

  numbered_in : (name : List ℕ) (b : Body) (o : Option ℕ) → number name ≡ o → method_of c name ≡ Some b → (m : Method) × Contains ms m × (m.name.now ≡ name)
  numbered_in name b None none is = absurd (none_is_some b (sym (w.found name ∙ ap (option_and_then (slice_get (map body_of ms))) none) ∙ is))
  numbered_in name b (Some k) some is =
      let m : (x : Method) × Contains ms x × (body_of x ≡ b) = read ms k (sym (w.found name ∙ ap (option_and_then (slice_get (map body_of ms))) some) ∙ is) in
      let tested : is_method name b.place ≡ true = (find_in (λ x. is_method name x.place) (bodies c) b is).1 in
      (m.0, m.1, same_name m.0.name.now name (ap (λ x. is_method name x.place) m.2 ∙ tested))
    where
      read : (xs : List Method) (k : ℕ) → slice_get (map body_of xs) k ≡ Some b → (x : Method) × Contains xs x × (body_of x ≡ b)
      read [] k e = absurd (none_is_some b e)
      read (x ∷ xs) zero e = (x, in_first x xs, some_same (body_of x) b e)
      read (x ∷ xs) (suc k) e = let r : (y : Method) × Contains xs y × (body_of y ≡ b) = read xs k e in (r.0, in_later x xs r.0 r.1, r.2)

-- members of mapped lists
in_map : {A B : Type 0} (f : A → B) (xs : List A) (x : A) → Contains xs x → Contains (map f xs) (f x)
in_map f [] x has = absurd (in_none x has)
in_map f (y ∷ ys) x has = ⊎_elim (λ same. subst (λ z. Contains (f y ∷ map f ys) (f z)) same (in_first (f y) (map f ys))) (λ h. in_later (f y) (map f ys) (f x) (in_map f ys x h)) (in_cases y ys x has)

map_in : {A B : Type 0} (f : A → B) (xs : List A) (y : B) → Contains (map f xs) y → (x : A) × Contains xs x × (f x ≡ y)
map_in f [] y has = absurd (in_none y has)
map_in {A} f (x ∷ xs) y has =
    ⊎_elim (λ same. (x, in_first x xs, same)) (λ h. let r : (z : A) × Contains xs z × (f z ≡ y) = map_in f xs y h in (r.0, in_later x xs r.0 r.1, r.2)) (in_cases (f x) (map f xs) y has)

in_find : {A : Type 0} (p : A → Bool) (xs : List A) (x : A) → Contains xs x → p x ≡ true → (y : A) × (find p xs ≡ Some y)
in_find p [] x has e = absurd (in_none x has)
in_find {A} p (z ∷ zs) x has e = go (p z) refl (λ h. in_find p zs x h e)
  where
    go : (b : Bool) → p z ≡ b → (Contains zs x → (y : A) × (find p zs ≡ Some y)) → (y : A) × (cond b (Some z) (find p zs) ≡ Some y)
    go true is later = (z, refl)
    go false is later = ⊎_elim (λ same. absurd (false_true (sym is ∙ ap p same ∙ e))) later (in_cases z zs x has)

named_is_method : (name : List ℕ) (p : Place) → method_name p ≡ Some name → is_method name p ≡ true
named_is_method name (InMethod other) e = name_same other name (some_same other name e)
named_is_method name InSetup e = absurd (none_is_some name e)
named_is_method name InRun e = absurd (none_is_some name e)
named_is_method name (InHandler message from labels) e = absurd (none_is_some name e)

-- the names of the methods with numbers are those of all methods
module _ (c : ClassTree) (ms : List Method) (number : List ℕ → Option ℕ) (w : Numbering (bodies c) (map body_of ms) number) where
  all_numbered : (name : List ℕ) → Contains (method_names c) name → Contains (map name_of ms) name
  all_numbered name has =
      let b : (x : Body) × Contains (bodies c) x × (method_name x.place ≡ Some name) = filter_map_in (λ x. method_name x.place) (bodies c) name has in
      let first : (y : Body) × (method_of c name ≡ Some y) = in_find (λ x. is_method name x.place) (bodies c) b.0 b.1 (named_is_method name b.0.place b.2) in
      let m : (x : Method) × Contains ms x × (x.name.now ≡ name) = numbered_in c ms number w name first.0 (number name) refl first.1 in
      subst (λ n. Contains (map name_of ms) n) m.2 (in_map name_of ms m.0 m.1)

  numbered_all : (name : List ℕ) → Contains (map name_of ms) name → Contains (method_names c) name
  numbered_all name has =
      let m : (x : Method) × Contains ms x × (x.name.now ≡ name) = map_in name_of ms name has in
      subst (λ n. Contains (method_names c) n) m.2 (method_in_names c m.0.name.now (body_of m.0) (first_method c ms number w m.1.0 m.0 m.1.1 (sym m.1.2)))

  flat_lines : (xs : List (List ℕ)) → at_lines Recursive (flat_map (recursive_in c) xs) ≡ flat_map (λ n. at_lines Recursive (recursive_in c n)) xs
  flat_lines [] = refl
  flat_lines (x ∷ xs) = at_lines-append Recursive (recursive_in c x) (flat_map (recursive_in c) xs) ∙ ap (λ rs. at_lines Recursive (recursive_in c x) ++ rs) (flat_lines xs)

  pub told_once : (found : Option Refusal) → telling found (at_lines Recursive (flat_map (recursive_in c) (map name_of ms))) ≡ telling found (at_lines Recursive (flat_map (recursive_in c) (method_names c)))
  told_once found =
      ap (telling found) (flat_lines (map name_of ms))
      ∙ telling-same name_order (λ n. at_lines Recursive (recursive_in c n)) found (map name_of ms) (method_names c) numbered_all all_numbered
      ∙ ap (telling found) (sym (flat_lines (method_names c)))

-- a call in a method that leads to it again
pub round_back : (c : ClassTree) (holder : List ℕ) (d : Deed) → Contains (deeds_in c holder) d → goes_round c holder d.does ≡ leads_back c holder d.does
round_back c holder d has = go d.does refl
  where
    go : (does : Doing) → d.does ≡ does → goes_round c holder does ≡ leads_back c holder does
    go (Calls name) is = leads_back-call c holder name (in_filter_map (λ x. called x.does) (deeds_in c holder) d name has (ap called is))
    go Sends is = refl
    go Outputs is = refl
    go (Labels name) is = refl
    go Loops is = refl
    go Awaits is = refl
    go TimesOut is = refl
    go Other is = refl

-- one deed of a method
pub round_told : (c : ClassTree) (holder : List ℕ) (ds : List code.Deed) (i : ℕ) (x : code.Deed) → i < length ds → x ≡ get_or ds i x → view.deeds_in ds ≡ deeds_in c holder → goes_round c holder (view.doing_of x.does) ≡ leads_back c holder (view.doing_of x.does)
unfolding view.deeds_in
round_told c holder ds i x within is here = round_back c holder (view.deed_of x) (subst (λ es. Contains es (view.deed_of x)) here (in_map view.deed_of ds x (i, within, sym is)))

-- one method
pub method_deeds : (c : ClassTree) (m : Method) → method_of c m.name.now ≡ Some (body_of m) → deeds m.body.now ≡ deeds_in c m.name.now
method_deeds c m first = sym (ap (λ o. deeds (stmts_if o)) first)

pub recursive_more : (c : ClassTree) (first found last : Option Refusal) (ms : List Method) (i : ℕ) (m : Method) → i < length ms → m ≡ get_or ms i m
    → found ≡ telling first (at_lines Recursive (flat_map (recursive_in c) (map name_of (take i ms))))
    → last ≡ telling found (at_lines Recursive (recursive_in c m.name.now))
    → last ≡ telling first (at_lines Recursive (flat_map (recursive_in c) (map name_of (take (i + 1) ms))))
recursive_more c first found last ms i m within is told step =
    let before = map name_of (take i ms) in
    let lines : List (List ℕ) → List ℕ = flat_map (recursive_in c) in
    let more : map name_of (take (i + 1) ms) ≡ before ++ m.name.now ∷ [] =
    ap (map name_of) (take_more ms i m within ∙ ap (λ x. take i ms ++ x ∷ []) (sym is)) ∙ map-append name_of (take i ms) (m ∷ []) in
    let all : lines (map name_of (take (i + 1) ms)) ≡ lines before ++ recursive_in c m.name.now =
    ap lines more ∙ flat_map-append (recursive_in c) before (m.name.now ∷ []) ∙ ap (λ ls. lines before ++ ls) (append-nil (recursive_in c m.name.now)) in
    step ∙ ap (λ f. telling f (at_lines Recursive (recursive_in c m.name.now))) told
    ∙ sym (telling-append first (at_lines Recursive (lines before)) (at_lines Recursive (recursive_in c m.name.now)))
    ∙ ap (telling first) (sym (at_lines-append Recursive (lines before) (recursive_in c m.name.now)) ∙ ap (at_lines Recursive) (sym all))
