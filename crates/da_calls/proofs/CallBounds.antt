-- What a method leads to by any number of calls it leads to by as many calls as there are members of the class.
use Rattle.std.proofs.Common.{◌≡◌, ◌∙◌, ℕ, zero, suc, ◌<◌, ◌≤◌, ◌⊎◌, Bool, true, false, not, ◌||◌, List, [], ◌∷◌, length, filter, filter_map, find, cond, Option, Some, None, Contains, subst, sym, refl, ap, inl, inr, ⊎_elim, arith}
use Rattle.std.specs.List.{cons_option, list_any}
use Rattle.std.specs.Str.{bytes_eq}
use Rattle.std.proofs.lemmas.Bool.{cases_Bool}
use Rattle.da_lang.specs.declared.tree.ClassTree.{ClassTree}
use Rattle.da_lang.specs.Calls.{called, is_yield, deeds_in, calls_in, leads_within, leads, yields_within, yields}
use Rattle.da_lang.specs.ClassParts.{Body, Place, InSetup, InRun, InMethod, InHandler, bodies, body_in, method_of, method_name, is_method, stmts_if}
use Rattle.da_lang.specs.Deeds.{deeds}
use Rattle.da_calls.specs.CallPaths.{LeadsTo, here, on}
use Rattle.da_calls.proofs.CallNames.{same_name, name_same}

-- members of lists
pub in_first : {A : Type 0} (x : A) (xs : List A) → Contains (x ∷ xs) x
in_first x xs = (0, omega arith, refl)

pub in_later : {A : Type 0} (x : A) (xs : List A) (y : A) → Contains xs y → Contains (x ∷ xs) y
in_later x xs y h = (suc h.0, omega (arith, h.1), h.2)

pub in_cases : {A : Type 0} (x : A) (xs : List A) (y : A) → Contains (x ∷ xs) y → (x ≡ y) ⊎ Contains xs y
in_cases x xs y (zero, h, e) = inl e
in_cases x xs y (suc k, h, e) = inr (k, omega (arith, h), e)

pub in_none : {A : Type 0} (y : A) → Contains [] y → ⊥
in_none y h = omega (arith, h.1)

pub false_true : false ≡ true → ⊥
false_true e = cc

pub none_is_some : {A : Type 0} (x : A) → None ≡ Some x → ⊥
none_is_some x e = cc

pub some_same : {A : Type 0} (a b : A) → Some a ≡ Some b → a ≡ b
some_same a b e = cc

true_or : (a b : Bool) → a ≡ true → (a || b) ≡ true
true_or a b e = ap (λ c. c || b) e

or_true : (a b : Bool) → b ≡ true → (a || b) ≡ true
or_true true b e = refl
or_true false b e = e

or_cases : (a b : Bool) → (a || b) ≡ true → (a ≡ true) ⊎ (b ≡ true)
or_cases true b e = inl refl
or_cases false b e = inr e

pub any_in : {A : Type 0} (p : A → Bool) (xs : List A) → list_any p xs ≡ true → (x : A) × Contains xs x × (p x ≡ true)
any_in p [] e = absurd (false_true e)
any_in {A} p (x ∷ xs) e =
    ⊎_elim (λ h. (x, in_first x xs, h)) (λ h. let found : (y : A) × Contains xs y × (p y ≡ true) = any_in p xs h in (found.0, in_later x xs found.0 found.1, found.2)) (or_cases (p x) (list_any p xs) e)

pub in_any : {A : Type 0} (p : A → Bool) (xs : List A) (x : A) → Contains xs x → p x ≡ true → list_any p xs ≡ true
in_any p [] x has e = absurd (in_none x has)
in_any p (y ∷ ys) x has e =
    ⊎_elim (λ same. true_or (p y) (list_any p ys) (ap p same ∙ e)) (λ h. or_true (p y) (list_any p ys) (in_any p ys x h e)) (in_cases y ys x has)

pub in_cons_option : {A : Type 0} (o : Option A) (xs : List A) (y : A) → Contains xs y → Contains (cons_option o xs) y
in_cons_option None xs y has = has
in_cons_option (Some x) xs y has = in_later x xs y has

pub in_filter_map : {A B : Type 0} (f : A → Option B) (xs : List A) (x : A) (y : B) → Contains xs x → f x ≡ Some y → Contains (filter_map f xs) y
in_filter_map f [] x y has e = absurd (in_none x has)
in_filter_map f (z ∷ zs) x y has e =
    ⊎_elim
    (λ same. subst (λ o. Contains (cons_option o (filter_map f zs)) y) (sym (ap f same ∙ e)) (in_first y (filter_map f zs)))
    (λ h. in_cons_option (f z) (filter_map f zs) y (in_filter_map f zs x y h e))
    (in_cases z zs x has)

pub filter_map_in : {A B : Type 0} (f : A → Option B) (xs : List A) (y : B) → Contains (filter_map f xs) y → (x : A) × Contains xs x × (f x ≡ Some y)
filter_map_in f [] y has = absurd (in_none y has)
filter_map_in {A} {B} f (z ∷ zs) y has = go (f z) refl (λ h. let found : (x : A) × Contains zs x × (f x ≡ Some y) = filter_map_in f zs y h in (found.0, in_later z zs found.0 found.1, found.2)) has
  where
    go : (o : Option B) → f z ≡ o → (Contains (filter_map f zs) y → (x : A) × Contains (z ∷ zs) x × (f x ≡ Some y)) → Contains (cons_option o (filter_map f zs)) y → (x : A) × Contains (z ∷ zs) x × (f x ≡ Some y)
    go None e later h = later h
    go (Some w) e later h = ⊎_elim (λ same. (z, in_first z zs, e ∙ ap Some same)) later (in_cases w (filter_map f zs) y h)

pub find_in : {A : Type 0} (p : A → Bool) (xs : List A) (x : A) → find p xs ≡ Some x → Contains xs x × (p x ≡ true)
find_in p [] x e = absurd (none_is_some x e)
find_in {A} p (y ∷ ys) x e = go (p y) refl (λ found. find_in p ys x found) e
  where
    go : (b : Bool) → p y ≡ b → (find p ys ≡ Some x → Contains ys x × (p x ≡ true)) → cond b (Some y) (find p ys) ≡ Some x → Contains (y ∷ ys) x × (p x ≡ true)
    go true is later found = let same : y ≡ x = some_same y x found in (subst (λ z. Contains (y ∷ ys) z) same (in_first y ys), ap p (sym same) ∙ is)
    go false is later found = let rest : Contains ys x × (p x ≡ true) = later found in (in_later y ys x rest.0, rest.1)

-- who calls is a method of the class
abbrev pub method_names : ClassTree → List (List ℕ)
method_names c = filter_map (λ b. method_name b.place) (bodies c)

pub name_of_method : (name : List ℕ) (p : Place) → is_method name p ≡ true → p ≡ InMethod name
name_of_method name (InMethod other) e = ap InMethod (same_name other name e)
name_of_method name InSetup e = absurd (false_true e)
name_of_method name InRun e = absurd (false_true e)
name_of_method name (InHandler message from labels) e = absurd (false_true e)

pub method_in_names : (c : ClassTree) (name : List ℕ) (b : Body) → method_of c name ≡ Some b → Contains (method_names c) name
method_in_names c name b e =
    let found : Contains (bodies c) b × (is_method name b.place ≡ true) = find_in (λ x. is_method name x.place) (bodies c) b e in
    in_filter_map (λ x. method_name x.place) (bodies c) b name found.0 (ap method_name (name_of_method name b.place found.1))

pub caller_is_method : (c : ClassTree) (name next : List ℕ) → Contains (calls_in c name) next → (b : Body) × (method_of c name ≡ Some b)
caller_is_method c name next has = go (method_of c name) refl
  where
    go : (o : Option Body) → method_of c name ≡ o → (b : Body) × (method_of c name ≡ Some b)
    go None e = absurd (in_none next (subst (λ o. Contains (filter_map (λ d. called d.does) (deeds (stmts_if o))) next) e has))
    go (Some b) e = (b, e)

pub length-filter_map : {A B : Type 0} (f : A → Option B) (xs : List A) → length (filter_map f xs) ≤ length xs
length-filter_map f [] = omega arith
length-filter_map {A} {B} f (x ∷ xs) = go (f x) (length-filter_map f xs)
  where
    go : (o : Option B) → length (filter_map f xs) ≤ length xs → length (cons_option o (filter_map f xs)) ≤ suc (length xs)
    go None rest = omega (arith, rest)
    go (Some y) rest = omega (arith, rest)

pub fewer_names : (c : ClassTree) → length (method_names c) ≤ length c.members
fewer_names c =
    let names : length (method_names c) ≤ length (bodies c) = length-filter_map (λ b. method_name b.place) (bodies c) in
    let all : length (bodies c) ≤ length c.members = length-filter_map body_in c.members in
    omega (arith, names, all)

-- a way on which all callers are among some names
data Through (next : List ℕ → List (List ℕ)) (goal : List ℕ) (names : List (List ℕ)) : List ℕ → Type 0 where
  arrived : (m : List ℕ) → m ≡ goal → Through next goal names m
  goes : (m k : List ℕ) → Contains names m → Contains (next m) k → Through next goal names k → Through next goal names m

abbrev without : List ℕ → List (List ℕ) → List (List ℕ)
without x names = filter (λ y. not (bytes_eq x y)) names

in_without : (x : List ℕ) (names : List (List ℕ)) (y : List ℕ) → Contains names y → bytes_eq x y ≡ false → Contains (without x names) y
in_without x [] y has other = absurd (in_none y has)
in_without x (z ∷ zs) y has other = go (bytes_eq x z) refl (λ h. in_without x zs y h other)
  where
    go : (b : Bool) → bytes_eq x z ≡ b → (Contains zs y → Contains (without x zs) y) → Contains (cond (not b) (z ∷ without x zs) (without x zs)) y
    go true e later = ⊎_elim (λ same. absurd (false_true (sym other ∙ ap (bytes_eq x) (sym same) ∙ e))) later (in_cases z zs y has)
    go false e later = ⊎_elim (λ same. subst (λ w. Contains (z ∷ without x zs) w) same (in_first z (without x zs))) (λ h. in_later z (without x zs) y (later h)) (in_cases z zs y has)

length-without : (x : List ℕ) (names : List (List ℕ)) → length (without x names) ≤ length names
length-without x [] = omega arith
length-without x (z ∷ zs) = go (bytes_eq x z) (length-without x zs)
  where
    go : (b : Bool) → length (without x zs) ≤ length zs → length (cond (not b) (z ∷ without x zs) (without x zs)) ≤ suc (length zs)
    go true rest = omega (arith, rest)
    go false rest = omega (arith, rest)

without_fewer : (x : List ℕ) (names : List (List ℕ)) → Contains names x → length (without x names) < length names
without_fewer x [] has = absurd (in_none x has)
without_fewer x (z ∷ zs) has = go (bytes_eq x z) refl (λ h. without_fewer x zs h)
  where
    kept : length (without x zs) ≤ length zs
    kept = length-without x zs

    go : (b : Bool) → bytes_eq x z ≡ b → (Contains zs x → length (without x zs) < length zs) → length (cond (not b) (z ∷ without x zs) (without x zs)) < suc (length zs)
    go true e later = omega (arith, kept)
    go false e later = ⊎_elim (λ same. absurd (false_true (sym e ∙ name_same x z (sym same)))) (λ h. let rest : length (without x zs) < length zs = later h in omega (arith, rest)) (in_cases z zs x has)

-- a way goes by a name no more, or goes on from there and never again
cut : (next : List ℕ → List (List ℕ)) (goal : List ℕ) (names : List (List ℕ)) (x m : List ℕ) → Through next goal names m → Through next goal (without x names) m ⊎ ((k : List ℕ) × Contains (next x) k × Through next goal (without x names) k)
cut next goal names x m (arrived n e) = inl (arrived n e)
cut next goal names x m (goes n k has step way) =
    ⊎_elim
    (λ rest. ⊎_elim
    (λ same. inr (k, subst (λ y. Contains (next y) k) (sym (same_name x n same)) step, rest))
    (λ other. inl (goes n k (in_without x names n has other) step rest))
    (cases_Bool (bytes_eq x n)))
    (λ later. inr later)
    (cut next goal names x k way)

within_zero : (c : ClassTree) (goal m : List ℕ) → m ≡ goal → leads_within zero c m goal ≡ true
unfolding leads_within
within_zero c goal m e = name_same m goal e

within_here : (most : ℕ) (c : ClassTree) (goal m : List ℕ) → m ≡ goal → leads_within (suc most) c m goal ≡ true
unfolding leads_within
within_here most c goal m e = true_or (bytes_eq m goal) _ (name_same m goal e)

within_on : (most : ℕ) (c : ClassTree) (goal m k : List ℕ) → Contains (calls_in c m) k → leads_within most c k goal ≡ true → leads_within (suc most) c m goal ≡ true
unfolding leads_within
within_on most c goal m k step rest = or_true (bytes_eq m goal) _ (in_any (λ n. leads_within most c n goal) (calls_in c m) k step rest)

-- no more calls than names are needed
bounded : (most : ℕ) (c : ClassTree) (goal : List ℕ) (names : List (List ℕ)) (m : List ℕ) → length names ≤ most → Through (calls_in c) goal names m → leads_within most c m goal ≡ true
bounded zero c goal names m few (arrived n e) = within_zero c goal n e
bounded zero c goal names m few (goes n k has step way) = let some : length (without n names) < length names = without_fewer n names has in absurd (omega (arith, some, few))
bounded (suc most) c goal names m few (arrived n e) = within_here most c goal n e
bounded (suc most) c goal names m few (goes n k has step way) =
    let some : length (without n names) < length names = without_fewer n names has in
    let fewer : length (without n names) ≤ most = omega (arith, some, few) in
    ⊎_elim
    (λ rest. within_on most c goal n k step (bounded most c goal (without n names) k fewer rest))
    (λ later. within_on most c goal n later.0 later.1 (bounded most c goal (without n names) later.0 fewer later.2))
    (cut (calls_in c) goal names n k way)

way_through : (c : ClassTree) (goal m : List ℕ) → LeadsTo (calls_in c) goal m → Through (calls_in c) goal (method_names c) m
way_through c goal m (here n e) = arrived n e
way_through c goal m (on n k step way) =
    let b : (x : Body) × (method_of c n ≡ Some x) = caller_is_method c n k step in
    goes n k (method_in_names c n b.0 b.1) step (way_through c goal k way)

pub leads-way : (c : ClassTree) (goal m : List ℕ) → LeadsTo (calls_in c) goal m → leads c m goal ≡ true
leads-way c goal m way = bounded (length c.members) c goal (method_names c) m (fewer_names c) (way_through c goal m way)

way_within : (most : ℕ) (c : ClassTree) (goal m : List ℕ) → leads_within most c m goal ≡ true → LeadsTo (calls_in c) goal m
unfolding leads_within
way_within zero c goal m e = here m (same_name m goal e)
way_within (suc most) c goal m e =
    ⊎_elim
    (λ same. here m (same_name m goal same))
    (λ later. let found : (k : List ℕ) × Contains (calls_in c m) k × (leads_within most c k goal ≡ true) = any_in (λ n. leads_within most c n goal) (calls_in c m) later in
    on m found.0 found.1 (way_within most c goal found.0 found.2))
    (or_cases (bytes_eq m goal) (list_any (λ n. leads_within most c n goal) (calls_in c m)) e)

pub way-leads : (c : ClassTree) (goal m : List ℕ) → leads c m goal ≡ true → LeadsTo (calls_in c) goal m
way-leads c goal m e = way_within (length c.members) c goal m e

-- yield points
abbrev pub holds_yield : ClassTree → List ℕ → Bool
holds_yield c name = list_any (λ d. is_yield d.does) (deeds_in c name)

yields_by : (most : ℕ) (c : ClassTree) (goal m : List ℕ) → leads_within most c m goal ≡ true → holds_yield c goal ≡ true → yields_within most c m ≡ true
unfolding leads_within yields_within
yields_by zero c goal m e holds = subst (λ n. holds_yield c n ≡ true) (sym (same_name m goal e)) holds
yields_by (suc most) c goal m e holds =
    ⊎_elim
    (λ same. true_or (holds_yield c m) _ (subst (λ n. holds_yield c n ≡ true) (sym (same_name m goal same)) holds))
    (λ later. let found : (k : List ℕ) × Contains (calls_in c m) k × (leads_within most c k goal ≡ true) = any_in (λ n. leads_within most c n goal) (calls_in c m) later in
    or_true (holds_yield c m) _ (in_any (yields_within most c) (calls_in c m) found.0 found.1 (yields_by most c goal found.0 found.2 holds)))
    (or_cases (bytes_eq m goal) (list_any (λ n. leads_within most c n goal) (calls_in c m)) e)

pub yields-way : (c : ClassTree) (goal m : List ℕ) → LeadsTo (calls_in c) goal m → holds_yield c goal ≡ true → yields c m ≡ true
yields-way c goal m way holds = yields_by (length c.members) c goal m (leads-way c goal m way) holds

yields_from : (most : ℕ) (c : ClassTree) (m : List ℕ) → yields_within most c m ≡ true → (goal : List ℕ) × LeadsTo (calls_in c) goal m × (holds_yield c goal ≡ true)
unfolding yields_within
yields_from zero c m e = (m, here m refl, e)
yields_from (suc most) c m e =
    ⊎_elim
    (λ holds. (m, here m refl, holds))
    (λ later.
    let found : (k : List ℕ) × Contains (calls_in c m) k × (yields_within most c k ≡ true) = any_in (yields_within most c) (calls_in c m) later in
    let rest : (goal : List ℕ) × LeadsTo (calls_in c) goal found.0 × (holds_yield c goal ≡ true) = yields_from most c found.0 found.2 in
    (rest.0, on m found.0 found.1 rest.1, rest.2))
    (or_cases (holds_yield c m) (list_any (yields_within most c) (calls_in c m)) e)

pub way-yields : (c : ClassTree) (m : List ℕ) → yields c m ≡ true → (goal : List ℕ) × LeadsTo (calls_in c) goal m × (holds_yield c goal ≡ true)
way-yields c m e = yields_from (length c.members) c m e
