-- A line of `setup` that names do not refuse has as many arguments as the class of its process has parameters.
use Rattle.std.specs.Prelude.{◌≡◌, refl, ℕ, zero, suc, ◌<◌, ◌==◌, ◌||◌, Bool, true, false, not, if◌then◌else◌, List, [], ◌∷◌, ◌++◌, map, length, replicate, Option, Some, None, option_and_then, option_map, option_to_list, unwrap_or, position, flat_map, filter_map, find, is_none, slice_get, bytes_eq}
use Rattle.std.specs.List.{cons_option, list_any, position_or_len}
use Rattle.std.proofs.Common.{◌∙◌, ap, sym, subst, inl, inr, ⊎_elim, arith, cond}
use Rattle.std.proofs.lemmas.Bool.{eqb-true, lt-ltb, true≢false}
use Rattle.std.proofs.lemmas.List.{append_assoc, length-map}
use Rattle.std.proofs.lemmas.List.Folds.{find_at}
use Rattle.std.proofs.lemmas.List.FromFn.{length-range_with_len}
use Rattle.std.proofs.lemmas.Option.{slice_get-map}
use Rattle.std.proofs.lemmas.Slice.Eq.{bytes_eq-Decides}
use Rattle.da_values.specs.Sets.{Has}
use Rattle.da_values.proofs.Members.{Has-append_left, Has-filter_map, any_from_has, of_flat_map}
use Rattle.da_lang.specs.declared.program.Class.{Class}
use Rattle.da_lang.specs.declared.program.ProcDecl.{ProcDecl}
use Rattle.da_lang.specs.declared.program.SetupCall.{SetupCall}
use Rattle.da_lang.specs.declared.tree.ClassTree.{ClassTree}
use Rattle.da_lang.specs.declared.tree.Expr.{Expr}
use Rattle.da_lang.specs.declared.tree.Expr.TheVariants as ex
use Rattle.da_lang.specs.declared.tree.MainLine.{MainLine}
use Rattle.da_lang.specs.declared.tree.MainLine.TheVariants as main_line
use Rattle.da_lang.specs.declared.tree.Tree.{Tree}
use Rattle.da_lang.specs.ClassParts.{Declared, class_of, params_if, setup_of}
use Rattle.da_lang.specs.ExprMeaning.{Meaning}
use Rattle.da_lang.specs.ExprNames.{Part, Local, Made, refused_in, used}
use Rattle.da_lang.specs.NameRules.{again, again_after, class_made, first_class, made_at, made_class, made_name, main_refusals, main_refusals_at, made_scope, name_refusals, setup_kinds, setup_misfits, twice_of}
use Rattle.da_lang.specs.Resolution.{first_call, made, many, procs_of, resolved_args, resolved_class, setup_call}
use Rattle.da_lang.specs.Scopes.{Scope, entered, look}
use Rattle.da_lang.proofs.NamesAt.{names_of-Name}
use Rattle.da_types.proofs.resolved.CallsAllowed.{map_none}
use Rattle.da_types.proofs.totality.Awaits.{no_left, no_right}

same_name : (a b : List ℕ) → bytes_eq a b ≡ true → a ≡ b
same_name a b e = (bytes_eq-Decides a b).0 e

name_same : (a b : List ℕ) → a ≡ b → bytes_eq a b ≡ true
name_same a b e = (bytes_eq-Decides a b).1 e

-- a name that a line may use was made by a line before it
looked : (names : List (List ℕ)) (name : List ℕ) → used (look (entered Made names []) name) ≡ [] → Has names name
looked [] name e = absurd (cc)
looked (n ∷ names) name e = go (bytes_eq n name) refl e (looked names name)
  where
    go : (b : Bool) → bytes_eq n name ≡ b → used (if b then Some Made else look (entered Made names []) name) ≡ [] → (used (look (entered Made names []) name) ≡ [] → Has names name) → Has (n ∷ names) name
    go true same e later = inl (sym (same_name n name same))
    go false same e later = inr (later e)

-- the first line that made a name
pub record FirstMade (ls : List MainLine) (name : List ℕ) : Type 0 where
  pub line : MainLine
  pub class : List ℕ
  pub among : Has ls line
  pub made_by : made_class name line ≡ Some class
  pub first : first_class ls name ≡ Some class

first_here : (o later : Option (List ℕ)) (class : List ℕ) → o ≡ Some class → elim o [ Some c ↦ Some c | None ↦ later ] ≡ Some class
first_here None later class e = absurd (cc)
first_here (Some c) later class e = e

first_later : (o later : Option (List ℕ)) (class : List ℕ) → o ≡ None → later ≡ Some class → elim o [ Some c ↦ Some c | None ↦ later ] ≡ Some class
first_later None later class e is = is
first_later (Some c) later class e is = absurd (cc)

made_after : (other class : List ℕ) (count : Option ℕ) (line : ℕ) (ls : List MainLine) (name : List ℕ) → bytes_eq other name ≡ false → FirstMade ls name → FirstMade (main_line.New other class count line ∷ ls) name
made_after other class count line ls name differs rest = record { line = rest.line; class = rest.class; among = inr rest.among; made_by = rest.made_by; first = first_later (made_class name (main_line.New other class count line)) (first_class ls name) rest.class (ap (λ (b : Bool). if b then Some class else None) differs) rest.first }

first_made : (ls : List MainLine) (name : List ℕ) → Has (filter_map made_name ls) name → FirstMade ls name
first_made [] name h = absurd h
first_made (main_line.New other class count line ∷ ls) name h = go (bytes_eq other name) refl h (first_made ls name)
  where
    go : (b : Bool) → bytes_eq other name ≡ b → Has (other ∷ filter_map made_name ls) name → (Has (filter_map made_name ls) name → FirstMade ls name) → FirstMade (main_line.New other class count line ∷ ls) name
    go true same h later = record {
      line = main_line.New other class count line;
      class = class;
      among = inl refl;
      made_by = ap (λ (b : Bool). if b then Some class else None) same;
      first = first_here (made_class name (main_line.New other class count line)) (first_class ls name) class (ap (λ (b : Bool). if b then Some class else None) same);
    }
    go false same h later = made_after other class count line ls name same (later (⊎_elim (λ is. absurd (true≢false (sym (name_same other name (sym is)) ∙ same))) (λ k. k) h))
first_made (main_line.Setup other args line ∷ ls) name h =
    let rest = first_made ls name h in
    record { line = rest.line; class = rest.class; among = inr rest.among; made_by = rest.made_by; first = rest.first }

-- a name that is declared once
not_before : (before : List (List ℕ)) (xs : List Declared) → again_after before xs ≡ [] → (x : Declared) → Has xs x → Has before x.0 → ⊥
not_before before [] e x h b = h
not_before before (y ∷ ys) e x h b = go (list_any (bytes_eq y.0) before) refl e (λ none among. not_before (y.0 ∷ before) ys none x among (inr b))
  where
    go : (c : Bool) → list_any (bytes_eq y.0) before ≡ c → (if c then y.1 ∷ again_after (y.0 ∷ before) ys else again_after (y.0 ∷ before) ys) ≡ [] → (again_after (y.0 ∷ before) ys ≡ [] → Has ys x → ⊥) → ⊥
    go true any e rest = absurd (cc)
    go false any e rest =
        ⊎_elim
        (λ is. true≢false (sym (any_from_has (bytes_eq y.0) before y.0 (subst (λ (z : Declared). Has before z.0) is b) (name_same y.0 y.0 refl)) ∙ any))
        (λ later. rest e later)
        h

declared : (name class : List ℕ) (l : MainLine) → made_class name l ≡ Some class → (line : ℕ) × (made_at l ≡ Some (name, line))
declared name class (main_line.New other c count line) e = go (bytes_eq other name) refl e
  where
    go : (b : Bool) → bytes_eq other name ≡ b → (if b then Some c else None) ≡ Some class → (k : ℕ) × (◌≡◌ {A = Option Declared} (Some (other, line)) (Some (name, k)))
    go true same e = (line, ap (λ z. Some (z, line)) (same_name other name same))
    go false same e = absurd (cc)
declared name class (main_line.Setup other args line) e = absurd (cc)

behind : (before : List (List ℕ)) (o : Option Declared) (xs : List Declared) → again_after before (cons_option o xs) ≡ [] → (now : List (List ℕ)) × (again_after now xs ≡ []) × ((x : Declared) → o ≡ Some x → Has now x.0)
behind before None xs e = (before, e, λ x is. absurd (cc))
behind before (Some y) xs e = go (list_any (bytes_eq y.0) before) e
  where
    go : (c : Bool) → (if c then y.1 ∷ again_after (y.0 ∷ before) xs else again_after (y.0 ∷ before) xs) ≡ [] → (now : List (List ℕ)) × (again_after now xs ≡ []) × ((x : Declared) → ◌≡◌ {A = Option Declared} (Some y) (Some x) → Has now x.0)
    go true e = absurd (cc)
    go false e = (y.0 ∷ before, e, λ x is. (let same : y ≡ x = cc in inl (ap (λ (z : Declared). z.0) (sym same))))

-- the lines of a name make it of one class
made_once : (before : List (List ℕ)) (ls : List MainLine) → again_after before (filter_map made_at ls) ≡ [] → (name a b : List ℕ) (l m : MainLine) → Has ls l → Has ls m → made_class name l ≡ Some a → made_class name m ≡ Some b → a ≡ b
made_once before [] e name a b l m h k p q = absurd h
made_once before (x ∷ ls) e name a b l m h k p q =
    let (now, rest, has) = behind before (made_at x) (filter_map made_at ls) e in
    let later : (y : MainLine) (c : List ℕ) → Has ls y → made_class name y ≡ Some c → (z : MainLine) (d : List ℕ) → z ≡ x → made_class name z ≡ Some d → a ≡ b = λ y c among is z d first known.
    (let (line, at_y) = declared name c y is in
    let (other, at_x) = declared name d x (ap (made_class name) (sym first) ∙ known) in
    absurd (not_before now (filter_map made_at ls) rest (name, line) (Has-filter_map made_at ls y (name, line) among at_y) (has (name, other) at_x))) in
    elim h [
      | inl first ↦ (
          elim k [
            | inl second ↦ (let both : ◌≡◌ {A = Option (List ℕ)} (Some a) (Some b) = sym p ∙ ap (made_class name) (first ∙ sym second) ∙ q in cc)
            | inr among ↦ later m b among q l a first p
          ])
      | inr among ↦ (
          elim k [
            | inl second ↦ later l a among p m b second q
            | inr others ↦ made_once now ls rest name a b l m among others p q
          ])
    ]

-- the class at its place
inside : {A : Type 0} (xs : List A) (k : ℕ) (x : A) → slice_get xs k ≡ Some x → k < length xs
inside [] k x e = absurd (cc)
inside (y ∷ ys) zero x e = omega arith
inside (y ∷ ys) (suc k) x e = let rest = inside ys k x e in omega (arith, rest)

class_at_place : {A : Type 0} (p : A → Bool) (xs : List A) (x : A) → find p xs ≡ Some x → slice_get xs (unwrap_or (position p xs) 0) ≡ Some x
class_at_place p xs x e =
    let k = position_or_len p xs in
    let got : slice_get xs k ≡ Some x = sym (find_at p xs) ∙ e in
    ap (λ b. slice_get xs (unwrap_or (cond b (Some k) None) 0)) (lt-ltb k (length xs) (inside xs k x got)) ∙ got

-- each line keeps the rules of names, by the lines before it
at_main : (t : Tree) (before ls : List MainLine) → main_refusals t before ls ≡ [] → (l : MainLine) → Has ls l → (earlier : List MainLine) × (main_refusals_at t earlier l ≡ []) × ((m : MainLine) → Has earlier m → Has (before ++ ls) m)
at_main t before [] e l h = absurd h
at_main t before (x ∷ ls) e l (inl is) = (before, subst (λ z. main_refusals_at t before z ≡ []) (sym is) (no_left (main_refusals_at t before x) _ e), λ m k. Has-append_left before (x ∷ ls) m k)
at_main t before (x ∷ ls) e l (inr h) =
    let (earlier, none, among) = at_main t (before ++ x ∷ []) ls (no_right (main_refusals_at t before x) _ e) l h in
    (earlier, none, λ m k. subst (λ z. Has z m) (append_assoc before (x ∷ []) ls) (among m k))

no_misfit : (xs : List Expr) (c : ClassTree) → list_any (setup_misfits xs) (option_to_list (Some c)) ≡ false → length xs ≡ length (params_if (setup_of c))
no_misfit xs c e = go (length xs == length (params_if (setup_of c))) refl e
  where
    go : (b : Bool) → (length xs == length (params_if (setup_of c))) ≡ b → (not b || false) ≡ false → length xs ≡ length (params_if (setup_of c))
    go true same e = eqb-true _ _ same
    go false same e = absurd (true≢false e)

none_if : {A : Type 0} (b : Bool) (x : A) → (if b then x ∷ [] else []) ≡ [] → b ≡ false
none_if true x e = absurd (cc)
none_if false x e = refl

there : {A : Type 0} (o : Option A) → is_none o ≡ false → (x : A) × (o ≡ Some x)
there None e = absurd (true≢false e)
there (Some x) e = (x, refl)

in_replicate : {A : Type 0} (n : ℕ) (x y : A) → Has (replicate n x) y → y ≡ x
in_replicate zero x y h = absurd h
in_replicate (suc n) x y (inl is) = is
in_replicate (suc n) x y (inr h) = in_replicate n x y h

first_has : (calls : List SetupCall) (call : SetupCall) → first_call calls ≡ Some call → Has calls call
first_has [] call is = absurd (cc)
first_has (x ∷ calls) call is = inl (cc)

module _ (t : Tree) (named : name_refusals t ≡ []) where
  in_main : main_refusals t [] t.main ≡ []
  unfolding name_refusals
  in_main = no_right _ _ named

  once : again (filter_map made_at t.main) ≡ []
  unfolding name_refusals
  once = no_right _ _ (no_left _ _ (map_none _ (twice_of t) (no_right _ _ (no_left _ _ named))))

  -- a class that `new` names is there
  pub class_of_new : (name class : List ℕ) (count : Option ℕ) (line : ℕ) → Has t.main (main_line.New name class count line) → (c : ClassTree) × (class_of t class ≡ Some c)
  class_of_new name class count line h =
      let (earlier, none, among) = at_main t [] t.main in_main (main_line.New name class count line) h in
      there (class_of t class) (none_if (is_none (class_of t class)) _ (map_none _ _ none))

  -- the arguments of a line of `setup` for what that line makes
  pub arity : (name class : List ℕ) (count : Option ℕ) (line : ℕ) → Has t.main (main_line.New name class count line) → (c : ClassTree) → class_of t class ≡ Some c → (xs : List Expr) (at_ : ℕ) → Has t.main (main_line.Setup name xs at_) → length xs ≡ length (params_if (setup_of c))
  arity name class count line h c known xs at_ k =
      let (earlier, none, among) = at_main t [] t.main in_main (main_line.Setup name xs at_) k in
      let kinds : setup_kinds t earlier name xs ≡ [] = map_none _ _ none in
      let words = no_left (flat_map (refused_in (made_scope earlier)) (ex.Name name ∷ xs)) _ (no_left _ _ kinds) in
      let may_use : used (look (made_scope earlier) name) ≡ [] = ap (λ (z : Part). z.kinds Local (made_scope earlier)) (sym (names_of-Name name)) ∙ no_left (refused_in (made_scope earlier) (ex.Name name)) _ words in
      let first = first_made earlier name (looked (filter_map made_name earlier) name may_use) in
      let own : made_class name (main_line.New name class count line) ≡ Some class = ap (λ (b : Bool). if b then Some class else None) (name_same name name refl) in
      let same : first.class ≡ class = made_once [] t.main once name first.class class first.line (main_line.New name class count line) (among first.line first.among) h first.made_by own in
      let made_of : class_made t earlier name ≡ Some c = ap (option_and_then (class_of t)) first.first ∙ ap (class_of t) same ∙ known in
      no_misfit xs c (subst (λ o. list_any (setup_misfits xs) (option_to_list o) ≡ false) made_of (none_if (list_any (setup_misfits xs) (option_to_list (class_made t earlier name))) _ (no_right _ _ kinds)))

-- the same of the resolved program
params_are : (c : ClassTree) → length (resolved_class c).params ≡ length (params_if (setup_of c))
unfolding resolved_class
params_are c = length-range_with_len _ (length (params_if (setup_of c)))

setup_line : (scope : Scope Meaning) (name : List ℕ) (l : MainLine) (call : SetupCall) → Has (setup_call scope name l) call → (xs : List Expr) × (line : ℕ) × (l ≡ main_line.Setup name xs line) × (length call.args ≡ length xs)
setup_line scope name (main_line.New other class count line) call h = absurd h
setup_line scope name (main_line.Setup other args line) call h = go (bytes_eq other name) refl h
  where
    go : (b : Bool) → bytes_eq other name ≡ b → Has (if b then record { args = resolved_args scope args; line = line } ∷ [] else []) call → (xs : List Expr) × (at_ : ℕ) × (main_line.Setup other args line ≡ main_line.Setup name xs at_) × (length call.args ≡ length xs)
    go true same (inl is) = (args, line, ap (λ z. main_line.Setup z args line) (same_name other name same), ap (λ (z : SetupCall). length z.args) is ∙ length-map args _)
    go true same (inr none) = absurd none
    go false same none = absurd none

pub resolved_arity : (t : Tree) → name_refusals t ≡ [] → (l : MainLine) → Has t.main l → (d : ProcDecl) → Has (procs_of t l) d → (call : SetupCall) → d.setup ≡ Some call → (c : Class) → slice_get (map resolved_class t.classes) d.class ≡ Some c → length call.args ≡ length c.params
resolved_arity t named (main_line.Setup name args line) own d h call is c at_place = absurd h
resolved_arity t named (main_line.New name class count line) own d h call is c at_place =
    let same = in_replicate (many count) _ d h in
    let scope = made 0 t.main in
    let has = first_has (flat_map (setup_call scope name) t.main) call (sym (ap (λ (z : ProcDecl). z.setup) same) ∙ is) in
    let (m, stands, of) = of_flat_map (setup_call scope name) t.main call has in
    let (xs, at_, line_is, size) = setup_line scope name m call of in
    let (tree, known) = class_of_new t named name class count line own in
    let fits = arity t named name class count line own tree known xs at_ (subst (λ z. Has t.main z) line_is stands) in
    let got : slice_get t.classes d.class ≡ Some tree = ap (λ (z : ProcDecl). slice_get t.classes z.class) same ∙ class_at_place (λ (c : ClassTree). bytes_eq c.name class) t.classes tree known in
    let class_is : ◌≡◌ {A = Option Class} (Some (resolved_class tree)) (Some c) = sym (slice_get-map resolved_class t.classes d.class ∙ ap (option_map resolved_class) got) ∙ at_place in
    let equal : resolved_class tree ≡ c = cc in
    size ∙ fits ∙ sym (params_are tree) ∙ ap (λ (z : Class). length z.params) equal

-- the class of what a line makes is there
pub class_is_there : (t : Tree) → name_refusals t ≡ [] → (l : MainLine) → Has t.main l → (d : ProcDecl) → Has (procs_of t l) d → (c : ClassTree) × (slice_get t.classes d.class ≡ Some c)
class_is_there t named (main_line.Setup name args line) own d h = absurd h
class_is_there t named (main_line.New name class count line) own d h =
    let (tree, known) = class_of_new t named name class count line own in
    let same = in_replicate (many count) _ d h in
    (tree, ap (λ (z : ProcDecl). slice_get t.classes z.class) same ∙ class_at_place (λ (c : ClassTree). bytes_eq c.name class) t.classes tree known)

-- what a mapped list has at a place
pub class_back : {A B : Type 0} (f : A → B) (xs : List A) (k : ℕ) (y : B) → slice_get (map f xs) k ≡ Some y → (x : A) × (slice_get xs k ≡ Some x) × (f x ≡ y)
class_back f [] k y e = absurd (cc)
class_back f (x ∷ xs) zero y e = (x, refl, cc)
class_back f (x ∷ xs) (suc k) y e = class_back f xs k y e
