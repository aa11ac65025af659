-- Steps of the loops over the parts of a class.
use Rattle.std.specs.Prelude.{◌≡◌, refl, ℕ, suc, ◌+◌, ◌<◌, length, take, drop, Bool, true, false, not, ◌==◌, ◌&&◌, ◌||◌, if◌then◌else◌, List, [], ◌∷◌, ◌++◌, map, filter_map, flat_map, Option, Some, None}
use Rattle.std.specs.List.{cons_option}
use Rattle.std.proofs.Common.{◌∙◌, sym, ap, arith, eqb-true, get_or}
use Rattle.std.proofs.lemmas.List.{append-nil, map-append, take_more}
use Rattle.std.proofs.lemmas.List.Elements.{filter-append, filter_map-append}
use Rattle.std.proofs.lemmas.Grind.{flat_map-append}
use Rattle.da_lang.specs.declared.refusal.ScopeKind.{ScopeKind}
use Rattle.da_lang.specs.declared.refusal.ScopeKind.TheVariants.{NoRun, Twice}
use Rattle.da_lang.specs.declared.tree.Member.{Member}
use Rattle.da_lang.specs.declared.tree.Member.TheVariants as member
use Rattle.da_lang.specs.ClassParts.{Declared, Place, Body, Variable, is_run, variable_in}
use Rattle.da_lang.specs.Scopes.{at_lines}
use Rattle.da_bodies.specs.declared.bodies.Body as code
use Rattle.da_bodies.specs.BodyView.{body_view, place_view}
use Rattle.da_names.specs.ClassRules.{bodies_in, has_some, lines_after, no_run_line, those, variable_name}
use Rattle.da_bodies.specs.Telling.{Refusal, telling}
use Rattle.da_bodies.proofs.AgainLaws.{if_any, at_lines-append, tells_by}
use Rattle.da_bodies.proofs.TellingLaws.{telling-append, telling-nil}

one_more : {A : Type 0} (xs : List A) (i : ℕ) (x : A) → i < length xs → x ≡ get_or xs i x → take (i + 1) xs ≡ take i xs ++ x ∷ []
one_more xs i x within is = take_more xs i x within ∙ ap (λ y. take i xs ++ y ∷ []) (sym is)

-- a loop that keeps what some elements hold
pub kept_some : {A B C : Type 0} (view : C → B) (f : A → Option B) (before now : List C) (xs : List A) (i : ℕ) (x : A) (y : C) → i < length xs → x ≡ get_or xs i x → map view before ≡ filter_map f (take i xs) → Some (view y) ≡ f x → now ≡ before ++ y ∷ [] → map view now ≡ filter_map f (take (i + 1) xs)
kept_some view f before now xs i x y within is so_far found step =
    ap (map view) step ∙ map-append view before (y ∷ []) ∙ ap (λ ys. ys ++ view y ∷ []) so_far
    ∙ ap (λ o. filter_map f (take i xs) ++ cons_option o []) found
    ∙ sym (ap (filter_map f) (one_more xs i x within is) ∙ filter_map-append f (take i xs) (x ∷ []))

pub kept_none : {A B C : Type 0} (view : C → B) (f : A → Option B) (before now : List C) (xs : List A) (i : ℕ) (x : A) → i < length xs → x ≡ get_or xs i x → map view before ≡ filter_map f (take i xs) → None ≡ f x → now ≡ before → map view now ≡ filter_map f (take (i + 1) xs)
kept_none view f before now xs i x within is so_far found step =
    ap (map view) step ∙ so_far ∙ sym (append-nil (filter_map f (take i xs)))
    ∙ ap (λ o. filter_map f (take i xs) ++ cons_option o []) found
    ∙ sym (ap (filter_map f) (one_more xs i x within is) ∙ filter_map-append f (take i xs) (x ∷ []))

pub filter_map-map : {A B C : Type 0} (f : B → Option C) (g : A → B) (xs : List A) → filter_map (λ x. f (g x)) xs ≡ filter_map f (map g xs)
filter_map-map f g [] = refl
filter_map-map f g (x ∷ xs) = ap (cons_option (f (g x))) (filter_map-map f g xs)

-- a loop that keeps something of each element
pub mapped_more : {A B C : Type 0} (view : C → B) (f : A → B) (before now : List C) (xs : List A) (i : ℕ) (x : A) (y : C) → i < length xs → x ≡ get_or xs i x → map view before ≡ map f (take i xs) → view y ≡ f x → now ≡ before ++ y ∷ [] → map view now ≡ map f (take (i + 1) xs)
mapped_more view f before now xs i x y within is so_far same step =
    ap (map view) step ∙ map-append view before (y ∷ []) ∙ ap (λ ys. ys ++ view y ∷ []) so_far ∙ ap (λ z. map f (take i xs) ++ z ∷ []) same
    ∙ sym (ap (map f) (one_more xs i x within is) ∙ map-append f (take i xs) (x ∷ []))

-- the variables of a class
variable_by : (m : Member) (rest : List Declared) (others : List Variable) → rest ≡ map (λ (v : Variable). (v.name, v.line)) others → cons_option (variable_name m) rest ≡ map (λ (v : Variable). (v.name, v.line)) (cons_option (variable_in m) others)
variable_by (member.Var name ty line) rest others same = ap (λ ds. (name, line) ∷ ds) same
variable_by (member.Setup params stmts line) rest others same = same
variable_by (member.Run stmts line) rest others same = same
variable_by (member.Method name params stmts line) rest others same = same
variable_by (member.Receive message from labels stmts line) rest others same = same

pub variables_named : (ms : List Member) → filter_map variable_name ms ≡ map (λ (v : Variable). (v.name, v.line)) (filter_map variable_in ms)
variables_named [] = refl
variables_named (m ∷ ms) = variable_by m (filter_map variable_name ms) (filter_map variable_in ms) (variables_named ms)

pub names_at : (vs : List Variable) → map (λ (d : Declared). d.0) (map (λ (v : Variable). (v.name, v.line)) vs) ≡ map (λ (v : Variable). v.name) vs
names_at [] = refl
names_at (v ∷ vs) = ap (λ ns. v.name ∷ ns) (names_at vs)

-- a loop that tells of each element
pub told_more : {A : Type 0} (p : A → List Refusal) (first found last : Option Refusal) (xs : List A) (i : ℕ) (x : A) → i < length xs → x ≡ get_or xs i x → found ≡ telling first (flat_map p (take i xs)) → last ≡ telling found (p x) → last ≡ telling first (flat_map p (take (i + 1) xs))
told_more p first found last xs i x within is told step =
    step ∙ ap (λ f. telling f (p x)) told ∙ sym (telling-append first (flat_map p (take i xs)) (p x))
    ∙ ap (λ rs. telling first (flat_map p (take i xs) ++ rs)) (sym (append-nil (p x)))
    ∙ ap (telling first) (sym (ap (flat_map p) (one_more xs i x within is) ∙ flat_map-append p (take i xs) (x ∷ [])))

-- a loop that tells of those after the first
zero_by : (n : ℕ) (b : Bool) → (suc n == 0) ≡ b → (suc n == 0) ≡ false
zero_by n true e = absurd (omega (arith, eqb-true (suc n) 0 e))
zero_by n false e = e

not_zero : (n : ℕ) → (suc n == 0) ≡ false
not_zero n = zero_by n (suc n == 0) refl

after_by : (b : Body) (bs : List Body) → map (λ (x : Body). x.line) (drop 1 (bs ++ b ∷ [])) ≡ map (λ (x : Body). x.line) (drop 1 bs) ++ if_any (not (length bs == 0)) b.line
after_by b [] = refl
after_by b (x ∷ xs) = map-append (λ (y : Body). y.line) xs (b ∷ []) ∙ ap (λ c. map (λ (y : Body). y.line) xs ++ if_any (not c) b.line) (sym (not_zero (length xs)))

last_of : (test : Place → Bool) (bs : List Body) (b : Body) (t : Bool) → t ≡ test b.place → those test (bs ++ b ∷ []) ≡ those test bs ++ (if t then b ∷ [] else [])
last_of test bs b t is = filter-append (λ x. test x.place) bs (b ∷ []) ∙ ap (λ u. those test bs ++ (if u then b ∷ [] else [])) (sym is)

after_last : (test : Place → Bool) (bs : List Body) (b : Body) (t : Bool) → t ≡ test b.place → lines_after test (bs ++ b ∷ []) ≡ lines_after test bs ++ if_any (t && has_some test bs) b.line
after_last test bs b true is = ap (λ xs. map (λ (x : Body). x.line) (drop 1 xs)) (last_of test bs b true is) ∙ after_by b (those test bs)
after_last test bs b false is =
    ap (λ xs. map (λ (x : Body). x.line) (drop 1 xs)) (last_of test bs b false is ∙ append-nil (those test bs)) ∙ sym (append-nil (lines_after test bs))

some_by : (b : Body) (bs : List Body) → not (length (bs ++ b ∷ []) == 0) ≡ true
some_by b [] = refl
some_by b (x ∷ xs) = ap not (not_zero (length (xs ++ b ∷ [])))

some_last : (test : Place → Bool) (bs : List Body) (b : Body) (t : Bool) → t ≡ test b.place → has_some test (bs ++ b ∷ []) ≡ (t || has_some test bs)
some_last test bs b true is = ap (λ (xs : List Body). not (length xs == 0)) (last_of test bs b true is) ∙ some_by b (those test bs)
some_last test bs b false is = ap (λ (xs : List Body). not (length xs == 0)) (last_of test bs b false is ∙ append-nil (those test bs))

more_bodies : (bs : List code.Body) (i : ℕ) (x : code.Body) → i < length bs → x ≡ get_or bs i x → bodies_in (take (i + 1) bs) ≡ bodies_in (take i bs) ++ body_view x ∷ []
unfolding bodies_in
more_bodies bs i x within is = ap (map body_view) (one_more bs i x within is) ∙ map-append body_view (take i bs) (x ∷ [])

pub behind_more : (test : Place → Bool) (first found last : Option Refusal) (bs : List code.Body) (i : ℕ) (x : code.Body) (t s : Bool) → i < length bs → x ≡ get_or bs i x
    → found ≡ telling first (at_lines Twice (lines_after test (bodies_in (take i bs))))
    → s ≡ has_some test (bodies_in (take i bs))
    → t ≡ test (place_view x.place)
    → last ≡ (if t && s then telling found (record { kind = Twice; line = x.line } ∷ []) else found)
    → last ≡ telling first (at_lines Twice (lines_after test (bodies_in (take (i + 1) bs))))
behind_more test first found last bs i x t s within is told some tests step =
    let before = bodies_in (take i bs) in
    let b = body_view x in
    tells_by Twice found last x.line (t && s) step
    ∙ ap (λ f. telling f (at_lines Twice (if_any (t && s) x.line))) told
    ∙ sym (telling-append first (at_lines Twice (lines_after test before)) (at_lines Twice (if_any (t && s) x.line)))
    ∙ ap (telling first) (sym (at_lines-append Twice (lines_after test before) (if_any (t && s) x.line)))
    ∙ ap (λ u. telling first (at_lines Twice (lines_after test before ++ if_any (t && u) x.line))) some
    ∙ ap (λ ls. telling first (at_lines Twice ls)) (sym (after_last test before b t tests) ∙ ap (lines_after test) (sym (more_bodies bs i x within is)))

pub some_more : (test : Place → Bool) (bs : List code.Body) (i : ℕ) (x : code.Body) (t s now : Bool) → i < length bs → x ≡ get_or bs i x → s ≡ has_some test (bodies_in (take i bs)) → t ≡ test (place_view x.place) → now ≡ (t || s) → now ≡ has_some test (bodies_in (take (i + 1) bs))
some_more test bs i x t s now within is some tests step =
    step ∙ ap (λ u. t || u) some ∙ sym (some_last test (bodies_in (take i bs)) (body_view x) t tests) ∙ ap (has_some test) (sym (more_bodies bs i x within is))

-- a rule that says nothing here
pub told_nothing : (kind : ScopeKind) (found : Option Refusal) (t : Bool) (lines : List ℕ) → t ≡ false → found ≡ telling found (at_lines kind (if t then lines else []))
told_nothing kind found t lines is = sym (ap (λ u. telling found (at_lines kind (if u then lines else []))) is ∙ telling-nil found)

-- rules one after the other
pub three_steps : (f g h : Option Refusal) (a b c : List Refusal) → g ≡ telling f a → h ≡ telling g b → telling h c ≡ telling f (a ++ b ++ c)
three_steps f g h a b c first second = ap (λ x. telling x c) (second ∙ ap (λ x. telling x b) first ∙ sym (telling-append f a b)) ∙ sym (telling-append f (a ++ b) c)

pub four_steps : (f g h i : Option Refusal) (a b c d : List Refusal) → g ≡ telling f a → h ≡ telling g b → i ≡ telling h c → telling i d ≡ telling f (a ++ b ++ c ++ d)
four_steps f g h i a b c d first second third = ap (λ x. telling x d) (third ∙ three_steps f g h a b c first second) ∙ sym (telling-append f (a ++ b ++ c) d)

pub five_steps : (f g h i j : Option Refusal) (a b c d e : List Refusal) → g ≡ telling f a → h ≡ telling g b → i ≡ telling h c → j ≡ telling i d → telling j e ≡ telling f (a ++ b ++ c ++ d ++ e)
five_steps f g h i j a b c d e first second third fourth =
    ap (λ x. telling x e) (fourth ∙ four_steps f g h i a b c d first second third) ∙ sym (telling-append f (a ++ b ++ c ++ d) e)

-- a class with no `run`
none_by : (b z : Bool) (line : ℕ) → z ≡ not b → if_any (not z) line ≡ (if b then line ∷ [] else [])
none_by true z line is = ap (λ y. if_any (not y) line) is
none_by false z line is = ap (λ y. if_any (not y) line) is

pub no_run_told : (line : ℕ) (bs : List Body) (found last : Option Refusal) (z : Bool) → z ≡ has_some is_run bs → last ≡ (if not z then telling found (record { kind = NoRun; line = line } ∷ []) else found) → last ≡ telling found (at_lines NoRun (no_run_line line bs))
no_run_told line bs found last z is step =
    tells_by NoRun found last line (not z) step ∙ ap (λ ls. telling found (at_lines NoRun ls)) (none_by (length (those is_run bs) == 0) z line is)

pub after_none : (test : Place → Bool) (found : Option Refusal) → found ≡ telling found (at_lines Twice (lines_after test (bodies_in [])))
unfolding bodies_in
after_none test found = sym (telling-nil found)

pub some_none : (test : Place → Bool) → false ≡ has_some test (bodies_in [])
unfolding bodies_in
some_none test = refl

-- what is reported by two tests
pub when_both : {A : Type 0} (t s : Bool) (x y last : A) → t ≡ true → s ≡ true → last ≡ x → last ≡ (if t && s then x else y)
when_both t s x y last p q is = is ∙ sym (ap (λ u. if u && s then x else y) p ∙ ap (λ u. if u then x else y) q)

pub when_first : {A : Type 0} (t s : Bool) (x y last : A) → t ≡ true → s ≡ false → last ≡ y → last ≡ (if t && s then x else y)
when_first t s x y last p q is = is ∙ sym (ap (λ u. if u && s then x else y) p ∙ ap (λ u. if u then x else y) q)

pub when_not : {A : Type 0} (t s : Bool) (x y last : A) → t ≡ false → last ≡ y → last ≡ (if t && s then x else y)
when_not t s x y last p is = is ∙ sym (ap (λ u. if u && s then x else y) p)
