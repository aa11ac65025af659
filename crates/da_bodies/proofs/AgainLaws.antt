-- Names that are declared again, as declarations are read on.
use Rattle.std.specs.Prelude.{◌≡◌, refl, ℕ, ◌+◌, ◌<◌, length, take, Bool, true, false, ◌||◌, if◌then◌else◌, List, [], ◌∷◌, ◌++◌, map, Option, Some, is_some, bytes_eq}
use Rattle.std.specs.List.{list_any}
use Rattle.std.proofs.Common.{◌∙◌, ◌⊎◌, inl, inr, sym, ap, get_or}
use Rattle.std.proofs.lemmas.List.{map-append, take_more}
use Rattle.std.proofs.lemmas.Slice.Eq.{bytes_eq-Decides}
use Rattle.da_lang.specs.declared.refusal.ScopeKind.{ScopeKind}
use Rattle.da_lang.specs.ClassParts as parts
use Rattle.da_lang.specs.NameRules.{again_after, again}
use Rattle.da_lang.specs.Scopes.{at_lines}
use Rattle.da_bodies.specs.Telling.{Refusal, telling}
use Rattle.da_bodies.specs.Repeats.{declared_of, declared_in, is_declared}
use Rattle.da_bodies.specs.declared.repeats.Declared as code
use Rattle.da_bodies.proofs.TellingLaws.{telling-nil, telling-append}

abbrev pub names_of : List parts.Declared → List (List ℕ)
names_of ds = map (λ (d : parts.Declared). d.0) ds

abbrev pub if_any : Bool → ℕ → List ℕ
if_any b line = if b then line ∷ [] else []

or_swap : (a b c : Bool) → ((a || b) || c) ≡ (b || (a || c))
or_swap true true c = refl
or_swap true false c = refl
or_swap false true c = refl
or_swap false false c = refl

or_nil : (a : Bool) → (a || false) ≡ a
or_nil true = refl
or_nil false = refl

again-snoc_by : (before : List (List ℕ)) (y : parts.Declared) (ys : List parts.Declared) (x : parts.Declared) (b : Bool) → list_any (bytes_eq y.0) before ≡ b
    → (again_after (y.0 ∷ before) (ys ++ x ∷ []) ≡ again_after (y.0 ∷ before) ys ++ if_any (list_any (bytes_eq x.0) (y.0 ∷ before) || list_any (bytes_eq x.0) (names_of ys)) x.1)
    → again_after before ((y ∷ ys) ++ x ∷ []) ≡ again_after before (y ∷ ys) ++ if_any (list_any (bytes_eq x.0) before || list_any (bytes_eq x.0) (names_of (y ∷ ys))) x.1
again-snoc_by before y ys x true h new =
    rw h (ap (λ l. y.1 ∷ l) (new ∙ ap (λ b. again_after (y.0 ∷ before) ys ++ if_any b x.1) (or_swap (bytes_eq x.0 y.0) (list_any (bytes_eq x.0) before) (list_any (bytes_eq x.0) (names_of ys)))))
again-snoc_by before y ys x false h new =
    rw h (new ∙ ap (λ b. again_after (y.0 ∷ before) ys ++ if_any b x.1) (or_swap (bytes_eq x.0 y.0) (list_any (bytes_eq x.0) before) (list_any (bytes_eq x.0) (names_of ys))))

last_by : (before : List (List ℕ)) (x : parts.Declared) (b : Bool) → list_any (bytes_eq x.0) before ≡ b → again_after before (x ∷ []) ≡ if_any b x.1
last_by before x true h = ap (λ b. if b then x.1 ∷ [] else []) h
last_by before x false h = ap (λ b. if b then x.1 ∷ [] else []) h

again_after-snoc : (before : List (List ℕ)) (xs : List parts.Declared) (x : parts.Declared) → again_after before (xs ++ x ∷ []) ≡ again_after before xs ++ if_any (list_any (bytes_eq x.0) before || list_any (bytes_eq x.0) (names_of xs)) x.1
again_after-snoc before [] x = last_by before x (list_any (bytes_eq x.0) before) refl ∙ ap (λ b. if_any b x.1) (sym (or_nil (list_any (bytes_eq x.0) before)))
again_after-snoc before (y ∷ ys) x = again-snoc_by before y ys x (list_any (bytes_eq y.0) before) refl (again_after-snoc (y.0 ∷ before) ys x)

pub again-snoc : (xs : List parts.Declared) (x : parts.Declared) → again (xs ++ x ∷ []) ≡ again xs ++ if_any (list_any (bytes_eq x.0) (names_of xs)) x.1
again-snoc xs x = again_after-snoc [] xs x

-- one more declaration
pub tells_by : (kind : ScopeKind) (found last : Option Refusal) (line : ℕ) (b : Bool) → last ≡ (if b then telling found (record { kind = kind; line = line } ∷ []) else found) → last ≡ telling found (at_lines kind (if_any b line))
tells_by kind found last line true is = is
tells_by kind found last line false is = is ∙ sym (telling-nil found)

pub at_lines-append : (kind : ScopeKind) (xs ys : List ℕ) → at_lines kind (xs ++ ys) ≡ at_lines kind xs ++ at_lines kind ys
at_lines-append kind xs ys = let at : ℕ → Refusal = λ line. record { kind = kind; line = line } in map-append at xs ys

pub again_more : (kind : ScopeKind) (first found last : Option Refusal) (ds : List code.Declared) (i : ℕ) (d : code.Declared) (seen : Bool) → i < length ds
    → found ≡ telling first (at_lines kind (again (declared_in (take i ds))))
    → seen ≡ list_any (bytes_eq (get_or ds i d).name.now) (names_of (declared_in (take i ds)))
    → last ≡ (if seen then telling found (record { kind = kind; line = (get_or ds i d).line } ∷ []) else found)
    → last ≡ telling first (at_lines kind (again (declared_in (take (i + 1) ds))))
again_more kind first found last ds i d seen within told is step =
    let x = declared_of (get_or ds i d) in
    let before = declared_in (take i ds) in
    let more : declared_in (take (i + 1) ds) ≡ before ++ x ∷ [] = ap declared_in (take_more ds i d within) ∙ map-append declared_of (take i ds) (get_or ds i d ∷ []) in
    tells_by kind found last x.1 seen step
    ∙ ap (λ f. telling f (at_lines kind (if_any seen x.1))) told
    ∙ sym (telling-append first (at_lines kind (again before)) (at_lines kind (if_any seen x.1)))
    ∙ ap (telling first) (sym (at_lines-append kind (again before) (if_any seen x.1)))
    ∙ ap (λ b. telling first (at_lines kind (again before ++ if_any b x.1))) is
    ∙ ap (λ l. telling first (at_lines kind l)) (sym (again-snoc before x) ∙ ap again (sym more))

any-snoc : (q : List ℕ) (xs : List (List ℕ)) (x : List ℕ) → list_any (bytes_eq q) (xs ++ x ∷ []) ≡ (list_any (bytes_eq q) xs || bytes_eq q x)
any-snoc q [] x = or_nil (bytes_eq q x)
any-snoc q (y ∷ ys) x = ap (λ b. bytes_eq q y || b) (any-snoc q ys x) ∙ or_assoc (bytes_eq q y) (list_any (bytes_eq q) ys) (bytes_eq q x)
  where
    or_assoc : (a b c : Bool) → (a || (b || c)) ≡ ((a || b) || c)
    or_assoc true b c = refl
    or_assoc false b c = refl

or_comm : (a b : Bool) → (a || b) ≡ (b || a)
or_comm true true = refl
or_comm true false = refl
or_comm false true = refl
or_comm false false = refl

symmetric_by : (x y : List ℕ) (a b : Bool) → bytes_eq x y ≡ a → bytes_eq y x ≡ b → a ≡ b
symmetric_by x y true true p q = refl
symmetric_by x y false false p q = refl
symmetric_by x y true false p q = sym ((bytes_eq-Decides y x).1 (sym ((bytes_eq-Decides x y).0 p))) ∙ q
symmetric_by x y false true p q = sym p ∙ (bytes_eq-Decides x y).1 (sym ((bytes_eq-Decides y x).0 q))

pub bytes_eq-sym : (x y : List ℕ) → bytes_eq x y ≡ bytes_eq y x
bytes_eq-sym x y = symmetric_by x y (bytes_eq x y) (bytes_eq y x) refl refl

-- a name among those of declarations
pub among_names : (q : List ℕ) (ds : List parts.Declared) → list_any (bytes_eq q) (names_of ds) ≡ is_declared ds q
among_names q [] = refl
among_names q (d ∷ ds) = ap (λ b. b || list_any (bytes_eq q) (names_of ds)) (bytes_eq-sym q d.0) ∙ ap (λ b. bytes_eq d.0 q || b) (among_names q ds)

pub seen_more : (q : List ℕ) (ds : List code.Declared) (i : ℕ) (d : code.Declared) (before now : Bool) → i < length ds
    → before ≡ list_any (bytes_eq q) (names_of (declared_in (take i ds)))
    → now ≡ (bytes_eq (get_or ds i d).name.now q || before)
    → now ≡ list_any (bytes_eq q) (names_of (declared_in (take (i + 1) ds)))
seen_more q ds i d before now within is step =
    let x = get_or ds i d in
    let names = names_of (declared_in (take i ds)) in
    let name : code.Declared → List ℕ = λ e. e.name.now in
    let more : names_of (declared_in (take (i + 1) ds)) ≡ names ++ x.name.now ∷ [] =
    ap (λ es. names_of (declared_in es)) (take_more ds i d within) ∙ ap names_of (map-append declared_of (take i ds) (x ∷ [])) ∙ map-append (λ (e : parts.Declared). e.0) (declared_in (take i ds)) (declared_of x ∷ []) in
    step ∙ ap (λ b. b || before) (bytes_eq-sym x.name.now q) ∙ ap (λ b. bytes_eq q x.name.now || b) is ∙ or_comm (bytes_eq q x.name.now) (list_any (bytes_eq q) names)
    ∙ sym (ap (list_any (bytes_eq q)) more ∙ any-snoc q names x.name.now)

pub some_if : {A : Type 0} (b : Bool) (x : A) (o : Option A) → is_some (if b then Some x else o) ≡ (b || is_some o)
some_if true x o = refl
some_if false x o = refl

-- whether a declaration is reported, by what the code does
pub told_if : (kind : ScopeKind) (line : ℕ) (found last : Option Refusal) (b : Bool) → ((b ≡ true) × (last ≡ telling found (record { kind = kind; line = line } ∷ []))) ⊎ ((b ≡ false) × (last ≡ found)) → last ≡ (if b then telling found (record { kind = kind; line = line } ∷ []) else found)
told_if kind line found last b (inl h) = h.1 ∙ sym (ap (λ c. if c then telling found (record { kind = kind; line = line } ∷ []) else found) h.0)
told_if kind line found last b (inr h) = h.1 ∙ sym (ap (λ c. if c then telling found (record { kind = kind; line = line } ∷ []) else found) h.0)
