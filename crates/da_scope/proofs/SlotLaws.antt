-- One new slot after others.
use Rattle.std.proofs.Common.{◌≡◌, ◌∙◌, ap, sym, refl, ℕ, suc, ◌+◌, ◌<◌, List, [], ◌∷◌, ◌++◌, map, length, get_or, take, append_assoc, append-nil, filter_map, Option, Some, None, arith}
use Rattle.std.specs.List.{range_with_len}
use Rattle.std.proofs.lemmas.List.{map-append, length-append, length-map, length-take}
use Rattle.std.proofs.lemmas.List.Elements.{filter_map-append}
use denote.Bor.{Bor}
use Rattle.da_lang.specs.declared.query.Query.{Query}
use Rattle.da_lang.specs.declared.tree.Member.{Member}
use Rattle.da_lang.specs.declared.ty.Ty.{Ty}
use Rattle.da_lang.specs.BodyMeaning.{fresh, named_slots, next, untyped, with_slots}
use Rattle.da_lang.specs.ClassParts.{Variable, variable_in}
use Rattle.da_lang.specs.ExprMeaning.{Meaning, InSlot, Tables, numbered}
use Rattle.da_lang.specs.Scopes.{Scope}
use Rattle.da_scope.specs.NamesView.{texts}
use Rattle.da_meaning.proofs.NumbersOn.{numbers_more}
use Rattle.da_meaning.proofs.SlotScopeLaws.{numbered-append}
use Rattle.da_lang.proofs.Taken.{taken}

-- the slots of one table
with_types : (old types more : List (Option Ty)) (queries : List Query) → old ++ types ≡ more → ◌≡◌ {A = Tables} (record { slots = old ++ types; queries = queries }) (record { slots = more; queries = queries })
with_types old types more queries same = ap (λ (slots : List (Option Ty)). let t : Tables = record { slots = slots; queries = queries } in t) same

pub with_slots-append : (xs ys : List (Option Ty)) (t : Tables) → with_slots (xs ++ ys) t ≡ with_slots ys (with_slots xs t)
with_slots-append xs ys t = with_types t.slots (xs ++ ys) ((t.slots ++ xs) ++ ys) t.queries (sym (append_assoc t.slots xs ys))

next-with_slots : (types : List (Option Ty)) (t : Tables) → next (with_slots types t) ≡ next t + length types
next-with_slots types t = omega (arith, length-append t.slots types)

pub named_slots-append : (xs ys : List (List ℕ)) (types : List (Option Ty)) (t : Tables) (s : Scope Meaning) → length types ≡ length xs
    → named_slots (xs ++ ys) t s ≡ named_slots ys (with_slots types t) (named_slots xs t s)
named_slots-append xs ys types t s same =
    let there : next t + length xs ≡ next (with_slots types t) = omega (arith, same, next-with_slots types t) in
    numbered-append InSlot (next t) xs ys s ∙ ap (λ n. numbered InSlot n ys (named_slots xs t s)) there

-- a slot more for the elements of a list, each with a name and a type
module _ {X : Type 0} (name : X → List ℕ) (type : X → Option Ty) where
  as_many : (xs : List X) → length (map type xs) ≡ length (map name xs)
  as_many xs = length-map xs type ∙ sym (length-map xs name)

  pub scope_step : (xs : List X) (i : ℕ) (x : X) (text : List ℕ) (t0 t1 : Tables) (s0 s1 s2 : Scope Meaning)
      → i < length xs → x ≡ get_or xs i x → s1 ≡ named_slots (map name (take i xs)) t0 s0 → t1 ≡ with_slots (map type (take i xs)) t0
      → text ≡ name x → s2 ≡ (text, InSlot (next t1)) ∷ s1 → s2 ≡ named_slots (map name (take (i + 1) xs)) t0 s0
  scope_step xs i x text t0 t1 s0 s1 s2 inside here scope tables named grown =
      let front = take i xs in
      let names : map name (take (i + 1) xs) ≡ map name front ++ name x ∷ [] = ap (map name) (taken xs i x inside here) ∙ map-append name front (x ∷ []) in
      grown ∙ ap (λ n. (n, InSlot (next t1)) ∷ s1) named ∙ ap (λ s. (name x, InSlot (next t1)) ∷ s) scope ∙ ap (λ t. named_slots (name x ∷ []) t (named_slots (map name front) t0 s0)) tables
      ∙ sym (ap (λ ns. named_slots ns t0 s0) names ∙ named_slots-append (map name front) (name x ∷ []) (map type front) t0 s0 (as_many front))

  pub tables_step : (xs : List X) (i : ℕ) (x : X) (ty : Option Ty) (t0 t1 t2 : Tables)
      → i < length xs → x ≡ get_or xs i x → t1 ≡ with_slots (map type (take i xs)) t0 → ty ≡ type x → t2 ≡ with_slots (ty ∷ []) t1 → t2 ≡ with_slots (map type (take (i + 1) xs)) t0
  tables_step xs i x ty t0 t1 t2 inside here tables typed grown =
      let front = take i xs in
      let types : map type (take (i + 1) xs) ≡ map type front ++ type x ∷ [] = ap (map type) (taken xs i x inside here) ∙ map-append type front (x ∷ []) in
      grown ∙ ap (λ u. with_slots (u ∷ []) t1) typed ∙ ap (with_slots (type x ∷ [])) tables ∙ sym (ap (λ us. with_slots us t0) types ∙ with_slots-append (map type front) (type x ∷ []) t0)

  pub fresh_step : (xs : List X) (i : ℕ) (t0 t1 : Tables) (found more : List ℕ) (slot : ℕ)
      → i < length xs → t1 ≡ with_slots (map type (take i xs)) t0 → found ≡ fresh t0 i → slot ≡ next t1 → more ≡ found ++ slot ∷ [] → more ≡ fresh t0 (i + 1)
  fresh_step xs i t0 t1 found more slot inside tables so_far here grown =
      let front = take i xs in
      let many : length (map type front) ≡ i = length-map front type ∙ omega (arith, length-take i xs, inside) in
      let there : slot ≡ next t0 + i = here ∙ ap next tables ∙ next-with_slots (map type front) t0 ∙ ap (λ n. next t0 + n) many in
      grown ∙ ap (λ ns. ns ++ slot ∷ []) so_far ∙ ap (λ n. fresh t0 i ++ n ∷ []) there ∙ sym (numbers_more (next t0) i)

-- names without types
abbrev no_type : Option Ty
no_type = None

no_types : (names : List (Bor (List ℕ))) → map (λ (n : List ℕ). no_type) (texts names) ≡ map (λ (n : Bor (List ℕ)). no_type) names
no_types [] = refl
no_types (n ∷ names) = ap (λ us. None ∷ us) (no_types names)

pub untyped-texts : (names : List (Bor (List ℕ))) (t : Tables) → untyped (texts names) t ≡ with_slots (map (λ (n : Bor (List ℕ)). no_type) names) t
untyped-texts names t = ap (λ us. with_slots us t) (no_types names)

-- no new slots
pub with_slots-nil : (t : Tables) → with_slots [] t ≡ t
with_slots-nil t = with_types t.slots [] t.slots t.queries (append-nil t.slots)

pub ruleset variable_rules = (with_slots-nil)

-- a member more
abbrev variables_in : List Member → List Variable
variables_in members = filter_map variable_in members

abbrev names : List Variable → List (List ℕ)
names vs = map (λ (v : Variable). v.name) vs

abbrev types : List Variable → List (Option Ty)
types vs = map (λ (v : Variable). Some v.ty) vs

variables_more : (members : List Member) (i : ℕ) (m : Member) → i < length members → m ≡ get_or members i m → variables_in (take (i + 1) members) ≡ variables_in (take i members) ++ variables_in (m ∷ [])
variables_more members i m inside here = ap variables_in (taken members i m inside here) ∙ filter_map-append variable_in (take i members) (m ∷ [])

pub members_scope : (members : List Member) (i : ℕ) (m : Member) (t0 t1 : Tables) (s0 s1 s2 : Scope Meaning) → i < length members → m ≡ get_or members i m
    → s1 ≡ named_slots (names (variables_in (take i members))) t0 s0 → t1 ≡ with_slots (types (variables_in (take i members))) t0
    → s2 ≡ named_slots (names (variables_in (m ∷ []))) t1 s1 → s2 ≡ named_slots (names (variables_in (take (i + 1) members))) t0 s0
members_scope members i m t0 t1 s0 s1 s2 inside here scope tables grown =
    let front = variables_in (take i members) in
    let one = names (variables_in (m ∷ [])) in
    grown ∙ ap (λ s. named_slots one t1 s) scope ∙ ap (λ t. named_slots one t (named_slots (names front) t0 s0)) tables
    ∙ sym (ap (λ vs. named_slots (names vs) t0 s0) (variables_more members i m inside here) ∙ ap (λ ns. named_slots ns t0 s0) (map-append (λ (v : Variable). v.name) front (variables_in (m ∷ [])))
    ∙ named_slots-append (names front) one (types front) t0 s0 (as_many (λ (v : Variable). v.name) (λ (v : Variable). Some v.ty) front))

pub members_tables : (members : List Member) (i : ℕ) (m : Member) (t0 t1 t2 : Tables) → i < length members → m ≡ get_or members i m
    → t1 ≡ with_slots (types (variables_in (take i members))) t0 → t2 ≡ with_slots (types (variables_in (m ∷ []))) t1 → t2 ≡ with_slots (types (variables_in (take (i + 1) members))) t0
members_tables members i m t0 t1 t2 inside here tables grown =
    let front = variables_in (take i members) in
    let one = types (variables_in (m ∷ [])) in
    grown ∙ ap (with_slots one) tables
    ∙ sym (ap (λ vs. with_slots (types vs) t0) (variables_more members i m inside here) ∙ ap (λ us. with_slots us t0) (map-append (λ (v : Variable). Some v.ty) front (variables_in (m ∷ []))) ∙ with_slots-append (types front) one t0)
