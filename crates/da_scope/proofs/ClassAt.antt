-- A class, by its parts.
use Rattle.std.proofs.Common.{◌≡◌, ◌∙◌, ap, sym, refl, ℕ, ◌+◌, ◌<◌, List, [], ◌∷◌, ◌++◌, length, get_or, take, append_assoc, filter, filter_map, Bool, Option}
use Rattle.std.proofs.lemmas.List.Elements.{filter-append, filter_map-append}
use Rattle.da_lang.specs.declared.program.Class.{Class}
use Rattle.da_lang.specs.declared.program.Handler.{Handler}
use Rattle.da_lang.specs.declared.program.Item.{Item}
use Rattle.da_lang.specs.declared.query.Query.{Query}
use Rattle.da_lang.specs.declared.tree.ClassTree.{ClassTree}
use Rattle.da_lang.specs.declared.tree.Member.{Member}
use Rattle.da_lang.specs.declared.ty.Ty.{Ty}
use Rattle.da_lang.specs.ClassParts.{Body, body_in, is_handler}
use Rattle.da_lang.specs.ExprMeaning.{Tables}
use Rattle.da_lang.specs.Resolution.{handler, handlers, resolved_class, run_items, setup_items}
use Rattle.da_scope.specs.ClassView.{handlers_in, setup_params}
use Rattle.da_lang.proofs.Taken.{taken}

filter_more : (p : Body → Bool) (xs ys : List Member) → filter p (filter_map body_in (xs ++ ys)) ≡ filter p (filter_map body_in xs) ++ filter p (filter_map body_in ys)
filter_more p xs ys = ap (filter p) (filter_map-append body_in xs ys) ∙ filter-append p (filter_map body_in xs) (filter_map body_in ys)

-- a member more: the handlers
handlers_more : (members : List Member) (i : ℕ) (m : Member) → i < length members → m ≡ get_or members i m → handlers_in (take (i + 1) members) ≡ handlers_in (take i members) ++ handlers_in (m ∷ [])
handlers_more members i m inside here = ap handlers_in (taken members i m inside here) ∙ filter_more (λ (b : Body). is_handler b.place) (take i members) (m ∷ [])

handlers_append : (c : ClassTree) (xs ys : List Body) (tables : Tables) → (handlers c (xs ++ ys) tables).0 ≡ (handlers c xs tables).0 ++ (handlers c ys (handlers c xs tables).1).0
handlers_append c [] ys tables = refl
handlers_append c (x ∷ xs) ys tables = let first = handler c x tables in ap (λ others. first.0 ∷ others) (handlers_append c xs ys first.1)

handler_tables_append : (c : ClassTree) (xs ys : List Body) (tables : Tables) → (handlers c (xs ++ ys) tables).1 ≡ (handlers c ys (handlers c xs tables).1).1
handler_tables_append c [] ys tables = refl
handler_tables_append c (x ∷ xs) ys tables = let first = handler c x tables in handler_tables_append c xs ys first.1

pub handlers_step : (c : ClassTree) (members : List Member) (i : ℕ) (m : Member) (before middle : Tables) (others found grown : List Handler) → i < length members → m ≡ get_or members i m
    → found ≡ others ++ (handlers c (handlers_in (take i members)) before).0 → middle ≡ (handlers c (handlers_in (take i members)) before).1
    → grown ≡ found ++ (handlers c (handlers_in (m ∷ [])) middle).0 → grown ≡ others ++ (handlers c (handlers_in (take (i + 1) members)) before).0
handlers_step c members i m before middle others found grown inside here so_far tables one =
    let front = handlers_in (take i members) in
    let more = handlers_in (m ∷ []) in
    one ∙ ap (λ hs. hs ++ (handlers c more middle).0) so_far ∙ ap (λ t. (others ++ (handlers c front before).0) ++ (handlers c more t).0) tables
    ∙ append_assoc others (handlers c front before).0 (handlers c more (handlers c front before).1).0
    ∙ sym (ap (λ bs. others ++ (handlers c bs before).0) (handlers_more members i m inside here) ∙ ap (λ hs. others ++ hs) (handlers_append c front more before))

pub handler_tables_step : (c : ClassTree) (members : List Member) (i : ℕ) (m : Member) (before middle after : Tables) → i < length members → m ≡ get_or members i m
    → middle ≡ (handlers c (handlers_in (take i members)) before).1 → after ≡ (handlers c (handlers_in (m ∷ [])) middle).1
    → after ≡ (handlers c (handlers_in (take (i + 1) members)) before).1
handler_tables_step c members i m before middle after inside here tables one =
    let front = handlers_in (take i members) in
    let more = handlers_in (m ∷ []) in
    one ∙ ap (λ t. (handlers c more t).1) tables ∙ sym (ap (λ bs. (handlers c bs before).1) (handlers_more members i m inside here) ∙ handler_tables_append c front more before)

-- a class by its parts, for any ways to make them
assembled : (Params : ClassTree → List ℕ) (Setup : ClassTree → List Item × Tables) (Run : ClassTree → Tables → List Item × Tables) (Handled : ClassTree → Tables → List Handler × Tables)
    (c h : ClassTree) (name : List ℕ) (t2 t3 t4 : Tables) (types : List (Option Ty)) (queries : List Query) (params : List ℕ) (setup run : List Item) (found : List Handler)
    → h ≡ c → name ≡ c.name → params ≡ Params h → setup ≡ (Setup h).0 → t2 ≡ (Setup h).1 → run ≡ (Run h t2).0 → t3 ≡ (Run h t2).1 → found ≡ (Handled h t3).0 → t4 ≡ (Handled h t3).1
    → types ≡ t4.slots → queries ≡ t4.queries
    → ◌≡◌ {A = Class} (record { name = name; slots = types; params = params; setup = setup; run = run; handlers = found; queries = queries; line = c.line })
    (let s = Setup c in let r = Run c s.1 in let d = Handled c r.1 in
    record { name = c.name; slots = d.1.slots; params = Params c; setup = s.0; run = r.0; handlers = d.0; queries = d.1.queries; line = c.line })
assembled Params Setup Run Handled c h name t2 t3 t4 types queries params setup run found a b d e f g i j k l m = cc

-- a class, by the parts that code makes
abbrev made_of : ClassTree → Class
made_of c =
    let s = setup_items c in
    let r = run_items c s.1 in
    let d = handlers c (handlers_in c.members) r.1 in
    record { name = c.name; slots = d.1.slots; params = setup_params c; setup = s.0; run = r.0; handlers = d.0; queries = d.1.queries; line = c.line }

class_is : (c : ClassTree) → made_of c ≡ resolved_class c
unfolding resolved_class
class_is c = refl

pub class_built : (c h : ClassTree) (name : List ℕ) (t2 t3 t4 : Tables) (types : List (Option Ty)) (queries : List Query) (params : List ℕ) (setup run : List Item) (none found : List Handler)
    → h ≡ c → name ≡ c.name → params ≡ setup_params h → setup ≡ (setup_items h).0 → t2 ≡ (setup_items h).1 → run ≡ (run_items h t2).0 → t3 ≡ (run_items h t2).1
    → none ≡ [] → found ≡ none ++ (handlers h (handlers_in h.members) t3).0 → t4 ≡ (handlers h (handlers_in h.members) t3).1 → types ≡ t4.slots → queries ≡ t4.queries
    → ◌≡◌ {A = Class} (record { name = name; slots = types; params = params; setup = setup; run = run; handlers = found; queries = queries; line = c.line }) (resolved_class c)
class_built c h name t2 t3 t4 types queries params setup run none found same a b d e f g nothing i j k l =
    assembled setup_params setup_items run_items (λ (x : ClassTree). handlers x (handlers_in x.members)) c h name t2 t3 t4 types queries params setup run found same a b d e f g
    (i ∙ ap (λ (hs : List Handler). hs ++ (handlers h (handlers_in h.members) t3).0) nothing) j k l
    ∙ class_is c
