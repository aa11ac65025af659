-- The printed plans of a program, from what the code puts together.
use Rattle.std.specs.Prelude.{◌≡◌, ℕ, ◌+◌, ◌<◌, ◌≤◌, List, [], ◌∷◌, ◌++◌, length, map, take, get_or, Some, slice_get, refl, false, codes}
use Rattle.std.proofs.Common.{ap, sym, ◌∙◌}
use Rattle.std.proofs.lemmas.List.{map-append, take_all, take_more}
use Rattle.std.proofs.lemmas.Option.{slice_get_read}
use Rattle.serde_json.specs.Data.{Data, array, string, number, unsigned, object, Members, no_members, put}
use Rattle.serde_json.specs.View.{items_of, view}
use Rattle.serde_json.specs.declared.value.Value.{Value}
use Rattle.da_lang.specs.declared.program.Class.{Class}
use Rattle.da_lang.specs.declared.program.Program.{Program}
use Rattle.query_plan.specs.declared.plan.Plan.{Plan}
use Rattle.query_plan.specs.Questions.{norm_class}
use Rattle.da_commands.specs.PlanJson.{named_plan, class_data, plan_data, texts, numbers, plan_text}
use Rattle.serde_json.specs.Written.{compact_text, has_float, items_have_float}
use Rattle.query_plan.specs.PlanLive.{plan_live}
use Rattle.query_plan.specs.PlanText.{live_text, node_texts, query_texts}

-- FIVE MEMBERS, put one after the other in the order of their keys

pub made_named : (name : List ℕ) (plan : Plan) (none one two three four five : Members) (class flags : Data) (live nodes queries : List (List ℕ))
    → none ≡ no_members
    → class ≡ string name → one ≡ put (codes "class") class none
    → flags ≡ numbers plan.flags → two ≡ put (codes "flags") flags one
    → live ≡ map live_text (plan_live plan.nodes) → three ≡ put (codes "live") (texts live) two
    → nodes ≡ node_texts plan.nodes → four ≡ put (codes "nodes") (texts nodes) three
    → queries ≡ query_texts plan.queries → five ≡ put (codes "queries") (texts queries) four
    → object five ≡ named_plan name plan
unfolding named_plan
made_named name plan none one two three four five class flags live nodes queries empty c ec f ef l el n en q eq =
    rw (eq, q, en, n, el, l, ef, f, ec, c, empty) refl

-- THE CLASSES, one after the other

-- the class at a place of a list that is the classes of a program, by its name and the plan that is there
pub class_shown : (program : Program) (classes : List Class) (place : ℕ) (class : Class) (name : List ℕ) (plan : Plan) (shown : Data)
    → classes ≡ program.classes → class ≡ get_or classes place class → place < length classes
    → ((c : Class) → slice_get program.classes place ≡ Some c → plan ≡ norm_class c)
    → name ≡ class.name → shown ≡ named_plan name plan → shown ≡ class_data class
class_shown program classes place class name plan shown all here within planned named is =
    let there = ap (λ cs. slice_get cs place) (sym all) ∙ slice_get_read classes _ place class refl within here in
    is ∙ ap (λ n. named_plan n plan) named ∙ ap (named_plan class.name) (planned class there)

-- one more class
pub classes_more : (classes : List Class) (place : ℕ) (class : Class) (old new : List Value) (value : Value)
    → class ≡ get_or classes place class → place < length classes
    → view value ≡ class_data class → map view old ≡ map class_data (take place classes) → new ≡ old ++ value ∷ []
    → map view new ≡ map class_data (take (place + 1) classes)
classes_more classes place class old new value here within shown so_far grown =
    ap (map view) grown ∙ map-append view old (value ∷ []) ∙ ap (λ ds. ds ++ view value ∷ []) so_far
    ∙ ap (λ d. map class_data (take place classes) ++ d ∷ []) shown
    ∙ sym (map-append class_data (take place classes) (class ∷ []))
    ∙ ap (λ c. map class_data (take place classes ++ c ∷ [])) here
    ∙ sym (ap (map class_data) (take_more classes place class within))

-- after the last class
pub classes_all : (program : Program) (classes : List Class) (place : ℕ) (values : List Value)
    → classes ≡ program.classes → length classes ≤ place → map view values ≡ map class_data (take place classes)
    → array (items_of (map view values)) ≡ plan_data program
classes_all program classes place values all behind so_far =
    ap (λ ds. array (items_of ds)) (so_far ∙ ap (map class_data) (take_all place classes behind ∙ all))

-- THE TEXT: no printed plan has a float, so it is the compact one

none_floats : {A : Type 0} (f : A → Data) (xs : List A) → ((x : A) → has_float (f x) ≡ false) → items_have_float (items_of (map f xs)) ≡ false
none_floats f [] none = refl
none_floats f (x ∷ xs) none = rw (none x) (none_floats f xs none)

texts_float : (lines : List (List ℕ)) → has_float (texts lines) ≡ false
texts_float lines = none_floats string lines (λ line. refl)

numbers_float : (list : List ℕ) → has_float (numbers list) ≡ false
numbers_float list = none_floats (λ n. number (unsigned n)) list (λ n. refl)

plan_floats : (name : List ℕ) (plan : Plan) → has_float (named_plan name plan) ≡ false
unfolding named_plan
plan_floats name plan = simp (texts_float, numbers_float)

pub floatless : (p : Program) → has_float (plan_data p) ≡ false
floatless p = none_floats class_data p.classes (λ class. plan_floats class.name (norm_class class))

-- so it is the text of the plan, where the text of a value without floats is the compact one
pub printed_text : (p : Program) (d : Data) (text : List ℕ) → d ≡ plan_data p → (has_float d ≡ false → text ≡ compact_text d) → text ++ codes "\n" ≡ plan_text p
printed_text p d text is compact = ap (λ line. line ++ codes "\n") (compact (ap has_float is ∙ floatless p) ∙ ap compact_text is)
