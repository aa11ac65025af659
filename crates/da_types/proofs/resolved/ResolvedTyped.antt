-- A resolved program in which no rule of types is broken is typed once its slots are filled in.
use Rattle.std.specs.Prelude.{◌≡◌, refl, ℕ, suc, true, List, [], ◌∷◌, map, length, Option, Some, None, is_some, flat_map, slice_get}
use Rattle.std.specs.List.{list_all}
use Rattle.std.proofs.Common.{◌∙◌, ap, sym, subst, arith}
use Rattle.std.proofs.lemmas.Bool.{and_from}
use Rattle.da_lang.specs.declared.program.Class.{Class}
use Rattle.da_lang.specs.declared.program.Program.{Program}
use Rattle.da_lang.specs.declared.tree.ClassTree.{ClassTree}
use Rattle.da_lang.specs.declared.tree.MessageDecl.{MessageDecl}
use Rattle.da_lang.specs.declared.tree.Tree.{Tree}
use Rattle.da_lang.specs.declared.ty.Ty.{Ty}
use Rattle.da_lang.specs.Limits.{Resolves}
use Rattle.da_lang.specs.NameRules.{class_refusals, name_refusals}
use Rattle.da_lang.specs.QueryTypes.{given, query_type}
use Rattle.da_lang.specs.Resolution.{resolved, resolved_class}
use Rattle.da_lang.specs.Typing.{Slots, known, class_breaks, breaks_in, filled, filled_class, filled_slots, has_types, has_queries, IsTyped, Typed}
use Rattle.da_lang.specs.World.{at_number}
use Rattle.da_lang.proofs.typing.FlowLaws.{filled_knows, filled_size, typed_keeps}
use Rattle.da_types.proofs.resolved.CallsAllowed.{class_allowed}
use Rattle.da_types.proofs.resolved.ClassesFill.{CallsOk, class_holds}
use Rattle.da_types.proofs.resolved.CoveredTables.{Done, Each, each_there}
use Rattle.da_types.proofs.totality.Awaits.{no_left, no_right}

-- a type that was known stays, and a slot without one has one in the end
all_known : (look : ℕ → Option Ty) (ends begins : Slots) → length ends ≡ length begins → ((n : ℕ) → look n ≡ given (slice_get ends n) (λ ty. ty)) → ((n : ℕ) (ty : Ty) → given (slice_get begins n) (λ ty. ty) ≡ Some ty → look n ≡ Some ty)
    → Each (λ n declared. declared ≡ None → is_some (look n) ≡ true) begins → list_all is_some ends ≡ true
all_known look [] begins same is keeps each = refl
all_known look (y ∷ ends) [] same is keeps each = absurd (omega (arith, same))
all_known look (y ∷ ends) (x ∷ begins) same is keeps each =
    and_from (is_some y) (list_all is_some ends) (ap is_some (sym (is 0)) ∙ first x (keeps 0) each.0)
    (all_known (λ n. look (suc n)) ends begins (omega (arith, same)) (λ n. is (suc n)) (λ n. keeps (suc n)) each.1)
  where
    first : (declared : Option Ty) → ((ty : Ty) → declared ≡ Some ty → look 0 ≡ Some ty) → (declared ≡ None → is_some (look 0) ≡ true) → is_some (look 0) ≡ true
    first None kept has = has refl
    first (Some ty) kept has = ap is_some (kept ty refl)

module _ (messages : List MessageDecl) (c : ClassTree) where
  abbrev made : Class
  made = resolved_class c

  class_done : CallsOk c → class_breaks messages (filled_class messages made) ≡ [] → Done messages made.queries (filled_slots messages made) (record { slots = made.slots; queries = made.queries })
  class_done ok e = class_holds messages made.queries (filled_slots messages made) c ok e

  class_complete : CallsOk c → class_breaks messages (filled_class messages made) ≡ [] → has_types (filled_class messages made) ≡ true
  class_complete ok e =
      let ends = filled_slots messages made in
      all_known (λ n. given (slice_get ends n) (λ ty. ty)) ends made.slots (filled_size messages made) (λ n. refl) (λ n ty is. filled_knows messages made (suc n) ty is) (class_done ok e).of_slots

  class_asked : CallsOk c → class_breaks messages (filled_class messages made) ≡ [] → has_queries messages (filled_class messages made) ≡ true
  class_asked ok e =
      each_there (λ q. is_some (query_type (known messages made.queries (filled_slots messages made)) q)) (λ n. at_number made.queries (suc n)) made.queries (λ n. refl) (class_done ok e).of_queries

classes_typed : (messages : List MessageDecl) (cs : List ClassTree) → flat_map class_refusals cs ≡ [] → flat_map (class_breaks messages) (map (filled_class messages) (map resolved_class cs)) ≡ []
    → (list_all has_types (map (filled_class messages) (map resolved_class cs)) ≡ true) × (list_all (has_queries messages) (map (filled_class messages) (map resolved_class cs)) ≡ true)
classes_typed messages [] named e = (refl, refl)
classes_typed messages (c ∷ cs) named e =
    let rest = flat_map (class_breaks messages) (map (filled_class messages) (map resolved_class cs)) in
    let ok = class_allowed c (no_left (class_refusals c) (flat_map class_refusals cs) named) in
    let first = no_left (class_breaks messages (filled_class messages (resolved_class c))) rest e in
    let others = classes_typed messages cs (no_right (class_refusals c) (flat_map class_refusals cs) named) (no_right (class_breaks messages (filled_class messages (resolved_class c))) rest e) in
    (and_from _ _ (class_complete messages c ok first) others.0, and_from _ _ (class_asked messages c ok first) others.1)

classes_named : (t : Tree) → name_refusals t ≡ [] → flat_map class_refusals t.classes ≡ []
unfolding name_refusals
classes_named t e = no_left _ _ (no_left _ _ e)

parts_typed : (t : Tree) → flat_map class_refusals t.classes ≡ [] → breaks_in (filled (resolved t)) ≡ []
    → (list_all has_types (filled (resolved t)).classes ≡ true) × (list_all (has_queries (filled (resolved t)).messages) (filled (resolved t)).classes ≡ true)
unfolding breaks_in filled resolved
parts_typed t named e = classes_typed t.messages t.classes named (no_left _ _ e)

filled_typed : (t : Tree) → name_refusals t ≡ [] → breaks_in (filled (resolved t)) ≡ [] → IsTyped (filled (resolved t))
filled_typed t named keeps =
    let parts = parts_typed t (classes_named t named) keeps in
    record { keeps = keeps; complete = parts.0; asked = parts.1 }

pub resolved_is_typed : (t : Tree) (p q : Program) → Resolves t p → Typed p q → IsTyped q
resolved_is_typed t p q r typed =
    let is : q ≡ filled (resolved t) = typed.becomes ∙ ap filled r.becomes in
    subst IsTyped (sym is) (filled_typed t r.named (subst (λ z. breaks_in z ≡ []) is (typed_keeps p q typed)))
