-- What is known of the types of slots stays known where the other types are filled in, and nothing changes where all are
-- known.
use Rattle.std.specs.Prelude.{◌≡◌, refl, ℕ, zero, suc, true, List, [], ◌∷◌, ◌++◌, map, length, Option, Some, None, option_map, unwrap_or, is_some}
use Rattle.std.specs.List.{AllByRecursion, list_all}
use Rattle.std.proofs.Common.{◌∙◌, ap, sym, subst}
use Rattle.std.proofs.lemmas.Bool.{false≢true, and_parts}
use Rattle.da_lang.specs.declared.program.Alt.{Alt}
use Rattle.da_lang.specs.declared.program.Class.{Class}
use Rattle.da_lang.specs.declared.program.Handler.{Handler}
use Rattle.da_lang.specs.declared.program.Item.{Item}
use Rattle.da_lang.specs.declared.program.ItemKind.{ItemKind}
use Rattle.da_lang.specs.declared.program.Program.{Program}
use Rattle.da_lang.specs.declared.query.Query.{Query}
use Rattle.da_lang.specs.declared.tree.MessageDecl.{MessageDecl}
use Rattle.da_lang.specs.declared.ty.Ty.{Ty}
use Rattle.da_lang.specs.QueryTypes.{given, type_at}
use Rattle.da_lang.specs.Shaped.{HasType}
use Rattle.da_lang.specs.Typing.{Slots, with_type, with_types, with_row_types, in_turn, found_row, typed, kind_flow, alt_flow, item_types, branch_flow, handler_row, handler_types, filled_slots, filled_class, breaks_in, type_breaks, filled, has_types, IsTyped, Typed}
use Rattle.da_lang.specs.Types.{element_of}
use Rattle.da_lang.proofs.ItemInduction.{ItemCases, items_induction}
use Rattle.da_lang.proofs.typing.TypingAt.{kind_flow_at-Assign, kind_flow_at-Add, kind_flow_at-Del, kind_flow_at-Send, kind_flow_at-Output, kind_flow_at-If, kind_flow_at-While, kind_flow_at-For, kind_flow_at-Call, kind_flow_at-Await, kind_flow_at-Label, kind_flow_at-Pass, alt_flow_at-of, item_types_at-of, branch_flow_at-of}

in_turn-append : (fs gs : List (Slots → Slots)) (slots : Slots) → in_turn (fs ++ gs) slots ≡ in_turn gs (in_turn fs slots)
in_turn-append [] gs slots = refl
in_turn-append (f ∷ fs) gs slots = in_turn-append fs gs (f slots)

-- A relation between the types before and after that holds where nothing happens, of one step after the other, and where a
-- slot takes a type holds of all that a class does.
module _ (R : Slots → Slots → Type 0) (same : (s : Slots) → R s s) (both : (s t u : Slots) → R s t → R t u → R s u) (one : (slot : ℕ) (ty : Option Ty) (s : Slots) → R s (with_type slot ty s)) where
  abbrev Goes : (Slots → Slots) → Type 0
  Goes f = (s : Slots) → R s (f s)

  types_go : (bs : List ℕ) (types : List Ty) → Goes (with_types bs types)
  types_go [] types s = same s
  types_go (b ∷ bs) [] s = same s
  types_go (b ∷ bs) (ty ∷ types) s = both s (with_type b (Some ty) s) (with_types bs types (with_type b (Some ty) s)) (one b (Some ty) s) (types_go bs types (with_type b (Some ty) s))

  row_goes : (bs : List ℕ) (row : Option (List Ty)) → Goes (with_row_types bs row)
  row_goes bs None s = same s
  row_goes bs (Some row) s = types_go bs row s

  all_go : {A : Type 0} (f : A → Slots → Slots) (xs : List A) → AllByRecursion (λ x. Goes (f x)) xs → Goes (in_turn (map f xs))
  all_go f [] each s = same s
  all_go f (x ∷ xs) each s = both s (f x s) (in_turn (map f xs) (f x s)) (each.0 s) (all_go f xs each.1 (f x s))

  two_go : (fs gs : List (Slots → Slots)) → Goes (in_turn fs) → Goes (in_turn gs) → Goes (in_turn (fs ++ gs))
  two_go fs gs first second s = subst (R s) (sym (in_turn-append fs gs s)) (both s (in_turn fs s) (in_turn gs (in_turn fs s)) (first s) (second (in_turn fs s)))

  module _ (messages : List MessageDecl) (queries : List Query) where
    abbrev flow : ItemKind → Slots → Slots
    flow = kind_flow messages queries

    abbrev flows : Item → Slots → Slots
    flows = item_types messages queries

    bound_goes : (found : Option ℕ) (binds : List ℕ) (body : List Item) → AllByRecursion (λ x. Goes (flows x)) body → (s : Slots) → R s (in_turn (map flows body) (with_row_types binds (found_row messages queries found s) s))
    bound_goes found binds body each s = let t = with_row_types binds (found_row messages queries found s) s in both s t (in_turn (map flows body) t) (row_goes binds (found_row messages queries found s) s) (all_go flows body each t)

    await_goes : (alts : List Alt) (timeout : Option (List Item)) → AllByRecursion (λ a. Goes (alt_flow messages queries a)) alts → AllByRecursion (λ x. Goes (flows x)) (unwrap_or timeout [])
        → Goes (in_turn (map (alt_flow messages queries) alts ++ unwrap_or (option_map (map flows) timeout) []))
    await_goes alts None each others = two_go (map (alt_flow messages queries) alts) [] (all_go (alt_flow messages queries) alts each) same
    await_goes alts (Some body) each others = two_go (map (alt_flow messages queries) alts) (map flows body) (all_go (alt_flow messages queries) alts each) (all_go flows body others)

    abbrev item_cases : ItemCases
    item_cases = record {
      Of_kind = λ k. Goes (flow k);
      Of_alt = λ a. Goes (alt_flow messages queries a);
      Of_item = λ i. Goes (flows i);
      Of_branch = λ b. Goes (branch_flow messages queries b);
      assign = λ slot x s. subst (R s) (sym (kind_flow_at-Assign messages queries slot x s)) (same s);
      add = λ slot x s. subst (R s) (sym (kind_flow_at-Add messages queries slot x s)) (same s);
      del = λ slot x s. subst (R s) (sym (kind_flow_at-Del messages queries slot x s)) (same s);
      send = λ x to s. subst (R s) (sym (kind_flow_at-Send messages queries x to s)) (same s);
      output = λ x s. subst (R s) (sym (kind_flow_at-Output messages queries x s)) (same s);
      if_one = λ branches other each others s. subst (R s) (sym (kind_flow_at-If messages queries branches other s)) (two_go (map (branch_flow messages queries) branches) (map flows other) (all_go (branch_flow messages queries) branches each) (all_go flows other others) s);
      while = λ x body each s. subst (R s) (sym (kind_flow_at-While messages queries x body s)) (all_go flows body each s);
      for = λ slot x body each s. subst (R s) (sym (kind_flow_at-For messages queries slot x body s)) (let ty = given (typed messages queries s x).type_ element_of in both s (with_type slot ty s) (in_turn (map flows body) (with_type slot ty s)) (one slot ty s) (all_go flows body each (with_type slot ty s)));
      call = λ args body each s. subst (R s) (sym (kind_flow_at-Call messages queries args body s)) (all_go flows body each s);
      await = λ alts timeout label each others s.
          subst (R s) (sym (kind_flow_at-Await messages queries alts timeout label s)) (await_goes alts timeout each others s);
      label = λ l s. subst (R s) (sym (kind_flow_at-Label messages queries l s)) (same s);
      pass = λ s. subst (R s) (sym (kind_flow_at-Pass messages queries s)) (same s);
      alt = λ cond found binds body line each s. subst (R s) (sym (alt_flow_at-of messages queries cond found binds body line s)) (bound_goes found binds body each s);
      item = λ line kind goes s. subst (R s) (sym (item_types_at-of messages queries line kind s)) (goes s);
      branch = λ cond found binds body line each s. subst (R s) (sym (branch_flow_at-of messages queries cond found binds body line s)) (bound_goes found binds body each s);
    }

    items_go : (items : List Item) → Goes (in_turn (map flows items))
    items_go items = all_go flows items (items_induction item_cases items)

    handler_goes : (h : Handler) → Goes (handler_types messages queries h)
    handler_goes h s = let t = with_row_types h.binds (handler_row messages queries h s) s in both s t (in_turn (map flows h.body) t) (row_goes h.binds (handler_row messages queries h s) s) (items_go h.body t)

    handlers_go : (hs : List Handler) → Goes (in_turn (map (handler_types messages queries) hs))
    handlers_go [] s = same s
    handlers_go (h ∷ hs) s = let t = handler_types messages queries h s in both s t (in_turn (map (handler_types messages queries) hs) t) (handler_goes h s) (handlers_go hs t)

  class_goes : (messages : List MessageDecl) (c : Class) → R c.slots (filled_slots messages c)
  unfolding filled_slots
  class_goes messages c =
      two_go (map (item_types messages c.queries) (c.setup ++ c.run)) (map (handler_types messages c.queries) c.handlers) (items_go messages c.queries (c.setup ++ c.run)) (handlers_go messages c.queries c.handlers) c.slots

-- a type that is known stays
abbrev Stays : Slots → Slots → Type 0
Stays s t = (slot : ℕ) (ty : Ty) → type_at s slot ≡ Some ty → type_at t slot ≡ Some ty

stays_in : (s : Slots) (place k : ℕ) (other : Option Ty) (ty : Ty) → type_at s (suc k) ≡ Some ty → type_at (with_type (suc place) other s) (suc k) ≡ Some ty
stays_in [] place k other ty e = e
stays_in (None ∷ s) zero zero other ty e = absurd (false≢true (ap is_some e))
stays_in (Some x ∷ s) zero zero other ty e = e
stays_in (x ∷ s) zero (suc k) other ty e = e
stays_in (x ∷ s) (suc place) zero other ty e = e
stays_in (x ∷ s) (suc place) (suc k) other ty e = stays_in s place k other ty e

stays : (slot : ℕ) (other : Option Ty) (s : Slots) → Stays s (with_type slot other s)
stays zero other s slot ty e = e
stays (suc place) other s zero ty e = e
stays (suc place) other s (suc k) ty e = stays_in s place k other ty e

pub filled_knows : (messages : List MessageDecl) (c : Class) (slot : ℕ) (ty : Ty) → HasType c slot ty → HasType (filled_class messages c) slot ty
filled_knows messages c = class_goes Stays (λ s slot ty e. e) (λ s t u first second slot ty e. second slot ty (first slot ty e)) stays messages c

-- as many slots as before
abbrev AsMany : Slots → Slots → Type 0
AsMany s t = length t ≡ length s

as_many : (slot : ℕ) (other : Option Ty) (s : Slots) → AsMany s (with_type slot other s)
as_many zero other s = refl
as_many (suc place) other [] = refl
as_many (suc zero) other (x ∷ s) = refl
as_many (suc (suc place)) other (x ∷ s) = ap suc (as_many (suc place) other s)

pub filled_size : (messages : List MessageDecl) (c : Class) → length (filled_slots messages c) ≡ length c.slots
filled_size messages c = class_goes AsMany (λ s. refl) (λ s t u first second. second ∙ first) as_many messages c

-- where all types are known nothing changes
abbrev Full : Slots → Type 0
Full s = list_all is_some s ≡ true

abbrev Rests : Slots → Slots → Type 0
Rests s t = Full s → t ≡ s

rests_in : (s : Slots) (place : ℕ) (other : Option Ty) → Rests s (with_type (suc place) other s)
rests_in [] place other full = refl
rests_in (None ∷ s) zero other full = absurd (false≢true full)
rests_in (Some x ∷ s) zero other full = refl
rests_in (x ∷ s) (suc place) other full = ap (λ (t : Slots). x ∷ t) (rests_in s place other (and_parts (is_some x) (list_all is_some s) full).1)

rests : (slot : ℕ) (other : Option Ty) (s : Slots) → Rests s (with_type slot other s)
rests zero other s full = refl
rests (suc place) other s full = rests_in s place other full

pub class_rests : (messages : List MessageDecl) (c : Class) → has_types c ≡ true → filled_slots messages c ≡ c.slots
class_rests messages c = class_goes Rests (λ s full. refl) (λ s t u first second full. second (subst Full (sym (first full)) full) ∙ first full) rests messages c

classes_rest : (messages : List MessageDecl) (cs : List Class) → list_all has_types cs ≡ true → map (filled_class messages) cs ≡ cs
classes_rest messages [] full = refl
classes_rest messages (c ∷ cs) full =
    let parts : (has_types c ≡ true) × (list_all has_types cs ≡ true) = and_parts (has_types c) (list_all has_types cs) full in
    ap (λ (s : Slots). record c { slots = s } ∷ map (filled_class messages) cs) (class_rests messages c parts.0) ∙ ap (λ (ds : List Class). c ∷ ds) (classes_rest messages cs parts.1)

-- a program all of whose slots have types stays as it is
pub full_stays : (p : Program) → list_all has_types p.classes ≡ true → filled p ≡ p
unfolding filled
full_stays p full = ap (λ (cs : List Class). record p { classes = cs }) (classes_rest p.messages p.classes full)

pub typed_stays : (p : Program) → IsTyped p → filled p ≡ p
typed_stays p t = full_stays p t.complete

-- a typed program is the typed program of itself
pub typed_itself : (p : Program) → IsTyped p → Typed p p
unfolding type_breaks
typed_itself p t = record { keeps = ap breaks_in (typed_stays p t) ∙ t.keeps; becomes = sym (typed_stays p t) }

-- where no rule was broken, none is in what the program became
pub typed_keeps : (p q : Program) → Typed p q → breaks_in q ≡ []
unfolding type_breaks
typed_keeps p q t = ap breaks_in t.becomes ∙ t.keeps
