-- The flow of types through a class is the run of its steps.
use Rattle.std.specs.Prelude.{◌≡◌, refl, ℕ, List, [], ◌∷◌, ◌++◌, map, Option, Some, None, option_map, unwrap_or}
use Rattle.std.specs.List.{AllByRecursion}
use Rattle.std.proofs.Common.{◌∙◌, ap, sym}
use Rattle.da_lang.specs.declared.program.Alt.{Alt}
use Rattle.da_lang.specs.declared.program.Class.{Class}
use Rattle.da_lang.specs.declared.program.Handler.{Handler}
use Rattle.da_lang.specs.declared.program.Item.{Item}
use Rattle.da_lang.specs.declared.program.ItemKind.{ItemKind}
use Rattle.da_lang.specs.declared.query.Query.{Query}
use Rattle.da_lang.specs.declared.tree.MessageDecl.{MessageDecl}
use Rattle.da_lang.specs.QueryTypes.{given}
use Rattle.da_lang.specs.Types.{element_of}
use Rattle.da_lang.specs.Typing.{Slots, with_type, with_row_types, in_turn, typed, found_row, handler_row, handler_types, kind_flow, alt_flow, item_types, branch_flow, filled_slots}
use Rattle.da_lang.proofs.ItemInduction.{ItemCases, items_induction}
use Rattle.da_lang.proofs.typing.TypingAt.{kind_flow_at-Assign, kind_flow_at-Add, kind_flow_at-Del, kind_flow_at-Send, kind_flow_at-Output, kind_flow_at-If, kind_flow_at-While, kind_flow_at-For, kind_flow_at-Call, kind_flow_at-Await, kind_flow_at-Label, kind_flow_at-Pass, alt_flow_at-of, item_types_at-of, branch_flow_at-of}
use Rattle.untyped_laws.specs.Flow.{Step, Finds, joined, item_steps, kind_steps, alt_steps, branch_steps, body_steps, handler_steps, class_steps, run_step, run_steps}
use Rattle.untyped_laws.proofs.StepsAt.{steps-Assign, steps-Add, steps-Del, steps-Send, steps-Output, steps-If, steps-While, steps-For, steps-Call, steps-Await, steps-Label, steps-Pass, item_steps-of, branch_steps-of, alt_steps-of}

in_turn_append : (fs gs : List (Slots → Slots)) (s : Slots) → in_turn (fs ++ gs) s ≡ in_turn gs (in_turn fs s)
in_turn_append [] gs s = refl
in_turn_append (f ∷ fs) gs s = in_turn_append fs gs (f s)

module _ (messages : List MessageDecl) (queries : List Query) where
  abbrev run : List Step → Slots → Slots
  run = run_steps messages queries

  pub run_append : (xs ys : List Step) (s : Slots) → run (xs ++ ys) s ≡ run ys (run xs s)
  run_append [] ys s = refl
  run_append (x ∷ xs) ys s = run_append xs ys (run_step messages queries x s)

  abbrev Runs : (Slots → Slots) → List Step → Type 0
  Runs f steps = (s : Slots) → f s ≡ run steps s

  all_run : {A : Type 0} (f : A → Slots → Slots) (steps : A → List Step) (xs : List A) → AllByRecursion (λ x. Runs (f x) (steps x)) xs → Runs (in_turn (map f xs)) (joined (map steps xs))
  all_run f steps [] each s = refl
  all_run f steps (x ∷ xs) each s = ap (in_turn (map f xs)) (each.0 s) ∙ all_run f steps xs each.1 (run (steps x) s) ∙ sym (run_append (steps x) (joined (map steps xs)) s)

  two_run : (fs gs : List (Slots → Slots)) (xs ys : List Step) → Runs (in_turn fs) xs → Runs (in_turn gs) ys → Runs (in_turn (fs ++ gs)) (xs ++ ys)
  two_run fs gs xs ys first second s = in_turn_append fs gs s ∙ ap (in_turn gs) (first s) ∙ second (run xs s) ∙ sym (run_append xs ys s)

  -- by a form's own flow and steps
  by : (f g : Slots → Slots) (steps own : List Step) → ((s : Slots) → f s ≡ g s) → own ≡ steps → Runs g steps → Runs f own
  by f g steps own flow same runs s = flow s ∙ runs s ∙ ap (λ z. run z s) (sym same)

  abbrev flow : ItemKind → Slots → Slots
  flow = kind_flow messages queries

  abbrev flows : Item → Slots → Slots
  flows = item_types messages queries

  none_run : (f : Slots → Slots) (own : List Step) → ((s : Slots) → f s ≡ s) → own ≡ [] → Runs f own
  none_run f own flow same = by f (λ s. s) [] own flow same (λ s. refl)

  body_run : (body : List Item) → AllByRecursion (λ i. Runs (flows i) (item_steps i)) body → Runs (in_turn (map flows body)) (body_steps body)
  body_run body each = all_run flows item_steps body each

  found_run : (found : Option ℕ) (binds : List ℕ) (body : List Item) → AllByRecursion (λ i. Runs (flows i) (item_steps i)) body → Runs (λ s. in_turn (map flows body) (with_row_types binds (found_row messages queries found s) s)) (Finds binds found ∷ body_steps body)
  found_run found binds body each s = body_run body each (with_row_types binds (found_row messages queries found s) s)

  late_run : (alts : List Alt) (timeout : Option (List Item)) → AllByRecursion (λ a. Runs (alt_flow messages queries a) (alt_steps a)) alts → AllByRecursion (λ i. Runs (flows i) (item_steps i)) (unwrap_or timeout [])
      → Runs (in_turn (map (alt_flow messages queries) alts ++ unwrap_or (option_map (map flows) timeout) [])) (joined (map alt_steps alts) ++ body_steps (unwrap_or timeout []))
  late_run alts None each others = two_run (map (alt_flow messages queries) alts) [] (joined (map alt_steps alts)) [] (all_run (alt_flow messages queries) alt_steps alts each) (λ s. refl)
  late_run alts (Some body) each others = two_run (map (alt_flow messages queries) alts) (map flows body) (joined (map alt_steps alts)) (body_steps body) (all_run (alt_flow messages queries) alt_steps alts each) (body_run body others)

  abbrev cases : ItemCases
  cases = record {
    Of_kind = λ k. Runs (flow k) (kind_steps k);
    Of_alt = λ a. Runs (alt_flow messages queries a) (alt_steps a);
    Of_item = λ i. Runs (flows i) (item_steps i);
    Of_branch = λ b. Runs (branch_flow messages queries b) (branch_steps b);
    assign = λ slot x. none_run _ _ (kind_flow_at-Assign messages queries slot x) (steps-Assign slot x);
    add = λ slot x. none_run _ _ (kind_flow_at-Add messages queries slot x) (steps-Add slot x);
    del = λ slot x. none_run _ _ (kind_flow_at-Del messages queries slot x) (steps-Del slot x);
    send = λ x to. none_run _ _ (kind_flow_at-Send messages queries x to) (steps-Send x to);
    output = λ x. none_run _ _ (kind_flow_at-Output messages queries x) (steps-Output x);
    if_one = λ branches other each others.
        by _ _ _ _ (kind_flow_at-If messages queries branches other) (steps-If branches other)
        (two_run (map (branch_flow messages queries) branches) (map flows other) (joined (map branch_steps branches)) (body_steps other) (all_run (branch_flow messages queries) branch_steps branches each) (body_run other others));
    while = λ x body each. by _ _ _ _ (kind_flow_at-While messages queries x body) (steps-While x body) (body_run body each);
    for = λ slot x body each.
        by _ _ _ _ (kind_flow_at-For messages queries slot x body) (steps-For slot x body)
        (λ s. body_run body each (with_type slot (given (typed messages queries s x).type_ element_of) s));
    call = λ args body each. by _ _ _ _ (kind_flow_at-Call messages queries args body) (steps-Call args body) (body_run body each);
    await = λ alts timeout label each others. by _ _ _ _ (kind_flow_at-Await messages queries alts timeout label) (steps-Await alts timeout label) (late_run alts timeout each others);
    label = λ l. none_run _ _ (kind_flow_at-Label messages queries l) (steps-Label l);
    pass = none_run _ _ (kind_flow_at-Pass messages queries) steps-Pass;
    alt = λ cond found binds body line each. by _ _ _ _ (alt_flow_at-of messages queries cond found binds body line) (alt_steps-of cond found binds body line) (found_run found binds body each);
    item = λ line kind goes. by _ _ _ _ (item_types_at-of messages queries line kind) (item_steps-of line kind) goes;
    branch = λ cond found binds body line each. by _ _ _ _ (branch_flow_at-of messages queries cond found binds body line) (branch_steps-of cond found binds body line) (found_run found binds body each);
  }

  items_run : (items : List Item) → Runs (in_turn (map flows items)) (body_steps items)
  items_run items = body_run items (items_induction cases items)

  handlers_run : (hs : List Handler) → Runs (in_turn (map (handler_types messages queries) hs)) (joined (map handler_steps hs))
  handlers_run hs = all_run (handler_types messages queries) handler_steps hs (each hs)
    where
      each : (hs : List Handler) → AllByRecursion (λ h. Runs (handler_types messages queries h) (handler_steps h)) hs
      each [] = tt
      each (h ∷ hs) = ((λ s. items_run h.body (with_row_types h.binds (handler_row messages queries h s) s)), each hs)

pub class_runs : (messages : List MessageDecl) (c : Class) → filled_slots messages c ≡ run_steps messages c.queries (class_steps c) c.slots
unfolding filled_slots
class_runs messages c =
    two_run messages c.queries (map (item_types messages c.queries) (c.setup ++ c.run)) (map (handler_types messages c.queries) c.handlers) (body_steps (c.setup ++ c.run)) (joined (map handler_steps c.handlers))
    (items_run messages c.queries (c.setup ++ c.run)) (handlers_run messages c.queries c.handlers) c.slots
