-- In a typed program each class keeps the rules of types: its queries have types, and so do the conditions of its `await`s.
use Rattle.std.specs.Prelude.{◌≡◌, ℕ, Bool, true, false, List, [], ◌∷◌, ◌++◌, map, Option, Some, None, is_some, unwrap_or, refl}
use Rattle.std.specs.List.{AllByRecursion, flat_map}
use Rattle.std.proofs.Common.{ap, sym, subst, ◌∙◌, inl, inr}
use Rattle.std.proofs.lemmas.Bool.{and_parts}
use Rattle.std.proofs.lemmas.Grind.{flat_map-append}
use Rattle.da_values.specs.Sets.{Has}
use Rattle.da_values.proofs.Members.{of_append, each_from_all}
use Rattle.da_lang.specs.declared.program.Alt.{Alt, roll-Alt}
use Rattle.da_lang.specs.declared.program.Class.{Class}
use Rattle.da_lang.specs.declared.program.Handler.{Handler}
use Rattle.da_lang.specs.declared.program.Item.{Item, roll-Item}
use Rattle.da_lang.specs.declared.program.ItemKind.{ItemKind, roll-ItemKind}
use Rattle.da_lang.specs.declared.program.ItemKind.TheVariants as kind
use Rattle.da_lang.specs.declared.program.ItemKind.TheOpen.{ItemKind-F}
use Rattle.da_lang.specs.declared.program.ItemKind.TheFolds.{map-ItemKind, fold-roll-Alt, fold-roll-Item, fold-roll-RBranch}
use Rattle.da_lang.specs.declared.program.Program.{Program}
use Rattle.da_lang.specs.declared.program.RBranch.{RBranch, roll-RBranch}
use Rattle.da_lang.specs.declared.program.RExpr.{RExpr}
use Rattle.da_lang.specs.declared.query.Cond.{Cond}
use Rattle.da_lang.specs.declared.query.Query.{Query}
use Rattle.da_lang.specs.declared.tree.MessageDecl.{MessageDecl}
use Rattle.da_lang.specs.QueryTypes.{cond_holds, query_type}
use Rattle.da_lang.specs.Typing.{Slots, Breaks, all, unless, known, have_found, kind_broken, alt_broken, item_breaks, branch_broken, handler_breaks, class_breaks, breaks_in, has_queries, IsTyped}
use Rattle.da_lang.proofs.ItemInduction.{ItemCases, item_induction}
use Rattle.da_lang.proofs.typing.TypingAt.{kind_broken-If, kind_broken-While, kind_broken-For, kind_broken-Call, kind_broken-Await, alt_broken-of, item_breaks-of, branch_broken-of}
use Rattle.query_plan.specs.Questions.{Met, Asked, Awaited, joined, kind_met_step, branch_met_step, alt_met_step, item_met_step, item_met, class_met, awaited}
use Rattle.quant_norm.proofs.AwaitedLaws.{kind_met, alt_met, branch_met, met_is}
use Rattle.quant_norm.specs.KeepsTypes.{KeepsTypes}

-- lists that are joined to nothing
no_left : {A : Type 0} (xs ys : List A) → xs ++ ys ≡ [] → xs ≡ []
no_left [] ys e = refl
no_left (x ∷ xs) ys e = absurd (cc)

no_right : {A : Type 0} (xs ys : List A) → xs ++ ys ≡ [] → ys ≡ []
no_right [] ys e = e
no_right (x ∷ xs) ys e = absurd (cc)

none_of : {A B : Type 0} (f : A → List B) (xs : List A) → flat_map f xs ≡ [] → (x : A) → Has xs x → f x ≡ []
none_of f [] e x h = absurd h
none_of f (y ∷ ys) e x (inl is) = ap f is ∙ no_left (f y) (flat_map f ys) e
none_of f (y ∷ ys) e x (inr h) = none_of f ys (no_right (f y) (flat_map f ys) e) x h

keeps_rule : (line : ℕ) (b : Bool) → unless line b ≡ [] → b ≡ true
keeps_rule line true e = refl
keeps_rule line false e = absurd (cc)

awaited-append : (a b : List Met) → awaited (a ++ b) ≡ awaited a ++ awaited b
awaited-append [] b = refl
awaited-append (Asked n ∷ a) b = awaited-append a b
awaited-append (Awaited c ∷ a) b = ap (λ z. c ∷ z) (awaited-append a b)

module _ (messages : List MessageDecl) (queries : List Query) (slots : Slots) where
  abbrev Holds : Cond → Type 0
  Holds b = cond_holds (known messages queries slots) b [] ≡ true

  -- the conditions that are met keep the rules
  abbrev Fine : List Met → Type 0
  Fine met = (b : Cond) → Has (awaited met) b → Holds b

  fine_both : (a b : List Met) → Fine a → Fine b → Fine (a ++ b)
  fine_both a b one two c h = elim (of_append (awaited a) (awaited b) c (subst (λ zs. Has zs c) (awaited-append a b) h)) [ inl first ↦ one c first | inr second ↦ two c second ]

  parts_fine : {A : Type 0} (f : A → List Met) (lines : A → List ℕ) (xs : List A) → AllByRecursion (λ x. lines x ≡ [] → Fine (f x)) xs → all (map lines xs) ≡ [] → Fine (joined (map f xs))
  parts_fine f lines [] each e = λ b h. absurd h
  parts_fine f lines (x ∷ xs) each e =
      fine_both (f x) (joined (map f xs)) (each.0 (no_left (lines x) (all (map lines xs)) e)) (parts_fine f lines xs each.1 (no_right (lines x) (all (map lines xs)) e))

  abbrev broken : Item → List ℕ
  broken = item_breaks messages queries slots

  abbrev OfKind : ItemKind → Type 0
  OfKind k = (kind_broken messages queries slots k).blocks ≡ [] → Fine (kind_met k)

  abbrev OfAlt : Alt → Type 0
  OfAlt a = alt_broken messages queries slots a ≡ [] → Fine (alt_met a)

  abbrev OfItem : Item → Type 0
  OfItem i = broken i ≡ [] → Fine (item_met i)

  abbrev OfBranch : RBranch → Type 0
  OfBranch b = branch_broken messages queries slots b ≡ [] → Fine (branch_met b)

  -- from one layer
  fine_as : (k : ItemKind) (l : ItemKind-F ItemKind Alt Item RBranch) → roll-ItemKind l ≡ k → Fine (kind_met_step (map-ItemKind ItemKind Alt Item RBranch (List Met) (List Met) (List Met) (List Met) kind_met alt_met item_met branch_met l)) → Fine (kind_met k)
  fine_as k l e fine = subst Fine (sym (met_is k l e)) fine

  blocks_as : (k b : Breaks) → k ≡ b → k.blocks ≡ [] → b.blocks ≡ []
  blocks_as k b e none = sym (ap (λ (z : Breaks). z.blocks) e) ∙ none

  body_fine : (body : List Item) → AllByRecursion OfItem body → all (map broken body) ≡ [] → Fine (joined (map item_met body))
  body_fine = parts_fine item_met broken

  if_case : (branches : List RBranch) (otherwise : List Item) → AllByRecursion OfBranch branches → AllByRecursion OfItem otherwise → OfKind (kind.If branches otherwise)
  if_case branches otherwise one two e =
      let lines : List (List ℕ) = map (branch_broken messages queries slots) branches in
      let none : all lines ++ all (map broken otherwise) ≡ [] = sym (flat_map-append (λ part. part) lines (map broken otherwise)) ∙ blocks_as _ _ (kind_broken-If messages queries slots branches otherwise) e in
      fine_as (kind.If branches otherwise) (ItemKind-F.If branches otherwise) (kind.rolls-If branches otherwise)
      (fine_both (joined (map branch_met branches)) (joined (map item_met otherwise))
      (parts_fine branch_met (branch_broken messages queries slots) branches one (no_left (all lines) (all (map broken otherwise)) none))
      (body_fine otherwise two (no_right (all lines) (all (map broken otherwise)) none)))

  await_parts : (alts : List Alt) (block : List Item) → AllByRecursion OfAlt alts → AllByRecursion OfItem block → all (map (alt_broken messages queries slots) alts ++ map broken block) ≡ []
      → Fine (joined (map alt_met alts) ++ joined (map item_met block))
  await_parts alts block one two e =
      let lines : List (List ℕ) = map (alt_broken messages queries slots) alts in
      let none : all lines ++ all (map broken block) ≡ [] = sym (flat_map-append (λ part. part) lines (map broken block)) ∙ e in
      fine_both (joined (map alt_met alts)) (joined (map item_met block))
      (parts_fine alt_met (alt_broken messages queries slots) alts one (no_left (all lines) (all (map broken block)) none))
      (body_fine block two (no_right (all lines) (all (map broken block)) none))

  await_case : (alts : List Alt) (timeout : Option (List Item)) (label : Option ℕ) → AllByRecursion OfAlt alts → AllByRecursion OfItem (unwrap_or timeout []) → OfKind (kind.Await alts timeout label)
  await_case alts None label one two e =
      fine_as (kind.Await alts None label) (ItemKind-F.Await alts None label) (kind.rolls-Await alts None label)
      (await_parts alts [] one two (blocks_as _ _ (kind_broken-Await messages queries slots alts None label) e))
  await_case alts (Some block) label one two e =
      fine_as (kind.Await alts (Some block) label) (ItemKind-F.Await alts (Some block) label) (kind.rolls-Await alts (Some block) label)
      (await_parts alts block one two (blocks_as _ _ (kind_broken-Await messages queries slots alts (Some block) label) e))

  alt_case : (b : Cond) (found : Option ℕ) (binds : List ℕ) (body : List Item) (line : ℕ) → AllByRecursion OfItem body → OfAlt (roll-Alt (record { cond = b; found = found; binds = binds; body = body; line = line }))
  alt_case b found binds body line each e =
      let none = sym (alt_broken-of messages queries slots b found binds body line) ∙ e in
      let rule = keeps_rule line _ (no_left _ (all (map broken body)) none) in
      let (own, bound) = and_parts (cond_holds (known messages queries slots) b []) (have_found messages queries slots found binds) rule in
      subst Fine (sym (fold-roll-Alt (List Met) (List Met) (List Met) (List Met) kind_met_step alt_met_step item_met_step branch_met_step (record { cond = b; found = found; binds = binds; body = body; line = line })))
      (λ c h. elim h [
        | inl same ↦ subst Holds (sym same) own
        | inr more ↦ body_fine body each (no_right (unless line _) (all (map broken body)) none) c more
      ])

  branch_case : (x : RExpr) (found : Option ℕ) (binds : List ℕ) (body : List Item) (line : ℕ) → AllByRecursion OfItem body → OfBranch (roll-RBranch (record { cond = x; found = found; binds = binds; body = body; line = line }))
  branch_case x found binds body line each e =
      let none = sym (branch_broken-of messages queries slots x found binds body line) ∙ e in
      subst Fine (sym (fold-roll-RBranch (List Met) (List Met) (List Met) (List Met) kind_met_step alt_met_step item_met_step branch_met_step (record { cond = x; found = found; binds = binds; body = body; line = line })))
      (body_fine body each (no_right _ (all (map broken body)) none))

  item_case : (line : ℕ) (k : ItemKind) → OfKind k → OfItem (roll-Item (record { line = line; kind = k }))
  item_case line k law e =
      subst Fine (sym (fold-roll-Item (List Met) (List Met) (List Met) (List Met) kind_met_step alt_met_step item_met_step branch_met_step (record { line = line; kind = k })))
      (law (no_right (unless line (kind_broken messages queries slots k).rule) (kind_broken messages queries slots k).blocks (sym (item_breaks-of messages queries slots line k) ∙ e)))

  abbrev cases : ItemCases
  cases = record {
    Of_kind = OfKind;
    Of_alt = OfAlt;
    Of_item = OfItem;
    Of_branch = OfBranch;
    assign = λ s x e. fine_as (kind.Assign s x) (ItemKind-F.Assign s x) (kind.rolls-Assign s x) (λ b h. absurd h);
    add = λ s x e. fine_as (kind.Add s x) (ItemKind-F.Add s x) (kind.rolls-Add s x) (λ b h. absurd h);
    del = λ s x e. fine_as (kind.Del s x) (ItemKind-F.Del s x) (kind.rolls-Del s x) (λ b h. absurd h);
    send = λ m x e. fine_as (kind.Send m x) (ItemKind-F.Send m x) (kind.rolls-Send m x) (λ b h. absurd h);
    output = λ x e. fine_as (kind.Output x) (ItemKind-F.Output x) (kind.rolls-Output x) (λ b h. absurd h);
    if_one = if_case;
    while = λ x body each e. fine_as (kind.While x body) (ItemKind-F.While x body) (kind.rolls-While x body) (body_fine body each (blocks_as _ _ (kind_broken-While messages queries slots x body) e));
    for = λ s x body each e. fine_as (kind.For s x body) (ItemKind-F.For s x body) (kind.rolls-For s x body) (body_fine body each (blocks_as _ _ (kind_broken-For messages queries slots s x body) e));
    call = λ args body each e. fine_as (kind.Call args body) (ItemKind-F.Call args body) (kind.rolls-Call args body) (body_fine body each (blocks_as _ _ (kind_broken-Call messages queries slots args body) e));
    await = await_case;
    label = λ l e. fine_as (kind.Label l) (ItemKind-F.Label l) (kind.rolls-Label l) (λ b h. absurd h);
    pass = λ e. fine_as kind.Pass ItemKind-F.Pass kind.rolls-Pass (λ b h. absurd h);
    alt = alt_case;
    item = item_case;
    branch = branch_case;
  }

  items_fine : (items : List Item) → flat_map broken items ≡ [] → Fine (flat_map item_met items)
  items_fine [] e = λ b h. absurd h
  items_fine (i ∷ items) e =
      fine_both (item_met i) (flat_map item_met items) (item_induction cases i (no_left (broken i) (flat_map broken items) e)) (items_fine items (no_right (broken i) (flat_map broken items) e))

  handlers_fine : (handlers : List Handler) → flat_map (handler_breaks messages queries slots) handlers ≡ [] → Fine (flat_map (λ h. flat_map item_met h.body) handlers)
  handlers_fine [] e = λ b h. absurd h
  handlers_fine (h ∷ handlers) e =
      let first : handler_breaks messages queries slots h ≡ [] = no_left (handler_breaks messages queries slots h) (flat_map (handler_breaks messages queries slots) handlers) e in
      fine_both (flat_map item_met h.body) (flat_map (λ h. flat_map item_met h.body) handlers)
      (items_fine h.body (no_right _ (flat_map broken h.body) first))
      (handlers_fine handlers (no_right (handler_breaks messages queries slots h) (flat_map (handler_breaks messages queries slots) handlers) e))

class_fine : (messages : List MessageDecl) (c : Class) → class_breaks messages c ≡ [] → Fine messages c.queries c.slots (class_met c)
class_fine messages c e =
    let item : Item → List ℕ = item_breaks messages c.queries c.slots in
    let statements : flat_map item (c.setup ++ c.run) ≡ [] = no_left (flat_map item (c.setup ++ c.run)) (flat_map (handler_breaks messages c.queries c.slots) c.handlers) e in
    fine_both messages c.queries c.slots (flat_map item_met c.run) (flat_map (λ h. flat_map item_met h.body) c.handlers)
    (items_fine messages c.queries c.slots c.run (no_right (flat_map item c.setup) (flat_map item c.run) (sym (flat_map-append item c.setup c.run) ∙ statements)))
    (handlers_fine messages c.queries c.slots c.handlers (no_right (flat_map item (c.setup ++ c.run)) (flat_map (handler_breaks messages c.queries c.slots) c.handlers) e))

class_unbroken : (p : Program) (c : Class) → breaks_in p ≡ [] → Has p.classes c → class_breaks p.messages c ≡ []
unfolding breaks_in
class_unbroken p c e h = none_of (class_breaks p.messages) p.classes (no_left (flat_map (class_breaks p.messages) p.classes) _ e) c h

pub typed_keeps : (p : Program) (c : Class) → IsTyped p → Has p.classes c → KeepsTypes (known p.messages c.queries c.slots) c
typed_keeps p c typed h = record {
  queries = λ q there. each_from_all (λ q. is_some (query_type (known p.messages c.queries c.slots) q)) c.queries q (each_from_all (has_queries p.messages) p.classes c typed.asked h) there;
  conds = class_fine p.messages c (class_unbroken p c typed.keeps h);
}
