-- Each statement that keeps the rules of types gives types to the slots and the queries that it brings.
use Rattle.std.specs.Prelude.{◌≡◌, refl, ℕ, suc, true, false, ◌&&◌, if◌then◌else◌, List, [], ◌∷◌, ◌++◌, map, length, Option, Some, None, option_map, unwrap_or, is_some}
use Rattle.std.specs.List.{AllByRecursion}
use Rattle.std.proofs.Common.{◌∙◌, ap, sym, subst}
use Rattle.std.proofs.lemmas.Bool.{false≢true, and_parts}
use Rattle.da_lang.specs.declared.program.Item.{Item}
use Rattle.da_lang.specs.declared.program.ItemKind.{ItemKind}
use Rattle.da_lang.specs.declared.program.ItemKind.TheVariants as it
use Rattle.da_lang.specs.declared.program.RExpr.{RExpr, out-RExpr}
use Rattle.da_lang.specs.declared.query.Query.{Query}
use Rattle.da_lang.specs.declared.tree.ChainTree.{ChainTree}
use Rattle.da_lang.specs.declared.tree.Expr.{Expr, out-Expr}
use Rattle.da_lang.specs.declared.tree.Expr.TheOpen.{Expr-F}
use Rattle.da_lang.specs.declared.tree.GenTree.{GenTree}
use Rattle.da_lang.specs.declared.tree.MessageDecl.{MessageDecl}
use Rattle.da_lang.specs.declared.tree.PatternTree.{PatternTree}
use Rattle.da_lang.specs.declared.tree.PeerTree.{PeerTree}
use Rattle.da_lang.specs.declared.ty.Ty.{Ty}
use Rattle.da_lang.specs.BodyMeaning.{Becomes, Copy, Guarded, Stating, next, fresh, named_slots, untyped, finds_in, found_number, item_at, after_label, block, block_if, each, states, with_expr, with_exprs, bound, as_branch, as_alt, ifs, loop, for_each, await_one, timeout_block, awaits}
use Rattle.da_lang.specs.ExprMeaning.{Meaning, Tables, meant}
use Rattle.da_lang.specs.ExprNames.{found_names, found_in}
use Rattle.da_lang.specs.ExprTypes.{ExprType, typing, truth}
use Rattle.da_lang.specs.QueryTypes.{Known, given, holds_of, slot_type, is_typed, message_type, cond_holds}
use Rattle.da_lang.specs.Scopes.{Scope}
use Rattle.da_lang.specs.Types.{element_of, is_bool}
use Rattle.da_lang.specs.Typing.{Slots, Breaks, known, found_row, have_types, has_type, have_found, is_recipient, message_tag, unless, all, kind_broken, alt_broken, item_breaks, branch_broken}
use Rattle.da_lang.proofs.CondInduction.{Where}
use Rattle.da_lang.proofs.typing.TypingAt.{kind_broken-Assign, kind_broken-Add, kind_broken-Del, kind_broken-Send, kind_broken-Output, kind_broken-If, kind_broken-While, kind_broken-For, kind_broken-Await, alt_broken-of, item_breaks-of, branch_broken-of}
use Rattle.da_types.proofs.resolved.CoveredTables.{Done, IsKnown, untyped_done}
use Rattle.da_types.proofs.resolved.ExprsFill.{expr_fills}
use Rattle.da_types.proofs.resolved.FineExprs.{Fine, Fits, Typed, of_typed, of_test}
use Rattle.da_types.proofs.resolved.MeantFills.{FineExpr}
use Rattle.da_types.proofs.totality.Awaits.{no_left, no_right, keeps_rule}
use Rattle.da_types.proofs.totality.KindLaws.{given_parts, holds_parts, is_typed_parts}

-- a list that is joined of parts that are all empty
both_none : (xs ys : List (List ℕ)) → all (xs ++ ys) ≡ [] → (all xs ≡ []) × (all ys ≡ [])
both_none [] ys e = (refl, e)
both_none (x ∷ xs) ys e = let (first, second) = both_none xs ys (no_right x (all (xs ++ ys)) e) in (ap (λ z. z ++ all xs) (no_left x (all (xs ++ ys)) e) ∙ first, second)

module _ (messages : List MessageDecl) (queries : List Query) (slots : Slots) where
  abbrev kn : Known
  kn = known messages queries slots

  abbrev Holds : Tables → Type 0
  Holds = Done messages queries slots

  abbrev Knows : ℕ → Type 0
  Knows = IsKnown messages queries slots

  abbrev FineHere : RExpr → Type 0
  FineHere = FineExpr messages queries slots

  abbrev pub no_breaks : List Item → List ℕ
  no_breaks items = all (map (item_breaks messages queries slots) items)

  pub record Kept (b : Breaks) : Type 0 where
    pub rule : b.rule ≡ true
    pub blocks : b.blocks ≡ []

  abbrev pub KeptKind : ItemKind → Type 0
  KeptKind k = Kept (kind_broken messages queries slots k)

  -- a part that breaks no rule gives types to what it brings
  abbrev pub PartFills : {A : Type 0} → (A → List ℕ) → Becomes A → Type 0
  PartFills broken f = (scope : Scope Meaning) (tables : Tables) → broken (f scope tables).0 ≡ [] → Holds tables → Holds (f scope tables).1

  abbrev pub KindFills : Becomes ItemKind → Type 0
  KindFills f = (scope : Scope Meaning) (tables : Tables) → KeptKind (f scope tables).0 → Holds tables → Holds (f scope tables).1

  abbrev pub StateFills : Stating → Type 0
  StateFills f = (label : Option ℕ) (scope : Scope Meaning) (tables : Tables) → item_breaks messages queries slots (f label scope tables).item ≡ [] → Holds tables → Holds (f label scope tables).tables

  -- a copy of a method with so many arguments
  abbrev pub CallFills : (List RExpr → Tables → ItemKind × Tables) → ℕ → Type 0
  CallFills call n = (args : List RExpr) (tables : Tables) → length args ≡ n → KeptKind (call args tables).0 → AllByRecursion FineHere args × (Holds tables → Holds (call args tables).1)

  abbrev pub CopyFills : Copy → List ℕ → ℕ → Type 0
  CopyFills copy name n = CallFills (copy.call name) n

  kept_kind : (line : ℕ) (k : ItemKind) → item_breaks messages queries slots (item_at line k) ≡ [] → KeptKind k
  kept_kind line k e =
      let b = kind_broken messages queries slots k in
      let is : unless line b.rule ++ b.blocks ≡ [] = sym (item_breaks-of messages queries slots line k) ∙ e in
      record { rule = keeps_rule line b.rule (no_left (unless line b.rule) b.blocks is); blocks = no_right (unless line b.rule) b.blocks is }

  pub kind_states : (line : ℕ) (f : Becomes ItemKind) → KindFills f → StateFills (states line f)
  kind_states line f fills label scope tables e d = fills scope tables (kept_kind line (f scope tables).0 e) d

  -- statements with expressions alone
  pub expr_fill : (make : RExpr → ItemKind) (x : Expr) → ((e : RExpr) → KeptKind (make e) → FineHere e) → KindFills (with_expr make x)
  expr_fill make x part scope tables kept d = (expr_fills messages queries slots x).by_typing scope tables (part ((meant x).outside scope tables).0 kept) d

  pub exprs_fills : (make : RExpr → RExpr → ItemKind) (x y : Expr) → ((e f : RExpr) → KeptKind (make e f) → FineHere e × FineHere f) → KindFills (with_exprs make x y)
  exprs_fills make x y parts scope tables kept d =
      let first = (meant x).outside scope tables in
      let second = (meant y).outside scope first.1 in
      let (left, right) = parts first.0 second.0 kept in
      (expr_fills messages queries slots y).by_typing scope first.1 right ((expr_fills messages queries slots x).by_typing scope tables left d)

  pub assign_fine : (slot : ℕ) (e : RExpr) → KeptKind (it.Assign slot e) → FineHere e
  assign_fine slot e kept =
      let k = subst Kept (kind_broken-Assign messages queries slots slot e) kept in
      let (ty, is, h) = holds_parts (slot_type kn slot) (typing kn queries e).fits k.rule in
      Fits ty h

  pub add_fine : (slot : ℕ) (e : RExpr) → KeptKind (it.Add slot e) → FineHere e
  add_fine slot e kept =
      let k = subst Kept (kind_broken-Add messages queries slots slot e) kept in
      let (ty, is, h) = holds_parts (given (slot_type kn slot) element_of) (typing kn queries e).fits k.rule in
      Fits ty h

  pub del_fine : (slot : ℕ) (e : RExpr) → KeptKind (it.Del slot e) → FineHere e
  del_fine slot e kept =
      let k = subst Kept (kind_broken-Del messages queries slots slot e) kept in
      let (ty, is, h) = holds_parts (given (slot_type kn slot) element_of) (is_typed (typing kn queries e).type_) k.rule in
      of_typed (typing kn queries e) ty h

  pub send_fine : (e f : RExpr) → KeptKind (it.Send e f) → FineHere e × FineHere f
  send_fine e f kept =
      let k = subst Kept (kind_broken-Send messages queries slots e f) kept in
      let (first, second) = and_parts _ (holds_of (typing kn queries f).type_ (is_recipient messages queries slots)) k.rule in
      let (ty, is, h) = holds_parts (given (message_tag (out-RExpr e)) (message_type kn)) (typing kn queries e).fits first in
      (Fits ty h, of_test (is_recipient messages queries slots) (typing kn queries f) second)

  has_one : (x : ExprType) → is_some x.type_ ≡ true → Fine x
  has_one x e = go x.type_ refl e
    where
      go : (o : Option Ty) → x.type_ ≡ o → is_some o ≡ true → Fine x
      go None is h = absurd (false≢true h)
      go (Some ty) is h = Typed ty is

  pub output_fine : (e : RExpr) → KeptKind (it.Output e) → FineHere e
  output_fine e kept =
      let k = subst Kept (kind_broken-Output messages queries slots e) kept in
      has_one (typing kn queries e) k.rule

  -- blocks
  after_fills : (label : Option ℕ) (ss : List Stating) → AllByRecursion StateFills ss → PartFills no_breaks (after_label label ss)
  after_fills label [] fills scope tables e d = d
  after_fills label (s ∷ ss) fills scope tables e d =
      let first = s label scope tables in
      let others = after_label first.label ss first.scope first.tables in
      let front = item_breaks messages queries slots first.item in
      after_fills first.label ss fills.1 first.scope first.tables (no_right front (no_breaks others.0) e) (fills.0 label scope tables (no_left front (no_breaks others.0) e) d)

  pub block_fills : (ss : List Stating) → AllByRecursion StateFills ss → PartFills no_breaks (block ss)
  block_fills = after_fills None

  block_if_fills : (other : Option (List Stating)) → Where (AllByRecursion StateFills) other → PartFills no_breaks (block_if other)
  block_if_fills None fills scope tables e d = d
  block_if_fills (Some ss) fills scope tables e d = block_fills ss fills scope tables e d

  each_fills : {A : Type 0} (broken : A → List ℕ) (parts : List (Becomes A)) → AllByRecursion (PartFills broken) parts → PartFills (λ xs. all (map broken xs)) (each parts)
  each_fills broken [] fills scope tables e d = d
  each_fills broken (p ∷ parts) fills scope tables e d =
      let first = p scope tables in
      let others = each parts scope first.1 in
      each_fills broken parts fills.1 scope first.1 (no_right (broken first.0) (all (map broken others.0)) e) (fills.0 scope tables (no_left (broken first.0) (all (map broken others.0)) e) d)

  -- blocks after new slots
  pub bound_fills : (names : List (List ℕ)) (ss : List Stating) → AllByRecursion StateFills ss → (scope : Scope Meaning) (tables : Tables)
      → AllByRecursion Knows (fresh tables (length names)) → no_breaks (bound names ss scope tables).0 ≡ [] → Holds tables → Holds (bound names ss scope tables).1
  bound_fills names ss fills scope tables given_ e d = block_fills ss fills (named_slots names tables scope) (untyped names tables) e (untyped_done messages queries slots names tables given_ d)

  pub binds_known : (binds : List ℕ) (types : List Ty) → have_types messages queries slots binds types ≡ true → AllByRecursion Knows binds
  binds_known [] types e = tt
  binds_known (b ∷ bs) [] e = absurd (false≢true e)
  binds_known (b ∷ bs) (ty ∷ types) e =
      let (first, others) = and_parts (has_type messages queries slots b ty) (have_types messages queries slots bs types) e in
      (ap is_some (is_typed_parts (slot_type kn b) ty first), binds_known bs types others)

  found_layer : (y : Expr-F Expr PatternTree PeerTree ChainTree GenTree) (n : ℕ) (tables : Tables)
      → have_found messages queries slots (if finds_in y then Some n else None) (fresh tables (length (found_in y))) ≡ true → AllByRecursion Knows (fresh tables (length (found_in y)))
  found_layer (Expr-F.Quant false gens cond) n tables e =
      let binds = fresh tables (length (found_in (Expr-F.Quant false gens cond))) in
      let (row, is, h) = holds_parts (found_row messages queries (Some n) slots) (have_types messages queries slots binds) e in
      binds_known binds row h
  found_layer (Expr-F.Quant true gens cond) n tables e = tt
  found_layer _ n tables e = tt

  found_known : (x : Expr) (before tables : Tables) → have_found messages queries slots (found_number x before) (fresh tables (length (found_names x))) ≡ true → AllByRecursion Knows (fresh tables (length (found_names x)))
  found_known x before tables e = found_layer (out-Expr x) (suc (length before.queries)) tables e

  pub branch_fills : (line : ℕ) (x : Expr) (ss : List Stating) → AllByRecursion StateFills ss → PartFills (branch_broken messages queries slots) (as_branch line x ss)
  branch_fills line x ss fills scope tables e d =
      let cond = (meant x).outside scope tables in
      let binds = fresh cond.1 (length (found_names x)) in
      let items = bound (found_names x) ss scope cond.1 in
      let kept = sym (branch_broken-of messages queries slots cond.0 (found_number x tables) binds items.0 line) ∙ e in
      let rule = unless line (truth (typing kn queries cond.0) && have_found messages queries slots (found_number x tables) binds) in
      let (fine, found) = and_parts (truth (typing kn queries cond.0)) (have_found messages queries slots (found_number x tables) binds) (keeps_rule line _ (no_left rule (no_breaks items.0) kept)) in
      bound_fills (found_names x) ss fills scope cond.1 (found_known x tables cond.1 found) (no_right rule (no_breaks items.0) kept)
      ((expr_fills messages queries slots x).by_typing scope tables (of_test is_bool (typing kn queries cond.0) fine) d)

  pub alt_fills : (line : ℕ) (x : Expr) (ss : List Stating) → AllByRecursion StateFills ss → PartFills (alt_broken messages queries slots) (as_alt line x ss)
  alt_fills line x ss fills scope tables e d =
      let asked = (meant x).outside scope tables in
      let binds = fresh asked.1 (length (found_names x)) in
      let items = bound (found_names x) ss scope asked.1 in
      let cond = (meant x).condition scope in
      let kept = sym (alt_broken-of messages queries slots cond (found_number x tables) binds items.0 line) ∙ e in
      let rule = unless line (cond_holds kn cond [] && have_found messages queries slots (found_number x tables) binds) in
      let (holds, found) = and_parts (cond_holds kn cond []) (have_found messages queries slots (found_number x tables) binds) (keeps_rule line _ (no_left rule (no_breaks items.0) kept)) in
      bound_fills (found_names x) ss fills scope asked.1 (found_known x tables asked.1 found) (no_right rule (no_breaks items.0) kept)
      ((expr_fills messages queries slots x).by_condition scope tables holds d)

  -- statements with blocks
  mapped_fills : {A : Type 0} (get : Guarded → Becomes A) (broken : A → List ℕ) (gs : List Guarded) → AllByRecursion (λ g. PartFills broken (get g)) gs → AllByRecursion (PartFills broken) (map get gs)
  mapped_fills get broken [] all = tt
  mapped_fills get broken (g ∷ gs) all = (all.0, mapped_fills get broken gs all.1)

  pub ifs_fills : (branches : List Guarded) (other : Option (List Stating)) → AllByRecursion (λ (g : Guarded). PartFills (branch_broken messages queries slots) g.branch) branches → Where (AllByRecursion StateFills) other → KindFills (ifs branches other)
  ifs_fills branches other fills others scope tables kept d =
      let parts = map (λ (g : Guarded). g.branch) branches in
      let firsts = each parts scope tables in
      let last = block_if other scope firsts.1 in
      let k = subst Kept (kind_broken-If messages queries slots firsts.0 last.0) kept in
      let (front, back) = both_none (map (branch_broken messages queries slots) firsts.0) (map (item_breaks messages queries slots) last.0) k.blocks in
      block_if_fills other others scope firsts.1 back (each_fills (branch_broken messages queries slots) parts (mapped_fills (λ (g : Guarded). g.branch) (branch_broken messages queries slots) branches fills) scope tables front d)

  pub loop_fills : (x : Expr) (ss : List Stating) → AllByRecursion StateFills ss → KindFills (loop x ss)
  loop_fills x ss fills scope tables kept d =
      let cond = (meant x).outside scope tables in
      let items = block ss scope cond.1 in
      let k = subst Kept (kind_broken-While messages queries slots cond.0 items.0) kept in
      block_fills ss fills scope cond.1 k.blocks ((expr_fills messages queries slots x).by_typing scope tables (of_test is_bool (typing kn queries cond.0) k.rule) d)

  pub for_each_fills : (name : List ℕ) (x : Expr) (ss : List Stating) → AllByRecursion StateFills ss → KindFills (for_each name x ss)
  for_each_fills name x ss fills scope tables kept d =
      let over = (meant x).outside scope tables in
      let items = bound (name ∷ []) ss scope over.1 in
      let k = subst Kept (kind_broken-For messages queries slots (next over.1) over.0 items.0) kept in
      let (ty, is, h) = holds_parts (given (typing kn queries over.0).type_ element_of) (has_type messages queries slots (next over.1)) k.rule in
      let (set, has, of) = given_parts (typing kn queries over.0).type_ element_of ty is in
      let here : Knows (next over.1) = ap is_some (is_typed_parts (slot_type kn (next over.1)) ty h) in
      bound_fills (name ∷ []) ss fills scope over.1 (here, tt) k.blocks ((expr_fills messages queries slots x).by_typing scope tables (Typed set has) d)

  -- the lines in the block of a timeout, if there is one
  abbrev timeout_lines : Option (List Item) → List (List ℕ)
  timeout_lines timeout = unwrap_or (option_map (map (item_breaks messages queries slots)) timeout) []

  timeout_fills : (timeout : Option (List Stating)) → Where (AllByRecursion StateFills) timeout → PartFills (λ t. all (timeout_lines t)) (timeout_block timeout)
  timeout_fills None fills scope tables e d = d
  timeout_fills (Some ss) fills scope tables e d = block_fills ss fills scope tables e d

  pub awaits_fills : (alts : List Guarded) (timeout : Option (List Stating)) (label : Option ℕ) → AllByRecursion (λ (g : Guarded). PartFills (alt_broken messages queries slots) g.alt) alts
      → Where (AllByRecursion StateFills) timeout → KindFills (awaits alts timeout label)
  awaits_fills alts timeout label fills others scope tables kept d =
      let parts = map (λ (g : Guarded). g.alt) alts in
      let all_ = each parts scope tables in
      let last = timeout_block timeout scope all_.1 in
      let k = subst Kept (kind_broken-Await messages queries slots all_.0 last.0 label) kept in
      let (front, back) = both_none (map (alt_broken messages queries slots) all_.0) (timeout_lines last.0) k.blocks in
      timeout_fills timeout others scope all_.1 back (each_fills (alt_broken messages queries slots) parts (mapped_fills (λ (g : Guarded). g.alt) (alt_broken messages queries slots) alts fills) scope tables front d)

  pub await_one_fills : (line : ℕ) (x : Expr) → StateFills (await_one line x)
  await_one_fills line x label scope tables e d =
      let alt = as_alt line x [] scope tables in
      let k = subst Kept (kind_broken-Await messages queries slots (alt.0 ∷ []) None label) (kept_kind line (it.Await (alt.0 ∷ []) None label) e) in
      alt_fills line x [] tt scope tables (no_left (alt_broken messages queries slots alt.0) [] k.blocks) d
