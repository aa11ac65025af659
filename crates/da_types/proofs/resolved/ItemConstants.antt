-- What statements become: their constants are values that there are, what they bind is the row of a `some`, and slots that
-- are bound at once differ.
use Rattle.std.specs.Prelude.{◌≡◌, refl, ℕ, suc, Bool, true, false, List, [], ◌∷◌, ◌++◌, map, length, Option, Some, None, option_to_list, bytes_eq}
use Rattle.std.specs.List.{AllByRecursion}
use Rattle.std.proofs.Common.{sym, subst, inl, inr, ⊎_elim, cond}
use Rattle.da_values.specs.Sets.{Has, Distinct}
use Rattle.da_values.proofs.Members.{of_append, of_map}
use Rattle.da_lang.specs.declared.program.Alt.{Alt}
use Rattle.da_lang.specs.declared.program.BindArg.{BindArg}
use Rattle.da_lang.specs.declared.program.Item.{Item}
use Rattle.da_lang.specs.declared.program.ItemKind.{ItemKind, out-ItemKind}
use Rattle.da_lang.specs.declared.program.ItemKind.TheOpen.{ItemKind-F, Item-F, RBranch-F, Alt-F}
use Rattle.da_lang.specs.declared.program.ItemKind.TheVariants as it
use Rattle.da_lang.specs.declared.program.ItemKind.TheViews.{out-Alt, out-RBranch, out-roll-Alt, out-roll-Item, out-roll-RBranch}
use Rattle.da_lang.specs.declared.program.Program.{Program}
use Rattle.da_lang.specs.declared.program.RBranch.{RBranch}
use Rattle.da_lang.specs.declared.program.RExpr.{RExpr}
use Rattle.da_lang.specs.declared.query.Cond.{Cond}
use Rattle.da_lang.specs.declared.query.Query.{Query}
use Rattle.da_lang.specs.declared.tree.Expr.{Expr}
use Rattle.da_lang.specs.BodyMeaning.{Becomes, AfterStmt, Copy, Stating, next, fresh, named_slots, untyped, found_number, item_at, after_label, block, block_if, each, states, with_expr, with_exprs, bound, as_branch, as_alt, timeout_block}
use Rattle.da_lang.specs.ExprMeaning.{Meaning, InSlot, Tables, numbered, meant}
use Rattle.da_lang.specs.ExprNames.{found_names}
use Rattle.da_lang.specs.Scopes.{Scope, look}
use Rattle.da_lang.specs.Shaped.{Within, here, deeper, blocks_in}
use Rattle.da_lang.specs.Turns.{kind_of, slot_of_arg}
use Rattle.da_lang.proofs.CondInduction.{Where}
use Rattle.da_types.specs.Constants.{exprs_in}
use Rattle.da_types.specs.QueryNotes.{AreThere, cond_notes}
use Rattle.da_types.specs.Sound.{Bound, IsSome, awaited, bound_by, slots_bound_by}
use Rattle.da_types.proofs.resolved.ConstantsFill.{GoodExpr, GoodTables, GoodScope, MeansGood, GoodMeant, Grows, Onward, grown_on, onward, stays}
use Rattle.da_types.proofs.resolved.FoundSome.{finds_some, range_distinct}

pub all_front : {A : Type 0} (P : A → Type 0) (xs ys : List A) → AllByRecursion P (xs ++ ys) → AllByRecursion P xs
all_front P [] ys each = tt
all_front P (x ∷ xs) ys each = (each.0, all_front P xs ys each.1)

pub all_back : {A : Type 0} (P : A → Type 0) (xs ys : List A) → AllByRecursion P (xs ++ ys) → AllByRecursion P ys
all_back P [] ys each = each
all_back P (x ∷ xs) ys each = all_back P xs ys each.1

pub all_has : {A : Type 0} (P : A → Type 0) (xs : List A) (x : A) → AllByRecursion P xs → Has xs x → P x
all_has P [] x each h = absurd h
all_has P (y ∷ xs) x each (inl is) = subst P (sym is) each.0
all_has P (y ∷ xs) x each (inr h) = all_has P xs x each.1 h

module _ (p : Program) (qs : List Query) where
  -- of a statement itself
  pub record GoodRule (y : ItemKind-F ItemKind Alt Item RBranch) : Type 0 where
    pub exprs : (x : RExpr) → Has (exprs_in y) x → GoodExpr p x
    pub finds : (n : ℕ) (binds : List ℕ) → Has (bound_by y) (Some n, binds) → IsSome qs n
    pub distinct : (slots : List ℕ) → Has (slots_bound_by y) slots → Distinct slots
    pub waits : (b : Cond) → Has (awaited y) b → AreThere p (cond_notes b)

  abbrev pub GoodItems : List Item → Type 0
  GoodItems items = (i : Item) → Within i items → GoodRule (kind_of i)

  pub record GoodLayer (y : ItemKind-F ItemKind Alt Item RBranch) : Type 0 where
    pub rule : GoodRule y
    pub blocks : (body : List Item) → Has (blocks_in y) body → GoodItems body

  abbrev pub GoodItem : Item → Type 0
  GoodItem i = GoodLayer (kind_of i)

  abbrev pub GoodKind : ItemKind → Type 0
  GoodKind k = GoodLayer (out-ItemKind k)

  abbrev pub GoodBlock : List Item → Type 0
  GoodBlock items = AllByRecursion GoodItem items

  pub block_items : (items : List Item) → GoodBlock items → GoodItems items
  block_items items each i (here h) = (all_has GoodItem items i each h).rule
  block_items items each i (deeper j body h b w) = (all_has GoodItem items j each h).blocks body b i w

  -- where the last queries are among these, so were the earlier ones
  abbrev pub Ends : Tables → Type 0
  Ends tables = Grows tables.queries qs

  pub ends : (tables after : Tables) → Onward p tables after → Ends after → Ends tables
  ends tables after step last = grown_on tables.queries after.queries qs step.grows last

  abbrev pub PartGood : {A : Type 0} → (A → Type 0) → Becomes A → Type 0
  PartGood P f = (scope : Scope Meaning) (tables : Tables) → GoodScope p scope → GoodTables p tables → (Ends (f scope tables).1 → P (f scope tables).0) × Onward p tables (f scope tables).1

  pub record Stated (tables : Tables) (b : AfterStmt) : Type 0 where
    pub item : Ends b.tables → GoodItem b.item
    pub scope : GoodScope p b.scope
    pub onward : Onward p tables b.tables

  abbrev pub StateGood : Stating → Type 0
  StateGood f = (label : Option ℕ) (scope : Scope Meaning) (tables : Tables) → GoodScope p scope → GoodTables p tables → Stated tables (f label scope tables)

  abbrev pub CopyGood : Copy → Type 0
  CopyGood copy = (name : List ℕ) (args : List RExpr) (tables : Tables) → AllByRecursion (GoodExpr p) args → GoodTables p tables → (Ends (copy.call name args tables).1 → GoodKind (copy.call name args tables).0) × Onward p tables (copy.call name args tables).1

  pub kind_item : (line : ℕ) (k : ItemKind) → GoodKind k → GoodItem (item_at line k)
  kind_item line k good = subst (λ (z : Item-F ItemKind Alt Item RBranch). GoodKind z.kind) (sym (out-roll-Item (record { line = line; kind = k }))) good

  pub kind_states : (line : ℕ) (f : Becomes ItemKind) → PartGood GoodKind f → StateGood (states line f)
  kind_states line f good label scope tables names d = let found = good scope tables names d in record { item = λ e. kind_item line (f scope tables).0 (found.0 e); scope = names; onward = found.1 }

  -- names of slots
  pub named_good : (first : ℕ) (names : List (List ℕ)) (scope : Scope Meaning) → GoodScope p scope → GoodScope p (numbered InSlot first names scope)
  named_good first [] scope good = good
  named_good first (name ∷ names) scope good = named_good (suc first) names ((name, InSlot first) ∷ scope) (λ other. go other (bytes_eq name other))
    where
      go : (other : List ℕ) (b : Bool) → MeansGood p (cond b (Some (InSlot first)) (look scope other))
      go other true = tt
      go other false = good other

  -- one layer
  one_expr : (x : RExpr) → GoodExpr p x → (y : RExpr) → Has (x ∷ []) y → GoodExpr p y
  one_expr x good y (inl is) = subst (GoodExpr p) (sym is) good
  one_expr x good y (inr h) = absurd h

  one_block : (items : List Item) → GoodBlock items → (body : List Item) → Has (items ∷ []) body → GoodItems body
  one_block items good body (inl is) = subst GoodItems (sym is) (block_items items good)
  one_block items good body (inr h) = absurd h

  -- a statement that binds nothing
  plain : (y : ItemKind-F ItemKind Alt Item RBranch) → bound_by y ≡ [] → slots_bound_by y ≡ [] → awaited y ≡ [] → ((x : RExpr) → Has (exprs_in y) x → GoodExpr p x) → GoodRule y
  plain y no_rows no_slots no_conds good = record {
    exprs = good;
    finds = λ n binds h. absurd (subst (λ (z : List Bound). Has z (Some n, binds)) no_rows h);
    distinct = λ slots h. absurd (subst (λ z. Has z slots) no_slots h);
    waits = λ b h. absurd (subst (λ z. Has z b) no_conds h);
  }

  pub assign_good : (slot : ℕ) (x : RExpr) → GoodExpr p x → GoodKind (it.Assign slot x)
  assign_good slot x good = subst GoodLayer (sym (it.outs-Assign slot x)) (record { rule = plain (ItemKind-F.Assign slot x) refl refl refl (one_expr x good); blocks = λ body h. absurd h })

  pub add_good : (slot : ℕ) (x : RExpr) → GoodExpr p x → GoodKind (it.Add slot x)
  add_good slot x good = subst GoodLayer (sym (it.outs-Add slot x)) (record { rule = plain (ItemKind-F.Add slot x) refl refl refl (one_expr x good); blocks = λ body h. absurd h })

  pub del_good : (slot : ℕ) (x : RExpr) → GoodExpr p x → GoodKind (it.Del slot x)
  del_good slot x good = subst GoodLayer (sym (it.outs-Del slot x)) (record { rule = plain (ItemKind-F.Del slot x) refl refl refl (one_expr x good); blocks = λ body h. absurd h })

  pub output_good : (x : RExpr) → GoodExpr p x → GoodKind (it.Output x)
  output_good x good = subst GoodLayer (sym (it.outs-Output x)) (record { rule = plain (ItemKind-F.Output x) refl refl refl (one_expr x good); blocks = λ body h. absurd h })

  pub send_good : (x y : RExpr) → GoodExpr p x → GoodExpr p y → GoodKind (it.Send x y)
  send_good x y good also =
      subst GoodLayer (sym (it.outs-Send x y)) (record {
        rule = plain (ItemKind-F.Send x y) refl refl refl (λ z h. ⊎_elim (λ is. subst (GoodExpr p) (sym is) good) (one_expr y also z) h);
        blocks = λ body h. absurd h;
      })

  pub pass_good : GoodKind it.Pass
  pass_good = subst GoodLayer (sym it.outs-Pass) (record { rule = plain ItemKind-F.Pass refl refl refl (λ x h. absurd h); blocks = λ body h. absurd h })

  pub label_good : (l : ℕ) → GoodKind (it.Label l)
  label_good l = subst GoodLayer (sym (it.outs-Label l)) (record { rule = plain (ItemKind-F.Label l) refl refl refl (λ x h. absurd h); blocks = λ body h. absurd h })

  pub while_good : (x : RExpr) (body : List Item) → GoodExpr p x → GoodBlock body → GoodKind (it.While x body)
  while_good x body good each = subst GoodLayer (sym (it.outs-While x body)) (record { rule = plain (ItemKind-F.While x body) refl refl refl (one_expr x good); blocks = one_block body each })

  pub for_good : (slot : ℕ) (x : RExpr) (body : List Item) → GoodExpr p x → GoodBlock body → GoodKind (it.For slot x body)
  for_good slot x body good each = subst GoodLayer (sym (it.outs-For slot x body)) (record { rule = plain (ItemKind-F.For slot x body) refl refl refl (one_expr x good); blocks = one_block body each })

  -- branches and alternatives
  abbrev pub FindsSome : Option ℕ → Type 0
  FindsSome found = (n : ℕ) → found ≡ Some n → IsSome qs n

  pub record GoodBranch (b : RBranch) : Type 0 where
    pub cond : GoodExpr p (out-RBranch b).cond
    pub finds : FindsSome (out-RBranch b).found
    pub distinct : Distinct (out-RBranch b).binds
    pub body : GoodBlock (out-RBranch b).body

  pub record GoodAlt (a : Alt) : Type 0 where
    pub waits : AreThere p (cond_notes (out-Alt a).cond)
    pub finds : FindsSome (out-Alt a).found
    pub distinct : Distinct (out-Alt a).binds
    pub body : GoodBlock (out-Alt a).body

  -- each of what statements are made of
  of_parts : {A B : Type 0} (P : A → Type 0) (Q : B → Type 0) (f : A → B) (xs : List A) → AllByRecursion P xs → ((x : A) → P x → Q (f x)) → (y : B) → Has (map f xs) y → Q y
  of_parts P Q f xs each go y h = let (x, has, is) = of_map f xs y h in subst Q (sym is) (go x (all_has P xs x each has))

  abbrev FindsBound : Bound → Type 0
  FindsBound found = FindsSome found.0

  pub if_good : (bs : List RBranch) (other : List Item) → AllByRecursion GoodBranch bs → GoodBlock other → GoodKind (it.If bs other)
  if_good bs other each last = subst GoodLayer (sym (it.outs-If bs other)) (record {
    rule = record {
      exprs = of_parts GoodBranch (GoodExpr p) (λ b. (out-RBranch b).cond) bs each (λ b good. good.cond);
      finds = λ n binds h. of_parts GoodBranch FindsBound (λ b. ((out-RBranch b).found, (out-RBranch b).binds)) bs each (λ b good. good.finds) (Some n, binds) h n refl;
      distinct = of_parts GoodBranch Distinct (λ b. (out-RBranch b).binds) bs each (λ b good. good.distinct);
      waits = λ b h. absurd h;
    };
    blocks = λ body h. ⊎_elim (of_parts GoodBranch GoodItems (λ b. (out-RBranch b).body) bs each (λ b good. block_items (out-RBranch b).body good.body) body) (one_block other last body) (of_append (map (λ b. (out-RBranch b).body) bs) (other ∷ []) body h);
  })

  timeout_items : (timeout : Option (List Item)) → Where GoodBlock timeout → (body : List Item) → Has (option_to_list timeout) body → GoodItems body
  timeout_items None good body h = absurd h
  timeout_items (Some items) good body h = one_block items good body h

  pub await_good : (alts : List Alt) (timeout : Option (List Item)) (label : Option ℕ) → AllByRecursion GoodAlt alts → Where GoodBlock timeout → GoodKind (it.Await alts timeout label)
  await_good alts timeout label each last = subst GoodLayer (sym (it.outs-Await alts timeout label)) (record {
    rule = record {
      exprs = λ x h. absurd h;
      finds = λ n binds h. of_parts GoodAlt FindsBound (λ a. ((out-Alt a).found, (out-Alt a).binds)) alts each (λ a good. good.finds) (Some n, binds) h n refl;
      distinct = of_parts GoodAlt Distinct (λ a. (out-Alt a).binds) alts each (λ a good. good.distinct);
      waits = of_parts GoodAlt (λ b. AreThere p (cond_notes b)) (λ a. (out-Alt a).cond) alts each (λ a good. good.waits);
    };
    blocks = λ body h. ⊎_elim (of_parts GoodAlt GoodItems (λ a. (out-Alt a).body) alts each (λ a good. block_items (out-Alt a).body good.body) body) (timeout_items timeout last body) (of_append (map (λ a. (out-Alt a).body) alts) (option_to_list timeout) body h);
  })

  pub call_good : (args : List BindArg) (body : List Item) → AllByRecursion (λ (a : BindArg). GoodExpr p a.value) args → Distinct (map slot_of_arg args) → GoodBlock body → GoodKind (it.Call args body)
  call_good args body fine differ each = subst GoodLayer (sym (it.outs-Call args body)) (record {
    rule = record {
      exprs = of_parts (λ (a : BindArg). GoodExpr p a.value) (GoodExpr p) (λ (a : BindArg). a.value) args fine (λ a good. good);
      finds = λ n binds h. absurd h;
      distinct = λ slots h. ⊎_elim (λ is. subst Distinct (sym is) differ) (λ no. absurd no) h;
      waits = λ b h. absurd h;
    };
    blocks = one_block body each;
  })

  -- what statements become
  pub expr_part : (make : RExpr → ItemKind) (x : Expr) → ((e : RExpr) → GoodExpr p e → GoodKind (make e)) → GoodMeant p (meant x) → PartGood GoodKind (with_expr make x)
  expr_part make x go good scope tables names d = let found = good.of_outside scope tables names d in ((λ e. go ((meant x).outside scope tables).0 found.0), found.1)

  pub exprs_part : (make : RExpr → RExpr → ItemKind) (x y : Expr) → ((e f : RExpr) → GoodExpr p e → GoodExpr p f → GoodKind (make e f)) → GoodMeant p (meant x) → GoodMeant p (meant y) → PartGood GoodKind (with_exprs make x y)
  exprs_part make x y go good also scope tables names d =
      let first = (meant x).outside scope tables in
      let second = (meant y).outside scope first.1 in
      let one = good.of_outside scope tables names d in
      let two = also.of_outside scope first.1 names one.1.good in
      ((λ e. go first.0 second.0 one.0 two.0), onward p tables first.1 second.1 one.1 two.1)

  after_good : (label : Option ℕ) (ss : List Stating) → AllByRecursion StateGood ss → PartGood GoodBlock (after_label label ss)
  after_good label [] each scope tables names d = ((λ e. tt), stays p tables d)
  after_good label (s ∷ ss) each scope tables names d =
      let first = s label scope tables in
      let last = (after_label first.label ss first.scope first.tables).1 in
      let one = each.0 label scope tables names d in
      let others = after_good first.label ss each.1 first.scope first.tables one.scope one.onward.good in
      ((λ e. (one.item (ends first.tables last others.1 e), others.0 e)), onward p tables first.tables last one.onward others.1)

  pub block_good : (ss : List Stating) → AllByRecursion StateGood ss → PartGood GoodBlock (block ss)
  block_good = after_good None

  pub block_if_good : (other : Option (List Stating)) → Where (AllByRecursion StateGood) other → PartGood GoodBlock (block_if other)
  block_if_good None each scope tables names d = ((λ e. tt), stays p tables d)
  block_if_good (Some ss) each scope tables names d = block_good ss each scope tables names d

  pub timeout_good : (timeout : Option (List Stating)) → Where (AllByRecursion StateGood) timeout → PartGood (Where GoodBlock) (timeout_block timeout)
  timeout_good None each scope tables names d = ((λ e. tt), stays p tables d)
  timeout_good (Some ss) each scope tables names d = block_good ss each scope tables names d

  pub each_good : {A : Type 0} (P : A → Type 0) (parts : List (Becomes A)) → AllByRecursion (PartGood P) parts → PartGood (AllByRecursion P) (each parts)
  each_good P [] all scope tables names d = ((λ e. tt), stays p tables d)
  each_good P (f ∷ parts) all scope tables names d =
      let mid = (f scope tables).1 in
      let last = (each parts scope mid).1 in
      let one = all.0 scope tables names d in
      let others = each_good P parts all.1 scope mid names one.1.good in
      ((λ e. (one.0 (ends mid last others.1 e), others.0 e)), onward p tables mid last one.1 others.1)

  pub bound_good : (names : List (List ℕ)) (ss : List Stating) → AllByRecursion StateGood ss → PartGood GoodBlock (bound names ss)
  bound_good names ss each scope tables good d =
      let found = block_good ss each (named_slots names tables scope) (untyped names tables) (named_good (next tables) names scope good) d in
      (found.0, record { good = found.1.good; grows = found.1.grows })

  -- the query of a condition that is a `some`
  found_some : (x : Expr) (scope : Scope Meaning) (tables : Tables) → Ends ((meant x).outside scope tables).1 → FindsSome (found_number x tables)
  found_some x scope tables last n is = finds_some qs x scope tables last n is

  pub branch_good : (line : ℕ) (x : Expr) (ss : List Stating) → GoodMeant p (meant x) → AllByRecursion StateGood ss → PartGood GoodBranch (as_branch line x ss)
  branch_good line x ss good each scope tables names d =
      let cond_ = (meant x).outside scope tables in
      let one = good.of_outside scope tables names d in
      let items = bound (found_names x) ss scope cond_.1 in
      let found = bound_good (found_names x) ss each scope cond_.1 names one.1.good in
      let made : RBranch-F ItemKind Alt Item RBranch = record { cond = cond_.0; found = found_number x tables; binds = fresh cond_.1 (length (found_names x)); body = items.0; line = line } in (
        (λ e.
            let out = out-roll-RBranch made in
            record {
              cond = subst (λ (z : RBranch-F ItemKind Alt Item RBranch). GoodExpr p z.cond) (sym out) one.0;
              finds = subst (λ (z : RBranch-F ItemKind Alt Item RBranch). FindsSome z.found) (sym out) (found_some x scope tables (ends cond_.1 items.1 found.1 e));
              distinct = subst (λ (z : RBranch-F ItemKind Alt Item RBranch). Distinct z.binds) (sym out) (range_distinct (next cond_.1) (length (found_names x)));
              body = subst (λ (z : RBranch-F ItemKind Alt Item RBranch). GoodBlock z.body) (sym out) (found.0 e);
            }),
        onward p tables cond_.1 items.1 one.1 found.1,
      )

  pub alt_good : (line : ℕ) (x : Expr) (ss : List Stating) → GoodMeant p (meant x) → AllByRecursion StateGood ss → PartGood GoodAlt (as_alt line x ss)
  alt_good line x ss good each scope tables names d =
      let asked = (meant x).outside scope tables in
      let one = good.of_outside scope tables names d in
      let items = bound (found_names x) ss scope asked.1 in
      let found = bound_good (found_names x) ss each scope asked.1 names one.1.good in
      let made : Alt-F ItemKind Alt Item RBranch = record { cond = (meant x).condition scope; found = found_number x tables; binds = fresh asked.1 (length (found_names x)); body = items.0; line = line } in (
        (λ e.
            let out = out-roll-Alt made in
            record {
              waits = subst (λ (z : Alt-F ItemKind Alt Item RBranch). AreThere p (cond_notes z.cond)) (sym out) (good.of_condition scope);
              finds = subst (λ (z : Alt-F ItemKind Alt Item RBranch). FindsSome z.found) (sym out) (found_some x scope tables (ends asked.1 items.1 found.1 e));
              distinct = subst (λ (z : Alt-F ItemKind Alt Item RBranch). Distinct z.binds) (sym out) (range_distinct (next asked.1) (length (found_names x)));
              body = subst (λ (z : Alt-F ItemKind Alt Item RBranch). GoodBlock z.body) (sym out) (found.0 e);
            }),
        onward p tables asked.1 items.1 one.1 found.1,
      )
