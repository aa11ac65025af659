-- Every statement of a tree becomes a good one, where its expressions and the methods that it calls are good.
use Rattle.std.specs.Prelude.{◌≡◌, refl, ℕ, zero, suc, List, [], ◌∷◌, map, length, zip, Option, Some, None, option_map, option_to_list, Bool, find}
use Rattle.std.specs.List.{AllByRecursion}
use Rattle.std.proofs.Common.{sym, subst, inl, inr}
use Rattle.da_lang.specs.declared.program.BindArg.{BindArg}
use Rattle.da_lang.specs.declared.program.ItemKind.{ItemKind}
use Rattle.da_lang.specs.declared.program.ItemKind.TheVariants as it
use Rattle.da_lang.specs.declared.program.Program.{Program}
use Rattle.da_lang.specs.declared.program.RExpr.{RExpr}
use Rattle.da_lang.specs.declared.query.Query.{Query}
use Rattle.da_lang.specs.declared.tree.Branch.{Branch, roll-Branch}
use Rattle.da_lang.specs.declared.tree.ClassTree.{ClassTree}
use Rattle.da_lang.specs.declared.tree.Expr.{Expr}
use Rattle.da_lang.specs.declared.tree.Stmt.{Stmt}
use Rattle.da_lang.specs.declared.tree.Stmt.TheVariants as stmt
use Rattle.da_lang.specs.declared.tree.TimeoutTree.{TimeoutTree, roll-TimeoutTree}
use Rattle.da_values.specs.Sets.{Has, Distinct}
use Rattle.da_lang.specs.BodyMeaning.{Becomes, Copy, Guarded, Stating, next, fresh, slot_of, block, block_if, each, states, with_expr, bound, as_alt, ifs, loop, for_each, await_one, timeout_block, awaits, labels, calling, stating, guarding, waiting, body_with, bind_arg, with_params, param_slots, class_slots, copy_of, copies}
use Rattle.da_lang.specs.ClassParts.{Body, bodies, is_method, method_of, params_if, stmts_if, variables}
use Rattle.da_lang.specs.Deeds.{Deed, all, all_if, deeds, deeds_of, deeds_of_branch, deeds_of_timeout}
use Rattle.da_lang.specs.ExprMeaning.{Tables, meant, all_outside}
use Rattle.da_lang.specs.ExprNames.{found_names}
use Rattle.da_lang.specs.Scopes.{look}
use Rattle.da_lang.specs.Turns.{slot_of_arg}
use Rattle.da_lang.proofs.CondInduction.{Where}
use Rattle.da_lang.proofs.DeedsAt.{deeds_of-Assign, deeds_of-Add, deeds_of-Del, deeds_of-Send, deeds_of-Output, deeds_of-Call, deeds_of-If, deeds_of-While, deeds_of-For, deeds_of-AwaitOne, deeds_of-Await, deeds_of_branch-of, deeds_of_timeout-of}
use Rattle.da_lang.proofs.StatingAt.{stating-Assign, stating-Add, stating-Del, stating-Send, stating-Output, stating-Pass, stating-Label, stating-Call, stating-If, stating-While, stating-For, stating-AwaitOne, stating-Await, guarding-of, waiting-of}
use Rattle.da_lang.proofs.StmtInduction.{StmtCases, stmt_induction}
use Rattle.da_types.proofs.resolved.ClassesFill.{find_has}
use Rattle.da_types.proofs.resolved.ConstantsFill.{GoodExpr, GoodTables, GoodScope, GoodMeant, Onward, OutsideIs, all_outside_good, onward, stays}
use Rattle.da_types.proofs.resolved.FoundSome.{range_distinct}
use Rattle.da_types.proofs.resolved.ItemConstants.{Ends, ends, PartGood, StateGood, CopyGood, GoodKind, GoodBlock, GoodBranch, GoodAlt, all_front, all_back, kind_states, kind_item, named_good, assign_good, add_good, del_good, output_good, send_good, pass_good, label_good, while_good, for_good, if_good, await_good, call_good, expr_part, exprs_part, block_good, block_if_good, timeout_good, each_good, bound_good, branch_good, alt_good}
use Rattle.da_types.proofs.resolved.StatementsFill.{deeds-all}

module _ (p : Program) where
  abbrev pub SaysGood : Expr → Type 0
  SaysGood x = GoodMeant p (meant x)

  abbrev pub GoodDeed : Deed → Type 0
  GoodDeed d = AllByRecursion SaysGood d.says

  abbrev pub GoodDeeds : List Deed → Type 0
  GoodDeeds ds = AllByRecursion GoodDeed ds

  -- all that the bodies of a class say is good
  abbrev pub GoodBodies : ClassTree → Type 0
  GoodBodies c = (b : Body) → Has (bodies c) b → GoodDeeds (deeds b.stmts)

module _ (p : Program) (qs : List Query) where
  mapped : {A B : Type 0} (P : B → Type 0) (f : A → B) (xs : List A) → AllByRecursion (λ x. P (f x)) xs → AllByRecursion P (map f xs)
  mapped P f [] each = tt
  mapped P f (x ∷ xs) each = (each.0, mapped P f xs each.1)

  each_outside : (xs : List Expr) → AllByRecursion (SaysGood p) xs → AllByRecursion (OutsideIs p) (map meant xs)
  each_outside [] each = tt
  each_outside (x ∷ xs) each = (each.0.of_outside, each_outside xs each.1)

  module _ (copy : Copy) (copied : CopyGood p qs copy) where
    abbrev StmtGood : Stmt → Type 0
    StmtGood s = GoodDeeds p (deeds_of s) → StateGood p qs (stating copy s)

    abbrev AsBranch : Guarded → Type 0
    AsBranch g = PartGood p qs (GoodBranch p qs) g.branch

    abbrev AsAlt : Guarded → Type 0
    AsAlt g = PartGood p qs (GoodAlt p qs) g.alt

    abbrev BranchIs : Branch → Type 0
    BranchIs b = GoodDeeds p (deeds_of_branch b) → AsBranch (guarding copy b) × AsAlt (guarding copy b)

    abbrev TimeoutIs : TimeoutTree → Type 0
    TimeoutIs t = GoodDeeds p (deeds_of_timeout t) → AllByRecursion (StateGood p qs) (waiting copy t)

    as_kind : (s : Stmt) (line : ℕ) (becomes : Becomes ItemKind) → stating copy s ≡ states line becomes → PartGood p qs (GoodKind p qs) becomes → StateGood p qs (stating copy s)
    as_kind s line becomes is good = subst (StateGood p qs) (sym is) (kind_states p qs line becomes good)

    changing_part : (make : ℕ → RExpr → ItemKind) (name : List ℕ) (x : Expr) → ((slot : ℕ) → PartGood p qs (GoodKind p qs) (with_expr (make slot) x)) → PartGood p qs (GoodKind p qs) (λ scope. with_expr (make (slot_of (look scope name))) x scope)
    changing_part make name x good scope tables names d = good (slot_of (look scope name)) scope tables names d

    all_state : (ss : List Stmt) → AllByRecursion StmtGood ss → GoodDeeds p (all (map deeds_of ss)) → AllByRecursion (StateGood p qs) (map (stating copy) ss)
    all_state [] each ds = tt
    all_state (s ∷ ss) each ds = (each.0 (all_front (GoodDeed p) (deeds_of s) (all (map deeds_of ss)) ds), all_state ss each.1 (all_back (GoodDeed p) (deeds_of s) (all (map deeds_of ss)) ds))

    other_states : (other : Option (List Stmt)) → Where (AllByRecursion StmtGood) other → GoodDeeds p (all_if (option_map (map deeds_of) other)) → Where (AllByRecursion (StateGood p qs)) (option_map (map (stating copy)) other)
    other_states None each ds = tt
    other_states (Some ss) each ds = all_state ss each ds

    all_guarded : (bs : List Branch) → AllByRecursion BranchIs bs → GoodDeeds p (all (map deeds_of_branch bs)) → AllByRecursion AsBranch (map (guarding copy) bs) × AllByRecursion AsAlt (map (guarding copy) bs)
    all_guarded [] each ds = (tt, tt)
    all_guarded (b ∷ bs) each ds =
        let first = each.0 (all_front (GoodDeed p) (deeds_of_branch b) (all (map deeds_of_branch bs)) ds) in
        let others = all_guarded bs each.1 (all_back (GoodDeed p) (deeds_of_branch b) (all (map deeds_of_branch bs)) ds) in
        ((first.0, others.0), (first.1, others.1))

    call_part : (name : List ℕ) (xs : List Expr) → AllByRecursion (SaysGood p) xs → PartGood p qs (GoodKind p qs) (calling copy name xs)
    call_part name xs good scope tables names d =
        let args = all_outside (map meant xs) scope tables in
        let found = all_outside_good p (map meant xs) (each_outside xs good) scope tables names d in
        let body = copied name args.0 args.1 found.0 found.1.good in
        (body.0, onward p tables args.1 (copy.call name args.0 args.1).1 found.1 body.1)

    ifs_part : (gs : List Guarded) (other : Option (List Stating)) → AllByRecursion AsBranch gs → Where (AllByRecursion (StateGood p qs)) other → PartGood p qs (GoodKind p qs) (ifs gs other)
    ifs_part gs other good last scope tables names d =
        let parts = map (λ (g : Guarded). g.branch) gs in
        let firsts = each parts scope tables in
        let one = each_good p qs (GoodBranch p qs) parts (mapped (PartGood p qs (GoodBranch p qs)) (λ (g : Guarded). g.branch) gs good) scope tables names d in
        let others = block_if other scope firsts.1 in
        let two = block_if_good p qs other last scope firsts.1 names one.1.good in
        ((λ e. if_good p qs firsts.0 others.0 (one.0 (ends p qs firsts.1 others.1 two.1 e)) (two.0 e)), onward p tables firsts.1 others.1 one.1 two.1)

    awaits_part : (gs : List Guarded) (timeout : Option (List Stating)) (label : Option ℕ) → AllByRecursion AsAlt gs → Where (AllByRecursion (StateGood p qs)) timeout → PartGood p qs (GoodKind p qs) (awaits gs timeout label)
    awaits_part gs timeout label good last scope tables names d =
        let parts = map (λ (g : Guarded). g.alt) gs in
        let alts = each parts scope tables in
        let one = each_good p qs (GoodAlt p qs) parts (mapped (PartGood p qs (GoodAlt p qs)) (λ (g : Guarded). g.alt) gs good) scope tables names d in
        let others = timeout_block timeout scope alts.1 in
        let two = timeout_good p qs timeout last scope alts.1 names one.1.good in
        ((λ e. await_good p qs alts.0 others.0 label (one.0 (ends p qs alts.1 others.1 two.1 e)) (two.0 e)), onward p tables alts.1 others.1 one.1 two.1)

    loop_part : (x : Expr) (ss : List Stating) → SaysGood p x → AllByRecursion (StateGood p qs) ss → PartGood p qs (GoodKind p qs) (loop x ss)
    loop_part x ss good body scope tables names d =
        let first = (meant x).outside scope tables in
        let one = good.of_outside scope tables names d in
        let items = block ss scope first.1 in
        let two = block_good p qs ss body scope first.1 names one.1.good in
        ((λ e. while_good p qs first.0 items.0 one.0 (two.0 e)), onward p tables first.1 items.1 one.1 two.1)

    for_part : (name : List ℕ) (x : Expr) (ss : List Stating) → SaysGood p x → AllByRecursion (StateGood p qs) ss → PartGood p qs (GoodKind p qs) (for_each name x ss)
    for_part name x ss good body scope tables names d =
        let over = (meant x).outside scope tables in
        let one = good.of_outside scope tables names d in
        let items = bound (name ∷ []) ss scope over.1 in
        let two = bound_good p qs (name ∷ []) ss body scope over.1 names one.1.good in
        ((λ e. for_good p qs (next over.1) over.0 items.0 one.0 (two.0 e)), onward p tables over.1 items.1 one.1 two.1)

    await_one_good : (line : ℕ) (x : Expr) → SaysGood p x → StateGood p qs (await_one line x)
    await_one_good line x good label scope tables names d =
        let alt = as_alt line x [] scope tables in
        let one = alt_good p qs line x [] good tt scope tables names d in
        record { item = λ e. kind_item p qs line (it.Await (alt.0 ∷ []) None label) (await_good p qs (alt.0 ∷ []) None label (one.0 e, tt) tt); scope = named_good p qs (next tables) (found_names x) scope names; onward = one.1 }

    if_states : (bs : List Branch) (other : Option (List Stmt)) (line : ℕ) → AllByRecursion BranchIs bs → Where (AllByRecursion StmtGood) other → StmtGood (stmt.If bs other line)
    if_states bs other line good last ds =
        let conds = all (map deeds_of_branch bs) in
        let others = all_if (option_map (map deeds_of) other) in
        let known = subst (GoodDeeds p) (deeds_of-If bs other line) ds in
        as_kind _ line _ (stating-If copy bs other line) (ifs_part (map (guarding copy) bs) (option_map (map (stating copy)) other) (all_guarded bs good (all_front (GoodDeed p) conds others known.1)).0 (other_states other last (all_back (GoodDeed p) conds others known.1)))

    over_states : (over : Option TimeoutTree) → Where TimeoutIs over → GoodDeeds p (all (option_to_list (option_map deeds_of_timeout over))) → Where (AllByRecursion (StateGood p qs)) (option_map (waiting copy) over)
    over_states None good ds = tt
    over_states (Some t) good ds = good (all_front (GoodDeed p) (deeds_of_timeout t) [] ds)

    await_states : (bs : List Branch) (over : Option TimeoutTree) (line : ℕ) → AllByRecursion BranchIs bs → Where TimeoutIs over → StmtGood (stmt.Await bs over line)
    await_states bs over line good behind ds =
        let known = subst (GoodDeeds p) (deeds_of-Await bs over line) ds in
        let alts = all (map deeds_of_branch bs) in
        let last = all (option_to_list (option_map deeds_of_timeout over)) in
        let gs = map (guarding copy) bs in
        let timeout = option_map (waiting copy) over in
        subst (StateGood p qs) (sym (stating-Await copy bs over line)) (λ label. kind_states p qs line (awaits gs timeout label)
        (awaits_part gs timeout label (all_guarded bs good (all_front (GoodDeed p) alts last known.1)).1 (over_states over behind (all_back (GoodDeed p) alts last known.1))) label)

    branch_states : (x : Expr) (ss : List Stmt) (line : ℕ) → AllByRecursion StmtGood ss → BranchIs (roll-Branch (record { cond = x; body = ss; line = line }))
    branch_states x ss line good ds =
        let known = subst (GoodDeeds p) (deeds_of_branch-of x ss line) ds in
        let body = all_state ss good known.1 in
        subst (λ (g : Guarded). AsBranch g × AsAlt g) (sym (guarding-of copy x ss line)) (branch_good p qs line x (map (stating copy) ss) known.0.0 body, alt_good p qs line x (map (stating copy) ss) known.0.0 body)

    timeout_states : (ss : List Stmt) (line : ℕ) → AllByRecursion StmtGood ss → TimeoutIs (roll-TimeoutTree (record { body = ss; line = line }))
    timeout_states ss line good ds =
        let known = subst (GoodDeeds p) (deeds_of_timeout-of ss line) ds in
        subst (AllByRecursion (StateGood p qs)) (sym (waiting-of copy ss line)) (all_state ss good known.1)

    label_states : (name : List ℕ) (line : ℕ) → StateGood p qs (labels line (copy.number name))
    label_states name line label scope tables names d =
        record { item = λ e. kind_item p qs line (it.Label (copy.number name)) (label_good p qs (copy.number name)); scope = names; onward = stays p tables d }

    good_cases : StmtCases
    good_cases = record {
      Of_stmt = StmtGood;
      Of_branch = BranchIs;
      Of_timeout = TimeoutIs;
      assign = λ name x line ds. as_kind _ line _ (stating-Assign copy name x line) (changing_part it.Assign name x (λ slot. expr_part p qs (it.Assign slot) x (assign_good p qs slot) (subst (GoodDeeds p) (deeds_of-Assign name x line) ds).0.0));
      add = λ name x line ds. as_kind _ line _ (stating-Add copy name x line) (changing_part it.Add name x (λ slot. expr_part p qs (it.Add slot) x (add_good p qs slot) (subst (GoodDeeds p) (deeds_of-Add name x line) ds).0.0));
      delete = λ name x line ds. as_kind _ line _ (stating-Del copy name x line) (changing_part it.Del name x (λ slot. expr_part p qs (it.Del slot) x (del_good p qs slot) (subst (GoodDeeds p) (deeds_of-Del name x line) ds).0.0));
      send = λ x to line ds. (let known = subst (GoodDeeds p) (deeds_of-Send x to line) ds in as_kind _ line _ (stating-Send copy x to line) (exprs_part p qs it.Send x to (send_good p qs) known.0.0 known.0.1.0));
      output = λ x line ds. as_kind _ line _ (stating-Output copy x line) (expr_part p qs it.Output x (output_good p qs) (subst (GoodDeeds p) (deeds_of-Output x line) ds).0.0);
      pass = λ line ds. as_kind _ line _ (stating-Pass copy line) (λ scope tables names d. ((λ e. pass_good p qs), stays p tables d));
      label = λ name line ds. subst (StateGood p qs) (sym (stating-Label copy name line)) (label_states name line);
      call = λ name xs line ds. as_kind _ line _ (stating-Call copy name xs line) (call_part name xs (subst (GoodDeeds p) (deeds_of-Call name xs line) ds).0);
      conditional = if_states;
      loop = λ x body line good ds. (let known = subst (GoodDeeds p) (deeds_of-While x body line) ds in as_kind _ line _ (stating-While copy x body line) (loop_part x (map (stating copy) body) known.0.0 (all_state body good known.1)));
      each = λ name x body line good ds. (let known = subst (GoodDeeds p) (deeds_of-For name x body line) ds in as_kind _ line _ (stating-For copy name x body line) (for_part name x (map (stating copy) body) known.0.0 (all_state body good known.1)));
      await_one = λ x line ds. subst (StateGood p qs) (sym (stating-AwaitOne copy x line)) (await_one_good line x (subst (GoodDeeds p) (deeds_of-AwaitOne x line) ds).0.0);
      await = await_states;
      branch = branch_states;
      timeout = timeout_states;
    }

    stmt_good : (s : Stmt) → StmtGood s
    unfolding good_cases
    stmt_good = stmt_induction good_cases

    stmts_good : (ss : List Stmt) → AllByRecursion StmtGood ss
    stmts_good [] = tt
    stmts_good (s ∷ ss) = (stmt_good s, stmts_good ss)

    pub body_good : (ss : List Stmt) → GoodDeeds p (deeds ss) → PartGood p qs (GoodBlock p qs) (body_with copy ss)
    body_good ss ds = block_good p qs (map (stating copy) ss) (all_state ss (stmts_good ss) (subst (GoodDeeds p) (sym (deeds-all ss)) ds))

  -- copies of methods
  args_good : (ns : List ℕ) (args : List RExpr) → AllByRecursion (GoodExpr p) args → AllByRecursion (λ (a : BindArg). GoodExpr p a.value) (map bind_arg (zip ns args))
  args_good [] args each = tt
  args_good (n ∷ ns) [] each = tt
  args_good (n ∷ ns) (x ∷ args) each = (each.0, args_good ns args each.1)

  -- the slots of parameters differ
  slot_among : (ns : List ℕ) (args : List RExpr) (n : ℕ) → Has (map slot_of_arg (map bind_arg (zip ns args))) n → Has ns n
  slot_among [] args n h = absurd h
  slot_among (m ∷ ns) [] n h = absurd h
  slot_among (m ∷ ns) (x ∷ args) n (inl is) = inl is
  slot_among (m ∷ ns) (x ∷ args) n (inr h) = inr (slot_among ns args n h)

  args_distinct : (ns : List ℕ) (args : List RExpr) → Distinct ns → Distinct (map slot_of_arg (map bind_arg (zip ns args)))
  args_distinct [] args differ = tt
  args_distinct (n ∷ ns) [] differ = tt
  args_distinct (n ∷ ns) (x ∷ args) differ = ((λ h. differ.0 (slot_among ns args n h)), args_distinct ns args differ.1)

  none_named : GoodScope p []
  none_named name = tt

  pub class_names : (c : ClassTree) → GoodScope p (class_slots c)
  class_names c = named_good p qs 1 (map (λ v. v.name) (variables c)) [] none_named

  copy_of_good : (inner : Copy) (c : ClassTree) (m : Option Body) (args : List RExpr) (tables : Tables) → CopyGood p qs inner → GoodDeeds p (deeds (stmts_if m)) → AllByRecursion (GoodExpr p) args → GoodTables p tables
      → (Ends p qs (copy_of inner c m args tables).1 → GoodKind p qs (copy_of inner c m args tables).0) × Onward p tables (copy_of inner c m args tables).1
  copy_of_good inner c m args tables good ds each d =
      let params = params_if m in
      let scope = param_slots params tables (class_slots c) in
      let begun = with_params params tables in
      let found = body_good inner good (stmts_if m) ds scope begun (named_good p qs (next tables) (map (λ q. q.name) params) (class_slots c) (class_names c)) d in
      let numbers = fresh tables (length params) in (
        (λ e. call_good p qs (map bind_arg (zip numbers args)) (body_with inner (stmts_if m) scope begun).0 (args_good numbers args each) (args_distinct numbers args (range_distinct (next tables) (length params))) (found.0 e)),
        record { good = found.1.good; grows = found.1.grows },
      )

  pub found_good : (c : ClassTree) (test : Body → Bool) (m : Option Body) → GoodBodies p c → find test (bodies c) ≡ m → GoodDeeds p (deeds (stmts_if m))
  found_good c test None good is = tt
  found_good c test (Some b) good is = good b (find_has test (bodies c) b is).0

  pub copies_good : (most : ℕ) (c : ClassTree) → GoodBodies p c → CopyGood p qs (copies most c)
  unfolding copies
  copies_good zero c good name args tables each d = ((λ e. pass_good p qs), stays p tables d)
  copies_good (suc most) c good name args tables each d = copy_of_good (copies most c) c (method_of c name) args tables (copies_good most c good) (found_good c (λ b. is_method name b.place) (method_of c name) good refl) each d
