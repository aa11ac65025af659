-- Statements that keep the rules of types give types to the slots and the queries that they bring, where the copies of the
-- methods that they call do.
use Rattle.std.specs.Prelude.{◌≡◌, refl, ℕ, suc, List, [], ◌∷◌, ◌++◌, map, length, Option, Some, None, option_map, option_to_list}
use Rattle.std.specs.List.{AllByRecursion}
use Rattle.std.proofs.Common.{◌∙◌, ap, sym, subst}
use Rattle.da_lang.specs.declared.program.ItemKind.{ItemKind}
use Rattle.da_lang.specs.declared.program.ItemKind.TheVariants as it
use Rattle.da_lang.specs.declared.program.RExpr.{RExpr}
use Rattle.da_lang.specs.declared.query.Query.{Query}
use Rattle.da_lang.specs.declared.tree.Branch.{Branch, roll-Branch}
use Rattle.da_lang.specs.declared.tree.Expr.{Expr}
use Rattle.da_lang.specs.declared.tree.MessageDecl.{MessageDecl}
use Rattle.da_lang.specs.declared.tree.Stmt.{Stmt}
use Rattle.da_lang.specs.declared.tree.Stmt.TheVariants as stmt
use Rattle.da_lang.specs.declared.tree.TimeoutTree.{TimeoutTree, roll-TimeoutTree}
use Rattle.da_lang.specs.BodyMeaning.{Copy, Guarded, Stating, Becomes, slot_of, states, with_expr, calling, awaits, stating, guarding, waiting, body_with}
use Rattle.da_lang.specs.Deeds.{Deed, Doing, Calls, all, all_if, deeds, deeds_of, deeds_of_branch, deeds_of_timeout}
use Rattle.da_lang.specs.ExprMeaning.{Meaning, Meant, Tables, meant, all_outside}
use Rattle.da_lang.specs.Scopes.{Scope, look}
use Rattle.da_lang.specs.Typing.{Slots, alt_broken, branch_broken}
use Rattle.da_lang.proofs.CondInduction.{Where}
use Rattle.da_lang.proofs.DeedsAt.{deeds_of-Call, deeds_of-If, deeds_of-While, deeds_of-For, deeds_of-Await, deeds_of_branch-of, deeds_of_timeout-of}
use Rattle.da_lang.proofs.StatingAt.{stating-Assign, stating-Add, stating-Del, stating-Send, stating-Output, stating-Pass, stating-Label, stating-Call, stating-If, stating-While, stating-For, stating-AwaitOne, stating-Await, guarding-of, waiting-of}
use Rattle.da_lang.proofs.StmtInduction.{StmtCases, stmt_induction}
use Rattle.da_types.proofs.resolved.BlocksFill.{PartFills, KindFills, StateFills, CopyFills, no_breaks, kind_states, expr_fill, exprs_fills, assign_fine, add_fine, del_fine, send_fine, output_fine, block_fills, branch_fills, alt_fills, ifs_fills, loop_fills, for_each_fills, awaits_fills, await_one_fills}
use Rattle.da_types.proofs.resolved.ExprsFill.{exprs_fill}
use Rattle.da_types.proofs.resolved.MeantFills.{all_outside_fills}

-- of each call of a method, by its name and the number of its arguments
module _ (Ok : List ℕ → ℕ → Type 0) where
  abbrev pub OkAt : Doing → List Expr → Type 0
  OkAt (Calls name) says = Ok name (length says)
  OkAt _ says = Unit {0}

  abbrev pub AllOk : List Deed → Type 0
  AllOk [] = Unit {0}
  AllOk (d ∷ ds) = OkAt d.does d.says × AllOk ds

  pub front_ok : (xs ys : List Deed) → AllOk (xs ++ ys) → AllOk xs
  front_ok [] ys ok = tt
  front_ok (x ∷ xs) ys ok = (ok.0, front_ok xs ys ok.1)

  pub back_ok : (xs ys : List Deed) → AllOk (xs ++ ys) → AllOk ys
  back_ok [] ys ok = ok
  back_ok (x ∷ xs) ys ok = back_ok xs ys ok.1

length_outside : (xs : List Meant) (scope : Scope Meaning) (tables : Tables) → length (all_outside xs scope tables).0 ≡ length xs
length_outside [] scope tables = refl
length_outside (x ∷ xs) scope tables = ap suc (length_outside xs scope (x.outside scope tables).1)

length_meant : (xs : List Expr) → length (map meant xs) ≡ length xs
length_meant [] = refl
length_meant (x ∷ xs) = ap suc (length_meant xs)

pub deeds-all : (ss : List Stmt) → all (map deeds_of ss) ≡ deeds ss
deeds-all [] = refl
deeds-all (s ∷ ss) = ap (λ ds. deeds_of s ++ ds) (deeds-all ss)

module _ (messages : List MessageDecl) (queries : List Query) (slots : Slots) (copy : Copy) (Ok : List ℕ → ℕ → Type 0) (copied : (name : List ℕ) (n : ℕ) → Ok name n → CopyFills messages queries slots copy name n) where
  abbrev Kinds : Becomes ItemKind → Type 0
  Kinds = KindFills messages queries slots

  abbrev States : Stating → Type 0
  States = StateFills messages queries slots

  abbrev AsBranch : Guarded → Type 0
  AsBranch g = PartFills messages queries slots (branch_broken messages queries slots) g.branch

  abbrev AsAlt : Guarded → Type 0
  AsAlt g = PartFills messages queries slots (alt_broken messages queries slots) g.alt

  abbrev pub StmtFills : Stmt → Type 0
  StmtFills s = AllOk Ok (deeds_of s) → States (stating copy s)

  abbrev BranchFills : Branch → Type 0
  BranchFills b = AllOk Ok (deeds_of_branch b) → AsBranch (guarding copy b) × AsAlt (guarding copy b)

  abbrev TimeoutFills : TimeoutTree → Type 0
  TimeoutFills t = AllOk Ok (deeds_of_timeout t) → AllByRecursion States (waiting copy t)

  as_kind : (s : Stmt) (line : ℕ) (becomes : Becomes ItemKind) → stating copy s ≡ states line becomes → Kinds becomes → States (stating copy s)
  as_kind s line becomes is fills = subst States (sym is) (kind_states messages queries slots line becomes fills)

  changing_fills : (make : ℕ → RExpr → ItemKind) (name : List ℕ) (x : Expr) → ((slot : ℕ) → Kinds (with_expr (make slot) x)) → Kinds (λ scope. with_expr (make (slot_of (look scope name))) x scope)
  changing_fills make name x fills scope tables kept d = fills (slot_of (look scope name)) scope tables kept d

  all_state : (ss : List Stmt) → AllByRecursion StmtFills ss → AllOk Ok (all (map deeds_of ss)) → AllByRecursion States (map (stating copy) ss)
  all_state [] fills ok = tt
  all_state (s ∷ ss) fills ok = (fills.0 (front_ok Ok (deeds_of s) (all (map deeds_of ss)) ok), all_state ss fills.1 (back_ok Ok (deeds_of s) (all (map deeds_of ss)) ok))

  other_states : (other : Option (List Stmt)) → Where (AllByRecursion StmtFills) other → AllOk Ok (all_if (option_map (map deeds_of) other)) → Where (AllByRecursion States) (option_map (map (stating copy)) other)
  other_states None fills ok = tt
  other_states (Some ss) fills ok = all_state ss fills ok

  all_guarded : (bs : List Branch) → AllByRecursion BranchFills bs → AllOk Ok (all (map deeds_of_branch bs)) → AllByRecursion AsBranch (map (guarding copy) bs) × AllByRecursion AsAlt (map (guarding copy) bs)
  all_guarded [] fills ok = (tt, tt)
  all_guarded (b ∷ bs) fills ok =
      let first = fills.0 (front_ok Ok (deeds_of_branch b) (all (map deeds_of_branch bs)) ok) in
      let others = all_guarded bs fills.1 (back_ok Ok (deeds_of_branch b) (all (map deeds_of_branch bs)) ok) in
      ((first.0, others.0), (first.1, others.1))

  call_fills : (name : List ℕ) (xs : List Expr) → Ok name (length xs) → Kinds (calling copy name xs)
  call_fills name xs ok scope tables kept d =
      let args = all_outside (map meant xs) scope tables in
      let (fine, go) = copied name (length xs) ok args.0 args.1 (length_outside (map meant xs) scope tables ∙ length_meant xs) kept in
      go (all_outside_fills messages queries slots (map meant xs) (exprs_fill messages queries slots xs) scope tables fine d)

  if_states : (bs : List Branch) (other : Option (List Stmt)) (line : ℕ) → AllByRecursion BranchFills bs → Where (AllByRecursion StmtFills) other → StmtFills (stmt.If bs other line)
  if_states bs other line fills others ok =
      let conds = all (map deeds_of_branch bs) in
      let last = all_if (option_map (map deeds_of) other) in
      let known = subst (AllOk Ok) (deeds_of-If bs other line) ok in
      as_kind _ line _ (stating-If copy bs other line)
      (ifs_fills messages queries slots (map (guarding copy) bs) (option_map (map (stating copy)) other) (all_guarded bs fills (front_ok Ok conds last known.1)).0 (other_states other others (back_ok Ok conds last known.1)))

  over_states : (over : Option TimeoutTree) → Where TimeoutFills over → AllOk Ok (all (option_to_list (option_map deeds_of_timeout over))) → Where (AllByRecursion States) (option_map (waiting copy) over)
  over_states None fills ok = tt
  over_states (Some t) fills ok = fills (front_ok Ok (deeds_of_timeout t) [] ok)

  await_states : (bs : List Branch) (over : Option TimeoutTree) (line : ℕ) → AllByRecursion BranchFills bs → Where TimeoutFills over → StmtFills (stmt.Await bs over line)
  await_states bs over line fills others ok =
      let known = subst (AllOk Ok) (deeds_of-Await bs over line) ok in
      let alts = all (map deeds_of_branch bs) in
      let last = all (option_to_list (option_map deeds_of_timeout over)) in
      let gs = map (guarding copy) bs in
      let timeout = option_map (waiting copy) over in
      subst States (sym (stating-Await copy bs over line)) (λ label. kind_states messages queries slots line (awaits gs timeout label)
      (awaits_fills messages queries slots gs timeout label (all_guarded bs fills (front_ok Ok alts last known.1)).1 (over_states over others (back_ok Ok alts last known.1))) label)

  branch_states : (x : Expr) (ss : List Stmt) (line : ℕ) → AllByRecursion StmtFills ss → BranchFills (roll-Branch (record { cond = x; body = ss; line = line }))
  branch_states x ss line fills ok =
      let known = subst (AllOk Ok) (deeds_of_branch-of x ss line) ok in
      let body = all_state ss fills known.1 in
      subst (λ (g : Guarded). AsBranch g × AsAlt g) (sym (guarding-of copy x ss line)) (branch_fills messages queries slots line x (map (stating copy) ss) body, alt_fills messages queries slots line x (map (stating copy) ss) body)

  timeout_states : (ss : List Stmt) (line : ℕ) → AllByRecursion StmtFills ss → TimeoutFills (roll-TimeoutTree (record { body = ss; line = line }))
  timeout_states ss line fills ok =
      let known = subst (AllOk Ok) (deeds_of_timeout-of ss line) ok in
      subst (AllByRecursion States) (sym (waiting-of copy ss line)) (all_state ss fills known.1)

  state_cases : StmtCases
  state_cases = record {
    Of_stmt = StmtFills;
    Of_branch = BranchFills;
    Of_timeout = TimeoutFills;
    assign = λ name x line ok. as_kind _ line _ (stating-Assign copy name x line) (changing_fills it.Assign name x (λ slot. expr_fill messages queries slots (it.Assign slot) x (assign_fine messages queries slots slot)));
    add = λ name x line ok. as_kind _ line _ (stating-Add copy name x line) (changing_fills it.Add name x (λ slot. expr_fill messages queries slots (it.Add slot) x (add_fine messages queries slots slot)));
    delete = λ name x line ok. as_kind _ line _ (stating-Del copy name x line) (changing_fills it.Del name x (λ slot. expr_fill messages queries slots (it.Del slot) x (del_fine messages queries slots slot)));
    send = λ x to line ok. as_kind _ line _ (stating-Send copy x to line) (exprs_fills messages queries slots it.Send x to (send_fine messages queries slots));
    output = λ x line ok. as_kind _ line _ (stating-Output copy x line) (expr_fill messages queries slots it.Output x (output_fine messages queries slots));
    pass = λ line ok. as_kind _ line _ (stating-Pass copy line) (λ scope tables kept d. d);
    label = λ name line ok. subst States (sym (stating-Label copy name line)) (λ label scope tables e d. d);
    call = λ name xs line ok. as_kind _ line _ (stating-Call copy name xs line) (call_fills name xs (subst (AllOk Ok) (deeds_of-Call name xs line) ok).0);
    conditional = if_states;
    loop = λ x body line fills ok. as_kind _ line _ (stating-While copy x body line) (loop_fills messages queries slots x (map (stating copy) body) (all_state body fills (subst (AllOk Ok) (deeds_of-While x body line) ok).1));
    each = λ name x body line fills ok. as_kind _ line _ (stating-For copy name x body line) (for_each_fills messages queries slots name x (map (stating copy) body) (all_state body fills (subst (AllOk Ok) (deeds_of-For name x body line) ok).1));
    await_one = λ x line ok. subst States (sym (stating-AwaitOne copy x line)) (await_one_fills messages queries slots line x);
    await = await_states;
    branch = branch_states;
    timeout = timeout_states;
  }

  stmt_fills : (s : Stmt) → StmtFills s
  unfolding state_cases
  stmt_fills = stmt_induction state_cases

  stmts_fill : (ss : List Stmt) → AllByRecursion StmtFills ss
  stmts_fill [] = tt
  stmts_fill (s ∷ ss) = (stmt_fills s, stmts_fill ss)

  -- a body
  pub body_fills : (ss : List Stmt) → AllOk Ok (deeds ss) → PartFills messages queries slots (no_breaks messages queries slots) (body_with copy ss)
  body_fills ss ok = block_fills messages queries slots (map (stating copy) ss) (all_state ss (stmts_fill ss) (subst (AllOk Ok) (sym (deeds-all ss)) ok))
