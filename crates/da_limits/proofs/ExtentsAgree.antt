-- The extent of statements depends on the extents of those methods alone that they call.
use Rattle.std.specs.Prelude.{◌≡◌, refl, ℕ, List, [], ◌∷◌, ◌++◌, map, length, Option, Some, None, unwrap_or, filter_map, Contains}
use Rattle.std.specs.List.{AllByRecursion, cons_option}
use Rattle.std.specs.Option.{option_map, option_to_list}
use Rattle.std.proofs.Common.{◌∙◌, ap, sym, subst}
use Rattle.da_lang.specs.declared.tree.Branch.{Branch}
use Rattle.da_lang.specs.declared.tree.Stmt.{Stmt}
use Rattle.da_lang.specs.declared.tree.Stmt.TheVariants as stmt
use Rattle.da_lang.specs.declared.tree.TimeoutTree.{TimeoutTree}
use Rattle.da_lang.specs.Calls.{called}
use Rattle.da_lang.specs.Deeds.{Deed, Doing, Sends, Outputs, Labels, Calls, Loops, Awaits, TimesOut, Other, all, all_if, deeds, deeds_of, deeds_of_branch, deeds_of_timeout}
use Rattle.da_lang.specs.ExprNames.{found_names}
use Rattle.da_lang.proofs.CondInduction.{Where}
use Rattle.da_lang.proofs.DeedsAt.{deeds_of-Call, deeds_of-If, deeds_of-While, deeds_of-For, deeds_of-Await, deeds_of_branch-of, deeds_of_timeout-of}
use Rattle.da_lang.proofs.StmtInduction.{StmtCases, stmt_induction}
use Rattle.da_limits.specs.declared.extent.Extent.{Extent}
use Rattle.da_limits.specs.Extents.{Called, nothing, beside, together, one, wider, as_block, else_extent, extent, extent_of_branch, extent_of_timeout}
use Rattle.da_calls.proofs.CallBounds.{in_first, in_cons_option}
use Rattle.da_limits.proofs.ExtentsAt.{extent-Assign, extent-Add, extent-Del, extent-Send, extent-Output, extent-Pass, extent-Label, extent-Call, extent-If, extent-While, extent-For, extent-AwaitOne, extent-Await, extent_of_branch-of, extent_of_timeout-of}

module _ (f g : Called) where
  -- the same at what a statement calls
  abbrev AgreesAt : Doing → Type 0
  AgreesAt (Calls name) = f name ≡ g name
  AgreesAt _ = Unit {0}

  abbrev Agree : List Deed → Type 0
  Agree [] = Unit {0}
  Agree (d ∷ ds) = AgreesAt d.does × Agree ds

  front : (xs ys : List Deed) → Agree (xs ++ ys) → Agree xs
  front [] ys same = tt
  front (x ∷ xs) ys same = (same.0, front xs ys same.1)

  back : (xs ys : List Deed) → Agree (xs ++ ys) → Agree ys
  back [] ys same = same
  back (x ∷ xs) ys same = back xs ys same.1

  parts_agree : {A : Type 0} (in_part : A → List Deed) (size : Called → A → Extent) (xs : List A) → AllByRecursion (λ x. Agree (in_part x) → size f x ≡ size g x) xs → Agree (all (map in_part xs)) → map (size f) xs ≡ map (size g) xs
  parts_agree in_part size [] each same = refl
  parts_agree in_part size (x ∷ xs) each same =
      ap (λ e. e ∷ map (size f) xs) (each.0 (front (in_part x) (all (map in_part xs)) same)) ∙ ap (λ es. size g x ∷ es) (parts_agree in_part size xs each.1 (back (in_part x) (all (map in_part xs)) same))

  abbrev StmtAgrees : Stmt → Type 0
  StmtAgrees s = Agree (deeds_of s) → extent f s ≡ extent g s

  abbrev BranchAgrees : Branch → Type 0
  BranchAgrees b = Agree (deeds_of_branch b) → extent_of_branch f b ≡ extent_of_branch g b

  abbrev TimeoutAgrees : TimeoutTree → Type 0
  TimeoutAgrees t = Agree (deeds_of_timeout t) → extent_of_timeout f t ≡ extent_of_timeout g t

  body_agrees : (body : List Stmt) → AllByRecursion StmtAgrees body → Agree (all (map deeds_of body)) → as_block (map (extent f) body) ≡ as_block (map (extent g) body)
  body_agrees body each same = ap as_block (parts_agree deeds_of extent body each same)

  branches_agree : (bs : List Branch) → AllByRecursion BranchAgrees bs → Agree (all (map deeds_of_branch bs)) → together (map (extent_of_branch f) bs) ≡ together (map (extent_of_branch g) bs)
  branches_agree bs each same = ap together (parts_agree deeds_of_branch extent_of_branch bs each same)

  else_agrees : (other : Option (List Stmt)) → Where (AllByRecursion StmtAgrees) other → Agree (all_if (option_map (map deeds_of) other)) → else_extent (option_map (map (extent f)) other) ≡ else_extent (option_map (map (extent g)) other)
  else_agrees None each same = refl
  else_agrees (Some body) each same = ap (λ es. else_extent (Some es)) (parts_agree deeds_of extent body each same)

  if_agrees : (bs : List Branch) (other : Option (List Stmt)) (line : ℕ) → AllByRecursion BranchAgrees bs → Where (AllByRecursion StmtAgrees) other → StmtAgrees (stmt.If bs other line)
  if_agrees bs other line each others same =
      let conds = all (map deeds_of_branch bs) in
      let last = all_if (option_map (map deeds_of) other) in
      let known = subst Agree (deeds_of-If bs other line) same in
      let first = branches_agree bs each (front conds last known.1) in
      let second = else_agrees other others (back conds last known.1) in
      extent-If f bs other line
      ∙ ap one (ap (λ e. beside e (else_extent (option_map (map (extent f)) other))) first ∙ ap (λ e. beside (together (map (extent_of_branch g) bs)) e) second)
      ∙ sym (extent-If g bs other line)

  late_agrees : (over : Option TimeoutTree) → Where TimeoutAgrees over → Agree (all (option_to_list (option_map deeds_of_timeout over)))
      → unwrap_or (option_map (extent_of_timeout f) over) nothing ≡ unwrap_or (option_map (extent_of_timeout g) over) nothing
  late_agrees None each same = refl
  late_agrees (Some t) each same = each (front (deeds_of_timeout t) [] same)

  await_agrees : (bs : List Branch) (over : Option TimeoutTree) (line : ℕ) → AllByRecursion BranchAgrees bs → Where TimeoutAgrees over → StmtAgrees (stmt.Await bs over line)
  await_agrees bs over line each others same =
      let conds = all (map deeds_of_branch bs) in
      let last = all (option_to_list (option_map deeds_of_timeout over)) in
      let known = subst Agree (deeds_of-Await bs over line) same in
      let first = branches_agree bs each (front conds last known.1) in
      let second = late_agrees over others (back conds last known.1) in
      extent-Await f bs over line
      ∙ ap one (ap (λ e. beside e (unwrap_or (option_map (extent_of_timeout f) over) nothing)) first ∙ ap (λ e. beside (together (map (extent_of_branch g) bs)) e) second)
      ∙ sym (extent-Await g bs over line)

  abbrev agree_cases : StmtCases
  agree_cases = record {
    Of_stmt = StmtAgrees;
    Of_branch = BranchAgrees;
    Of_timeout = TimeoutAgrees;
    assign = λ name x line same. extent-Assign f name x line ∙ sym (extent-Assign g name x line);
    add = λ name x line same. extent-Add f name x line ∙ sym (extent-Add g name x line);
    delete = λ name x line same. extent-Del f name x line ∙ sym (extent-Del g name x line);
    send = λ x to line same. extent-Send f x to line ∙ sym (extent-Send g x to line);
    output = λ x line same. extent-Output f x line ∙ sym (extent-Output g x line);
    pass = λ line same. extent-Pass f line ∙ sym (extent-Pass g line);
    label = λ name line same. extent-Label f name line ∙ sym (extent-Label g name line);
    call = λ name xs line same. let known = subst Agree (deeds_of-Call name xs line) same in extent-Call f name xs line ∙ ap one known.0 ∙ sym (extent-Call g name xs line);
    conditional = if_agrees;
    loop = λ x body line each same.
        let known = subst Agree (deeds_of-While x body line) same in
        extent-While f x body line ∙ ap one (body_agrees body each known.1) ∙ sym (extent-While g x body line);
    each = λ name x body line each same.
        let known = subst Agree (deeds_of-For name x body line) same in
        extent-For f name x body line ∙ ap (λ e. one (wider 1 e)) (body_agrees body each known.1) ∙ sym (extent-For g name x body line);
    await_one = λ x line same. extent-AwaitOne f x line ∙ sym (extent-AwaitOne g x line);
    await = await_agrees;
    branch = λ x body line each same.
        let known = subst Agree (deeds_of_branch-of x body line) same in
        extent_of_branch-of f x body line ∙ ap (λ e. wider (length (found_names x)) e) (body_agrees body each known.1) ∙ sym (extent_of_branch-of g x body line);
    timeout = λ body line each same.
        let known = subst Agree (deeds_of_timeout-of body line) same in
        extent_of_timeout-of f body line ∙ body_agrees body each known.1 ∙ sym (extent_of_timeout-of g body line);
  }

  stmt_agrees : (s : Stmt) → StmtAgrees s
  stmt_agrees = stmt_induction agree_cases

  stmts_agree : (ss : List Stmt) → AllByRecursion StmtAgrees ss
  stmts_agree [] = tt
  stmts_agree (s ∷ ss) = (stmt_agrees s, stmts_agree ss)

  -- from the names that are called
  abbrev calls_of : List Deed → List (List ℕ)
  calls_of ds = filter_map (λ (d : Deed). called d.does) ds

  at_call : (does : Doing) (rest : List (List ℕ)) → ((name : List ℕ) → Contains (cons_option (called does) rest) name → f name ≡ g name) → AgreesAt does
  at_call (Calls name) rest same = same name (in_first name rest)
  at_call Sends rest same = tt
  at_call Outputs rest same = tt
  at_call (Labels name) rest same = tt
  at_call Loops rest same = tt
  at_call Awaits rest same = tt
  at_call TimesOut rest same = tt
  at_call Other rest same = tt

  from_calls : (ds : List Deed) → ((name : List ℕ) → Contains (calls_of ds) name → f name ≡ g name) → Agree ds
  from_calls [] same = tt
  from_calls (d ∷ ds) same = (at_call d.does (calls_of ds) same, from_calls ds (λ name has. same name (in_cons_option (called d.does) (calls_of ds) name has)))

  deeds-all : (ss : List Stmt) → all (map deeds_of ss) ≡ deeds ss
  deeds-all [] = refl
  deeds-all (s ∷ ss) = ap (λ ds. deeds_of s ++ ds) (deeds-all ss)

  -- blocks that call methods of which the copies are alike are alike
  pub blocks_agree : (ss : List Stmt) → ((name : List ℕ) → Contains (calls_of (deeds ss)) name → f name ≡ g name) → as_block (map (extent f) ss) ≡ as_block (map (extent g) ss)
  blocks_agree ss same = body_agrees ss (stmts_agree ss) (subst Agree (sym (deeds-all ss)) (from_calls (deeds ss) same))
