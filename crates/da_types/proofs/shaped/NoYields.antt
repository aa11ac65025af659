-- Statements that hold no label and no `await`, and call no method that does, become such statements.
use Rattle.std.specs.Prelude.{◌≡◌, refl, ℕ, false, List, [], ◌∷◌, ◌++◌, map, length, Option, Some, None, option_map}
use Rattle.std.specs.List.{AllByRecursion}
use Rattle.std.proofs.Common.{sym, subst, inl, inr, ⊎_elim}
use Rattle.da_values.specs.Sets.{Has}
use Rattle.da_values.proofs.Members.{of_append}
use Rattle.da_lang.specs.declared.program.Alt.{Alt}
use Rattle.da_lang.specs.declared.program.BindArg.{BindArg}
use Rattle.da_lang.specs.declared.program.Item.{Item}
use Rattle.da_lang.specs.declared.program.ItemKind.{ItemKind, out-ItemKind}
use Rattle.da_lang.specs.declared.program.ItemKind.TheViews.{out-roll-Item, out-roll-RBranch}
use Rattle.da_lang.specs.declared.program.ItemKind.TheOpen.{ItemKind-F, Item-F, RBranch-F}
use Rattle.da_lang.specs.declared.program.ItemKind.TheVariants as it
use Rattle.da_lang.specs.declared.program.ItemKind.TheViews.{out-RBranch}
use Rattle.da_lang.specs.declared.program.RBranch.{RBranch}
use Rattle.da_lang.specs.declared.program.RExpr.{RExpr}
use Rattle.da_lang.specs.declared.tree.Branch.{Branch, roll-Branch}
use Rattle.da_lang.specs.declared.tree.Expr.{Expr}
use Rattle.da_lang.specs.declared.tree.Stmt.{Stmt}
use Rattle.da_lang.specs.declared.tree.Stmt.TheVariants as stmt
use Rattle.da_lang.specs.BodyMeaning.{Becomes, Copy, Guarded, Stating, as_branch, after_label, block, block_if, body_with, bound, each, for_each, fresh, found_number, guarding, ifs, item_at, loop, named_slots, next, states, stating, untyped}
use Rattle.da_lang.specs.Deeds.{Deed, Doing, Labels, Calls, Awaits, all, all_if, deeds, deeds_of, deeds_of_branch}
use Rattle.da_lang.specs.ExprMeaning.{Meaning, Tables, meant}
use Rattle.da_lang.specs.ExprNames.{found_names}
use Rattle.da_lang.specs.Runs.{kind_yields}
use Rattle.da_lang.specs.Scopes.{Scope}
use Rattle.da_lang.specs.Shaped.{here, deeper, blocks_in}
use Rattle.da_lang.specs.Turns.{kind_of}
use Rattle.da_lang.proofs.CondInduction.{Where}
use Rattle.da_lang.proofs.DeedsAt.{deeds_of-Label, deeds_of-Call, deeds_of-If, deeds_of-While, deeds_of-For, deeds_of-AwaitOne, deeds_of-Await, deeds_of_branch-of}
use Rattle.da_lang.proofs.StatingAt.{stating-Assign, stating-Add, stating-Del, stating-Send, stating-Output, stating-Pass, stating-Call, stating-If, stating-While, stating-For, guarding-of}
use Rattle.da_lang.proofs.StmtInduction.{StmtCases, stmt_induction}
use Rattle.da_types.specs.KeepsShaped.{HasNoYield}
use Rattle.da_types.proofs.resolved.StatementsFill.{deeds-all}

-- STATEMENTS OF A PROGRAM, one layer and all that is in it
pub record NoYield (y : ItemKind-F ItemKind Alt Item RBranch) : Type 0 where
  pub itself : kind_yields y ≡ false
  pub blocks : (body : List Item) → Has (blocks_in y) body → HasNoYield body

abbrev pub ItemGoes : Item → Type 0
ItemGoes i = NoYield (kind_of i)

abbrev pub KindGoes : ItemKind → Type 0
KindGoes k = NoYield (out-ItemKind k)

abbrev pub BlockGoes : List Item → Type 0
BlockGoes items = AllByRecursion ItemGoes items

member : (items : List Item) (i : Item) → BlockGoes items → Has items i → ItemGoes i
member [] i each h = absurd h
member (j ∷ items) i each (inl is) = subst ItemGoes (sym is) each.0
member (j ∷ items) i each (inr h) = member items i each.1 h

pub block_goes : (items : List Item) → BlockGoes items → HasNoYield items
block_goes items each i (here h) = (member items i each h).itself
block_goes items each i (deeper j body h b w) = (member items j each h).blocks body b i w

one_block : (items : List Item) → BlockGoes items → (body : List Item) → Has (items ∷ []) body → HasNoYield body
one_block items goes body (inl is) = subst HasNoYield (sym is) (block_goes items goes)
one_block items goes body (inr h) = absurd h

kind_goes : (k : ItemKind) (y : ItemKind-F ItemKind Alt Item RBranch) → out-ItemKind k ≡ y → NoYield y → KindGoes k
kind_goes k y is goes = subst NoYield (sym is) goes

-- one that has no blocks
plain_goes : (k : ItemKind) (y : ItemKind-F ItemKind Alt Item RBranch) → out-ItemKind k ≡ y → kind_yields y ≡ false → blocks_in y ≡ [] → KindGoes k
plain_goes k y is itself none = kind_goes k y is (record { itself = itself; blocks = λ body h. absurd (subst (λ z. Has z body) none h) })

abbrev BranchGoes : RBranch → Type 0
BranchGoes b = BlockGoes (out-RBranch b).body

branch_bodies : (bs : List RBranch) → AllByRecursion BranchGoes bs → (body : List Item) → Has (map (λ b. (out-RBranch b).body) bs) body → HasNoYield body
branch_bodies [] each body h = absurd h
branch_bodies (b ∷ bs) each body (inl is) = subst HasNoYield (sym is) (block_goes (out-RBranch b).body each.0)
branch_bodies (b ∷ bs) each body (inr h) = branch_bodies bs each.1 body h

if_goes : (bs : List RBranch) (other : List Item) → AllByRecursion BranchGoes bs → BlockGoes other → KindGoes (it.If bs other)
if_goes bs other each last = kind_goes (it.If bs other) (ItemKind-F.If bs other) (it.outs-If bs other) (record {
  itself = refl;
  blocks = λ body h. ⊎_elim (branch_bodies bs each body) (one_block other last body) (of_append (map (λ b. (out-RBranch b).body) bs) (other ∷ []) body h);
})

-- WHAT STATEMENTS OF A TREE BECOME
abbrev pub PartGoes : {A : Type 0} → (A → Type 0) → Becomes A → Type 0
PartGoes P f = (scope : Scope Meaning) (tables : Tables) → P (f scope tables).0

abbrev pub StateGoes : Stating → Type 0
StateGoes f = (label : Option ℕ) (scope : Scope Meaning) (tables : Tables) → ItemGoes (f label scope tables).item

kind_item : (line : ℕ) (k : ItemKind) → KindGoes k → ItemGoes (item_at line k)
kind_item line k goes = subst (λ (z : Item-F ItemKind Alt Item RBranch). KindGoes z.kind) (sym (out-roll-Item (record { line = line; kind = k }))) goes

kind_states : (line : ℕ) (f : Becomes ItemKind) → PartGoes KindGoes f → StateGoes (states line f)
kind_states line f goes label scope tables = kind_item line (f scope tables).0 (goes scope tables)

after_part : (label : Option ℕ) (ss : List Stating) → AllByRecursion StateGoes ss → PartGoes BlockGoes (after_label label ss)
after_part label [] goes scope tables = tt
after_part label (s ∷ ss) goes scope tables = let first = s label scope tables in (goes.0 label scope tables, after_part first.label ss goes.1 first.scope first.tables)

block_part : (ss : List Stating) → AllByRecursion StateGoes ss → PartGoes BlockGoes (block ss)
block_part = after_part None

block_if_part : (other : Option (List Stating)) → Where (AllByRecursion StateGoes) other → PartGoes BlockGoes (block_if other)
block_if_part None goes scope tables = tt
block_if_part (Some ss) goes scope tables = block_part ss goes scope tables

each_part : (parts : List (Becomes RBranch)) → AllByRecursion (PartGoes BranchGoes) parts → PartGoes (AllByRecursion BranchGoes) (each parts)
each_part [] goes scope tables = tt
each_part (f ∷ parts) goes scope tables = (goes.0 scope tables, each_part parts goes.1 scope (f scope tables).1)

bound_part : (names : List (List ℕ)) (ss : List Stating) → AllByRecursion StateGoes ss → PartGoes BlockGoes (bound names ss)
bound_part names ss goes scope tables = block_part ss goes (named_slots names tables scope) (untyped names tables)

branch_part : (line : ℕ) (x : Expr) (ss : List Stating) → AllByRecursion StateGoes ss → PartGoes BranchGoes (as_branch line x ss)
branch_part line x ss goes scope tables =
    let cond_ = (meant x).outside scope tables in
    let items = bound (found_names x) ss scope cond_.1 in
    subst (λ (z : RBranch-F ItemKind Alt Item RBranch). BlockGoes z.body) (sym (out-roll-RBranch (record { cond = cond_.0; found = found_number x tables; binds = fresh cond_.1 (length (found_names x)); body = items.0; line = line }))) (bound_part (found_names x) ss goes scope cond_.1)

ifs_part : (gs : List Guarded) (other : Option (List Stating)) → AllByRecursion (PartGoes BranchGoes) (map (λ (g : Guarded). g.branch) gs) → Where (AllByRecursion StateGoes) other → PartGoes KindGoes (ifs gs other)
ifs_part gs other goes last scope tables =
    let parts = map (λ (g : Guarded). g.branch) gs in
    let firsts = each parts scope tables in
    if_goes firsts.0 (block_if other scope firsts.1).0 (each_part parts goes scope tables) (block_if_part other last scope firsts.1)

loop_part : (x : Expr) (ss : List Stating) → AllByRecursion StateGoes ss → PartGoes KindGoes (loop x ss)
loop_part x ss goes scope tables =
    let cond_ = (meant x).outside scope tables in
    let items = block ss scope cond_.1 in
    kind_goes (it.While cond_.0 items.0) (ItemKind-F.While cond_.0 items.0) (it.outs-While cond_.0 items.0) (record { itself = refl; blocks = one_block items.0 (block_part ss goes scope cond_.1) })

for_part : (name : List ℕ) (x : Expr) (ss : List Stating) → AllByRecursion StateGoes ss → PartGoes KindGoes (for_each name x ss)
for_part name x ss goes scope tables =
    let over = (meant x).outside scope tables in
    let items = bound (name ∷ []) ss scope over.1 in
    kind_goes (it.For (next over.1) over.0 items.0) (ItemKind-F.For (next over.1) over.0 items.0) (it.outs-For (next over.1) over.0 items.0) (record { itself = refl; blocks = one_block items.0 (bound_part (name ∷ []) ss goes scope over.1) })

pub call_goes : (args : List BindArg) (body : List Item) → BlockGoes body → KindGoes (it.Call args body)
call_goes args body goes = kind_goes (it.Call args body) (ItemKind-F.Call args body) (it.outs-Call args body) (record { itself = refl; blocks = one_block body goes })

pub pass_goes : KindGoes it.Pass
pass_goes = plain_goes it.Pass ItemKind-F.Pass it.outs-Pass refl refl

-- STATEMENTS OF A TREE; of each call its method is asked
module _ (Ok : List ℕ → Type 0) where
  abbrev pub DeedGoes : Doing → Type 0
  DeedGoes (Labels name) = ⊥
  DeedGoes Awaits = ⊥
  DeedGoes (Calls name) = Ok name
  DeedGoes _ = Unit {0}

  abbrev pub DeedsGo : List Deed → Type 0
  DeedsGo ds = AllByRecursion (λ (d : Deed). DeedGoes d.does) ds

  front : (xs ys : List Deed) → DeedsGo (xs ++ ys) → DeedsGo xs
  front [] ys go = tt
  front (x ∷ xs) ys go = (go.0, front xs ys go.1)

  back : (xs ys : List Deed) → DeedsGo (xs ++ ys) → DeedsGo ys
  back [] ys go = go
  back (x ∷ xs) ys go = back xs ys go.1

  module _ (copy : Copy) (copied : (name : List ℕ) → Ok name → (args : List RExpr) (tables : Tables) → KindGoes (copy.call name args tables).0) where
    abbrev StmtGoes : Stmt → Type 0
    StmtGoes s = DeedsGo (deeds_of s) → StateGoes (stating copy s)

    abbrev GuardGoes : Branch → Type 0
    GuardGoes b = DeedsGo (deeds_of_branch b) → PartGoes BranchGoes (guarding copy b).branch

    as_kind : (s : Stmt) (line : ℕ) (becomes : Becomes ItemKind) → stating copy s ≡ states line becomes → PartGoes KindGoes becomes → StateGoes (stating copy s)
    as_kind s line becomes is goes = subst StateGoes (sym is) (kind_states line becomes goes)

    all_state : (ss : List Stmt) → AllByRecursion StmtGoes ss → DeedsGo (all (map deeds_of ss)) → AllByRecursion StateGoes (map (stating copy) ss)
    all_state [] goes ds = tt
    all_state (s ∷ ss) goes ds = (goes.0 (front (deeds_of s) (all (map deeds_of ss)) ds), all_state ss goes.1 (back (deeds_of s) (all (map deeds_of ss)) ds))

    other_states : (other : Option (List Stmt)) → Where (AllByRecursion StmtGoes) other → DeedsGo (all_if (option_map (map deeds_of) other)) → Where (AllByRecursion StateGoes) (option_map (map (stating copy)) other)
    other_states None goes ds = tt
    other_states (Some ss) goes ds = all_state ss goes ds

    all_guarded : (bs : List Branch) → AllByRecursion GuardGoes bs → DeedsGo (all (map deeds_of_branch bs)) → AllByRecursion (PartGoes BranchGoes) (map (λ (g : Guarded). g.branch) (map (guarding copy) bs))
    all_guarded [] goes ds = tt
    all_guarded (b ∷ bs) goes ds = (goes.0 (front (deeds_of_branch b) (all (map deeds_of_branch bs)) ds), all_guarded bs goes.1 (back (deeds_of_branch b) (all (map deeds_of_branch bs)) ds))

    if_states : (bs : List Branch) (other : Option (List Stmt)) (line : ℕ) → AllByRecursion GuardGoes bs → Where (AllByRecursion StmtGoes) other → StmtGoes (stmt.If bs other line)
    if_states bs other line goes last ds =
        let conds = all (map deeds_of_branch bs) in
        let others = all_if (option_map (map deeds_of) other) in
        let known = subst DeedsGo (deeds_of-If bs other line) ds in
        as_kind _ line _ (stating-If copy bs other line) (ifs_part (map (guarding copy) bs) (option_map (map (stating copy)) other) (all_guarded bs goes (front conds others known.1)) (other_states other last (back conds others known.1)))

    guard_states : (x : Expr) (ss : List Stmt) (line : ℕ) → AllByRecursion StmtGoes ss → GuardGoes (roll-Branch (record { cond = x; body = ss; line = line }))
    guard_states x ss line goes ds =
        let known = subst DeedsGo (deeds_of_branch-of x ss line) ds in
        subst (λ (g : Guarded). PartGoes BranchGoes g.branch) (sym (guarding-of copy x ss line)) (branch_part line x (map (stating copy) ss) (all_state ss goes known.1))

    goes_cases : StmtCases
    goes_cases = record {
      Of_stmt = StmtGoes;
      Of_branch = GuardGoes;
      Of_timeout = λ t. Unit {0};
      assign = λ name x line ds. as_kind _ line _ (stating-Assign copy name x line) (λ scope tables. plain_goes _ _ (it.outs-Assign _ _) refl refl);
      add = λ name x line ds. as_kind _ line _ (stating-Add copy name x line) (λ scope tables. plain_goes _ _ (it.outs-Add _ _) refl refl);
      delete = λ name x line ds. as_kind _ line _ (stating-Del copy name x line) (λ scope tables. plain_goes _ _ (it.outs-Del _ _) refl refl);
      send = λ x to line ds. as_kind _ line _ (stating-Send copy x to line) (λ scope tables. plain_goes _ _ (it.outs-Send _ _) refl refl);
      output = λ x line ds. as_kind _ line _ (stating-Output copy x line) (λ scope tables. plain_goes _ _ (it.outs-Output _) refl refl);
      pass = λ line ds. as_kind _ line _ (stating-Pass copy line) (λ scope tables. pass_goes);
      label = λ name line ds. absurd (subst DeedsGo (deeds_of-Label name line) ds).0;
      call = λ name xs line ds. as_kind _ line _ (stating-Call copy name xs line) (λ scope tables. copied name (subst DeedsGo (deeds_of-Call name xs line) ds).0 _ _);
      conditional = if_states;
      loop = λ x body line goes ds. as_kind _ line _ (stating-While copy x body line) (loop_part x (map (stating copy) body) (all_state body goes (subst DeedsGo (deeds_of-While x body line) ds).1));
      each = λ name x body line goes ds. as_kind _ line _ (stating-For copy name x body line) (for_part name x (map (stating copy) body) (all_state body goes (subst DeedsGo (deeds_of-For name x body line) ds).1));
      await_one = λ x line ds. absurd (subst DeedsGo (deeds_of-AwaitOne x line) ds).0;
      await = λ bs over line goes others ds. absurd (subst DeedsGo (deeds_of-Await bs over line) ds).0;
      branch = guard_states;
      timeout = λ body line goes. tt;
    }

    stmt_goes : (s : Stmt) → StmtGoes s
    unfolding goes_cases
    stmt_goes = stmt_induction goes_cases

    stmts_go : (ss : List Stmt) → AllByRecursion StmtGoes ss
    stmts_go [] = tt
    stmts_go (s ∷ ss) = (stmt_goes s, stmts_go ss)

    pub body_goes : (ss : List Stmt) → DeedsGo (deeds ss) → PartGoes BlockGoes (body_with copy ss)
    body_goes ss ds = block_part (map (stating copy) ss) (all_state ss (stmts_go ss) (subst DeedsGo (sym (deeds-all ss)) ds))
