-- Statements bind the slots without a type that they bring, each once, in the order of the flow.
use Rattle.std.specs.Prelude.{◌≡◌, refl, ℕ, zero, suc, List, [], ◌∷◌, ◌++◌, map, length, Option, Some, None, option_map, unwrap_or}
use Rattle.std.specs.List.{AllByRecursion}
use Rattle.std.proofs.Common.{◌∙◌, ap, sym, subst, append-nil}
use Rattle.da_lang.specs.declared.program.Alt.{Alt}
use Rattle.da_lang.specs.declared.program.Item.{Item}
use Rattle.da_lang.specs.declared.program.ItemKind.{ItemKind}
use Rattle.da_lang.specs.declared.program.ItemKind.TheVariants as it
use Rattle.da_lang.specs.declared.program.RBranch.{RBranch}
use Rattle.da_lang.specs.declared.program.RExpr.{RExpr}
use Rattle.da_lang.specs.declared.tree.Branch.{Branch}
use Rattle.da_lang.specs.declared.tree.ClassTree.{ClassTree}
use Rattle.da_lang.specs.declared.tree.Expr.{Expr}
use Rattle.da_lang.specs.declared.tree.Stmt.{Stmt}
use Rattle.da_lang.specs.declared.tree.TimeoutTree.{TimeoutTree}
use Rattle.da_lang.specs.BodyMeaning.{Becomes, Stating, Guarded, Copy, next, fresh, named_slots, untyped, with_params, param_slots, class_slots, found_number, after_label, block, block_if, each, states, with_expr, with_exprs, changing, slot_of, bound as bound_block, as_branch, as_alt, ifs, loop, for_each, await_one, timeout_block, awaits, labels, calling, stating, guarding, waiting, body_with, copies}
use Rattle.da_lang.specs.ClassParts.{method_of, params_if, stmts_if}
use Rattle.da_lang.specs.ExprMeaning.{Meaning, Tables, meant, all_outside}
use Rattle.da_lang.specs.ExprNames.{found_names}
use Rattle.da_lang.specs.Scopes.{Scope, look}
use Rattle.da_lang.proofs.CondInduction.{Where}
use Rattle.da_lang.proofs.StmtInduction.{StmtCases, stmt_induction}
use Rattle.da_lang.proofs.StatingAt.{stating-Assign, stating-Add, stating-Del, stating-Send, stating-Output, stating-Pass, stating-Label, stating-Call, stating-If, stating-While, stating-For, stating-AwaitOne, stating-Await, guarding-of, waiting-of}
use Rattle.untyped_laws.specs.Flow.{Step, joined, bound, item_steps, kind_steps, alt_steps, branch_steps, body_steps}
use Rattle.untyped_laws.proofs.Growth.{Grown, grown_then, grown_none, grown_as, grown_after, grown_untyped, grown_params, grown_both}
use Rattle.untyped_laws.proofs.ListLaws.{all_mapped, all_of}
use Rattle.untyped_laws.proofs.Outside.{expr_rests, exprs_rest}
use Rattle.untyped_laws.proofs.StepsAt.{steps-Assign, steps-Add, steps-Del, steps-Send, steps-Output, steps-If, steps-While, steps-For, steps-Call, steps-Await, steps-Label, steps-Pass, item_steps-of, branch_steps-of, alt_steps-of}

-- a part of a text binds exactly the slots without a type that it brings
abbrev pub Brings : {A : Type 0} → (A → List Step) → Becomes A → Type 0
Brings steps f = (scope : Scope Meaning) (a : Tables) → Grown a (f scope a).1 (bound (steps (f scope a).0))

abbrev StateBrings : Stating → Type 0
StateBrings f = (label : Option ℕ) (scope : Scope Meaning) (a : Tables) → Grown a (f label scope a).tables (bound (item_steps (f label scope a).item))

abbrev KindBrings : Becomes ItemKind → Type 0
KindBrings f = Brings kind_steps f

after_brings : (fs : List Stating) → AllByRecursion StateBrings fs → (label : Option ℕ) → Brings body_steps (after_label label fs)
after_brings [] every label scope a = grown_none a a refl
after_brings (f ∷ fs) every label scope a =
    let x = f label scope a in
    let others = after_label x.label fs x.scope x.tables in
    grown_both a x.tables others.1 (item_steps x.item) (body_steps others.0) (every.0 label scope a) (after_brings fs every.1 x.label x.scope x.tables)

block_brings : (fs : List Stating) → AllByRecursion StateBrings fs → Brings body_steps (block fs)
block_brings fs every = after_brings fs every None

abbrev IfBrings : Option (List Stating) → Type 0
IfBrings None = Unit {0}
IfBrings (Some fs) = AllByRecursion StateBrings fs

if_brings : (o : Option (List Stating)) → IfBrings o → Brings body_steps (block_if o)
if_brings None every scope a = grown_none a a refl
if_brings (Some fs) every scope a = block_brings fs every scope a

late_brings : (o : Option (List Stating)) → IfBrings o → Brings (λ (late : Option (List Item)). body_steps (unwrap_or late [])) (timeout_block o)
late_brings None every scope a = grown_none a a refl
late_brings (Some fs) every scope a = block_brings fs every scope a

bound_brings : (names : List (List ℕ)) (fs : List Stating) → AllByRecursion StateBrings fs → (scope : Scope Meaning) (a : Tables) → Grown a (bound_block names fs scope a).1 (fresh a (length names) ++ bound (body_steps (bound_block names fs scope a).0))
bound_brings names fs every scope a =
    let s = named_slots names a scope in
    let items = block fs s (untyped names a) in
    grown_then a (untyped names a) items.1 (fresh a (length names)) (bound (body_steps items.0)) (grown_untyped names a) (block_brings fs every s (untyped names a))

branch_brings : (line : ℕ) (x : Expr) (fs : List Stating) → AllByRecursion StateBrings fs → Brings branch_steps (as_branch line x fs)
branch_brings line x fs every scope a =
    let cond = (meant x).outside scope a in
    let items = bound_block (found_names x) fs scope cond.1 in
    let binds = fresh cond.1 (length (found_names x)) in
    grown_after a cond.1 items.1 _ (expr_rests x scope a)
    (grown_as cond.1 items.1 _ (binds ++ bound (body_steps items.0)) (ap bound (branch_steps-of cond.0 (found_number x a) binds items.0 line)) (bound_brings (found_names x) fs every scope cond.1))

alt_brings : (line : ℕ) (x : Expr) (fs : List Stating) → AllByRecursion StateBrings fs → Brings alt_steps (as_alt line x fs)
alt_brings line x fs every scope a =
    let asked = (meant x).outside scope a in
    let items = bound_block (found_names x) fs scope asked.1 in
    let binds = fresh asked.1 (length (found_names x)) in
    grown_after a asked.1 items.1 _ (expr_rests x scope a)
    (grown_as asked.1 items.1 _ (binds ++ bound (body_steps items.0)) (ap bound (alt_steps-of ((meant x).condition scope) (found_number x a) binds items.0 line)) (bound_brings (found_names x) fs every scope asked.1))

record GuardBrings (g : Guarded) : Type 0 where
  branch : Brings branch_steps g.branch
  alt : Brings alt_steps g.alt

branches_bring : (gs : List Guarded) → AllByRecursion GuardBrings gs → Brings (λ (bs : List RBranch). joined (map branch_steps bs)) (each (map (λ b. b.branch) gs))
branches_bring [] all scope a = grown_none a a refl
branches_bring (g ∷ gs) all scope a =
    let first = g.branch scope a in
    let others = each (map (λ b. b.branch) gs) scope first.1 in
    grown_both a first.1 others.1 (branch_steps first.0) (joined (map branch_steps others.0)) (all.0.branch scope a) (branches_bring gs all.1 scope first.1)

alts_bring : (gs : List Guarded) → AllByRecursion GuardBrings gs → Brings (λ (bs : List Alt). joined (map alt_steps bs)) (each (map (λ b. b.alt) gs))
alts_bring [] all scope a = grown_none a a refl
alts_bring (g ∷ gs) all scope a =
    let first = g.alt scope a in
    let others = each (map (λ b. b.alt) gs) scope first.1 in
    grown_both a first.1 others.1 (alt_steps first.0) (joined (map alt_steps others.0)) (all.0.alt scope a) (alts_bring gs all.1 scope first.1)

stated : (line : ℕ) (f : Becomes ItemKind) → KindBrings f → StateBrings (states line f)
stated line f p label scope a = grown_as a (f scope a).1 _ (bound (kind_steps (f scope a).0)) (ap bound (item_steps-of line (f scope a).0)) (p scope a)

ifs_bring : (gs : List Guarded) (o : Option (List Stating)) → AllByRecursion GuardBrings gs → IfBrings o → KindBrings (ifs gs o)
ifs_bring gs o all other scope a =
    let firsts = each (map (λ b. b.branch) gs) scope a in
    let last = block_if o scope firsts.1 in
    grown_as a last.1 _ (bound (joined (map branch_steps firsts.0) ++ body_steps last.0)) (ap bound (steps-If firsts.0 last.0))
    (grown_both a firsts.1 last.1 (joined (map branch_steps firsts.0)) (body_steps last.0) (branches_bring gs all scope a) (if_brings o other scope firsts.1))

loop_brings : (x : Expr) (fs : List Stating) → AllByRecursion StateBrings fs → KindBrings (loop x fs)
loop_brings x fs all scope a =
    let cond = (meant x).outside scope a in
    let items = block fs scope cond.1 in
    grown_as a items.1 _ (bound (body_steps items.0)) (ap bound (steps-While cond.0 items.0)) (grown_after a cond.1 items.1 (bound (body_steps items.0)) (expr_rests x scope a) (block_brings fs all scope cond.1))

for_brings : (name : List ℕ) (x : Expr) (fs : List Stating) → AllByRecursion StateBrings fs → KindBrings (for_each name x fs)
for_brings name x fs all scope a =
    let over = (meant x).outside scope a in
    let items = bound_block (name ∷ []) fs scope over.1 in
    grown_as a items.1 _ (next over.1 ∷ bound (body_steps items.0)) (ap bound (steps-For (next over.1) over.0 items.0))
    (grown_after a over.1 items.1 _ (expr_rests x scope a) (bound_brings (name ∷ []) fs all scope over.1))

await_one_brings : (line : ℕ) (x : Expr) → StateBrings (await_one line x)
await_one_brings line x label scope a =
    let alt = as_alt line x [] scope a in
    let kind = it.Await (alt.0 ∷ []) None label in
    grown_as a alt.1 _ (bound (alt_steps alt.0))
    (ap bound (item_steps-of line kind ∙ steps-Await (alt.0 ∷ []) None label ∙ append-nil (alt_steps alt.0 ++ []) ∙ append-nil (alt_steps alt.0))) (alt_brings line x [] tt scope a)

awaits_bring : (gs : List Guarded) (o : Option (List Stating)) → AllByRecursion GuardBrings gs → IfBrings o → (label : Option ℕ) → KindBrings (awaits gs o label)
awaits_bring gs o all other label scope a =
    let every = each (map (λ b. b.alt) gs) scope a in
    let last = timeout_block o scope every.1 in
    grown_as a last.1 _ (bound (joined (map alt_steps every.0) ++ body_steps (unwrap_or last.0 []))) (ap bound (steps-Await every.0 last.0 label))
    (grown_both a every.1 last.1 (joined (map alt_steps every.0)) (body_steps (unwrap_or last.0 [])) (alts_bring gs all scope a) (late_brings o other scope every.1))

labels_bring : (line number : ℕ) → StateBrings (labels line number)
labels_bring line number label scope a = grown_as a a _ [] (ap bound (item_steps-of line (it.Label number) ∙ steps-Label number)) (grown_none a a refl)

abbrev pub CopyBrings : Copy → Type 0
CopyBrings f = (name : List ℕ) (args : List RExpr) (a : Tables) → Grown a (f.call name args a).1 (bound (kind_steps (f.call name args a).0))

calling_brings : (f : Copy) → CopyBrings f → (name : List ℕ) (xs : List Expr) → KindBrings (calling f name xs)
calling_brings f p name xs scope a =
    let args = all_outside (map meant xs) scope a in
    let made = f.call name args.0 args.1 in
    grown_after a args.1 made.1 (bound (kind_steps made.0)) (exprs_rest xs scope a) (p name args.0 args.1)

with_one : (make : RExpr → ItemKind) → ((x : RExpr) → kind_steps (make x) ≡ []) → (x : Expr) → KindBrings (with_expr make x)
with_one make none x scope a = let first = (meant x).outside scope a in grown_as a first.1 _ [] (ap bound (none first.0)) (grown_none a first.1 (expr_rests x scope a))

with_two : (make : RExpr → RExpr → ItemKind) → ((x y : RExpr) → kind_steps (make x y) ≡ []) → (x y : Expr) → KindBrings (with_exprs make x y)
with_two make none x y scope a =
    let first = (meant x).outside scope a in
    let second = (meant y).outside scope first.1 in
    grown_as a second.1 _ [] (ap bound (none first.0 second.0)) (grown_none a second.1 (expr_rests y scope first.1 ∙ expr_rests x scope a))

with_slot : (make : ℕ → RExpr → ItemKind) → ((slot : ℕ) (x : RExpr) → kind_steps (make slot x) ≡ []) → (name : List ℕ) (x : Expr) → KindBrings (changing make name x)
with_slot make none name x scope a = with_one (make (slot_of (look scope name))) (none (slot_of (look scope name))) x scope a

module _ (f : Copy) (p : CopyBrings f) where
  abbrev OfStmt : Stmt → Type 0
  OfStmt s = StateBrings (stating f s)

  abbrev OfBranch : Branch → Type 0
  OfBranch s = GuardBrings (guarding f s)

  abbrev OfTimeout : TimeoutTree → Type 0
  OfTimeout s = AllByRecursion StateBrings (waiting f s)

  by : {x y : Stating} → x ≡ y → StateBrings y → StateBrings x
  by e t = subst StateBrings (sym e) t

  stmts : (ss : List Stmt) → AllByRecursion OfStmt ss → AllByRecursion StateBrings (map (stating f) ss)
  stmts ss every = all_mapped StateBrings (stating f) ss every

  guards : (bs : List Branch) → AllByRecursion OfBranch bs → AllByRecursion GuardBrings (map (guarding f) bs)
  guards bs every = all_mapped GuardBrings (guarding f) bs every

  otherwise : (o : Option (List Stmt)) → Where (AllByRecursion OfStmt) o → IfBrings (option_map (map (stating f)) o)
  otherwise None w = tt
  otherwise (Some ss) w = stmts ss w

  late : (o : Option TimeoutTree) → Where OfTimeout o → IfBrings (option_map (waiting f) o)
  late None w = tt
  late (Some t) w = w

  abbrev cases : StmtCases
  cases = record {
    Of_stmt = OfStmt;
    Of_branch = OfBranch;
    Of_timeout = OfTimeout;
    assign = λ name x line. by (stating-Assign f name x line) (stated line _ (with_slot it.Assign steps-Assign name x));
    add = λ name x line. by (stating-Add f name x line) (stated line _ (with_slot it.Add steps-Add name x));
    delete = λ name x line. by (stating-Del f name x line) (stated line _ (with_slot it.Del steps-Del name x));
    send = λ x to line. by (stating-Send f x to line) (stated line _ (with_two it.Send steps-Send x to));
    output = λ x line. by (stating-Output f x line) (stated line _ (with_one it.Output steps-Output x));
    pass = λ line. by (stating-Pass f line) (stated line (λ scope tables. (it.Pass, tables)) (λ scope a. grown_as a a _ [] (ap bound steps-Pass) (grown_none a a refl)));
    label = λ name line. by (stating-Label f name line) (labels_bring line (f.number name));
    call = λ name xs line. by (stating-Call f name xs line) (stated line _ (calling_brings f p name xs));
    conditional = λ branches other line bs o. by (stating-If f branches other line) (stated line _ (ifs_bring _ _ (guards branches bs) (otherwise other o)));
    loop = λ x body line every. by (stating-While f x body line) (stated line _ (loop_brings x _ (stmts body every)));
    each = λ name x body line every. by (stating-For f name x body line) (stated line _ (for_brings name x _ (stmts body every)));
    await_one = λ x line. by (stating-AwaitOne f x line) (await_one_brings line x);
    await = λ alts over line every w. by (stating-Await f alts over line) (λ label. stated line _ (awaits_bring _ _ (guards alts every) (late over w) label) label);
    branch = λ cond body line every. subst GuardBrings (sym (guarding-of f cond body line)) (record { branch = branch_brings line cond (map (stating f) body) (stmts body every); alt = alt_brings line cond (map (stating f) body) (stmts body every) });
    timeout = λ body line every. subst (AllByRecursion StateBrings) (sym (waiting-of f body line)) (stmts body every);
  }

  pub body_brings : (ss : List Stmt) → Brings body_steps (body_with f ss)
  body_brings ss = block_brings (map (stating f) ss) (stmts ss (all_of OfStmt (stmt_induction cases) ss))

pub copies_bring : (most : ℕ) (c : ClassTree) → CopyBrings (copies most c)
unfolding copies
copies_bring zero c name args a = grown_as a a _ [] (ap bound steps-Pass) (grown_none a a refl)
copies_bring (suc most) c name args a =
    let method = method_of c name in
    let s = param_slots (params_if method) a (class_slots c) in
    let b = with_params (params_if method) a in
    let items = body_with (copies most c) (stmts_if method) s b in
    grown_as a items.1 _ (bound (body_steps items.0)) (ap bound (steps-Call _ items.0))
    (grown_then a b items.1 [] (bound (body_steps items.0)) (grown_params (params_if method) a) (body_brings (copies most c) (copies_bring most c) (stmts_if method) s b))
