-- What statements become once their names are found and their calls are inlined.
use Rattle.std.specs.Prelude.{ℕ, zero, suc, Bool, true, false, if◌then◌else◌, List, [], ◌∷◌, ◌++◌, map, length, zip, Option, Some, None}
use Rattle.std.specs.List.{range_with_len}
use Rattle.da_lang.specs.declared.program.Alt.{Alt, roll-Alt}
use Rattle.da_lang.specs.declared.program.BindArg.{BindArg}
use Rattle.da_lang.specs.declared.program.Item.{Item, roll-Item}
use Rattle.da_lang.specs.declared.program.ItemKind.{ItemKind}
use Rattle.da_lang.specs.declared.program.ItemKind.TheVariants as it
use Rattle.da_lang.specs.declared.program.RBranch.{RBranch, roll-RBranch}
use Rattle.da_lang.specs.declared.program.RExpr.{RExpr}
use Rattle.da_lang.specs.declared.tree.ChainTree.{ChainTree}
use Rattle.da_lang.specs.declared.tree.ClassTree.{ClassTree}
use Rattle.da_lang.specs.declared.tree.Expr.{Expr, out-Expr}
use Rattle.da_lang.specs.declared.tree.Expr.TheOpen.{Expr-F}
use Rattle.da_lang.specs.declared.tree.GenTree.{GenTree}
use Rattle.da_lang.specs.declared.tree.Param.{Param}
use Rattle.da_lang.specs.declared.tree.PatternTree.{PatternTree}
use Rattle.da_lang.specs.declared.tree.PeerTree.{PeerTree}
use Rattle.da_lang.specs.declared.tree.Branch.{Branch}
use Rattle.da_lang.specs.declared.tree.Stmt.{Stmt}
use Rattle.da_lang.specs.declared.tree.Stmt.TheFolds.{fold-Stmt, fold-Branch, fold-TimeoutTree}
use Rattle.da_lang.specs.declared.tree.Stmt.TheOpen.{Stmt-F, Branch-F, TimeoutTree-F}
use Rattle.da_lang.specs.declared.tree.TimeoutTree.{TimeoutTree}
use Rattle.da_lang.specs.declared.ty.Ty.{Ty}
use Rattle.da_lang.specs.ClassParts.{Body, method_of, variables, params_if, stmts_if}
use Rattle.da_lang.specs.ExprMeaning.{Meaning, InSlot, Tables, numbered, meant, all_outside}
use Rattle.da_lang.specs.ExprNames.{found_names}
use Rattle.da_lang.specs.LabelNames.{label_number}
use Rattle.da_lang.specs.Scopes.{Scope, look}

-- what a part of a text becomes, by the names in scope and what was met so far
abbrev pub Becomes : Type 0 → Type 0
Becomes A = Scope Meaning → Tables → A × Tables

-- the numbers of so many new slots; new slots of these types
abbrev pub next : Tables → ℕ
next tables = suc (length tables.slots)

abbrev pub fresh : Tables → ℕ → List ℕ
fresh tables many = range_with_len (next tables) many

abbrev pub with_slots : List (Option Ty) → Tables → Tables
with_slots types tables = record { slots = tables.slots ++ types; queries = tables.queries }

-- new slots for names, whose types are not known yet
abbrev pub untyped : List (List ℕ) → Tables → Tables
untyped names = with_slots (map (λ name. None) names)

abbrev pub named_slots : List (List ℕ) → Tables → Scope Meaning → Scope Meaning
named_slots names tables scope = numbered InSlot (next tables) names scope

-- new slots for parameters
abbrev pub with_params : List Param → Tables → Tables
with_params params = with_slots (map (λ p. Some p.ty) params)

abbrev pub param_slots : List Param → Tables → Scope Meaning → Scope Meaning
param_slots params = named_slots (map (λ p. p.name) params)

-- the variables of a class in its slots, which are the first
abbrev pub class_slots : ClassTree → Scope Meaning
class_slots c = numbered InSlot 1 (map (λ v. v.name) (variables c)) []

-- the number of the query of a condition that is a `some`
abbrev pub finds_in : Expr-F Expr PatternTree PeerTree ChainTree GenTree → Bool
finds_in (Expr-F.Quant false gens cond) = true
finds_in _ = false

abbrev pub found_number : Expr → Tables → Option ℕ
found_number x tables = if finds_in (out-Expr x) then Some (suc (length tables.queries)) else None

abbrev pub slot_of : Option Meaning → ℕ
slot_of (Some (InSlot slot)) = slot
slot_of _ = 0

-- a statement, with the label that it is, and the names in scope after it
pub record AfterStmt : Type 0 where
  pub item : Item
  pub label : Option ℕ
  pub scope : Scope Meaning
  pub tables : Tables

-- by the label directly before it in its block, if there is one
abbrev pub Stating : Type 0
Stating = Option ℕ → Scope Meaning → Tables → AfterStmt

abbrev pub item_at : ℕ → ItemKind → Item
item_at line kind = roll-Item (record { line = line; kind = kind })

-- the statements of a block after a label, or after another statement
abbrev pub after_label : Option ℕ → List Stating → Becomes (List Item)
after_label label [] scope tables = ([], tables)
after_label label (s ∷ ss) scope tables =
    let first = s label scope tables in let others = after_label first.label ss first.scope first.tables in (first.item ∷ others.0, others.1)

-- those of a whole block
abbrev pub block : List Stating → Becomes (List Item)
block = after_label None

abbrev pub block_if : Option (List Stating) → Becomes (List Item)
block_if None scope tables = ([], tables)
block_if (Some ss) scope tables = block ss scope tables

-- parts in order, none of which sees the variables of another
abbrev pub each : {A : Type 0} → List (Becomes A) → Becomes (List A)
each [] scope tables = ([], tables)
each (part ∷ parts) scope tables = let first = part scope tables in let others = each parts scope first.1 in (first.0 ∷ others.0, others.1)

-- a statement that leaves the scope as it was
abbrev pub states : ℕ → Becomes ItemKind → Stating
states line becomes label scope tables = let kind = becomes scope tables in record { item = item_at line kind.0; label = None; scope = scope; tables = kind.1 }

abbrev pub with_expr : (RExpr → ItemKind) → Expr → Becomes ItemKind
with_expr make x scope tables = let first = (meant x).outside scope tables in (make first.0, first.1)

abbrev pub with_exprs : (RExpr → RExpr → ItemKind) → Expr → Expr → Becomes ItemKind
with_exprs make x y scope tables =
    let first = (meant x).outside scope tables in let second = (meant y).outside scope first.1 in (make first.0 second.0, second.1)

abbrev pub changing : (ℕ → RExpr → ItemKind) → List ℕ → Expr → Becomes ItemKind
changing make name x scope = with_expr (make (slot_of (look scope name))) x scope

-- a condition with its block, as a branch of `if` and as an alternative of `await`
pub record Guarded : Type 0 where
  pub branch : Becomes RBranch
  pub alt : Becomes Alt

-- the block of a header that binds these names
abbrev pub bound : List (List ℕ) → List Stating → Becomes (List Item)
bound names body scope tables = block body (named_slots names tables scope) (untyped names tables)

abbrev pub as_branch : ℕ → Expr → List Stating → Becomes RBranch
as_branch line x body scope tables =
    let cond = (meant x).outside scope tables in
    let items = bound (found_names x) body scope cond.1 in
    (roll-RBranch (record { cond = cond.0; found = found_number x tables; binds = fresh cond.1 (length (found_names x)); body = items.0; line = line }), items.1)

abbrev pub as_alt : ℕ → Expr → List Stating → Becomes Alt
as_alt line x body scope tables =
    let asked = (meant x).outside scope tables in
    let items = bound (found_names x) body scope asked.1 in
    (roll-Alt (record { cond = (meant x).condition scope; found = found_number x tables; binds = fresh asked.1 (length (found_names x)); body = items.0; line = line }), items.1)

abbrev pub ifs : List Guarded → Option (List Stating) → Becomes ItemKind
ifs branches other scope tables =
    let firsts = each (map (λ b. b.branch) branches) scope tables in let last = block_if other scope firsts.1 in (it.If firsts.0 last.0, last.1)

abbrev pub loop : Expr → List Stating → Becomes ItemKind
loop x body scope tables = let cond = (meant x).outside scope tables in let items = block body scope cond.1 in (it.While cond.0 items.0, items.1)

abbrev pub for_each : List ℕ → Expr → List Stating → Becomes ItemKind
for_each name x body scope tables =
    let over = (meant x).outside scope tables in
    let items = bound (name ∷ []) body scope over.1 in
    (it.For (next over.1) over.0 items.0, items.1)

-- an `await` without a block: its variables stay in scope
abbrev pub await_one : ℕ → Expr → Stating
await_one line x label scope tables =
    let alt = as_alt line x [] scope tables in
    record { item = item_at line (it.Await (alt.0 ∷ []) None label); label = None; scope = named_slots (found_names x) tables scope; tables = alt.1 }

-- the block of a `timeout`, which stands after the alternatives and sees none of their variables
abbrev pub timeout_block : Option (List Stating) → Becomes (Option (List Item))
timeout_block None scope tables = (None, tables)
timeout_block (Some body) scope tables = let items = block body scope tables in (Some items.0, items.1)

abbrev pub awaits : List Guarded → Option (List Stating) → Option ℕ → Becomes ItemKind
awaits alts timeout label scope tables =
    let all = each (map (λ b. b.alt) alts) scope tables in
    let last = timeout_block timeout scope all.1 in
    (it.Await all.0 last.0 label, last.1)

-- a label of this number
abbrev pub labels : ℕ → ℕ → Stating
labels line number label scope tables = record { item = item_at line (it.Label number); label = Some number; scope = scope; tables = tables }

-- what names stand for in a class: the copy of a method for a call with these arguments, and the number of a label
pub record Copy : Type 0 where
  pub call : List ℕ → List RExpr → Tables → ItemKind × Tables
  pub number : List ℕ → ℕ

abbrev pub calling : Copy → List ℕ → List Expr → Becomes ItemKind
calling copy name xs scope tables = let args = all_outside (map meant xs) scope tables in copy.call name args.0 args.1

abbrev pub stmt_meant : Copy → Stmt-F Stating Guarded (List Stating) → Stating
stmt_meant copy (Stmt-F.Assign name x line) = states line (changing it.Assign name x)
stmt_meant copy (Stmt-F.Add name x line) = states line (changing it.Add name x)
stmt_meant copy (Stmt-F.Del name x line) = states line (changing it.Del name x)
stmt_meant copy (Stmt-F.Send x to line) = states line (with_exprs it.Send x to)
stmt_meant copy (Stmt-F.Output x line) = states line (with_expr it.Output x)
stmt_meant copy (Stmt-F.Pass line) = states line (λ scope tables. (it.Pass, tables))
stmt_meant copy (Stmt-F.Label name line) = labels line (copy.number name)
stmt_meant copy (Stmt-F.Call name xs line) = states line (calling copy name xs)
stmt_meant copy (Stmt-F.If branches other line) = states line (ifs branches other)
stmt_meant copy (Stmt-F.While x body line) = states line (loop x body)
stmt_meant copy (Stmt-F.For name x body line) = states line (for_each name x body)
stmt_meant copy (Stmt-F.AwaitOne x line) = await_one line x
stmt_meant copy (Stmt-F.Await alts timeout line) = λ label. states line (awaits alts timeout label) label

abbrev pub branch_meant : Branch-F Stating Guarded (List Stating) → Guarded
branch_meant b = record { branch = as_branch b.line b.cond b.body; alt = as_alt b.line b.cond b.body }

abbrev pub timeout_meant : TimeoutTree-F Stating Guarded (List Stating) → List Stating
timeout_meant t = t.body

unfoldable pub stating : Copy → Stmt → Stating
stating copy = fold-Stmt Stating Guarded (List Stating) (stmt_meant copy) branch_meant timeout_meant

unfoldable pub guarding : Copy → Branch → Guarded
guarding copy = fold-Branch Stating Guarded (List Stating) (stmt_meant copy) branch_meant timeout_meant

unfoldable pub waiting : Copy → TimeoutTree → List Stating
waiting copy = fold-TimeoutTree Stating Guarded (List Stating) (stmt_meant copy) branch_meant timeout_meant

-- the statements of a body
abbrev pub body_with : Copy → List Stmt → Becomes (List Item)
body_with copy stmts = block (map (stating copy) stmts)

-- arguments with the slots of their parameters
abbrev pub bind_arg : ℕ × RExpr → BindArg
bind_arg pair = record { slot = pair.0; value = pair.1 }

-- a copy of the body of a method, with new slots for its parameters
abbrev pub copy_of : Copy → ClassTree → Option Body → List RExpr → Tables → ItemKind × Tables
copy_of inner c method args tables =
    let items = body_with inner (stmts_if method) (param_slots (params_if method) tables (class_slots c)) (with_params (params_if method) tables) in
    (it.Call (map bind_arg (zip (fresh tables (length (params_if method))) args)) items.0, items.1)

-- the same, where at most so many calls are within calls
unfoldable pub copies : ℕ → ClassTree → Copy
copies zero c = record { call = λ name args tables. (it.Pass, tables); number = label_number c }
copies (suc most) c = record { call = λ name args tables. copy_of (copies most c) c (method_of c name) args tables; number = label_number c }

-- the statements of a body of a class: no chain of calls is longer than the number of its members
abbrev pub body_of : ClassTree → List Stmt → Becomes (List Item)
body_of c = body_with (copies (length c.members) c)
