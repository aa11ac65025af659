-- Statements, one layer at a time, and one statement more.
use Rattle.std.proofs.Common.{◌≡◌, ◌∙◌, ap, refl, ℕ, zero, suc, ◌+◌, ◌<◌, List, [], ◌∷◌, ◌++◌, map, length, get_or, take, Option, None}
use Rattle.da_lang.specs.declared.program.Item.{Item}
use Rattle.da_lang.specs.declared.tree.Branch.{Branch, out-Branch}
use Rattle.da_lang.specs.declared.tree.ClassTree.{ClassTree}
use Rattle.da_lang.specs.declared.tree.Stmt.{Stmt}
use Rattle.da_lang.specs.declared.tree.Stmt.TheVariants as stmt
use Rattle.da_lang.specs.declared.tree.TimeoutTree.{TimeoutTree, out-TimeoutTree}
use Rattle.da_lang.specs.BodyMeaning.{Becomes, AfterStmt, Copy, Guarded, Stating, as_alt, as_branch, after_label, body_with, copies, each, guarding, labels, stating, waiting}
use Rattle.da_lang.specs.ExprMeaning.{Meaning, Tables}
use Rattle.da_lang.specs.LabelNames.{label_number}
use Rattle.da_lang.specs.Scopes.{Scope}
use Rattle.da_lang.proofs.StatingAt.{stating_in-Assign, stating_in-Add, stating_in-Del, stating_in-Send, stating_in-Output, stating_in-Pass, stating_in-Label, stating_in-Call, stating_in-If, stating_in-While, stating_in-For, stating_in-AwaitOne, stating_in-Await, guarding-of, waiting-of}
use Rattle.da_lang.proofs.Taken.{taken}

copies-number : (most : ℕ) (c : ClassTree) → (copies most c).number ≡ label_number c
unfolding copies
copies-number zero c = refl
copies-number (suc most) c = refl

-- a label
label_made : (copy : Copy) (number : List ℕ → ℕ) (name : List ℕ) (line : ℕ) (label : Option ℕ) (scope : Scope Meaning) (tables : Tables) → copy.number ≡ number
    → stating copy (stmt.Label name line) label scope tables ≡ labels line (number name) label scope tables
label_made copy number name line label scope tables is = stating_in-Label copy name line label scope tables ∙ ap (λ (f : List ℕ → ℕ). labels line (f name) label scope tables) is

pub label-in : (most : ℕ) (c : ClassTree) (name : List ℕ) (line : ℕ) (label : Option ℕ) (scope : Scope Meaning) (tables : Tables)
    → stating (copies most c) (stmt.Label name line) label scope tables ≡ labels line (label_number c name) label scope tables
label-in most c name line label scope tables = label_made (copies most c) (label_number c) name line label scope tables (copies-number most c)

-- the block of a timeout
pub late-of : (copy : Copy) (t : TimeoutTree) → waiting copy t ≡ map (stating copy) (out-TimeoutTree t).body
late-of copy t = let v = out-TimeoutTree t in waiting-of copy v.body v.line

pub ruleset statements_at = (label-in, late-of, stating_in-Assign, stating_in-Add, stating_in-Del, stating_in-Send, stating_in-Output, stating_in-Pass, stating_in-Call, stating_in-If, stating_in-While, stating_in-For, stating_in-AwaitOne, stating_in-Await)

guarding_is : (copy : Copy) (b : Branch) → guarding copy b ≡ record { branch = as_branch (out-Branch b).line (out-Branch b).cond (map (stating copy) (out-Branch b).body); alt = as_alt (out-Branch b).line (out-Branch b).cond (map (stating copy) (out-Branch b).body) }
guarding_is copy b = let v = out-Branch b in guarding-of copy v.cond v.body v.line

pub branch-at : (copy : Copy) (b : Branch) (scope : Scope Meaning) (tables : Tables)
    → (guarding copy b).branch scope tables ≡ as_branch (out-Branch b).line (out-Branch b).cond (map (stating copy) (out-Branch b).body) scope tables
branch-at copy b scope tables = ap (λ (g : Guarded). g.branch scope tables) (guarding_is copy b)

pub alt-at : (copy : Copy) (b : Branch) (scope : Scope Meaning) (tables : Tables)
    → (guarding copy b).alt scope tables ≡ as_alt (out-Branch b).line (out-Branch b).cond (map (stating copy) (out-Branch b).body) scope tables
alt-at copy b scope tables = ap (λ (g : Guarded). g.alt scope tables) (guarding_is copy b)

pub ruleset branch_rules = (branch-at, alt-at)

-- the names in scope after some statements, and the label that the last of them is
abbrev pub scope_after : Option ℕ → List Stating → Scope Meaning → Tables → Scope Meaning
scope_after label [] scope tables = scope
scope_after label (s ∷ ss) scope tables = let first = s label scope tables in scope_after first.label ss first.scope first.tables

abbrev pub last_label : Option ℕ → List Stating → Scope Meaning → Tables → Option ℕ
last_label label [] scope tables = label
last_label label (s ∷ ss) scope tables = let first = s label scope tables in last_label first.label ss first.scope first.tables

-- one statement after others
module _ (copy : Copy) where
  abbrev Items : Option ℕ → List Stmt → Scope Meaning → Tables → List Item × Tables
  Items label stmts scope tables = after_label label (map (stating copy) stmts) scope tables

  abbrev Next : Option ℕ → List Stmt → Stmt → Scope Meaning → Tables → AfterStmt
  Next label stmts s scope tables =
      stating copy s (last_label label (map (stating copy) stmts) scope tables) (scope_after label (map (stating copy) stmts) scope tables) (Items label stmts scope tables).1

  items_more : (label : Option ℕ) (stmts : List Stmt) (s : Stmt) (scope : Scope Meaning) (tables : Tables)
      → (Items label (stmts ++ s ∷ []) scope tables).0 ≡ (Items label stmts scope tables).0 ++ (Next label stmts s scope tables).item ∷ []
  items_more label [] s scope tables = refl
  items_more label (t ∷ stmts) s scope tables =
      let first = stating copy t label scope tables in ap (λ items. first.item ∷ items) (items_more first.label stmts s first.scope first.tables)

  tables_more : (label : Option ℕ) (stmts : List Stmt) (s : Stmt) (scope : Scope Meaning) (tables : Tables) → (Items label (stmts ++ s ∷ []) scope tables).1 ≡ (Next label stmts s scope tables).tables
  tables_more label [] s scope tables = refl
  tables_more label (t ∷ stmts) s scope tables = let first = stating copy t label scope tables in tables_more first.label stmts s first.scope first.tables

  scope_more : (label : Option ℕ) (stmts : List Stmt) (s : Stmt) (scope : Scope Meaning) (tables : Tables)
      → scope_after label (map (stating copy) (stmts ++ s ∷ [])) scope tables ≡ (Next label stmts s scope tables).scope
  scope_more label [] s scope tables = refl
  scope_more label (t ∷ stmts) s scope tables = let first = stating copy t label scope tables in scope_more first.label stmts s first.scope first.tables

  label_more : (label : Option ℕ) (stmts : List Stmt) (s : Stmt) (scope : Scope Meaning) (tables : Tables)
      → last_label label (map (stating copy) (stmts ++ s ∷ [])) scope tables ≡ (Next label stmts s scope tables).label
  label_more label [] s scope tables = refl
  label_more label (t ∷ stmts) s scope tables = let first = stating copy t label scope tables in label_more first.label stmts s first.scope first.tables

  -- what is known after some statements of a block
  pub record Came (stmts : List Stmt) (scope : Scope Meaning) (before : Tables) (label : Option ℕ) (inner : Scope Meaning) (middle : Tables) : Type 0 where
    pub label_is : label ≡ last_label None (map (stating copy) stmts) scope before
    pub scope_is : inner ≡ scope_after None (map (stating copy) stmts) scope before
    pub tables_are : middle ≡ (body_with copy stmts scope before).1

  -- a statement more of a list
  pub items_step : (stmts : List Stmt) (i : ℕ) (s : Stmt) (scope inner : Scope Meaning) (label : Option ℕ) (before middle : Tables) (found more : List Item) (item : Item)
      → i < length stmts → s ≡ get_or stmts i s → found ≡ (body_with copy (take i stmts) scope before).0 → Came (take i stmts) scope before label inner middle
      → item ≡ (stating copy s label inner middle).item → more ≡ found ++ item ∷ [] → more ≡ (body_with copy (take (i + 1) stmts) scope before).0
  items_step stmts i s scope inner label before middle found more item inside here so_far came one grown =
      let next = taken stmts i s inside here in
      let all = items_more None (take i stmts) s scope before in
      let a = came.label_is in
      let b = came.scope_is in
      let c = came.tables_are in
      cc

  pub came_step : (stmts : List Stmt) (i : ℕ) (s : Stmt) (scope inner last : Scope Meaning) (label behind : Option ℕ) (before middle after : Tables)
      → i < length stmts → s ≡ get_or stmts i s → Came (take i stmts) scope before label inner middle
      → behind ≡ (stating copy s label inner middle).label → last ≡ (stating copy s label inner middle).scope → after ≡ (stating copy s label inner middle).tables
      → Came (take (i + 1) stmts) scope before behind last after
  came_step stmts i s scope inner last label behind before middle after inside here came own named made =
      let next = taken stmts i s inside here in
      let a = came.label_is in
      let b = came.scope_is in
      let c = came.tables_are in
      let d = label_more None (take i stmts) s scope before in
      let e = scope_more None (take i stmts) s scope before in
      let f = tables_more None (take i stmts) s scope before in
      record { label_is = cc; scope_is = cc; tables_are = cc }

-- the parts of branches, in order
module _ {B : Type 0} (part : Guarded → Becomes B) (copy : Copy) where
  abbrev pub each_of : List Branch → Becomes (List B)
  each_of branches = each (map part (map (guarding copy) branches))

  parts_more : (branches : List Branch) (b : Branch) (scope : Scope Meaning) (tables : Tables)
      → (each_of (branches ++ b ∷ []) scope tables).0 ≡ (each_of branches scope tables).0 ++ (part (guarding copy b) scope (each_of branches scope tables).1).0 ∷ []
  parts_more [] b scope tables = refl
  parts_more (c ∷ branches) b scope tables = let first = part (guarding copy c) scope tables in ap (λ others. first.0 ∷ others) (parts_more branches b scope first.1)

  after_more : (branches : List Branch) (b : Branch) (scope : Scope Meaning) (tables : Tables)
      → (each_of (branches ++ b ∷ []) scope tables).1 ≡ (part (guarding copy b) scope (each_of branches scope tables).1).1
  after_more [] b scope tables = refl
  after_more (c ∷ branches) b scope tables = let first = part (guarding copy c) scope tables in after_more branches b scope first.1

  pub part_step : (branches : List Branch) (i : ℕ) (b : Branch) (scope : Scope Meaning) (before middle : Tables) (found more : List B) (one : B)
      → i < length branches → b ≡ get_or branches i b → found ≡ (each_of (take i branches) scope before).0 → middle ≡ (each_of (take i branches) scope before).1
      → one ≡ (part (guarding copy b) scope middle).0 → more ≡ found ++ one ∷ [] → more ≡ (each_of (take (i + 1) branches) scope before).0
  part_step branches i b scope before middle found more one inside here so_far there is grown =
      let next = taken branches i b inside here in
      let all = parts_more (take i branches) b scope before in
      cc

  pub after_step : (branches : List Branch) (i : ℕ) (b : Branch) (scope : Scope Meaning) (before middle after : Tables)
      → i < length branches → b ≡ get_or branches i b → middle ≡ (each_of (take i branches) scope before).1 → after ≡ (part (guarding copy b) scope middle).1
      → after ≡ (each_of (take (i + 1) branches) scope before).1
  after_step branches i b scope before middle after inside here there is =
      let next = taken branches i b inside here in
      let all = after_more (take i branches) b scope before in
      cc
