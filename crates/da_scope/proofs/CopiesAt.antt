-- Copies of bodies, by the number of calls that may be within calls.
use Rattle.std.proofs.Common.{◌≡◌, ◌∙◌, ap, sym, refl, ℕ, suc, ◌<◌, List, length, map, zip, arith}
use Rattle.da_lang.specs.declared.program.ItemKind.{ItemKind}
use Rattle.da_lang.specs.declared.program.ItemKind.TheVariants as it
use Rattle.da_lang.specs.declared.program.RExpr.{RExpr}
use Rattle.da_lang.specs.declared.tree.ClassTree.{ClassTree}
use Rattle.da_lang.specs.declared.program.BindArg.{BindArg}
use Rattle.da_lang.specs.declared.program.Item.{Item}
use Rattle.da_lang.specs.declared.tree.Param.{Param}
use Rattle.da_lang.specs.declared.tree.Stmt.{Stmt}
use Rattle.da_lang.specs.BodyMeaning.{Copy, bind_arg, body_with, class_slots, copies, copy_of, fresh, param_slots, with_params}
use Rattle.da_lang.specs.ClassParts.{method_of, params_if, stmts_if}
use Rattle.da_lang.specs.ExprMeaning.{Meaning, Tables}
use Rattle.da_lang.specs.Scopes.{Scope}

copies-none : (c : ClassTree) (name : List ℕ) (args : List RExpr) (tables : Tables) → ◌≡◌ {A = ItemKind × Tables} ((copies 0 c).call name args tables) (it.Pass, tables)
unfolding copies
copies-none c name args tables = refl

copies-some : (fewer : ℕ) (c : ClassTree) (name : List ℕ) (args : List RExpr) (tables : Tables) → (copies (suc fewer) c).call name args tables ≡ copy_of (copies fewer c) c (method_of c name) args tables
unfolding copies
copies-some fewer c name args tables = refl

-- a copy of a body by its parts
abbrev copy_by : Copy → List RExpr → Tables → List Param → List Stmt → Scope Meaning → ItemKind × Tables
copy_by inner args tables params stmts scope =
    let items = body_with inner stmts (param_slots params tables scope) (with_params params tables) in
    (it.Call (map bind_arg (zip (fresh tables (length params)) args)) items.0, items.1)

copy_is : (most fewer : ℕ) (c : ClassTree) (name : List ℕ) (args : List RExpr) (tables : Tables) (params : List Param) (stmts : List Stmt) (outer : Scope Meaning)
    → most ≡ suc fewer → params ≡ params_if (method_of c name) → stmts ≡ stmts_if (method_of c name) → outer ≡ class_slots c
    → (copies most c).call name args tables ≡ copy_by (copies fewer c) args tables params stmts outer
copy_is most fewer c name args tables params stmts outer one params_are stmts_are outside =
    ap (λ m. (copies m c).call name args tables) one ∙ copies-some fewer c name args tables
    ∙ sym (ap (λ ps. copy_by (copies fewer c) args tables ps stmts outer) params_are ∙ ap (λ ss. copy_by (copies fewer c) args tables (params_if (method_of c name)) ss outer) stmts_are
    ∙ ap (λ s. copy_by (copies fewer c) args tables (params_if (method_of c name)) (stmts_if (method_of c name)) s) outside)

body_is : (inner : Copy) (stmts : List Stmt) (params : List Param) (outer scope : Scope Meaning) (tables middle : Tables) → scope ≡ param_slots params tables outer → middle ≡ with_params params tables
    → body_with inner stmts scope middle ≡ body_with inner stmts (param_slots params tables outer) (with_params params tables)
body_is inner stmts params outer scope tables middle inside tables_are =
    ap (λ s. body_with inner stmts s middle) inside ∙ ap (λ t. body_with inner stmts (param_slots params tables outer) t) tables_are

pub copied_kind : (most fewer : ℕ) (c : ClassTree) (name : List ℕ) (args : List RExpr) (tables middle : Tables) (params : List Param) (stmts : List Stmt) (outer scope : Scope Meaning)
    (slots : List ℕ) (binds : List BindArg) (items : List Item)
    → most ≡ suc fewer → params ≡ params_if (method_of c name) → stmts ≡ stmts_if (method_of c name) → outer ≡ class_slots c
    → slots ≡ fresh tables (length params) → scope ≡ param_slots params tables outer → middle ≡ with_params params tables
    → items ≡ (body_with (copies fewer c) stmts scope middle).0 → binds ≡ map bind_arg (zip slots args) → it.Call binds items ≡ ((copies most c).call name args tables).0
copied_kind most fewer c name args tables middle params stmts outer scope slots binds items one params_are stmts_are outside slots_are inside tables_are items_are binds_are =
    ap (λ bs. it.Call bs items) (binds_are ∙ ap (λ ns. map bind_arg (zip ns args)) slots_are)
    ∙ ap (λ (is : List Item). it.Call (map bind_arg (zip (fresh tables (length params)) args)) is) (items_are ∙ ap (λ (p : List Item × Tables). p.0) (body_is (copies fewer c) stmts params outer scope tables middle inside tables_are))
    ∙ sym (ap (λ (p : ItemKind × Tables). p.0) (copy_is most fewer c name args tables params stmts outer one params_are stmts_are outside))

pub copied_tables : (most fewer : ℕ) (c : ClassTree) (name : List ℕ) (args : List RExpr) (tables middle after : Tables) (params : List Param) (stmts : List Stmt) (outer scope : Scope Meaning)
    → most ≡ suc fewer → params ≡ params_if (method_of c name) → stmts ≡ stmts_if (method_of c name) → outer ≡ class_slots c
    → scope ≡ param_slots params tables outer → middle ≡ with_params params tables
    → after ≡ (body_with (copies fewer c) stmts scope middle).1 → after ≡ ((copies most c).call name args tables).1
copied_tables most fewer c name args tables middle after params stmts outer scope one params_are stmts_are outside inside tables_are after_is =
    after_is ∙ ap (λ (p : List Item × Tables). p.1) (body_is (copies fewer c) stmts params outer scope tables middle inside tables_are)
    ∙ sym (ap (λ (p : ItemKind × Tables). p.1) (copy_is most fewer c name args tables params stmts outer one params_are stmts_are outside))

pub no_copy : (most : ℕ) (c : ClassTree) (name : List ℕ) (args : List RExpr) (tables : Tables) → most < 1 → ◌≡◌ {A = ItemKind × Tables} ((copies most c).call name args tables) (it.Pass, tables)
no_copy most c name args tables none = let zeroth : most ≡ 0 = omega (arith, none) in ap (λ m. (copies m c).call name args tables) zeroth ∙ copies-none c name args tables
