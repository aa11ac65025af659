use Rattle.std.proofs.Common.{◌≡◌, ◌∙◌, ap, sym, suc, ◌<◌, List, ℕ, arith, map, zip}
use Rattle.da_lang.specs.declared.program.ItemKind.{ItemKind}
use Rattle.da_lang.specs.BodyMeaning.{bind_arg}
use Rattle.da_lang.specs.ExprMeaning.{Tables}
use Rattle.da_scope.proofs.CopiesAt.{copied_kind, copied_tables, no_copy}
use Rattle.da_scope.proofs.copying.+copy_body.Goals as goal

pub returns-in_default-clause-kind : goal.returns-in_default-clause-kind
returns-in_default-clause-kind t c =
    let none : c.args.most < 1 = omega (arith, c.in_default.ensures) in
    sym (ap (λ (p : ItemKind × Tables). p.0) (no_copy c.args.most c.args.home.now.class.now c.args.name.now c.args.args c.args.tables.now none))

pub returns-in_default-clause-tables : goal.returns-in_default-clause-tables
returns-in_default-clause-tables t c =
    let none : c.args.most < 1 = omega (arith, c.in_default.ensures) in
    sym (ap (λ (p : ItemKind × Tables). p.1) (no_copy c.args.most c.args.home.now.class.now c.args.name.now c.args.args c.args.tables.now none))

pub returns-clause-kind : goal.returns-clause-kind
returns-clause-kind t c =
    let one : c.args.most ≡ suc c.in-Some.fewer = omega (arith, c.in-Some.ensures) in
    let slots = c.in_ok-slots.ensures in
    copied_kind _ _ _ _ _ _ c.declare_params.new.tables c.method-method.result.params.now c.method-method.result.stmts.now c.in_ok-scope.scope c.declare_params.new.scope c.in_ok-slots.slots _ _ one c.method-method.ensures.params c.method-method.ensures.stmts
    (c.in_ok-scope.ensures ∙ c.args.home.now.variables) slots.slots slots.scope slots.tables c.in_ok-items.ensures.items
    (c.in_ok-bind_args.ensures ∙ ap (λ ns. map bind_arg (zip ns c.args.args)) c.as_slice.ensures)

pub returns-clause-tables : goal.returns-clause-tables
returns-clause-tables t c =
    let one : c.args.most ≡ suc c.in-Some.fewer = omega (arith, c.in-Some.ensures) in
    let slots = c.in_ok-slots.ensures in
    copied_tables _ _ _ _ _ _ c.declare_params.new.tables c.block.new.tables c.method-method.result.params.now c.method-method.result.stmts.now c.in_ok-scope.scope c.declare_params.new.scope one c.method-method.ensures.params c.method-method.ensures.stmts
    (c.in_ok-scope.ensures ∙ c.args.home.now.variables) slots.scope slots.tables c.in_ok-items.ensures.tables
