use Rattle.std.proofs.Common.{ℕ, List, Option, Some, ap}
use Rattle.da_lang.specs.declared.tree.Param.{Param}
use Rattle.da_lang.specs.declared.ty.Ty.{Ty}
use Rattle.da_scope.proofs.SlotLaws.{scope_step, tables_step, fresh_step}
use Rattle.da_scope.proofs.slots.declare_params.Goals as goal

abbrev name : Param → List ℕ
name param = param.name

abbrev type : Param → Option Ty
type param = Some param.ty

pub loop-param-preserved : goal.loop-param-preserved
loop-param-preserved c =
    let s = c.loop-param.invariant in
    let here = c.in_ok-declare.ensures in
    record {
      slots = fresh_step name type c.args.params.now _ c.args.tables.now c.loop-param.tables _ _ _ c.loop-param-test.true s.tables s.slots here.slot c.in_ok-push.ensures.ok;
      scope = scope_step name type c.args.params.now _ c.param-item.result _ c.args.tables.now c.loop-param.tables c.args.scope.now c.loop-param.scope _ c.loop-param-test.true c.param-item.is s.scope s.tables c.as_slice.ensures here.scope;
      tables = tables_step name type c.args.params.now _ c.param-item.result _ c.args.tables.now c.loop-param.tables _ c.loop-param-test.true c.param-item.is s.tables (ap (λ (ty : Ty). Some ty) c.in_ok-ty.ensures) here.tables;
    }
