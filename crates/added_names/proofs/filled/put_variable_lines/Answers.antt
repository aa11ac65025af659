use Rattle.std.proofs.Common.{refl, ◌∙◌, ap, drop, ◌≡◌, sym, List}
use Rattle.da_lang.specs.declared.tree.Member.TheVariants as member
use Rattle.da_lang.specs.declared.ty.Ty.{Ty}
use Rattle.added_names.specs.declared.added.AddedVariable.{AddedVariable}
use Rattle.added_names.specs.Filled.{Left, variable_lines, types_after_variables}
use Rattle.added_names.proofs.FillLaws.{lining_begins, lining_more, lining_ends, lining_leaves, left_by, variable_line, variable_line_by, variable_lines-nil, variable_lines-cons, after_variables-nil, after_variables-cons}
use Rattle.added_names.proofs.filled.put_variable_lines.Goals as goal

pub loop-variable-init : goal.loop-variable-init
loop-variable-init c = record {
  lining = lining_begins variable_lines types_after_variables c.args.variables.now c.args.rest.now.types.now c.args.out.now;
  places = refl;
}

pub loop-variable-preserved : goal.loop-variable-preserved
loop-variable-preserved c =
    let l = c.loop-variable in
    let pass : AddedVariable → List Ty → List Ty = λ v types. drop 1 types in
    record {
      lining = lining_more variable_lines types_after_variables variable_line pass variable_lines-cons after_variables-cons c.args.variables.now c.args.rest.now.types.now c.args.out.now l.variable-index c.variable-item.result _ _ _ _ _ c.loop-variable-test.true c.variable-item.is l.invariant.lining c.in_ok-push.ensures.ok
          (variable_line_by c.variable-item.result l.rest.types.now _ _ c.in_ok-name.ensures c.in_ok-ty.ensures.ty) c.in_ok-ty.ensures.left;
      places = c.in_ok-ty.ensures.places ∙ l.invariant.places;
    }

pub returns-clause-lines : goal.returns-clause-lines
returns-clause-lines c =
    let l = c.loop-variable in
    lining_ends variable_lines types_after_variables c.args.variables.now c.args.rest.now.types.now c.args.out.now l.variable-index _ _ c.loop-variable-test.false (variable_lines-nil _) l.invariant.lining

pub returns-clause-left : goal.returns-clause-left
returns-clause-left c =
    let l = c.loop-variable in
    let types : l.rest.types.now ≡ types_after_variables c.args.variables.now c.args.rest.now.types.now = lining_leaves variable_lines types_after_variables c.args.variables.now c.args.rest.now.types.now c.args.out.now l.variable-index _ _ c.loop-variable-test.false (after_variables-nil _) l.invariant.lining in
    left_by _ _ _ _ l.invariant.places types
