use Rattle.std.proofs.Common.{List, ap, arith, sym, ◌∙◌}
use Rattle.std.specs.Prelude.{slice_set}
use Rattle.da_values.specs.declared.val.Val.{Val}
use Rattle.da_values.specs.declared.val.Val.TheVariants as val
use Rattle.da_values.specs.Views.{elements_of}
use Rattle.da_lang.specs.World.{or_nothing}
use Rattle.delta_rules.proofs.ValueLaws.{none_past, set_twice}
use Rattle.delta_rules.proofs.values.set_from.Goals as goal

pub returns-then-place-len-clause-set : goal.returns-then-place-len-clause-set
returns-then-place-len-clause-set c = c.new.ensures ∙ sym (none_past c.args.values.now c.args.place (omega (arith, c.len.ensures, c.if-place-len.true)))

pub returns-clause-set : goal.returns-clause-set
returns-clause-set c = c.set_in.ensures ∙ ap (λ o. elements_of (or_nothing o)) (sym c.replace-value.ensures.value)

pub returns-clause-rest : goal.returns-clause-rest
returns-clause-rest c = λ v. ap (λ (xs : List Val). slice_set xs c.args.place v) c.replace-value.ensures.put ∙ set_twice c.args.values.now c.args.place (val.Proc 0) v
