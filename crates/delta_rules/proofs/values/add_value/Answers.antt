use Rattle.std.proofs.Common.{List, ap, ◌∙◌}
use Rattle.da_values.specs.Order.{val_cmp}
use Rattle.da_values.specs.Sets.{set_insert}
use Rattle.da_values.specs.Value.{val_of}
use Rattle.da_values.specs.Views.{elements_of}
use Rattle.da_values.specs.declared.val.Val.{Val}
use Rattle.da_values.specs.declared.val.Val.TheVariants as val
use Rattle.da_values.specs.declared.value.Value.{Value}
use Rattle.da_lang.specs.World.{value_in, with_slot}
use Rattle.delta_rules.proofs.values.add_value.Goals as goal

pub returns : goal.returns
returns c =
    let inserted = c.in_ok-set_insert.ensures.ok ∙ ap (λ (xs : List Val). set_insert val_cmp xs (val_of c.in_ok-element.element)) c.taken_set-set.ensures.set
    ∙ ap (λ (w : Value). set_insert val_cmp (elements_of (value_in c.args.values.now c.args.s)) (val_of w)) c.in_ok-element.ensures in
    c.put_value.ensures ∙ c.taken_set-set.ensures.rest (val.Set c.set_insert.new.s) ∙ ap (λ (xs : List Val). with_slot c.args.values.now c.args.s (val.Set xs)) inserted
