use Rattle.std.proofs.Common.{List, ap, ◌∙◌}
use Rattle.da_values.specs.Order.{val_cmp}
use Rattle.da_values.specs.Sets.{set_remove}
use Rattle.da_values.specs.Value.{val_of}
use Rattle.da_values.specs.declared.val.Val.{Val}
use Rattle.da_values.specs.declared.val.Val.TheVariants as val
use Rattle.da_lang.specs.World.{with_slot}
use Rattle.delta_rules.proofs.values.take_value.Goals as goal

pub returns : goal.returns
returns c =
    let removed = c.set_remove.ensures.set ∙ ap (λ (xs : List Val). set_remove val_cmp xs (val_of c.args.v.now)) c.taken_set-set.ensures.set in
    c.put_value.ensures ∙ c.taken_set-set.ensures.rest (val.Set c.set_remove.new.s) ∙ ap (λ (xs : List Val). with_slot c.args.values.now c.args.s (val.Set xs)) removed
