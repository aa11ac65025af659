use Rattle.std.specs.Prelude.{◌≡◌, false, true}
use Rattle.std.proofs.Common.{sym, ◌∙◌}
use Rattle.da_values.specs.Value.{val_of}
use Rattle.row_pool.proofs.KindLaws.{kept_other, taken_kept}
use Rattle.row_pool.proofs.sets.take_element.Goals as goal

pub returns-in-Set : goal.returns-in-Set
returns-in-Set c = taken_kept c.args.v.now c.in-Set.set c.set_remove.new.s (val_of c.args.element.now) c.in-Set.is c.set_remove.ensures.set

pub returns-in_default : goal.returns-in_default
returns-in_default c = let clash : true ≡ false = sym c.requires ∙ kept_other c.args.v.now c.in_default.not-Set in absurd (cc clash)
