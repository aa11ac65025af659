use Rattle.std.proofs.Common.{ap, sym, ◌∙◌}
use Rattle.std.proofs.lemmas.List.Folds.{list_all-map, list_all_at}
use Rattle.da_values.specs.Narrow.{is_narrow}
use Rattle.da_values.specs.Value.{val_of}
use Rattle.da_values.proofs.narrow.+narrow.Goals as goal

pub all_narrow-returns-then-not-is_narrow : goal.all_narrow-returns-then-not-is_narrow
all_narrow-returns-then-not-is_narrow t c =
    sym (list_all-map is_narrow val_of c.args.values.now ∙ list_all_at (λ value. is_narrow (val_of value)) c.args.values.now c.loop-value.value-index c.value-item.result c.loop-value-test.true (ap (λ value. is_narrow (val_of value)) (sym c.value-item.is) ∙ sym c.if-not-is_narrow.ensures))
