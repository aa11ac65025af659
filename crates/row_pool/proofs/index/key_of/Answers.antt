use Rattle.std.specs.Option.{option_copied}
use Rattle.std.proofs.Common.{sym, ap, ◌∙◌}
use Rattle.da_values.specs.Value.{val_of}
use Rattle.row_pool.specs.Index.{or_none, under}
use Rattle.row_pool.proofs.NumberLaws.{among_all, among_none}
use Rattle.row_pool.proofs.index.key_of.Goals as goal

pub returns-in-Some : goal.returns-in-Some
returns-in-Some c =
    among_all (under c.args.index.now) c.args.cells.now.slots (val_of c.args.v.now) c.as_slice.result.now c.mark_of-mark.result c.key_among.result c.requires c.mark_of-mark.ensures
    (ap or_none (sym c.get.ensures.value ∙ ap option_copied c.in-Some.is) ∙ sym c.as_slice.ensures) c.key_among.ensures

pub returns-in-None : goal.returns-in-None
returns-in-None c = among_none (under c.args.index.now) c.args.cells.now.slots (val_of c.args.v.now) c.mark_of-mark.result c.requires c.mark_of-mark.ensures (ap or_none (sym c.get.ensures.value ∙ ap option_copied c.in-None.is))
