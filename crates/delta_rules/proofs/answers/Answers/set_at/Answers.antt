use Rattle.std.proofs.Common.{◌∙◌, subst, sym}
use Rattle.da_values.specs.Order.{row_cmp}
use Rattle.da_values.specs.Sets.{Ascends}
use Rattle.delta_rules.proofs.SeenLaws.{seen_up}
use Rattle.delta_rules.proofs.answers.Answers.set_at.Goals as goal

pub told_listed-requires : goal.told_listed-requires
told_listed-requires c =
    subst (Ascends row_cmp) (sym (c.as_slice.ensures ∙ c.in_ok-rows.ensures)) (seen_up c.args.self.now c.args.pool.now c.args.stored.now c.requires c.args.query.now.node)
