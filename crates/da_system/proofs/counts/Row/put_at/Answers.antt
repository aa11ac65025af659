use Rattle.std.proofs.Common.{◌∙◌, List, ℕ, ap, arith, length}
use Rattle.std.specs.Prelude.{slice_set}
use Rattle.da_system.proofs.CountLaws.{part_of, tally_few, tally_put}
use Rattle.da_system.proofs.counts.Row.put_at.Goals as goal

pub replace-old-requires : goal.replace-old-requires
replace-old-requires c = omega (arith, c.requires.place, ap length c.self.view_is)

pub overflow_sub-others : goal.overflow_sub-others
overflow_sub-others c = omega (arith, part_of c.self.inside.counts c.args.place c.replace-old.result c.replace-old.ensures.value, c.self.invariant.total_is)

pub overflow_add-total : goal.overflow_add-total
overflow_add-total c = omega (arith, tally_few c.self.inside.counts c.self.inside.total c.self.invariant, c.requires.few)

pub invariant_of-self : goal.invariant_of-self
invariant_of-self c =
    tally_put c.self.inside.counts c.replace-old.new.self c.args.place c.self.inside.total c.replace-old.result c.args.count c.replace-old.ensures.put c.replace-old.ensures.value
    c.requires.few c.self.invariant

pub returns : goal.returns
returns c = c.replace-old.ensures.put ∙ ap (λ (row : List ℕ). slice_set row c.args.place c.args.count) c.self.view_is
