use Rattle.std.proofs.Common.{sym, ap, ◌∙◌, rules, SFits}
use Rattle.std.specs.Int.{w128}
use Rattle.std.proofs.lemmas.Int.{to_z-of_z}
use Rattle.da_values.specs.declared.val.Val.TheVariants as val
use Rattle.da_machine.proofs.OnNumbers.{compared}
use Rattle.da_machine.proofs.operations.compare.Goals as goal

pub returns-then-are_numbers-clause-acted : goal.returns-then-are_numbers-clause-acted
returns-then-are_numbers-clause-acted g c =
    let first = c.are_numbers.ensures.first c.if-are_numbers.true ∙ ap val.Int (sym c.first_number-a.ensures) in
    let second = c.are_numbers.ensures.second c.if-are_numbers.true ∙ ap val.Int (sym c.second_number-b.ensures) in
    let fits : SFits w128 c.first_number-a.result = search rules in
    let fits_too : SFits w128 c.second_number-b.result = search rules in
    compared c.args.m.now c.first_number-a.result c.second_number-b.result first second c.unite.new.self (g.S.Store.stands c.args.s.now) (g.S.Store.actions c.args.s.now) c.args.sign c.cmp.result c.is_ordered.result (simp to_z-of_z at c.cmp.ensures) c.is_ordered.ensures c.unite.ensures
