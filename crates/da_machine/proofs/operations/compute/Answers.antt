use Rattle.std.proofs.Common.{sym, ap, ◌∙◌, rules, SFits}
use Rattle.std.specs.Int.{w128}
use Rattle.std.proofs.lemmas.Int.{to_z-of_z}
use Rattle.da_values.specs.declared.val.Val.TheVariants as val
use Rattle.da_values.specs.Value.{val_of}
use Rattle.da_machine.proofs.OnNumbers.{computed, faulted}
use Rattle.da_machine.proofs.operations.compute.Goals as goal

pub returns-in-Ok-clause-acted : goal.returns-in-Ok-clause-acted
returns-in-Ok-clause-acted g c =
    let first = c.are_numbers.ensures.first c.if-are_numbers.true ∙ ap val.Int (sym c.first_number-a.ensures) in
    let second = c.are_numbers.ensures.second c.if-are_numbers.true ∙ ap val.Int (sym c.second_number-b.ensures) in
    let fits : SFits w128 c.first_number-a.result = search rules in
    let fits_too : SFits w128 c.second_number-b.result = search rules in
    computed c.args.m.now c.first_number-a.result c.second_number-b.result first second c.unite.new.self (g.S.Store.stands c.args.s.now) (g.S.Store.actions c.args.s.now) c.args.sign (val_of c.in-Ok.v) (sym (simp to_z-of_z at c.in-Ok.ensures)) c.unite.ensures

pub returns-in-Err-clause-acted : goal.returns-in-Err-clause-acted
returns-in-Err-clause-acted g c =
    let first = c.are_numbers.ensures.first c.if-are_numbers.true ∙ ap val.Int (sym c.first_number-a.ensures) in
    let second = c.are_numbers.ensures.second c.if-are_numbers.true ∙ ap val.Int (sym c.second_number-b.ensures) in
    let fits : SFits w128 c.first_number-a.result = search rules in
    let fits_too : SFits w128 c.second_number-b.result = search rules in
    faulted c.args.m.now c.first_number-a.result c.second_number-b.result first second c.pop-in-Err.new.self (g.S.Store.stands c.args.s.now) (g.S.Store.actions c.args.s.now) c.args.sign c.in-Err.kind c.pop.new.self (sym (simp to_z-of_z at c.in-Err.ensures)) c.pop.ensures.rest c.pop-in-Err.ensures.rest
