use Rattle.std.specs.Prelude.{suc}
use Rattle.std.proofs.Common.{◌≡◌, ℕ, ap, arith, sym, ◌∙◌}
use Rattle.da_values.specs.Views.{elements_of}
use Rattle.da_lang.specs.World.{value_in, with_slot}
use Rattle.delta_rules.proofs.ValueLaws.{none_below}
use Rattle.delta_rules.proofs.values.taken_set.Goals as goal

pub returns-in-Some-clause-set : goal.returns-in-Some-clause-set
returns-in-Some-clause-set c =
    let number : suc c.in-Some.place ≡ c.args.s = omega (arith, c.in-Some.ensures.0, c.in-Some.ensures.1, c.from.ensures) in
    c.set_from.ensures.set ∙ ap (λ (n : ℕ). elements_of (value_in c.args.values.now n)) number

pub returns-in-Some-clause-rest : goal.returns-in-Some-clause-rest
returns-in-Some-clause-rest c = λ v.
    let number : suc c.in-Some.place ≡ c.args.s = omega (arith, c.in-Some.ensures.0, c.in-Some.ensures.1, c.from.ensures) in
    ap (λ (n : ℕ). with_slot c.set_from.new.values n v) (sym number) ∙ c.set_from.ensures.rest v ∙ ap (λ (n : ℕ). with_slot c.args.values.now n v) number

pub returns-in-None-clause-set : goal.returns-in-None-clause-set
returns-in-None-clause-set c =
    let none : c.args.s ≡ 0 = omega (arith, c.in-None.ensures, c.from.ensures) in
    c.new.ensures ∙ sym (none_below c.args.values.now c.args.s none)
