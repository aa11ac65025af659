use Rattle.std.specs.Prelude.{suc}
use Rattle.std.proofs.Common.{◌≡◌, ℕ, ap, arith, ◌∙◌}
use Rattle.da_values.specs.Value.{val_of}
use Rattle.da_lang.specs.World.{with_slot}
use Rattle.delta_rules.proofs.ValueLaws.{put_below}
use Rattle.delta_rules.proofs.values.put_value.Goals as goal

pub returns-in-Some : goal.returns-in-Some
returns-in-Some c =
    let number : suc c.in-Some.place ≡ c.args.s = omega (arith, c.in-Some.ensures.0, c.in-Some.ensures.1, c.from.ensures) in
    c.set_at.ensures ∙ ap (λ (n : ℕ). with_slot c.args.values.now n (val_of c.args.v)) number

pub returns-in-None : goal.returns-in-None
returns-in-None c =
    let none : c.args.s ≡ 0 = omega (arith, c.in-None.ensures, c.from.ensures) in
    put_below c.args.values.now c.args.s (val_of c.args.v) none
