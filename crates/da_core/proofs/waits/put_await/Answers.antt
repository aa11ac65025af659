use Rattle.std.specs.Prelude.{refl}
use Rattle.std.proofs.Common.{[], ◌∷◌}
use Rattle.da_core.proofs.WaitForms.{handed_on}
use Rattle.da_core.proofs.waits.put_await.Goals as goal

pub returns : goal.returns
returns c =
    handed_on c.move_behind.result c.args.waits.now c.push.new.self c.move_behind.new.waits (c.args.wait ∷ []) c.args.inside (c.args.wait ∷ c.args.inside) c.move_behind.ensures c.in_ok-push.ensures.ok refl
