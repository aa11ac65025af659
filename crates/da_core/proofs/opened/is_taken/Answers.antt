use Rattle.std.proofs.Common.{rules, ◌≡◌}
use Rattle.da_core.proofs.Letting.{decides_first}
use Rattle.da_core.proofs.opened.is_taken.Goals as goal

pub handlers-init : goal.handlers-init
handlers-init c = λ same.
    let hs : c.into_iter-handler-iterator.result.a.rest.now ≡ c.args.delivery.now.class.now.handlers = search rules in
    let ps : c.into_iter-handler-iterator.result.b.rest.now ≡ c.args.delivery.now.code.now.opened = search rules in
    decides_first c.args.delivery.now c.args.me _ _ hs ps same
