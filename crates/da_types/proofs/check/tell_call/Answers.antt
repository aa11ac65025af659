use Rattle.std.proofs.Common.{◌∙◌, ap}
use Rattle.da_lang.specs.Typing.{args_fit}
use Rattle.da_types.proofs.CheckLaws.{call_of_none, call_of_some}
use Rattle.da_types.proofs.check.tell_call.Goals as goal

pub returns-in_default : goal.returns-in_default
returns-in_default c = call_of_none c.args.messages.now _ _ c.args.least.now c.in_default.ensures

pub returns : goal.returns
returns c =
    let class = c.in-Some.class.now in
    call_of_some c.args.messages.now _ class _ c.in-Some-setup.call c.in_ok-holds.holds c.args.least.now _ c.in-Some.ensures c.in-Some-setup.is
    (c.in_ok-holds.ensures ∙ ap (λ ps. args_fit c.args.messages.now class ps c.as_slice.result.now) c.as_slice-params.ensures ∙ ap (args_fit c.args.messages.now class class.params) c.as_slice.ensures)
    c.tell_unless.ensures
