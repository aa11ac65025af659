use Rattle.std.proofs.Common.{◌∙◌, ap, sym, drop}
use Rattle.da_lang.specs.Typing.{args_fit}
use Rattle.da_types.proofs.CheckLaws.{no_args}
use Rattle.da_typing.proofs.Walks.{nothing_left}
use Rattle.da_types.proofs.check.args_fit.Goals as goal

pub returns-in-empty : goal.returns-in-empty
returns-in-empty c =
    let left = drop c.loop-param.param-index c.args.params.now in
    sym (no_args c.args.messages.now c.args.class.now left) ∙ ap (args_fit c.args.messages.now c.args.class.now left) (sym (nothing_left c.loop-param.rest.now c.in-empty.len_below)) ∙ c.loop-param.invariant
