use Rattle.std.proofs.Common.{◌∙◌, ap, sym, drop, arith, length-drop}
use Rattle.da_lang.specs.Typing.{have_types}
use Rattle.da_types.proofs.CheckLaws.{no_types}
use Rattle.da_typing.proofs.Walks.{nothing_left}
use Rattle.da_types.proofs.rules.have_types.Goals as goal

pub returns-in-empty : goal.returns-in-empty
returns-in-empty c =
    let left = drop c.loop-bind.bind-index c.args.binds.now in
    sym (no_types c.args.known.now.messages.now c.args.queries.now c.args.known.now.slots.now left (omega (arith, length-drop c.loop-bind.bind-index c.args.binds.now, c.loop-bind-test.true)))
    ∙ ap (have_types c.args.known.now.messages.now c.args.queries.now c.args.known.now.slots.now left) (sym (nothing_left c.loop-bind.rest.now c.in-empty.len_below)) ∙ c.loop-bind.invariant
