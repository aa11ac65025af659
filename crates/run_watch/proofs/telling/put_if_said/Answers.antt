use Rattle.std.proofs.Common.{◌∙◌, sym}
use Rattle.run_watch.proofs.TellLemmas.{said_none, said_one}
use Rattle.run_watch.proofs.telling.put_if_said.Goals as goal

pub returns-then-not-is_said : goal.returns-then-not-is_said
returns-then-not-is_said c = said_none c.args.action.now c.args.out.now (sym c.is_said.ensures ∙ c.if-not-is_said.true)

pub returns : goal.returns
returns c = said_one c.args.action.now c.args.out.now _ (sym c.is_said.ensures ∙ c.if-not-is_said.false) c.in_ok-write_action.ensures.ok
