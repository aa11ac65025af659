use Rattle.std.proofs.Common.{sym}
use Rattle.std.proofs.lemmas.List.{drop-drop}
use Rattle.da_outside.proofs.script_link.ScriptLinkLink.take.Goals as goal

pub returns-then-self-len-clause-ok : goal.returns-then-self-len-clause-ok
returns-then-self-len-clause-ok c = sym (drop-drop 1 c.args.self.now.next c.args.self.now.answers)
