use Rattle.std.proofs.Common.{sym, ◌∙◌}
use Rattle.da_parse.proofs.OpenParams.{typed_kept, none_noted, open_given, one_noted}
use Rattle.da_parse.proofs.loose.give_param.Goals as goal

pub returns-then-not-is_open-clause-param : goal.returns-then-not-is_open-clause-param
returns-then-not-is_open-clause-param c = typed_kept c.args.param (sym c.is_open.ensures ∙ c.if-not-is_open.true)

pub returns-then-not-is_open-clause-noted : goal.returns-then-not-is_open-clause-noted
returns-then-not-is_open-clause-noted c = none_noted c.args.class c.args.member c.args.at c.args.param c.args.untyped.now (sym c.is_open.ensures ∙ c.if-not-is_open.true)

pub returns-clause-param : goal.returns-clause-param
returns-clause-param c = open_given c.args.param (sym c.is_open.ensures ∙ c.if-not-is_open.false)

pub returns-clause-noted : goal.returns-clause-noted
returns-clause-noted c = one_noted c.args.class c.args.member c.args.at c.args.param _ _ _ (sym c.is_open.ensures ∙ c.if-not-is_open.false) c.in_ok-place.ensures c.in_ok-push.ensures.ok
