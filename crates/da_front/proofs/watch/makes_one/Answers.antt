use Rattle.std.proofs.Common.{◌∙◌, sym}
use Rattle.da_front.proofs.WatchLemmas.{makes_none, makes_other, makes_so}
use Rattle.da_front.proofs.watch.makes_one.Goals as goal

pub returns-in_default : goal.returns-in_default
returns-in_default c = makes_none c.args.main.now c.in_default.len_below

pub returns-then-not-is_one : goal.returns-then-not-is_one
returns-then-not-is_one c = makes_other c.args.main.now _ c.in-len1-up.len_at_least c.first-item.is (sym c.is_one.ensures ∙ c.if-not-is_one.true)

pub returns : goal.returns
returns c = makes_so c.args.main.now _ c.sets_up.result c.in-len1-up.len_at_least c.first-item.is (sym c.is_one.ensures ∙ c.if-not-is_one.false) c.sets_up.ensures
