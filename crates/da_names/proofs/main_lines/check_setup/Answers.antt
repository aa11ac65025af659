use Rattle.std.proofs.Common.{◌∙◌, sym, ap}
use Rattle.da_lang.specs.ExprNames.{used}
use Rattle.da_names.proofs.MainLaws.{told_setup}
use Rattle.da_names.proofs.main_lines.check_setup.Goals as goal

pub returns-clause-told : goal.returns-clause-told
returns-clause-told c =
    told_setup c.args.line c.args.names.now c.args.least.now c.tell_unless.new.least c.check_exprs.new.least c.tell_unless-2.new.least c.tell_unless-3.new.least c.args.name.now c.args.args.now c.args.arity _ c.some_asks_early-early.result c.takes-fits.result
    (sym c.is_value-known.ensures ∙ ap used c.look.ensures) c.tell_unless.ensures
    c.in_ok-check_exprs.ensures.told
    c.some_asks_early-early.ensures c.tell_unless-2.ensures
    c.takes-fits.ensures c.tell_unless-3.ensures
