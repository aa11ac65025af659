use Rattle.std.proofs.Common.{◌∙◌, ap, sym, map}
use Rattle.da_lang.specs.declared.refusal.LimitKind.TheVariants as limit
use Rattle.da_lang.specs.Limits.{parts_in_main, line_if, most_parts}
use Rattle.da_lang.specs.Written.{of, writing}
use Rattle.std.specs.Prelude.{nat_lt}
use Rattle.da_limits.specs.LimitLines.{told_at}
use Rattle.da_limits.specs.Writings.{seen}
use Rattle.da_limits.specs.declared.written.Written.{Written}
use Rattle.da_limits.proofs.DeedLimits.{exprs-wide}
use Rattle.da_limits.proofs.LimitLinesAt.{told-none}
use Rattle.da_limits.proofs.tree.tell_line.Goals as goal

pub returns-in-New : goal.returns-in-New
returns-in-New c = sym (ap (λ l. told_at limit.Parts c.args.least.now (parts_in_main l)) c.in-New.is ∙ told-none limit.Parts c.args.least.now)

pub returns-in-Setup : goal.returns-in-Setup
returns-in-Setup c =
    c.tell_if.ensures
    ∙ ap (λ b. told_at limit.Parts c.args.least.now (line_if b c.in-Setup.line))
    (c.is_wide.ensures ∙ ap (λ (w : Written). nat_lt most_parts w.widest) (c.all_written.ensures ∙ ap (λ xs. seen (of (map writing xs))) c.as_slice.ensures) ∙ exprs-wide c.in-Setup.args)
    ∙ sym (ap (λ l. told_at limit.Parts c.args.least.now (parts_in_main l)) c.in-Setup.is)
