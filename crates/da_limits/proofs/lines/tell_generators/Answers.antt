use Rattle.std.proofs.Common.{◌∙◌, ap}
use Rattle.da_lang.specs.declared.refusal.LimitKind.TheVariants as limit
use Rattle.da_limits.specs.LimitLines.{told_at}
use Rattle.da_limits.proofs.LimitLinesAt.{gen_line, told_none_yet, told_step_at, told_end, gens-is}
use Rattle.da_limits.proofs.lines.tell_generators.Goals as goal

pub loop-size-init : goal.loop-size-init
loop-size-init c = told_none_yet limit.Generators _

pub loop-size-preserved : goal.loop-size-preserved
loop-size-preserved c = told_step_at limit.Generators gen_line _ _ _ _ _ _ c.loop-size-test.true c.loop-size.invariant c.tell_generators_at.ensures

pub returns : goal.returns
returns c = told_end limit.Generators gen_line _ _ _ _ c.loop-size-test.false c.loop-size.invariant ∙ ap (told_at limit.Generators c.args.least.now) (gens-is c.args.sizes.now)
