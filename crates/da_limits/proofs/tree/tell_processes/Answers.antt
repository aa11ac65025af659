use Rattle.std.proofs.Common.{[], ◌∷◌, ◌∙◌, ap, sym}
use Rattle.da_lang.specs.declared.refusal.LimitKind.TheVariants as limit
use Rattle.da_limits.specs.LimitLines.{told_at}
use Rattle.da_limits.proofs.LimitLinesAt.{told_none_yet, told-one}
use Rattle.da_limits.proofs.LimitTreeAt.{processes_here, processes_step, processes_end, counted}
use Rattle.da_limits.proofs.tree.tell_processes.Goals as goal

pub returns-then-made-gt-MOST_PROCESSES : goal.returns-then-made-gt-MOST_PROCESSES
returns-then-made-gt-MOST_PROCESSES c =
    let line = processes_here _ _ c.line-item.result c.loop-line.made _ c.loop-line-test.true c.line-item.is (c.saturating_add-made.ensures ∙ ap (counted c.loop-line.made) c.count_of.ensures) c.if-made-gt-MOST_PROCESSES.true c.loop-line.invariant.over in
    c.tell.ensures ∙ sym (told-one limit.Processes c.loop-line.least _) ∙ ap (λ f. told_at limit.Processes f (c.line_of.result ∷ [])) c.loop-line.invariant.told
    ∙ ap (λ n. told_at limit.Processes c.args.least.now (n ∷ [])) c.line_of.ensures ∙ ap (told_at limit.Processes c.args.least.now) (sym line)

pub loop-line-preserved : goal.loop-line-preserved
loop-line-preserved c = record {
  told = c.loop-line.invariant.told;
  over = processes_step _ _ c.line-item.result c.loop-line.made _ c.loop-line-test.true c.line-item.is (c.saturating_add-made.ensures ∙ ap (counted c.loop-line.made) c.count_of.ensures) c.if-made-gt-MOST_PROCESSES.false c.loop-line.invariant.over;
}

pub returns : goal.returns
returns c = c.loop-line.invariant.told ∙ told_none_yet limit.Processes _ ∙ ap (told_at limit.Processes c.args.least.now) (processes_end _ _ _ c.loop-line-test.false c.loop-line.invariant.over)
