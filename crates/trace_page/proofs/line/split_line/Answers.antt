use Rattle.std.proofs.Common.{◌∙◌, ap, sym, ◌∷◌}
use Rattle.std.specs.Str.Lines.{lines}
use Rattle.sched_text.proofs.LineLemmas.{line_first, line_last, rest_shorter}
use Rattle.trace_page.proofs.line.split_line.Goals as goal

pub returns-in-Some-clause-lines : goal.returns-in-Some-clause-lines
returns-in-Some-clause-lines c =
    line_first c.args.text.now c.in-Some.line.now c.in-Some.rest.now c.in-Some.ensures.none c.in-Some.ensures.some
    ∙ ap (λ line. line ∷ lines c.in-Some.rest.now) (sym c.without_return.ensures)

pub returns-in-None-clause-lines : goal.returns-in-None-clause-lines
returns-in-None-clause-lines c =
    line_last c.args.text.now c.requires c.in-None.ensures.none ∙ ap (λ rest. c.args.text.now ∷ lines rest) (sym c.as_slice.ensures)

pub returns-in-Some-clause-shorter : goal.returns-in-Some-clause-shorter
returns-in-Some-clause-shorter c = rest_shorter c.args.text.now c.in-Some.line.now c.in-Some.rest.now c.in-Some.ensures.some
