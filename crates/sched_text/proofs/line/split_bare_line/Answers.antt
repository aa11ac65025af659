use Rattle.std.proofs.Common.{◌∙◌, ap, sym, ◌∷◌}
use Rattle.sched_text.specs.TraceText.{trace_lines}
use Rattle.sched_text.proofs.LineLemmas.{bare_first, bare_last, rest_shorter}
use Rattle.sched_text.proofs.line.split_bare_line.Goals as goal

pub returns-in-Some-clause-lines : goal.returns-in-Some-clause-lines
returns-in-Some-clause-lines c = bare_first c.args.text.now c.in-Some.line.now c.in-Some.rest.now c.in-Some.ensures.none c.in-Some.ensures.some

pub returns-in-None-clause-lines : goal.returns-in-None-clause-lines
returns-in-None-clause-lines c =
    bare_last c.args.text.now c.requires c.in-None.ensures.none ∙ ap (λ rest. c.args.text.now ∷ trace_lines rest) (sym c.as_slice.ensures)

pub returns-in-Some-clause-shorter : goal.returns-in-Some-clause-shorter
returns-in-Some-clause-shorter c = rest_shorter c.args.text.now c.in-Some.line.now c.in-Some.rest.now c.in-Some.ensures.some
