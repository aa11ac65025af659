use Rattle.std.proofs.Common.{◌∙◌, ap, arith, sym}
use Rattle.std.specs.Str.Lines.{lines}
use Rattle.trace_page.specs.LastLine.{last_or}
use Rattle.trace_page.proofs.LineLemmas.{last_there}
use Rattle.trace_page.proofs.line.last_line.Goals as goal

pub lines-init : goal.lines-init
lines-init c = ap (λ last. last_or last (lines c.args.text.now)) (sym c.as_slice-last.ensures)

pub lines-preserved : goal.lines-preserved
lines-preserved c = c.lines.invariant ∙ ap (last_or c.lines.last.now) c.split_line.ensures.lines

pub returns : goal.returns
returns c = last_there c.args.text.now c.lines.last.now c.lines.rest.now (omega (arith, c.lines-test.false)) c.lines.invariant
