use Rattle.std.proofs.Common.{◌∙◌, ap, subst}
use Rattle.trace_page.specs.Rows.{spots_of}
use Rattle.trace_page.specs.Sheets.{HasEnds, HasSends, actions_at}
use Rattle.trace_page.proofs.sheet.sheet_of.Goals as goal

pub returns-clause-sheet : goal.returns-clause-sheet
returns-clause-sheet c = record {
  narrow = c.requires;
  rows = c.in_ok-placing.ensures.rows;
  spots = c.in_ok-spots.ensures ∙ ap spots_of c.in_ok-placing.ensures.rows;
  lines = c.in_ok-placing.ensures.lines;
  sends = subst (λ ss. HasSends c.in_ok-sends.sends (actions_at ss)) c.as_slice.ensures c.in_ok-sends.ensures;
  ends = subst (λ ss. HasEnds c.in_ok-ends.ends (actions_at ss)) c.as_slice-2.ensures c.in_ok-ends.ensures;
}
