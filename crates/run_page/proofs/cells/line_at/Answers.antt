use Rattle.std.proofs.Common.{sym}
use Rattle.std.proofs.lemmas.List.{get_or_past}
use Rattle.std.proofs.lemmas.Option.{get_or_from_slice_get}
use Rattle.std.specs.Prelude.{Some}
use Rattle.da_system.proofs.PlaceLemmas.{lent_at}
use Rattle.run_page.proofs.cells.line_at.Goals as goal

pub returns-in-Some : goal.returns-in-Some
returns-in-Some c =
    sym (get_or_from_slice_get c.args.lines.now c.args.place c.in-Some.line.now 0 (sym (lent_at c.args.lines.now c.args.place (Some c.in-Some.line) c.in-Some.ensures.lookup)))

pub returns-in-None : goal.returns-in-None
returns-in-None c = sym (get_or_past c.args.lines.now c.args.place 0 c.in-None.ensures.lookup.3)
