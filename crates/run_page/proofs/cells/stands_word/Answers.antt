use Rattle.da_lang.specs.World.{at_number}
use Rattle.run_page.proofs.CellLemmas.{stands_as, stands_nowhere}
use Rattle.run_page.proofs.cells.stands_word.Goals as goal

pub returns-in-Some : goal.returns-in-Some
returns-in-Some c = λ s stands. stands_as (at_number s.worlds c.args.p) c.in-Some.place c.phase_word.result.now (c.in-Some.ensures s stands) c.phase_word.ensures

pub returns-in-None : goal.returns-in-None
returns-in-None c = λ s stands. stands_nowhere (at_number s.worlds c.args.p) c.place.result _ (c.place.ensures s stands) c.in-None.is
