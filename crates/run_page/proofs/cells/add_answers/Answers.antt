use Rattle.std.proofs.Common.{◌++◌, ◌∙◌, ap, map}
use Rattle.std.proofs.lemmas.Result.{on_ok_weaker}
use Rattle.da_lang.specs.World.{at_number}
use Rattle.da_system.specs.State.{program_of}
use Rattle.run_page.specs.Cells.{answer_cell}
use Rattle.run_page.proofs.CellLemmas.{answers_as}
use Rattle.run_page.proofs.cells.add_answers.Goals as goal

pub returns : goal.returns
returns c =
    on_ok_weaker c.add_told.result
    (λ adds s stands.
    answers_as (at_number s.worlds c.args.p) (program_of c.args.system.now) c.args.p c.new-answers.result c.answers.new.out c.args.cells.now c.add_told.new.cells c.new-answers.ensures (c.in_ok-answers.ensures s stands)
    (adds ∙ ap (λ told. c.args.cells.now ++ map answer_cell told) c.as_slice.ensures)) c.add_told.ensures
