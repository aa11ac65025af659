use Rattle.std.proofs.Common.{◌≡◌, ◌∙◌, ap}
use Rattle.std.proofs.lemmas.Result.{IfOk-weaker}
use Rattle.std.specs.List.{slice_get}
use Rattle.run_page.specs.RunRows.{class_name}
use Rattle.run_page.proofs.showing.class_name.Goals as goal

pub returns-in-Some : goal.returns-in-Some
returns-in-Some c =
    IfOk-weaker c.copy_of.result (λ copy. copy ≡ c.as_slice.result.now) (λ name. name ≡ class_name (slice_get c.args.program.now.classes c.args.class))
    (λ copy is. is ∙ c.as_slice.ensures ∙ ap class_name (c.in-Some.ensures.value ∙ ap (slice_get c.args.program.now.classes) c.from.ensures)) c.copy_of.ensures

pub returns-in-None : goal.returns-in-None
returns-in-None c = c.new.ensures ∙ ap class_name (c.in-None.ensures.value ∙ ap (slice_get c.args.program.now.classes) c.from.ensures)
