use Rattle.std.proofs.Common.{◌≡◌, ◌∙◌, ap, sym}
use Rattle.std.proofs.lemmas.Result.{IfOk-weaker}
use Rattle.std.specs.List.{slice_get}
use Rattle.run_page.specs.RunRows.{names_for, names_in}
use Rattle.run_page.proofs.NameLemmas.{named_of_class, named_of_none}
use Rattle.run_page.proofs.names.names_of_process.Goals as goal

pub returns-in-Some : goal.returns-in-Some
returns-in-Some c =
    IfOk-weaker c.variables_of.result (λ names. names ≡ names_in c.in-Some.class.now) (λ names. names ≡ names_for c.args.tree.now c.args.decl.now)
    (λ names is. named_of_class c.args.tree.now c.args.decl.now c.in-Some.class.now names (ap (slice_get c.args.tree.now.classes) (sym c.from.ensures) ∙ sym c.in-Some.ensures.value) is) c.variables_of.ensures

pub returns-in-None : goal.returns-in-None
returns-in-None c =
    named_of_none c.args.tree.now c.args.decl.now c.new.result (ap (slice_get c.args.tree.now.classes) (sym c.from.ensures) ∙ sym c.in-None.ensures.value) c.new.ensures
