use Rattle.std.proofs.Common.{[], ◌∷◌, ◌++◌, ◌∙◌, ap, append-nil, map, sym}
use Rattle.std.proofs.lemmas.Result.{on_ok_weaker}
use Rattle.std.specs.Prelude.{filter_map}
use Rattle.da_lang.specs.ClassParts.{Variable, variable_in}
use Rattle.da_lang.specs.declared.tree.Member.{Member}
use Rattle.run_page.proofs.names.add_variable.Goals as goal

pub returns-in-Var : goal.returns-in-Var
returns-in-Var c =
    on_ok_weaker c.add_copy.result
    (λ adds.
    adds ∙ ap (λ name. c.args.names.now ++ name ∷ []) c.as_slice.ensures
    ∙ ap (λ (m : Member). c.args.names.now ++ map (λ (v : Variable). v.name) (filter_map variable_in (m ∷ []))) (sym c.in-Var.is)) c.add_copy.ensures

pub returns-in-Setup : goal.returns-in-Setup
returns-in-Setup c =
    sym (append-nil c.args.names.now) ∙ ap (λ (m : Member). c.args.names.now ++ map (λ (v : Variable). v.name) (filter_map variable_in (m ∷ []))) (sym c.in-Setup.is)

pub returns-in-Run : goal.returns-in-Run
returns-in-Run c =
    sym (append-nil c.args.names.now) ∙ ap (λ (m : Member). c.args.names.now ++ map (λ (v : Variable). v.name) (filter_map variable_in (m ∷ []))) (sym c.in-Run.is)

pub returns-in-Method : goal.returns-in-Method
returns-in-Method c =
    sym (append-nil c.args.names.now) ∙ ap (λ (m : Member). c.args.names.now ++ map (λ (v : Variable). v.name) (filter_map variable_in (m ∷ []))) (sym c.in-Method.is)

pub returns-in-Receive : goal.returns-in-Receive
returns-in-Receive c =
    sym (append-nil c.args.names.now) ∙ ap (λ (m : Member). c.args.names.now ++ map (λ (v : Variable). v.name) (filter_map variable_in (m ∷ []))) (sym c.in-Receive.is)
