use Rattle.std.proofs.Common.{◌∙◌, ap, map}
use Rattle.std.proofs.lemmas.List.{take_all}
use Rattle.run_page.specs.RunRows.{names_for}
use Rattle.run_page.proofs.NameLemmas.{name_on}
use Rattle.run_page.proofs.names.names_of_processes.Goals as goal

pub loop-decl-preserved : goal.loop-decl-preserved
loop-decl-preserved c =
    let l = c.loop-decl in
    name_on c.args.tree.now c.as_slice-decl-items.result.now l.decl-index c.decl-item.result l.names c.push.new.self c.in_ok-own.own c.loop-decl-test.true l.invariant (c.in_ok-own.ensures ∙ ap (names_for c.args.tree.now) c.decl-item.is)
    c.in_ok-push.ensures.ok

pub returns : goal.returns
returns c =
    let l = c.loop-decl in
    l.invariant ∙ ap (map (names_for c.args.tree.now)) (take_all l.decl-index c.as_slice-decl-items.result.now c.loop-decl-test.false ∙ c.as_slice-decl-items.ensures)
