use Rattle.std.proofs.Common.{◌∙◌, ap, sym}
use Rattle.std.specs.Prelude.{is_some}
use Rattle.da_names.specs.MainView.{at_name, class_at, told_line}
use Rattle.da_bodies.proofs.ListSteps.{on_same}
use Rattle.da_names.proofs.MainLaws.{told_new, told_set_up}
use Rattle.da_names.proofs.main_lines.check_line.Goals as goal

pub returns-in-New-clause-told : goal.returns-in-New-clause-told
returns-in-New-clause-told c =
    let arity = at_name c.args.arities.now in
    let class = class_at c.args.classes.now in
    let n = c.in-New in
    c.tell_unless.ensures
    ∙ told_new arity class c.args.names.now c.args.least.now n.name n.class n.count n.line c.contains_key-known.result (c.contains_key-known.ensures ∙ ap (λ name. is_some (arity name)) c.as_slice.ensures)
    ∙ ap (told_line arity class c.args.names.now c.args.least.now) (sym n.is)

pub returns-in-Setup-clause-told : goal.returns-in-Setup-clause-told
returns-in-Setup-clause-told c =
    let arity = at_name c.args.arities.now in
    let class = class_at c.args.classes.now in
    let s = c.in-Setup in
    on_same c.check_setup.result _ _ _ c.check_setup.ensures.told
    (told_set_up arity class c.args.names.now c.args.least.now s.name s.args s.line c.made_arity-arity.result _ _ _ c.made_arity-arity.ensures c.as_slice-in-Setup.ensures c.as_slice-in-Setup-2.ensures c.as_slice-in-Setup-3.ensures
    ∙ ap (told_line arity class c.args.names.now c.args.least.now) (sym s.is))
