use Rattle.std.proofs.Common.{◌∙◌, sym, subst, arith}
use Rattle.type_table.specs.Links.{Found}
use Rattle.type_table.proofs.RootLaws.{found_next, found_after, after_is}
use Rattle.type_table.proofs.roots.shorten.Goals as goal

pub returns-in-None-clause-found : goal.returns-in-None-clause-found
returns-in-None-clause-found c = found_next c.args.forms.now c.args.at c.args.next c.requires.table c.requires.next

pub returns-in-None-clause-less : goal.returns-in-None-clause-less
returns-in-None-clause-less c = c.requires.table c.args.at _ c.requires.next

pub returns-in-Some-clause-found : goal.returns-in-Some-clause-found
returns-in-Some-clause-found c =
    subst (λ z. Found c.args.forms.now c.args.at z c.in-Some.after) (sym c.set.ensures)
    (found_after c.args.forms.now c.args.at c.args.next c.in-Some.after c.requires.table c.requires.next
    (after_is c.args.forms.now c.args.next _ c.in-Some.after c.form_at.ensures (sym c.link.ensures ∙ c.in-Some.is)))

pub returns-in-Some-clause-less : goal.returns-in-Some-clause-less
returns-in-Some-clause-less c =
    omega (arith, c.requires.table c.args.at _ c.requires.next, c.requires.table c.args.next _ (after_is c.args.forms.now c.args.next _ c.in-Some.after c.form_at.ensures (sym c.link.ensures ∙ c.in-Some.is)))
