use Rattle.type_table.proofs.DrawLaws.{element_told, new_element}
use Rattle.type_table.proofs.whole.element_number.Goals as goal

pub returns-in-Some : goal.returns-in-Some
returns-in-Some c = λ table pairs inside. element_told c.args.forms.now c.args.equations.now c.args.whole c.in-Some.element table pairs (c.told_element.ensures c.in-Some.element c.in-Some.is)

pub returns : goal.returns
returns c =
    λ table pairs inside. new_element c.args.forms.now c.add.new.forms c.tell.new.forms c.args.equations.now c.tell.new.equations c.args.whole table pairs inside _ c.in_ok-element.ensures.0 c.in_ok-element.ensures.1 c.in_ok-tell.ensures
