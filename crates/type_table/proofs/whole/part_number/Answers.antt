use Rattle.std.proofs.Common.{ap, arith, length}
use Rattle.type_table.proofs.DrawLaws.{no_part, has_part, new_part, length_from}
use Rattle.type_table.proofs.whole.part_number.Goals as goal

pub returns-then-at-count : goal.returns-then-at-count
returns-then-at-count c = λ table pairs inside. c.in_ok-number.ensures _ (λ m ty has. no_part c.args.at c.args.count (m c.args.whole) ty c.if-at-count.true has) table pairs

pub returns-in-Some : goal.returns-in-Some
returns-in-Some c = λ table pairs inside. has_part c.args.forms.now c.args.equations.now c.args.whole c.args.at c.args.count c.in-Some.part (c.told_part.ensures c.in-Some.part c.in-Some.is) table pairs

pub number_at-part-requires : goal.number_at-part-requires
number_at-part-requires c = omega (arith, ap length c.in_ok-parts.ensures.numbers, length_from (length c.args.forms.now) c.args.count, c.if-at-count.false)

pub returns : goal.returns
returns c =
    λ table pairs inside. new_part c.args.forms.now c.add_open.new.forms c.tell.new.forms c.args.equations.now c.tell.new.equations c.args.whole table pairs inside c.args.at c.args.count _ _
    c.in_ok-parts.ensures.forms c.in_ok-parts.ensures.numbers c.number_at-part.ensures c.in_ok-tell.ensures
