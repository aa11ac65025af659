use Rattle.std.proofs.Common.{refl, ap, ◌∙◌, arith, length}
use Rattle.type_table.specs.Schemes.{stands}
use Rattle.type_table.proofs.SchemeLaws.{stands_int, stands_bool, stands_text, stands_proc}
use Rattle.da_lang.specs.declared.ty.Ty.TheVariants as ty
use Rattle.type_table.specs.declared.form.Form.TheVariants as f
use Rattle.type_table.proofs.NumberLaws.{known_set, known_element, known_part, known_tuple, number_unknown, number_leaf, number_tuple, number_set, number_element, number_part, so_far_begins, so_far_goes, so_far_ends}
use Rattle.type_table.proofs.TableLaws.{read_at}
use Rattle.type_table.proofs.number.+schemes.Goals as goal

pub number_of-returns-in-Unknown : goal.number_of-returns-in-Unknown
number_of-returns-in-Unknown t c = number_unknown c.args.forms.now c.args.equations.now c.args.scheme.now c.in-Unknown.number c.in-Unknown.is

pub number_of-returns-in_ok-number-in-Int : goal.number_of-returns-in_ok-number-in-Int
number_of-returns-in_ok-number-in-Int t c =
    λ table pairs known. number_leaf c.args.forms.now c.add.new.forms c.args.equations.now c.args.scheme.now f.Int ty.Int _ c.in_ok-number-in-Int.ensures.0 c.in_ok-number-in-Int.ensures.1 tt (λ m x has. has) (λ m. refl) (λ m. ap (stands m) c.in-Int.is ∙ stands_int m) table pairs

pub number_of-returns-in_ok-number-in-Bool : goal.number_of-returns-in_ok-number-in-Bool
number_of-returns-in_ok-number-in-Bool t c =
    λ table pairs known. number_leaf c.args.forms.now c.add-in-Bool.new.forms c.args.equations.now c.args.scheme.now f.Bool ty.Bool _ c.in_ok-number-in-Bool.ensures.0 c.in_ok-number-in-Bool.ensures.1 tt (λ m x has. has) (λ m. refl) (λ m. ap (stands m) c.in-Bool.is ∙ stands_bool m) table pairs

pub number_of-returns-in_ok-number-in-Text : goal.number_of-returns-in_ok-number-in-Text
number_of-returns-in_ok-number-in-Text t c =
    λ table pairs known. number_leaf c.args.forms.now c.add-in-Text.new.forms c.args.equations.now c.args.scheme.now f.Text ty.Text _ c.in_ok-number-in-Text.ensures.0 c.in_ok-number-in-Text.ensures.1 tt (λ m x has. has) (λ m. refl) (λ m. ap (stands m) c.in-Text.is ∙ stands_text m) table pairs

pub number_of-returns-in_ok-number-in-Proc : goal.number_of-returns-in_ok-number-in-Proc
number_of-returns-in_ok-number-in-Proc t c =
    λ table pairs known. number_leaf c.args.forms.now c.add-in-Proc.new.forms c.args.equations.now c.args.scheme.now f.Proc ty.Proc _ c.in_ok-number-in-Proc.ensures.0 c.in_ok-number-in-Proc.ensures.1 tt (λ m x has. has) (λ m. refl) (λ m. ap (stands m) c.in-Proc.is ∙ stands_proc m) table pairs

pub number_of-returns-in_ok-number-in-Tuple : goal.number_of-returns-in_ok-number-in-Tuple
number_of-returns-in_ok-number-in-Tuple t c =
    λ table pairs known. number_tuple c.args.forms.now c.numbers_of.new.forms c.add-in-Tuple.new.forms c.args.equations.now c.numbers_of.new.equations c.args.scheme.now c.in-Tuple.parts c.as_slice.result.now _ _ c.in-Tuple.is c.as_slice.ensures
    (c.in_ok-parts-in-Tuple.ensures table pairs (known_tuple (length c.args.forms.now) c.args.scheme.now c.in-Tuple.parts c.as_slice.result.now c.in-Tuple.is c.as_slice.ensures known)) c.in_ok-number-in-Tuple.ensures.0 c.in_ok-number-in-Tuple.ensures.1

pub number_of-returns-in_ok-number-in-Set : goal.number_of-returns-in_ok-number-in-Set
number_of-returns-in_ok-number-in-Set t c =
    λ table pairs known. number_set c.args.forms.now c.number_of.new.forms c.add-in-Set.new.forms c.args.equations.now c.number_of.new.equations c.args.scheme.now c.in-Set.element c.get.result.now _ _ c.in-Set.is c.get.ensures
    (c.in_ok-element-in-Set.ensures table pairs (known_set (length c.args.forms.now) c.args.scheme.now c.in-Set.element c.get.result.now c.in-Set.is c.get.ensures known)) c.in_ok-number-in-Set.ensures.0 c.in_ok-number-in-Set.ensures.1

pub number_of-returns-in_ok-number-in-Element : goal.number_of-returns-in_ok-number-in-Element
number_of-returns-in_ok-number-in-Element t c =
    λ table pairs known. number_element c.args.forms.now c.number_of-in-Element.new.forms c.element_number.new.forms c.args.equations.now c.number_of-in-Element.new.equations c.element_number.new.equations c.args.scheme.now c.in-Element.whole c.get-in-Element.result.now _ _ c.in-Element.is c.get-in-Element.ensures
    (c.in_ok-whole-in-Element.ensures table pairs (known_element (length c.args.forms.now) c.args.scheme.now c.in-Element.whole c.get-in-Element.result.now c.in-Element.is c.get-in-Element.ensures known)) c.in_ok-number-in-Element.ensures

pub number_of-returns-in_ok-number-in-Part : goal.number_of-returns-in_ok-number-in-Part
number_of-returns-in_ok-number-in-Part t c =
    λ table pairs known. number_part c.args.forms.now c.number_of-in-Part.new.forms c.part_number.new.forms c.args.equations.now c.number_of-in-Part.new.equations c.part_number.new.equations c.args.scheme.now c.in-Part.whole c.get-in-Part.result.now c.in-Part.at c.in-Part.count _ _ c.in-Part.is c.get-in-Part.ensures
    (c.in_ok-whole-in-Part.ensures table pairs (known_part (length c.args.forms.now) c.args.scheme.now c.in-Part.whole c.get-in-Part.result.now c.in-Part.at c.in-Part.count c.in-Part.is c.get-in-Part.ensures known)) c.in_ok-number-in-Part.ensures

pub numbers_of-loop-part-init : goal.numbers_of-loop-part-init
numbers_of-loop-part-init t c = so_far_begins c.args.forms.now c.args.equations.now c.args.parts.now _ c.new-numbers.ensures

pub numbers_of-loop-part-preserved : goal.numbers_of-loop-part-preserved
numbers_of-loop-part-preserved t c =
    let l = c.loop-part in
    so_far_goes c.args.forms.now l.forms c.number_of.new.forms c.args.equations.now l.equations c.number_of.new.equations c.args.parts.now l.part-index _ l.numbers c.push.new.self _ l.invariant
    (read_at c.args.parts.now l.part-index _ _ c.loop-part-test.true c.part-item.is) c.in_ok-number.ensures c.in_ok-push.ensures.ok

pub numbers_of-returns : goal.numbers_of-returns
numbers_of-returns t c =
    so_far_ends c.args.forms.now c.args.equations.now c.loop-part.forms c.loop-part.equations c.args.parts.now c.loop-part.part-index c.loop-part.numbers c.loop-part.invariant (omega (arith, c.loop-part-test.false))
