use Rattle.std.specs.Prelude.{◌≡◌, ◌++◌, codes, map, Option, Some, None}
use Rattle.std.proofs.Common.{◌∙◌, ap, sym, subst}
use Rattle.std.proofs.lemmas.Result.{err_from_is_err_and}
use Rattle.da_values.specs.declared.read.ValueFault.TheVariants.{Memory}
use Rattle.da_values.specs.declared.val.Val.TheVariants as val
use Rattle.da_values.specs.declared.value.Value.{Value}
use Rattle.da_values.specs.Order.{val_cmp}
use Rattle.da_values.specs.Reading.{SpellsEach}
use Rattle.da_values.specs.Sets.{Ascends}
use Rattle.da_values.specs.Text.{value_text, closing}
use Rattle.da_values.specs.Value.{val_of, vals}
use Rattle.da_values.proofs.ItemLaws.{ReadSoFar, nothing_read, failed, read_more, all_read, only_these, vals-push}
use Rattle.da_values.proofs.NestLaws.{not_at_0, tuple_inside, tuple_ends, tuple_each, empty_tuple, empty_tuple_only, tuple_found, tuple_only, unclosed_tuple, set_inside, set_ends, set_each, empty_set, empty_set_only, set_found, set_only, unclosed_set, unsorted_set, length-texts}
use Rattle.da_values.proofs.ReadLaws.{text_there, tuple_there, set_there, word_spelled, word_only}
use Rattle.da_values.proofs.read.+read.Goals as goal

pub items_at-loop-items-init : goal.items_at-loop-items-init
items_at-loop-items-init t c = subst (λ items. ReadSoFar c.args.depth c.args.bytes.now (vals items) c.args.bytes.now) (sym c.new-items.ensures) (nothing_read c.args.depth c.args.bytes.now)

pub items_at-returns-in_err-item-clause-only : goal.items_at-returns-in_err-item-clause-only
items_at-returns-in_err-item-clause-only t c xs rest spelled ends =
    let p = err_from_is_err_and c.from_residual.result c.from_residual.ensures.1 in
    rw (p.1, p.2) (failed (c.in_err-item.field-0.0 ≡ Memory) c.args.depth c.args.bytes.now (vals c.loop-items.items) c.loop-items.left.now c.loop-items.invariant c.in_err-item.ensures.only xs rest spelled ends)

pub items_at-loop-items-preserved : goal.items_at-loop-items-preserved
items_at-loop-items-preserved t c =
    subst (λ done. ReadSoFar c.args.depth c.args.bytes.now done c.in-Some.next.now) (sym (vals-push c.loop-items.items c.push.new.self c.in_ok-item.item c.in_ok-push.ensures.ok))
    (read_more c.args.depth c.args.bytes.now (vals c.loop-items.items) c.loop-items.left.now c.loop-items.invariant (val_of c.in_ok-item.item) c.in_ok-item.rest.now c.in_ok-item.ensures.front c.in_ok-item.ensures.only c.in-Some.next.now c.in-Some.ensures)

pub items_at-returns-in-None-clause-front : goal.items_at-returns-in-None-clause-front
items_at-returns-in-None-clause-front t c =
    subst (λ done. SpellsEach c.args.depth done c.args.bytes.now c.in_ok-item.rest.now) (sym (vals-push c.loop-items.items c.push.new.self c.in_ok-item.item c.in_ok-push.ensures.ok))
    (all_read c.args.depth c.args.bytes.now (vals c.loop-items.items) c.loop-items.left.now c.loop-items.invariant (val_of c.in_ok-item.item) c.in_ok-item.rest.now c.in_ok-item.ensures.front c.in_ok-item.ensures.only)

pub items_at-returns-in-None-clause-only : goal.items_at-returns-in-None-clause-only
items_at-returns-in-None-clause-only t c xs rest spelled ends =
    let found = only_these c.args.depth c.args.bytes.now (vals c.loop-items.items) c.loop-items.left.now c.loop-items.invariant (val_of c.in_ok-item.item) c.in_ok-item.rest.now c.in_ok-item.ensures.front c.in_ok-item.ensures.only c.in-None.ensures xs rest spelled ends in
    (vals-push c.loop-items.items c.push.new.self c.in_ok-item.item c.in_ok-push.ensures.ok ∙ found.0, found.1)

pub parts_at-returns-then-depth-eq0-clause-only : goal.parts_at-returns-then-depth-eq0-clause-only
parts_at-returns-then-depth-eq0-clause-only t c parts rest spelled =
    absurd (not_at_0 c.args.depth parts c.args.bytes.now (closing (map value_text parts) ++ rest) c.if-depth-eq0.true (tuple_inside c.args.depth parts c.args.bytes.now rest spelled))

pub parts_at-returns-in-Some-clause-front : goal.parts_at-returns-in-Some-clause-front
parts_at-returns-in-Some-clause-front t c = empty_tuple c.args.depth c.args.bytes.now c.new.result c.in-Some.rest.now c.if-depth-eq0.false c.new.ensures c.in-Some.ensures

pub parts_at-returns-in-Some-clause-only : goal.parts_at-returns-in-Some-clause-only
parts_at-returns-in-Some-clause-only t c = empty_tuple_only c.args.depth c.args.bytes.now c.new.result c.in-Some.rest.now c.new.ensures c.in-Some.ensures

pub parts_at-returns-in_err-parts-clause-only : goal.parts_at-returns-in_err-parts-clause-only
parts_at-returns-in_err-parts-clause-only t c parts rest spelled =
    let p = err_from_is_err_and c.from_residual.result c.from_residual.ensures.1 in
    rw (p.1, p.2) (c.in_err-parts.ensures.only parts (closing (map value_text parts) ++ rest) (tuple_each c.args.depth c.args.bytes.now c.in_default.ensures parts rest spelled) (tuple_ends (map value_text parts) rest))

pub parts_at-returns-in-Some-strip_closing-clause-front : goal.parts_at-returns-in-Some-strip_closing-clause-front
parts_at-returns-in-Some-strip_closing-clause-front t c =
    tuple_found c.args.depth c.args.bytes.now (vals c.in_ok-parts.parts) c.from_list.result c.in_ok-parts.rest.now c.in-Some-strip_closing.rest.now c.if-depth-eq0.false c.from_list.ensures c.in_ok-parts.ensures.front
    (c.in-Some-strip_closing.ensures (map value_text (vals c.in_ok-parts.parts)) (length-texts c.in_ok-parts.parts ∙ sym c.len.ensures))

pub parts_at-returns-in-Some-strip_closing-clause-only : goal.parts_at-returns-in-Some-strip_closing-clause-only
parts_at-returns-in-Some-strip_closing-clause-only t c =
    tuple_only c.args.depth c.args.bytes.now (vals c.in_ok-parts.parts) c.from_list.result c.in_ok-parts.rest.now c.in-Some-strip_closing.rest.now c.in_default.ensures c.from_list.ensures c.in_ok-parts.ensures.only
    (c.in-Some-strip_closing.ensures (map value_text (vals c.in_ok-parts.parts)) (length-texts c.in_ok-parts.parts ∙ sym c.len.ensures))

pub parts_at-returns-clause-only : goal.parts_at-returns-clause-only
parts_at-returns-clause-only t c parts rest spelled =
    absurd (unclosed_tuple c.args.depth c.args.bytes.now (vals c.in_ok-parts.parts) c.in_ok-parts.rest.now c.in_default.ensures c.in_ok-parts.ensures.only
    (c.in-None.ensures (map value_text (vals c.in_ok-parts.parts)) (length-texts c.in_ok-parts.parts ∙ sym c.len.ensures)) parts rest spelled)

pub elements_at-returns-then-depth-eq0-clause-only : goal.elements_at-returns-then-depth-eq0-clause-only
elements_at-returns-then-depth-eq0-clause-only t c elements rest spelled =
    absurd (not_at_0 c.args.depth elements c.args.bytes.now (codes "}" ++ rest) c.if-depth-eq0.true (set_inside c.args.depth elements c.args.bytes.now rest spelled).0)

pub elements_at-returns-in-Some-clause-front : goal.elements_at-returns-in-Some-clause-front
elements_at-returns-in-Some-clause-front t c = empty_set c.args.depth c.args.bytes.now c.new.result c.in-Some.rest.now c.if-depth-eq0.false c.new.ensures c.in-Some.ensures

pub elements_at-returns-in-Some-clause-only : goal.elements_at-returns-in-Some-clause-only
elements_at-returns-in-Some-clause-only t c = empty_set_only c.args.depth c.args.bytes.now c.new.result c.in-Some.rest.now c.new.ensures c.in-Some.ensures

pub elements_at-returns-in_err-elements-clause-only : goal.elements_at-returns-in_err-elements-clause-only
elements_at-returns-in_err-elements-clause-only t c elements rest spelled =
    let p = err_from_is_err_and c.from_residual.result c.from_residual.ensures.1 in
    rw (p.1, p.2) (c.in_err-elements.ensures.only elements (codes "}" ++ rest) (set_each c.args.depth c.args.bytes.now c.in_default.ensures elements rest spelled) (set_ends rest))

pub elements_at-returns-then-not-ascends-clause-only : goal.elements_at-returns-then-not-ascends-clause-only
elements_at-returns-then-not-ascends-clause-only t c elements rest spelled =
    absurd (unsorted_set c.args.depth c.args.bytes.now (vals c.in_ok-elements.elements) c.in_ok-elements.rest.now c.in_default.ensures c.in_ok-elements.ensures.only
    (subst (λ values. Ascends val_cmp (vals values) → ⊥) c.as_slice.ensures c.if-not-ascends.ensures) elements rest spelled)

pub elements_at-returns-in-Some-strip-clause-front : goal.elements_at-returns-in-Some-strip-clause-front
elements_at-returns-in-Some-strip-clause-front t c =
    set_found c.args.depth c.args.bytes.now (vals c.in_ok-elements.elements) c.from_list.result c.in_ok-elements.rest.now c.in-Some-strip.rest.now c.if-depth-eq0.false c.from_list.ensures c.in_ok-elements.ensures.front c.in-Some-strip.ensures
    (subst (λ values. Ascends val_cmp (vals values)) c.as_slice.ensures c.if-not-ascends.ensures)

pub elements_at-returns-in-Some-strip-clause-only : goal.elements_at-returns-in-Some-strip-clause-only
elements_at-returns-in-Some-strip-clause-only t c =
    set_only c.args.depth c.args.bytes.now (vals c.in_ok-elements.elements) c.in_ok-elements.rest.now c.in_default.ensures c.in_ok-elements.ensures.only c.from_list.result c.in-Some-strip.rest.now c.from_list.ensures c.in-Some-strip.ensures

pub elements_at-returns-clause-only : goal.elements_at-returns-clause-only
elements_at-returns-clause-only t c elements rest spelled =
    absurd (unclosed_set c.args.depth c.args.bytes.now (vals c.in_ok-elements.elements) c.in_ok-elements.rest.now c.in_default.ensures c.in_ok-elements.ensures.only c.in-None.ensures elements rest spelled)

pub value_at-returns-in_err-text-clause-only : goal.value_at-returns-in_err-text-clause-only
value_at-returns-in_err-text-clause-only t c x rest spelled stops =
    let there = text_there c.args.depth x c.args.bytes.now c.in-Some.rest.now rest c.in-Some.ensures spelled in
    let p = err_from_is_err_and c.from_residual.result c.from_residual.ensures.1 in
    rw (p.1, p.2) (c.in_err-text.ensures.only there.0 rest there.2)

pub value_at-returns-in-Some-clause-only : goal.value_at-returns-in-Some-clause-only
value_at-returns-in-Some-clause-only t c x rest spelled stops =
    let there = text_there c.args.depth x c.args.bytes.now c.in-Some.rest.now rest c.in-Some.ensures spelled in
    let same = c.in_ok-text.ensures.only there.0 rest there.2 in
    (ap val.Text same.0 ∙ sym there.1, same.1)

pub value_at-returns-in_err-parts-clause-only : goal.value_at-returns-in_err-parts-clause-only
value_at-returns-in_err-parts-clause-only t c x rest spelled stops =
    let there = tuple_there c.args.depth x c.args.bytes.now c.in-Some-strip.rest.now rest c.in-Some-strip.ensures spelled in
    let p = err_from_is_err_and c.from_residual-in_err-parts.result c.from_residual-in_err-parts.ensures.1 in
    rw (p.1, p.2) (c.in_err-parts.ensures.only there.0 rest there.2)

pub value_at-returns-in-Some-strip-clause-only : goal.value_at-returns-in-Some-strip-clause-only
value_at-returns-in-Some-strip-clause-only t c x rest spelled stops =
    let there = tuple_there c.args.depth x c.args.bytes.now c.in-Some-strip.rest.now rest c.in-Some-strip.ensures spelled in
    let same = c.in_ok-parts.ensures.only there.0 rest there.2 in
    (ap val.Tuple same.0 ∙ sym there.1, same.1)

pub value_at-returns-in_err-elements-clause-only : goal.value_at-returns-in_err-elements-clause-only
value_at-returns-in_err-elements-clause-only t c x rest spelled stops =
    let there = set_there c.args.depth x c.args.bytes.now c.in-Some-strip-2.rest.now rest c.in-Some-strip-2.ensures spelled in
    let p = err_from_is_err_and c.from_residual-in_err-elements.result c.from_residual-in_err-elements.ensures.1 in
    rw (p.1, p.2) (c.in_err-elements.ensures.only there.0 rest there.2)

pub value_at-returns-in-Some-strip-2-clause-only : goal.value_at-returns-in-Some-strip-2-clause-only
value_at-returns-in-Some-strip-2-clause-only t c x rest spelled stops =
    let there = set_there c.args.depth x c.args.bytes.now c.in-Some-strip-2.rest.now rest c.in-Some-strip-2.ensures spelled in
    let same = c.in_ok-elements.ensures.only there.0 rest there.2 in
    (ap val.Set same.0 ∙ sym there.1, same.1)

pub value_at-returns-in-Some-word_value-clause-front : goal.value_at-returns-in-Some-word_value-clause-front
value_at-returns-in-Some-word_value-clause-front t c =
    word_spelled c.args.depth c.split_word.result.0.now c.in-Some-word_value.value c.args.bytes.now c.split_word.result.1.now c.in-Some-word_value.ensures.word c.split_word.ensures.split

pub value_at-returns-in-Some-word_value-clause-only : goal.value_at-returns-in-Some-word_value-clause-only
value_at-returns-in-Some-word_value-clause-only t c x rest spelled stops =
    let there = word_only c.args.depth x c.args.bytes.now c.split_word.result.0.now c.split_word.result.1.now rest spelled stops c.split_word.ensures.split c.split_word.ensures.word c.split_word.ensures.rest c.in_default.ensures c.in_default-strip.ensures c.in_default-strip-2.ensures in
    let some : ◌≡◌ {A = Option Value} (Some c.in-Some-word_value.value) (Some there.0) = c.in-Some-word_value.ensures.only there.0 there.2 in
    let same : c.in-Some-word_value.value ≡ there.0 = cc in
    (ap val_of same ∙ there.1, there.3)

pub value_at-returns-in-None-clause-only : goal.value_at-returns-in-None-clause-only
value_at-returns-in-None-clause-only t c x rest spelled stops =
    let there = word_only c.args.depth x c.args.bytes.now c.split_word.result.0.now c.split_word.result.1.now rest spelled stops c.split_word.ensures.split c.split_word.ensures.word c.split_word.ensures.rest c.in_default.ensures c.in_default-strip.ensures c.in_default-strip-2.ensures in
    let none : ◌≡◌ {A = Option Value} None (Some there.0) = c.in-None.ensures.only there.0 there.2 in
    absurd (cc)
