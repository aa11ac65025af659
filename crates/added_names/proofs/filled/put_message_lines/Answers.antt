use Rattle.std.proofs.Common.{refl, ◌∙◌, ap, drop, ◌≡◌, sym, List}
use Rattle.da_lang.specs.declared.tree.Member.TheVariants as member
use Rattle.da_lang.specs.declared.ty.Ty.{Ty}
use Rattle.added_names.specs.declared.added.AddedTag.{AddedTag}
use Rattle.added_names.specs.Filled.{Left, message_lines, types_after_tags}
use Rattle.added_names.proofs.FillLaws.{lining_begins, lining_more, lining_ends, lining_leaves, left_by, message_line, message_line_by, message_lines-nil, message_lines-cons, after_tags-nil, after_tags-cons}
use Rattle.added_names.proofs.filled.put_message_lines.Goals as goal

pub loop-one-init : goal.loop-one-init
loop-one-init c = record {
  lining = lining_begins message_lines types_after_tags c.args.tags.now c.args.rest.now.types.now c.args.out.now;
  places = refl;
}

pub loop-one-preserved : goal.loop-one-preserved
loop-one-preserved c =
    let l = c.loop-one in
    let pass : AddedTag → List Ty → List Ty = λ x types. drop x.parts types in
    record {
      lining = lining_more message_lines types_after_tags message_line pass message_lines-cons after_tags-cons c.args.tags.now c.args.rest.now.types.now c.args.out.now l.one-index c.one-item.result _ _ _ _ _ c.loop-one-test.true c.one-item.is l.invariant.lining c.in_ok-push.ensures.ok
          (message_line_by c.one-item.result l.rest.types.now _ _ c.in_ok-tag.ensures c.in_ok-parts.ensures.types) c.in_ok-parts.ensures.left;
      places = c.in_ok-parts.ensures.places ∙ l.invariant.places;
    }

pub returns-clause-lines : goal.returns-clause-lines
returns-clause-lines c =
    let l = c.loop-one in
    lining_ends message_lines types_after_tags c.args.tags.now c.args.rest.now.types.now c.args.out.now l.one-index _ _ c.loop-one-test.false (message_lines-nil _) l.invariant.lining

pub returns-clause-left : goal.returns-clause-left
returns-clause-left c =
    let l = c.loop-one in
    let types : l.rest.types.now ≡ types_after_tags c.args.tags.now c.args.rest.now.types.now = lining_leaves message_lines types_after_tags c.args.tags.now c.args.rest.now.types.now c.args.out.now l.one-index _ _ c.loop-one-test.false (after_tags-nil _) l.invariant.lining in
    left_by _ _ _ _ l.invariant.places types
