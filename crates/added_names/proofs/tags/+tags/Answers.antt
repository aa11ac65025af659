use Rattle.std.proofs.Common.{◌∙◌, ◌++◌, ap, sym}
use Rattle.std.proofs.lemmas.Result.{IfOk-equal}
use Rattle.added_names.specs.Tags.{chain_tags, guard_tags, tags_in}
use Rattle.added_names.proofs.FirstLaws.{flat_more}
use Rattle.added_names.proofs.TagsAt.{chain_tags_of, comp_more}
use Rattle.added_names.proofs.tags.+tags.Goals as goal

pub put_tags-returns-in_ok-put_gens-in-Comp : goal.put_tags-returns-in_ok-put_gens-in-Comp
put_tags-returns-in_ok-put_gens-in-Comp t c =
    let x = c.in-Comp in
    IfOk-equal c.put_guard-in-Comp.result c.put_guard-in-Comp.new.out (c.put_gens-in-Comp.new.out ++ guard_tags c.args.line x.cond) (c.args.out.now ++ tags_in c.args.line c.args.x.now) c.put_guard-in-Comp.ensures
    (comp_more c.args.line c.args.x.now x.term _ x.gens _ x.cond c.args.out.now _ _ x.is c.get-in-Comp.ensures c.as_slice-in-Comp.ensures c.in_ok-put_tags-in-Comp.ensures c.in_ok-put_gens-in-Comp.ensures)

pub put_links-loop-other-preserved : goal.put_links-loop-other-preserved
put_links-loop-other-preserved t c =
    let l = c.loop-other in
    flat_more (chain_tags c.args.line) c.args.out.now l.out _ c.args.others.now l.other-index c.other-item.result _ c.loop-other-test.true c.other-item.is l.invariant c.in_ok-put_tags.ensures
    (ap (tags_in c.args.line) c.get.ensures ∙ sym (chain_tags_of c.args.line c.other-item.result))
