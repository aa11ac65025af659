use Rattle.std.proofs.Common.{◌∙◌, ap, List, flat_map}
use Rattle.std.proofs.lemmas.List.{take_all}
use Rattle.da_lang.specs.declared.tree.Member.{Member}
use Rattle.added_names.specs.Changes.{declares}
use Rattle.added_names.specs.Firsts.{knows}
use Rattle.added_names.proofs.FirstLaws.{seen_flat}
use Rattle.added_names.proofs.firsts.written_variables.Goals as goal

pub loop-member-preserved : goal.loop-member-preserved
loop-member-preserved c = λ q.
    let l = c.loop-member in
    seen_flat declares q _ _ c.args.members.now l.member-index c.member-item.result c.loop-member-test.true c.member-item.is (l.invariant q) (c.in_ok-see_member.ensures q)

pub loop-member-init : goal.loop-member-init
loop-member-init c = c.nothing_seen-seen.ensures

pub returns : goal.returns
returns c = λ q.
    let l = c.loop-member in
    l.invariant q ∙ ap (λ (ms : List Member). knows (flat_map declares ms) q) (take_all l.member-index c.args.members.now c.loop-member-test.false)
