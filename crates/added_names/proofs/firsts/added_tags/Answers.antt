use Rattle.std.proofs.Common.{◌≡◌}
use Rattle.std.proofs.lemmas.Result.{IfOk-weaker}
use Rattle.added_names.specs.StmtTags.{added_tags}
use Rattle.added_names.proofs.FoundLaws.{added_by, first_tags}
use Rattle.added_names.proofs.firsts.added_tags.Goals as goal

pub returns : goal.returns
returns c =
    IfOk-weaker c.first_tags.result (λ kept. kept ≡ first_tags c.as_slice.result.now c.as_slice-2.result.now) (λ tags. tags ≡ added_tags c.args.tree.now)
    (λ kept made. added_by c.args.tree.now _ _ _ _ kept c.as_slice.ensures c.new-found.ensures c.in_ok-put_tree.ensures c.as_slice-2.ensures made) c.first_tags.ensures
