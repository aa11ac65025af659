use Rattle.std.proofs.Common.{◌≡◌}
use Rattle.std.proofs.lemmas.Result.{IfOk-weaker}
use Rattle.added_names.specs.Changes.{added_variables}
use Rattle.added_names.proofs.FoundLaws.{variables_by, first_variables}
use Rattle.added_names.proofs.firsts.added_variables.Goals as goal

pub returns : goal.returns
returns c =
    IfOk-weaker c.first_variables.result (λ kept. kept ≡ first_variables c.as_slice-2.result.now c.as_slice-3.result.now) (λ variables. variables ≡ added_variables c.args.class.now)
    (λ kept made. variables_by c.args.class.now _ _ _ _ _ kept c.as_slice.ensures c.as_slice-2.ensures c.new-found.ensures c.in_ok-put_members.ensures c.as_slice-3.ensures made) c.first_variables.ensures
