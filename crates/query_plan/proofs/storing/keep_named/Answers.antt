use Rattle.std.proofs.Common.{◌∙◌, ap}
use Rattle.query_plan.specs.Storing.{all_kept, test_nodes}
use Rattle.query_plan.proofs.storing.keep_named.Goals as goal

pub returns : goal.returns
returns c =
    c.keep_tested.ensures ∙ ap (λ ts. all_kept c.keep.new.kept (test_nodes ts)) c.as_slice.ensures ∙ ap (λ kept. all_kept kept (test_nodes c.args.entry.now.tests)) c.keep.ensures
