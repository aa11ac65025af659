use Rattle.std.proofs.Common.{List, ap, ◌∙◌}
use Rattle.da_values.specs.declared.val.Val.{Val}
use Rattle.da_core.specs.LocalState.{rows_value}
use Rattle.da_core.proofs.LocalParts.{put_two}
use Rattle.da_core.proofs.process.Core.put_run.Goals as goal

pub returns : goal.returns
returns c =
    put_two c.args.parts.now _ _ _ _ _ c.in_ok-put_number.ensures c.in_ok-push.ensures.ok (c.in_ok-loops.ensures ∙ ap (λ (rows : List (List Val)). rows_value rows) c.in_ok-rests.ensures)
