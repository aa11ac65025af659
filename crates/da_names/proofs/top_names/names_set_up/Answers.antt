use Rattle.std.proofs.Common.{◌∙◌}
use Rattle.da_lang.specs.NameRules.{set_up_at}
use Rattle.da_bodies.specs.Repeats.{declared_of}
use Rattle.da_names.proofs.ClassSteps.{kept_none, kept_some}
use Rattle.da_names.proofs.top_names.names_set_up.Goals as goal
use Rattle.da_names.proofs.top_names.names_set_up.Goals.{in-Some+in_ok-push, in_default}

pub loop-line-preserved : goal.loop-line-preserved
loop-line-preserved c =
    let l = c.loop-line in
    let lines = c.args.lines.now in
    let x = c.line-item.result in
    elim c.match-set_up_at.branch [
      | in-Some+in_ok-push w ↦ kept_some declared_of set_up_at l.names c.match-set_up_at.names lines l.line-index x w.in-Some.name c.loop-line-test.true c.line-item.is l.invariant w.in-Some.ensures (w.names-is ∙ w.in_ok-push.ensures.ok)
      | in_default w ↦ kept_none declared_of set_up_at l.names c.match-set_up_at.names lines l.line-index x c.loop-line-test.true c.line-item.is l.invariant w.in_default.ensures w.names-is
    ]
