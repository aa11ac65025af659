use Rattle.std.proofs.Common.{◌++◌, None, Some, ap, sym, ◌∙◌}
use Rattle.std.proofs.lemmas.List.{append-nil}
use Rattle.da_lang.specs.Deeds.{deeds}
use Rattle.da_calls.specs.CallBodies.{calls_by}
use Rattle.da_calls.specs.CallNames.{number_in}
use Rattle.da_calls.proofs.CallBodies.{calls_by-none}
use Rattle.da_calls.proofs.CallRows.{outside_step}
use Rattle.da_calls.proofs.rows.outside_calls.Goals as goal
use Rattle.da_calls.proofs.rows.outside_calls.Goals.{in-Some+in_ok-put_calls, in_default}

pub loop-member-init : goal.loop-member-init
loop-member-init c = c.new-calls.ensures ∙ sym (calls_by-none (number_in c.args.numbers.now))

pub loop-member-preserved : goal.loop-member-preserved
loop-member-preserved c =
    elim c.match-outside_body.branch [
      | in-Some+in_ok-put_calls w ↦
          outside_step (number_in c.args.numbers.now) c.as_slice-member-items.result.now c.loop-member.member-index c.member-item.result (Some _) c.loop-member.calls _ c.loop-member-test.true c.member-item.is w.in-Some.ensures
          (w.calls-is ∙ w.in_ok-put_calls.ensures ∙ ap (λ ss. c.loop-member.calls ++ calls_by (number_in c.args.numbers.now) (deeds ss)) w.as_slice.ensures)
          c.loop-member.invariant
      | in_default w ↦
          outside_step (number_in c.args.numbers.now) c.as_slice-member-items.result.now c.loop-member.member-index c.member-item.result None c.loop-member.calls _ c.loop-member-test.true c.member-item.is w.in_default.ensures
          (w.calls-is ∙ sym (ap (λ cs. c.loop-member.calls ++ cs) (calls_by-none (number_in c.args.numbers.now)) ∙ append-nil c.loop-member.calls))
          c.loop-member.invariant
    ]
