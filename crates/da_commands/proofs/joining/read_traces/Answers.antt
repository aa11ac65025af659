use Rattle.std.proofs.Common.{◌≡◌, ◌+◌, ap, arith, subst}
use Rattle.da_commands.specs.JoinSteps.{AddsTrace, IsNoTrace}
use Rattle.da_commands.proofs.JoinLemmas.{read_bad, read_on}
use Rattle.da_commands.proofs.joining.read_traces.Goals as goal

pub loop-text-preserved : goal.loop-text-preserved
loop-text-preserved c =
    let counted : c.loop-text.process + 1 ≡ c.loop-text.text-index + 1 = ap (λ n. n + 1) c.loop-text.invariant.counted in
    record {
      counted = counted;
      read = read_on c.args.texts.now c.loop-text.text-index c.text-item.result c.loop-text-test.true c.text-item.is (c.loop-text.process + 1) counted c.loop-text.traces c.add_trace.new.traces c.loop-text.invariant.read
          (subst (λ b. AddsTrace (c.loop-text.process + 1) b c.loop-text.traces c.add_trace.new.traces) c.as_slice.ensures c.in-Ok.ensures.ok);
    }

pub returns-in-Err : goal.returns-in-Err
returns-in-Err c =
    let counted : c.loop-text.process + 1 ≡ c.loop-text.text-index + 1 = ap (λ n. n + 1) c.loop-text.invariant.counted in
    read_bad c.args.texts.now c.loop-text.text-index c.text-item.result c.loop-text-test.true c.text-item.is (c.loop-text.process + 1) counted c.loop-text.traces c.in-Err.fault c.loop-text.invariant.read
    (subst (λ b. IsNoTrace (c.loop-text.process + 1) b c.in-Err.fault) c.as_slice.ensures c.in-Err.ensures.err)
