use Rattle.std.proofs.Common.{◌≡◌, ◌<◌, ◌≤◌, ◌-◌, ◌+◌, length, arith}
use Rattle.class_demands.specs.Prefix.{seen}
use Rattle.class_demands.proofs.MarkLaws.{needs_next}
use Rattle.class_demands.proofs.prefix.put_needed.Goals as goal

pub loop-left-preserved : goal.loop-left-preserved
loop-left-preserved c =
    let before = c.loop-left.left - 1 in
    let more : c.loop-left.left ≡ before + 1 = omega (arith, c.loop-left-test.true) in
    let within : before < length c.args.heads.now = omega (arith, c.loop-left-test.true, c.loop-left.invariant.0) in
    let few : before ≤ length c.args.heads.now = omega (arith, within) in (
      few,
      needs_next c.args.heads.now c.loop-left.left before c.index-heads-left.result c.args.used.now c.loop-left.used c.put_head.new.used (seen c.args.found.now) (seen c.loop-left.found) (seen c.put_head.new.found) more within c.index-heads-left.is c.loop-left.invariant.1 c.in_ok-put_head.ensures,
    )
