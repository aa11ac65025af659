use Rattle.std.proofs.Common.{ap, ◌∙◌}
use Rattle.da_core.specs.Begins.{some_told}
use Rattle.da_core.proofs.Entering.{timeout_goes, timeout_stays}
use Rattle.da_core.proofs.moves.timeout_in.Goals as goal

pub returns-then-is_late : goal.returns-then-is_late
returns-then-is_late c = λ p class d knows.
    timeout_goes class d c.args.code.now c.args.at c.args.count c.in_ok-wait.wait.now c.in_ok-wait.ensures c.some_flag-told.result c.is_late.result
    (c.some_flag-told.ensures p class d knows ∙ ap (some_told class d) c.as_slice.ensures) c.is_late.ensures c.if-is_late.true c.begin_behind.result c.begin_behind.ensures

pub returns-else-is_late : goal.returns-else-is_late
returns-else-is_late c = λ p class d knows.
    timeout_stays class d c.args.code.now c.args.at c.args.count c.in_ok-wait.wait.now c.in_ok-wait.ensures c.some_flag-told.result c.is_late.result
    (c.some_flag-told.ensures p class d knows ∙ ap (some_told class d) c.as_slice.ensures) c.is_late.ensures c.if-is_late.false
