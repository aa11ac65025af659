use Rattle.std.proofs.Common.{◌∙◌, ◌≤◌, length, arith, sym}
use Rattle.da_core.proofs.Entering.{next_untold, none_told, one_told}
use Rattle.da_core.proofs.moves.some_flag.Goals as goal

pub loop-alternative-preserved : goal.loop-alternative-preserved
loop-alternative-preserved c = λ p class d knows.
    let flag = c.is_flagged.ensures p class d knows in
    next_untold class d c.args.alternatives.now c.loop-alternative.alternative-index c.alternative-item.result c.loop-alternative-test.true c.alternative-item.is
    (sym c.if-is_flagged.false ∙ flag) (c.loop-alternative.invariant p class d knows)

pub returns-then-is_flagged : goal.returns-then-is_flagged
returns-then-is_flagged c = λ p class d knows.
    let flag = c.is_flagged.ensures p class d knows in
    one_told class d c.args.alternatives.now c.loop-alternative.alternative-index c.alternative-item.result c.loop-alternative-test.true c.alternative-item.is
    (sym c.if-is_flagged.true ∙ flag) (c.loop-alternative.invariant p class d knows)

pub returns : goal.returns
returns c = λ p class d knows.
    let past : length c.args.alternatives.now ≤ c.loop-alternative.alternative-index = omega (arith, c.loop-alternative-test.false) in
    none_told class d c.args.alternatives.now c.loop-alternative.alternative-index past (c.loop-alternative.invariant p class d knows)
