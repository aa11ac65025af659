use Rattle.std.proofs.Common.{◌≡◌, arith, suc}
use Rattle.da_core.proofs.Entering.{flag_goes, flag_stays}
use Rattle.da_core.proofs.moves.begin_at_await.Goals as goal

pub returns-then-is_flagged : goal.returns-then-is_flagged
returns-then-is_flagged c = λ p class d knows.
    let (some, less) = c.in_ok-n.ensures in
    let next : c.args.k ≡ suc c.in_ok-n.field-0 = omega (arith, some, less) in
    flag_goes class d c.args.code.now c.args.at c.args.k c.in_ok-n.field-0 c.in_ok-alternative.alternative.now next c.in_ok-alternative.ensures
    c.is_flagged.result (c.is_flagged.ensures p class d knows) c.if-is_flagged.true c.begin_behind.result c.begin_behind.ensures

pub returns-else-is_flagged : goal.returns-else-is_flagged
returns-else-is_flagged c = λ p class d knows.
    let (some, less) = c.in_ok-n.ensures in
    let next : c.args.k ≡ suc c.in_ok-n.field-0 = omega (arith, some, less) in
    flag_stays class d c.args.code.now c.args.at c.args.k c.in_ok-n.field-0 c.in_ok-alternative.alternative.now next c.in_ok-alternative.ensures
    c.is_flagged.result (c.is_flagged.ensures p class d knows) c.if-is_flagged.false
