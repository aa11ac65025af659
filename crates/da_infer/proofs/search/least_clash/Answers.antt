use Rattle.da_infer.proofs.SearchLaws.{halving_begins, halving_up, halving_ends}
use Rattle.da_infer.proofs.search.least_clash.Goals as goal

pub lines-init : goal.lines-init
lines-init c = halving_begins c.args.count c.args.demands.now c.args.last c.requires.none

pub lines-preserved-then-branch : goal.lines-preserved-then-branch
lines-preserved-then-branch c = halving_up c.args.count c.args.demands.now _ _ _ c.lines.invariant (rw c.if-branch.true at c.in_ok-fits_upto.ensures)

pub returns : goal.returns
returns c = halving_ends c.args.count c.args.demands.now _ _ c.lines-test.false c.lines.invariant
