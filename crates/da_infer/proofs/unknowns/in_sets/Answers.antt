use Rattle.std.proofs.Common.{◌≡◌, ◌∙◌, ap, arith}
use Rattle.class_demands.specs.Unknowns.{depth}
use Rattle.da_infer.specs.Unknowns.{sets}
use Rattle.da_infer.proofs.unknowns.in_sets.Goals as goal

pub returns : goal.returns
unfolding depth
returns c = let l = c.loop-turn in let e : l._turn ≡ 33 = omega arith in l.invariant ∙ ap (λ n. sets n c.args.inner) e
