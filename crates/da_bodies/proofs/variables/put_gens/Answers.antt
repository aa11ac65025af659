use Rattle.std.proofs.Common.{◌∙◌, ap, append_assoc, ◌++◌}
use Rattle.da_bodies.specs.Repeats.{declared_in}
use Rattle.da_bodies.specs.Variables.{variables_at, peer_variables_at, gen_variables_at}
use Rattle.da_bodies.proofs.ListSteps.{flat_more}
use Rattle.da_bodies.proofs.VariablesAt.{gen_variables_of}
use Rattle.da_bodies.proofs.variables.put_gens.Goals as goal

pub loop-generator-preserved : goal.loop-generator-preserved
loop-generator-preserved c =
    let l = c.loop-generator in
    let message = variables_at c.args.line c.generator-item.result.message in
    let peer = peer_variables_at c.args.line c.generator-item.result.peer in
    flat_more (gen_variables_at c.args.line) (declared_in c.args.out.now) (declared_in l.out) (declared_in c.put_peer.new.out) c.args.gens.now l.generator-index _ (message ++ peer) c.loop-generator-test.true c.generator-item.is l.invariant
    (c.in_ok-put_peer.ensures ∙ ap (λ ds. ds ++ peer) c.in_ok-put_variables.ensures ∙ append_assoc (declared_in l.out) message peer)
    (gen_variables_of c.args.line _)
