use Rattle.std.proofs.Common.{◌≡◌, ◌∙◌, ◌∷◌, ◌++◌, ◌*◌, List, [], ap, arith, length}
use Rattle.std.proofs.lemmas.List.{length-replicate}
use Rattle.da_system.specs.declared.queue.InFlight.{InFlight}
use Rattle.da_system.proofs.Tested.{chosen_ok}
use Rattle.da_system.proofs.QueueLaws.{one_more, stands_empty}
use Rattle.da_system.proofs.channels.Channels.new.Goals as goal

pub loop-place-preserved : goal.loop-place-preserved
loop-place-preserved c =
    (c.push.ensures.items ∙ chosen_ok c.push.result c.is_err.result c.is_err.ensures.value _ _ c.if-is_err.false)
    ∙ ap (λ (q : List InFlight). c.loop-place.queues.items ++ q ∷ []) c.new.ensures
    ∙ ap (λ (t : List (List InFlight)). t ++ [] ∷ []) c.loop-place.invariant ∙ one_more c.loop-place._place []

pub invariant_of-result : goal.invariant_of-result
invariant_of-result c =
    let made : length c.loop-place.queues.items ≡ c.loop-place._place = ap length c.loop-place.invariant ∙ length-replicate c.loop-place._place [] in
    omega (arith, c.loop-place.queues.ok.0, made, c.loop-place-test.false, c.loop-place.auto._place-end)

pub returns-clause-stands : goal.returns-clause-stands
returns-clause-stands c =
    let all : c.loop-place._place ≡ c.args.count * c.args.count = omega (arith, c.loop-place-test.false, c.loop-place.auto._place-end) in
    stands_empty c.args.count c.loop-place._place c.loop-place.queues.items all c.loop-place.invariant
