use Rattle.std.proofs.Common.{subst, sym}
use Rattle.da_core.specs.Begins.{HasStopped, MayStop}
use Rattle.da_core.proofs.Taking.{TakenPart, can_then, handled_prefix, may_know, may_stop, received_prefix, stop_prefix_of, taken}
use Rattle.da_machine.proofs.Prefixes.{on_err}
use Rattle.da_core.proofs.deliveries.take_in.Goals as goal

pub returns-in_err-receive-clause-part : goal.returns-in_err-receive-clause-part
returns-in_err-receive-clause-part c =
    on_err _ (TakenPart c.args.delivery.now c.args.time c.args.at c.args.known.now c.receive.new.self.actions) (λ p d todo may.
    received_prefix c.args.delivery.now c.args.time c.args.known.now d c.receive.new.self.actions c.in_err-receive.ensures.prefix)

pub handle_all-requires : goal.handle_all-requires
handle_all-requires c =
    let (p, d, todo, may) = c.requires in
    can_then c.args.delivery.now c.args.time c.args.at c.args.known.now p d todo may c.receive.new.self c.in_ok-receive.ensures.known c.in_ok-receive.ensures.actions

pub returns-in_err-answer-clause-part : goal.returns-in_err-answer-clause-part
returns-in_err-answer-clause-part c =
    on_err _ (TakenPart c.args.delivery.now c.args.time c.args.at c.args.known.now c.handle_all.new.known.actions) (λ p d todo may.
    handled_prefix c.args.delivery.now c.args.time c.args.at c.args.known.now p d todo may c.receive.new.self c.in_ok-receive.ensures.known c.in_ok-receive.ensures.actions
    c.handle_all.new.known.actions c.in_err-answer.ensures.part)

pub receive-requires : goal.receive-requires
receive-requires c =
    let (p, d, todo, may) = c.requires in
    may_know c.args.delivery.now c.args.time c.args.at c.args.known.now p d todo may

pub stand-requires : goal.stand-requires
stand-requires c =
    let (p, d, todo, may) = c.requires in
    subst (MayStop c.args.delivery.now.code.now) (sym (c.stop_behind-stop.ensures may.number may.there))
    (may_stop c.args.delivery.now c.args.time c.args.at c.args.known.now p d todo may c.receive.new.self c.in_ok-receive.ensures.known c.in_ok-receive.ensures.actions c.in_ok-answer.answer)

pub returns-in-Ok-clause-taken : goal.returns-in-Ok-clause-taken
returns-in-Ok-clause-taken c = λ p d todo may.
    taken c.args.delivery.now c.args.time c.args.at c.args.known.now p d todo may c.receive.new.self c.in_ok-receive.ensures.known c.in_ok-receive.ensures.actions
    c.handle_all.new.known c.in_ok-answer.answer c.in_ok-answer.ensures.runs c.stand.new.known c.in-Ok.place
    (subst (λ stop. HasStopped c.args.delivery.now.code.now c.handle_all.new.known c.stand.new.known stop c.in-Ok.place) (c.stop_behind-stop.ensures may.number may.there) c.in-Ok.ensures.stops)

pub returns-in-Err-clause-part : goal.returns-in-Err-clause-part
returns-in-Err-clause-part c = λ p d todo may.
    stop_prefix_of c.args.delivery.now c.args.time c.args.at c.args.known.now p d todo may c.receive.new.self c.in_ok-receive.ensures.known c.in_ok-receive.ensures.actions
    c.handle_all.new.known c.in_ok-answer.answer c.in_ok-answer.ensures.runs c.stand.new.known.actions c.in-Err.ensures.same
