use Rattle.std.proofs.Common.{rules, ◌≡◌, false, true}
use Rattle.da_lang.specs.Labels.{is_open}
use Rattle.std.proofs.lemmas.Slice.Zip.{either_empty_from_Zip}
use Rattle.da_machine.specs.RunsTo.{AddsPrefix}
use Rattle.da_machine.proofs.Prefixes.{on_err}
use Rattle.da_core.specs.Arrivals.{Whoever, all_handled}
use Rattle.da_core.proofs.Arriving.{came_first, came_here, came_on, came_past, came_through, faults_here, handled_part, one_more, too_long, turns_left, turns_taken}
use Rattle.da_core.proofs.deliveries.handle_all.Goals as goal

pub handlers-init : goal.handlers-init
handlers-init c =
    let hs : c.into_iter-handler-iterator.result.a.rest.now ≡ c.args.delivery.now.class.now.handlers = search rules in
    let es : c.into_iter-handler-iterator.result.b.rest.now ≡ c.args.delivery.now.code.now.code.handlers = search rules in
    came_first c.args.delivery.now c.args.known.now c.requires _ _ hs es

pub returns-then-turns-ge-MOST_TURNS-clause-runs : goal.returns-then-turns-ge-MOST_TURNS-clause-runs
returns-then-turns-ge-MOST_TURNS-clause-runs c =
    let here : is_open c.args.delivery.now.label c.in-Some.handler.now ≡ true = search rules in
    let came = came_here c.args.delivery.now _ _ _ _ _ _ _ _ _ c.in-Some.ensures.steps.0 c.in-Some.ensures.steps.1 c.handlers.invariant in
    too_long c.args.delivery.now c.args.known.now c.handlers.known c.handlers.turns c.in-Some.handler.now c.in-Some.entry.now c.next.new.self.a.rest.now c.next.new.self.b.rest.now came here (turns_taken c.handlers.turns c.if-turns-ge-MOST_TURNS.true)

pub try_handler-requires-clause-early : goal.try_handler-requires-clause-early
try_handler-requires-clause-early c = one_more c.handlers.turns c.if-turns-ge-MOST_TURNS.false

pub returns-in_err-answer-clause-part : goal.returns-in_err-answer-clause-part
returns-in_err-answer-clause-part c =
    let here : is_open c.args.delivery.now.label c.in-Some.handler.now ≡ true = search rules in
    let came = came_here c.args.delivery.now _ _ _ _ _ _ _ _ _ c.in-Some.ensures.steps.0 c.in-Some.ensures.steps.1 c.handlers.invariant in
    on_err _ (Whoever c.args.delivery.now c.args.known.now (λ p d. AddsPrefix c.args.known.now.actions c.try_handler.new.known.actions (all_handled c.args.delivery.now d).actions))
    (handled_part c.args.delivery.now c.args.known.now c.handlers.known c.handlers.turns c.in-Some.handler.now c.in-Some.entry.now c.next.new.self.a.rest.now c.next.new.self.b.rest.now came here (turns_left c.handlers.turns c.if-turns-ge-MOST_TURNS.false)
    c.try_handler.new.known.actions c.in_err-answer.ensures.part)

pub handlers-preserved-then-not-is_open : goal.handlers-preserved-then-not-is_open
handlers-preserved-then-not-is_open c =
    let closed : is_open c.args.delivery.now.label c.in-Some.handler.now ≡ false = search rules in
    let came = came_here c.args.delivery.now _ _ _ _ _ _ _ _ _ c.in-Some.ensures.steps.0 c.in-Some.ensures.steps.1 c.handlers.invariant in
    came_past c.args.delivery.now c.args.known.now c.handlers.known c.handlers.turns c.in-Some.handler.now c.in-Some.entry.now c.next.new.self.a.rest.now c.next.new.self.b.rest.now came closed

pub handlers-preserved : goal.handlers-preserved
handlers-preserved c =
    let here : is_open c.args.delivery.now.label c.in-Some.handler.now ≡ true = search rules in
    let came = came_here c.args.delivery.now _ _ _ _ _ _ _ _ _ c.in-Some.ensures.steps.0 c.in-Some.ensures.steps.1 c.handlers.invariant in
    came_on c.args.delivery.now c.args.known.now c.handlers.known c.handlers.turns c.in-Some.handler.now c.in-Some.entry.now c.next.new.self.a.rest.now c.next.new.self.b.rest.now came here (turns_left c.handlers.turns c.if-turns-ge-MOST_TURNS.false)
    c.try_handler.new.known c.in_ok-answer.answer c.in_ok-answer.ensures.tried c.in-Through.further c.in-Through.is

pub returns-in-Fault-clause-runs : goal.returns-in-Fault-clause-runs
returns-in-Fault-clause-runs c =
    let here : is_open c.args.delivery.now.label c.in-Some.handler.now ≡ true = search rules in
    let came = came_here c.args.delivery.now _ _ _ _ _ _ _ _ _ c.in-Some.ensures.steps.0 c.in-Some.ensures.steps.1 c.handlers.invariant in
    faults_here c.args.delivery.now c.args.known.now c.handlers.known c.handlers.turns c.in-Some.handler.now c.in-Some.entry.now c.next.new.self.a.rest.now c.next.new.self.b.rest.now came here (turns_left c.handlers.turns c.if-turns-ge-MOST_TURNS.false)
    c.try_handler.new.known c.in_ok-answer.answer c.in_ok-answer.ensures.tried c.in-Fault.kind c.in-Fault.line c.in-Fault.is

pub returns-clause-runs : goal.returns-clause-runs
returns-clause-runs c =
    came_through c.args.delivery.now c.args.known.now c.handlers.known c.handlers.turns _ _ c.handlers.invariant
    (either_empty_from_Zip c.handlers.handler-iterator c.next.new.self _ c.in-None.is c.next.ensures.steps)
