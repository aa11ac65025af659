use Rattle.std.proofs.Common.{◌∙◌}
use Rattle.da_machine.proofs.Prefixes.{on_err}
use Rattle.da_core.proofs.Carrying.{Partly, early_enough, prefix_of_row, prefix_of_run, prefix_of_stop, has_bound, knows_it, ready, run_whole, stops_there, told_it}
use Rattle.da_machine.proofs.Prefixes.{same_prefix}
use Rattle.da_core.proofs.moves.run_from.Goals as goal

pub returns-in_err-push-clause-part : goal.returns-in_err-push-clause-part
returns-in_err-push-clause-part c =
    on_err _ (Partly c.args.code.now c.args.known.now c.args.machine.now c.args.begin c.args.k c.push.new.self) (λ p class d todo may. same_prefix _ _ _ c.in_err-push.ensures.err)

pub bind_found-requires : goal.bind_found-requires
bind_found-requires c =
    let (p, class, d, todo, may) = c.requires in
    told_it p class c.args.code.now c.args.known.now c.args.machine.now c.args.k c.args.begin d todo may c.push.new.self

pub returns-in_err-bind_found-clause-part : goal.returns-in_err-bind_found-clause-part
returns-in_err-bind_found-clause-part c =
    on_err _ (Partly c.args.code.now c.args.known.now c.args.machine.now c.args.begin c.args.k c.bind_found.new.known.actions) (λ p class d todo may.
    prefix_of_row p class c.args.code.now c.args.known.now c.args.machine.now c.args.k c.args.begin d todo may c.bind_found.new.known.actions (c.bind_found.ensures.actions ∙ c.in_ok-push.ensures.ok))

pub run_code-requires-clause-turns : goal.run_code-requires-clause-turns
run_code-requires-clause-turns c = early_enough c.args.begin.turns c.requires.4.early

pub run_code-requires-clause-ready : goal.run_code-requires-clause-ready
run_code-requires-clause-ready c =
    let (p, class, d, todo, may) = c.requires in
    let code = c.args.code.now in
    let known = c.args.known.now in
    let m = c.args.machine.now in
    let k = c.args.k in
    let begin = c.args.begin in
    let so = has_bound code known m k c.bind_found.new.known _ c.push.new.self c.alternative_at.ensures c.in_ok-push.ensures.ok c.in_ok-bind_found.ensures.bound c.bind_found.ensures.actions in
    (p, class, d, todo, knows_it p class code known m k begin d todo may c.bind_found.new.known so, ready p class code known m k begin d todo may)

pub returns-in_err-stop-clause-part : goal.returns-in_err-stop-clause-part
returns-in_err-stop-clause-part c =
    let code = c.args.code.now in
    let known = c.args.known.now in
    let m = c.args.machine.now in
    let k = c.args.k in
    let begin = c.args.begin in
    let so = has_bound code known m k c.bind_found.new.known _ c.push.new.self c.alternative_at.ensures c.in_ok-push.ensures.ok c.in_ok-bind_found.ensures.bound c.bind_found.ensures.actions in
    on_err _ (Partly code known m begin k c.run_code.new.s.actions) (λ p class d todo may.
    prefix_of_run p class code known m k begin d todo may c.bind_found.new.known so c.run_code.new.s.actions
    (c.in_err-stop.ensures.part p class d todo (knows_it p class code known m k begin d todo may c.bind_found.new.known so) (ready p class code known m k begin d todo may)))

pub stand-requires : goal.stand-requires
stand-requires c =
    let (p, class, d, todo, may) = c.requires in
    let code = c.args.code.now in
    let known = c.args.known.now in
    let m = c.args.machine.now in
    let k = c.args.k in
    let begin = c.args.begin in
    let so = has_bound code known m k c.bind_found.new.known _ c.push.new.self c.alternative_at.ensures c.in_ok-push.ensures.ok c.in_ok-bind_found.ensures.bound c.bind_found.ensures.actions in
    let run = c.in_ok-stop.ensures.runs p class d todo (knows_it p class code known m k begin d todo may c.bind_found.new.known so) (ready p class code known m k begin d todo may) in
    stops_there p class code known m k begin d todo may c.bind_found.new.known so c.run_code.new.s c.run_code.new.m c.in_ok-stop.stop run

pub returns-in-Ok-clause-runs : goal.returns-in-Ok-clause-runs
returns-in-Ok-clause-runs c = λ p class d todo may.
    let code = c.args.code.now in
    let known = c.args.known.now in
    let m = c.args.machine.now in
    let k = c.args.k in
    let begin = c.args.begin in
    let so = has_bound code known m k c.bind_found.new.known _ c.push.new.self c.alternative_at.ensures c.in_ok-push.ensures.ok c.in_ok-bind_found.ensures.bound c.bind_found.ensures.actions in
    let run = c.in_ok-stop.ensures.runs p class d todo (knows_it p class code known m k begin d todo may c.bind_found.new.known so) (ready p class code known m k begin d todo may) in
    run_whole p class code known m k begin d todo may c.bind_found.new.known so c.run_code.new.s c.run_code.new.m c.in_ok-stop.stop run c.stand.new.known c.in-Ok.place c.in-Ok.ensures.stops

pub returns-in-Err-clause-part : goal.returns-in-Err-clause-part
returns-in-Err-clause-part c = λ p class d todo may.
    let code = c.args.code.now in
    let known = c.args.known.now in
    let m = c.args.machine.now in
    let k = c.args.k in
    let begin = c.args.begin in
    let so = has_bound code known m k c.bind_found.new.known _ c.push.new.self c.alternative_at.ensures c.in_ok-push.ensures.ok c.in_ok-bind_found.ensures.bound c.bind_found.ensures.actions in
    let run = c.in_ok-stop.ensures.runs p class d todo (knows_it p class code known m k begin d todo may c.bind_found.new.known so) (ready p class code known m k begin d todo may) in
    prefix_of_stop p class code known m k begin d todo may c.bind_found.new.known so c.run_code.new.s c.run_code.new.m c.in_ok-stop.stop run c.stand.new.known.actions c.in-Err.ensures.same
