use Rattle.da_machine.proofs.RunCode.{is_run, ready_runs}
use Rattle.da_machine.proofs.run.run_code.Goals as goal

pub run_machine-requires-clause-runs : goal.run_machine-requires-clause-runs
run_machine-requires-clause-runs g c =
    let s = c.requires.ready in
    let ran = ready_runs s.0 s.1 c.args.code.now c.args.m.now s.2 s.3 c.requires.turns s.5 in
    (s.0, s.1, s.2, s.4, (_, ran.stop, ran.last, _, ran.runs))

pub returns-in-Ok-clause-runs : goal.returns-in-Ok-clause-runs
returns-in-Ok-clause-runs g c = λ p class d todo stands ready.
    let ran = ready_runs p class c.args.code.now c.args.m.now d todo c.requires.turns ready in
    is_run class c.args.code.now p _ c.run_machine.new.m c.clear.new.self d _ _ _ _ _ c.clear.ensures ran (c.in-Ok.ensures.runs p class d _ ran.stop ran.last _ stands ran.runs)

pub returns-in-Err-clause-part : goal.returns-in-Err-clause-part
returns-in-Err-clause-part g c = λ p class d todo stands ready.
    let ran = ready_runs p class c.args.code.now c.args.m.now d todo c.requires.turns ready in
    c.in-Err.ensures.part p class d _ ran.stop ran.last _ stands ran.runs
