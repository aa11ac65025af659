use Rattle.std.proofs.Common.{◌≡◌, ◌≤◌, ◌++◌, [], ◌∷◌, rules, arith, ap, subst, sym, length, length-append}
use Rattle.da_outside.specs.Spawner.{Tells}
use Rattle.da_commands.specs.LaunchSteps.{numbers}
use Rattle.da_commands.specs.Launching.{child_words, starts}
use Rattle.da_commands.proofs.LaunchLemmas.{started_lost, started_memory, started_more}
use Rattle.da_commands.proofs.starting.start_all.Goals as goal

pub returns-then-is_err-clause-started : goal.returns-then-is_err-clause-started
returns-then-is_err-clause-started g c =
    started_lost (child_words c.args.program.now c.args.setting) c.args.count c.processes.list _ _ _ c.processes.invariant.told c.in-Ok.child c.processes.place c.processes.invariant.size c.processes-test.true c.in-Ok.ensures.adds

pub returns-in-Err-Memory-clause-started : goal.returns-in-Err-Memory-clause-started
returns-in-Err-Memory-clause-started g c =
    let few : length c.processes.list ≤ c.args.count = omega (arith, c.processes.invariant.size, c.processes-test.true) in
    started_memory (child_words c.args.program.now c.args.setting) c.args.count c.processes.list _ _ _ c.processes.invariant.told few (search rules)

pub processes-preserved : goal.processes-preserved
processes-preserved g c =
    let pushed : c.push.new.self ≡ c.processes.list ++ c.in-Ok.child ∷ [] = (search rules) in
    let size : length c.push.new.self ≡ length (c.processes.list ++ c.in-Ok.child ∷ []) = ap length pushed in
    record {
      size = omega (arith, size, length-append c.processes.list (c.in-Ok.child ∷ []), c.processes.invariant.size);
      told = subst (λ l. Tells (g.S.Spawner.told c.args.children.now) (g.S.Spawner.told c.start_one.new.children) (starts (child_words c.args.program.now c.args.setting) 1 (numbers l))) (sym pushed)
          (started_more (child_words c.args.program.now c.args.setting) c.processes.list c.in-Ok.child c.processes.place _ _ _ c.processes.invariant.size c.processes.invariant.told c.in-Ok.ensures.adds);
      faults = (search rules);
    }
