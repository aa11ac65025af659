use Rattle.std.proofs.Common.{refl, ◌≤◌, length, rules, arith}
use Rattle.da_outside.proofs.OutsideLemmas.{no_cause}
use Rattle.da_commands.specs.Launching.{child_words}
use Rattle.da_commands.specs.LaunchSteps.{numbers}
use Rattle.da_commands.proofs.LaunchLemmas.{cause_broken, cause_later, cause_memory, ran_all, ran_broken, ran_memory, rest_ends, rest_finish, rest_written}
use Rattle.da_commands.proofs.launching.run_children.Goals as goal

pub finish_all-requires : goal.finish_all-requires
finish_all-requires g c = omega (arith, c.in-All.ensures.started.0, c.requires)

pub returns-in-All-clause-runs : goal.returns-in-All-clause-runs
returns-in-All-clause-runs g c = ran_all (child_words c.args.name.now c.args.setting) c.args.count _ _ _ _ _ c.in-All.list c.finish_all.result c.in-All.ensures.started c.finish_all.ensures.finished

pub returns-in-All-clause-children : goal.returns-in-All-clause-children
returns-in-All-clause-children g c = cause_later _ _ _ c.finish_all.result (λ never. never) c.in-All.ensures.cause c.finish_all.ensures.children

pub returns-in-Broken-clause-runs : goal.returns-in-Broken-clause-runs
returns-in-Broken-clause-runs g c = ran_broken (child_words c.args.name.now c.args.setting) c.args.count _ _ _ _ _ c.in-Broken.list c.finish_rest.result c.in-Broken.ensures.started c.finish_rest.ensures.finished refl

pub returns-in-Broken-clause-ends : goal.returns-in-Broken-clause-ends
returns-in-Broken-clause-ends g c = rest_finish c.finish_rest.result (rest_ends (numbers c.in-Broken.list) c.finish_rest.result _ _ c.finish_rest.ensures.finished)

pub returns-in-Broken-clause-write : goal.returns-in-Broken-clause-write
returns-in-Broken-clause-write g c = no_cause _ (rest_written c.finish_rest.result (rest_ends (numbers c.in-Broken.list) c.finish_rest.result _ _ c.finish_rest.ensures.finished))

pub returns-in-Broken-clause-children : goal.returns-in-Broken-clause-children
returns-in-Broken-clause-children g c = cause_broken _ _ _ c.finish_rest.result tt c.in-Broken.ensures.cause c.finish_rest.ensures.later (rest_ends (numbers c.in-Broken.list) c.finish_rest.result _ _ c.finish_rest.ensures.finished)

pub returns-in-Memory-clause-runs : goal.returns-in-Memory-clause-runs
returns-in-Memory-clause-runs g c = ran_memory (child_words c.args.name.now c.args.setting) c.args.count _ _ _ c.in-Memory.ensures.started

pub returns-in-Memory-clause-children : goal.returns-in-Memory-clause-children
returns-in-Memory-clause-children g c = cause_memory _ _ c.in-Memory.ensures.cause
