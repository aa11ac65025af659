use Rattle.std.specs.Prelude.{ℕ}
use Rattle.untyped_laws.proofs.ClassBinds.{class_binds}
use Rattle.untyped_laws.proofs.FlowSteps.{class_runs}
use Rattle.untyped_laws.proofs.FollowLaws.{class_follows}
use Rattle.untyped_laws.proofs.differ.slots_follow.Goals as goal

pub returns-clause-steps : goal.returns-clause-steps
returns-clause-steps c = class_runs

pub returns-clause-once : goal.returns-clause-once
returns-clause-once c = class_binds

pub returns-clause-follow : goal.returns-clause-follow
returns-clause-follow c = λ found. class_follows ℕ found
