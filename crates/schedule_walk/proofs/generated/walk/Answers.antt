use Rattle.da_system.specs.State.{program_of}
use Rattle.da_system.proofs.StressLaws.{all_allowed, at_most}
use Rattle.schedule_walk.proofs.generated.walk.Goals as goal

pub returns-in_default-clause-allowed : goal.returns-in_default-clause-allowed
returns-in_default-clause-allowed g c = λ s stands. all_allowed (program_of c.args.system.now) c.args.n c.args.start 1 s

pub returns-in_default-clause-few : goal.returns-in_default-clause-few
returns-in_default-clause-few g c = λ s stands. at_most (program_of c.args.system.now) c.args.n c.args.start s

pub returns-in_default-schedule_of-clause-allowed : goal.returns-in_default-schedule_of-clause-allowed
returns-in_default-schedule_of-clause-allowed g c = λ s stands. all_allowed (program_of c.args.system.now) c.args.n c.args.start 1 s

pub returns-in_default-schedule_of-clause-few : goal.returns-in_default-schedule_of-clause-few
returns-in_default-schedule_of-clause-few g c = λ s stands. at_most (program_of c.args.system.now) c.args.n c.args.start s

pub returns-in-Ok-write_all-clause-allowed : goal.returns-in-Ok-write_all-clause-allowed
returns-in-Ok-write_all-clause-allowed g c = λ s stands. all_allowed (program_of c.args.system.now) c.args.n c.args.start 1 s

pub returns-in-Ok-write_all-clause-few : goal.returns-in-Ok-write_all-clause-few
returns-in-Ok-write_all-clause-few g c = λ s stands. at_most (program_of c.args.system.now) c.args.n c.args.start s

pub returns-in-Err-Failed-clause-allowed : goal.returns-in-Err-Failed-clause-allowed
returns-in-Err-Failed-clause-allowed g c = λ s stands. all_allowed (program_of c.args.system.now) c.args.n c.args.start 1 s

pub returns-in-Err-Failed-clause-few : goal.returns-in-Err-Failed-clause-few
returns-in-Err-Failed-clause-few g c = λ s stands. at_most (program_of c.args.system.now) c.args.n c.args.start s

pub returns-clause-allowed : goal.returns-clause-allowed
returns-clause-allowed g c = λ s stands. all_allowed (program_of c.args.system.now) c.args.n c.args.start 1 s

pub returns-clause-few : goal.returns-clause-few
returns-clause-few g c = λ s stands. at_most (program_of c.args.system.now) c.args.n c.args.start s
