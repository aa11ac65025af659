use Rattle.std.proofs.Common.{subst}
use Rattle.da_outside.specs.Outside.{Appends, AppendsPrefix}
use Rattle.da_outside.proofs.OutsideLemmas.{prefix_whole}
use Rattle.da_system.specs.State.{program_of}
use Rattle.da_system.proofs.StressLaws.{all_allowed, at_most}
use Rattle.replay_run.proofs.StressLemmas.{lines_are}
use Rattle.replay_run.proofs.generated.stress.Goals as goal

pub returns-in_default-clause-allowed : goal.returns-in_default-clause-allowed
returns-in_default-clause-allowed g c = λ s stands. all_allowed (program_of c.args.system.now) c.args.n c.args.start 1 s

pub returns-in_default-clause-few : goal.returns-in_default-clause-few
returns-in_default-clause-few g c = λ s stands. at_most (program_of c.args.system.now) c.args.n c.args.start s

pub returns-in-Ok-write_summary-clause-allowed : goal.returns-in-Ok-write_summary-clause-allowed
returns-in-Ok-write_summary-clause-allowed g c = λ s stands. all_allowed (program_of c.args.system.now) c.args.n c.args.start 1 s

pub returns-in-Ok-write_summary-clause-few : goal.returns-in-Ok-write_summary-clause-few
returns-in-Ok-write_summary-clause-few g c = λ s stands. at_most (program_of c.args.system.now) c.args.n c.args.start s

pub returns-in-Err-Failed-clause-allowed : goal.returns-in-Err-Failed-clause-allowed
returns-in-Err-Failed-clause-allowed g c = λ s stands. all_allowed (program_of c.args.system.now) c.args.n c.args.start 1 s

pub returns-in-Err-Failed-clause-few : goal.returns-in-Err-Failed-clause-few
returns-in-Err-Failed-clause-few g c = λ s stands. at_most (program_of c.args.system.now) c.args.n c.args.start s

pub returns-in-Err-Memory-clause-allowed : goal.returns-in-Err-Memory-clause-allowed
returns-in-Err-Memory-clause-allowed g c = λ s stands. all_allowed (program_of c.args.system.now) c.args.n c.args.start 1 s

pub returns-in-Err-Memory-clause-few : goal.returns-in-Err-Memory-clause-few
returns-in-Err-Memory-clause-few g c = λ s stands. at_most (program_of c.args.system.now) c.args.n c.args.start s

-- THE EIGHT LINES

pub returns-in-Ok-write_summary-clause-ran : goal.returns-in-Ok-write_summary-clause-ran
returns-in-Ok-write_summary-clause-ran g c = λ ended s stands.
    let come = c.in-Ok.ensures.ran s stands in
    record { stands = come.stands; written = subst (Appends _ _) (lines_are _ _ _ _ _ _ come) c.in-Ok-write_summary.ensures.written }

pub returns-in-Ok-write_summary-clause-prefix : goal.returns-in-Ok-write_summary-clause-prefix
returns-in-Ok-write_summary-clause-prefix g c = λ s stands.
    let come = c.in-Ok.ensures.ran s stands in
    prefix_whole _ _ _ (subst (Appends _ _) (lines_are _ _ _ _ _ _ come) c.in-Ok-write_summary.ensures.written)

pub returns-in-Err-Failed-clause-prefix : goal.returns-in-Err-Failed-clause-prefix
returns-in-Err-Failed-clause-prefix g c = λ s stands. subst (AppendsPrefix _ _) (lines_are _ _ _ _ _ _ (c.in-Ok.ensures.ran s stands)) c.in-Err-Failed.ensures.prefix

pub returns-in-Err-Memory-clause-prefix : goal.returns-in-Err-Memory-clause-prefix
returns-in-Err-Memory-clause-prefix g c = λ s stands. subst (AppendsPrefix _ _) (lines_are _ _ _ _ _ _ (c.in-Ok.ensures.ran s stands)) c.in-Err-Memory.ensures.prefix
