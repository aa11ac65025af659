use Rattle.da_core.proofs.Entering.{coded, flag_tells, has_flag}
use Rattle.da_core.proofs.KnownLaws.{flag_is}
use Rattle.da_core.proofs.process.Core.flag_of.Goals as goal

pub returns-in-Some-clause-holds : goal.returns-in-Some-clause-holds
returns-in-Some-clause-holds g c = λ w s alts timeout label place alt waits begun is there.
    let core = c.args.self.now in
    flag_tells core w s waits alts timeout label begun place alt there c.in-Some.alternative.now c.args.k c.flag.result is
    (c.in-Some.ensures s.code (coded core w s)) (flag_is core.known c.in-Some.alternative.now.flag c.flag.result c.flag.ensures)

pub returns-in-None-clause-holds : goal.returns-in-None-clause-holds
returns-in-None-clause-holds g c = λ w s alts timeout label place alt waits begun is there.
    let core = c.args.self.now in
    absurd (has_flag core w s waits alts timeout label begun place alt there c.args.k is (c.in-None.ensures s.code (coded core w s)))
