use Rattle.std.proofs.Common.{◌++◌, ◌∙◌, ap, append-nil, sym}
use Rattle.std.proofs.lemmas.Result.{on_ok_weaker}
use Rattle.da_system.specs.Looking.{answers_at}
use Rattle.da_system.specs.State.{program_of}
use Rattle.da_system.proofs.StandLemmas.{none_at}
use Rattle.da_system.proofs.StepLemmas.{answers_told, may_tell, unspent_there}
use Rattle.da_system.proofs.system.System.answers.Goals as goal

pub answers-requires-clause-ready : goal.answers-requires-clause-ready
answers-requires-clause-ready c =
    let (s, stands) = c.requires.ready c.requires.unspent in
    may_tell c.args.self.now.network s stands.runs c.args.p c.in-Some.core.now (sym c.in-Some.ensures)

pub answers-requires-clause-unspent : goal.answers-requires-clause-unspent
answers-requires-clause-unspent c =
    let (s, stands) = c.requires.ready c.requires.unspent in
    unspent_there c.args.self.now.network s stands.runs c.args.p c.in-Some.core.now (sym c.in-Some.ensures)

pub returns-in-Some : goal.returns-in-Some
returns-in-Some c =
    on_ok_weaker c.answers.result (λ told s stands. answers_told c.args.self.now.network s stands.runs c.args.p c.in-Some.core.now (sym c.in-Some.ensures) c.args.out.now c.answers.new.out told) c.answers.ensures.told

pub returns-in-None : goal.returns-in-None
returns-in-None c = λ s stands.
    sym (append-nil c.args.out.now) ∙ ap (λ o. c.args.out.now ++ answers_at (program_of c.args.self.now) c.args.p o) (sym (none_at (program_of c.args.self.now) c.args.self.now.network.cores.items s.worlds c.args.p stands.runs.cores (sym c.in-None.ensures)))
