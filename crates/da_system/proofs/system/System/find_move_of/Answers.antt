use Rattle.std.proofs.Common.{◌+◌, ◌^◌}
use Rattle.da_system.specs.State.{program_of}
use Rattle.da_system.proofs.SystemLemmas.{moves_past, past_few}
use Rattle.da_system.proofs.system.System.find_move_of.Goals as goal

pub returns-in-Some-clause-found : goal.returns-in-Some-clause-found
returns-in-Some-clause-found c = λ s stands.
    moves_past (program_of c.args.self.now) s c.args.self.now.counts stands.counts c.args.p c.args.j c.in-Some.past c.moves.result c.moves.ensures.value c.in-Some.ensures

pub returns-in-Some-clause-few : goal.returns-in-Some-clause-few
returns-in-Some-clause-few c = past_few c.args.j c.in-Some.past (2 ^ 32 + 1) c.moves.result c.moves.ensures.few c.in-Some.ensures

pub returns-in-None-clause-found : goal.returns-in-None-clause-found
returns-in-None-clause-found c = λ s stands. c.find_move_of.ensures.found s stands.runs
