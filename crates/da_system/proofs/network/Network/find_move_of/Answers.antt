use Rattle.std.proofs.Common.{arith}
use Rattle.std.specs.List.{filter}
use Rattle.da_system.specs.Choices.{is_allowed}
use Rattle.da_system.specs.Network.{program_of}
use Rattle.da_system.proofs.ChoiceLemmas.{among_moves, after_first, after_moves, first_move, one_take, takes_of}
use Rattle.da_system.proofs.FindLemmas.{piece_here, piece_on, pieces_end}
use Rattle.da_system.proofs.network.Network.find_move_of.Goals as goal

pub returns-in-Ok-clause-found : goal.returns-in-Ok-clause-found
returns-in-Ok-clause-found c = λ s stands. first_move (program_of c.args.self.now) s c.args.p c.args.j c.in-Ok.event (c.in-Ok.ensures.found s stands)

pub loop-place-init : goal.loop-place-init
loop-place-init c = record {
  leads = λ s stands. after_first (program_of c.args.self.now) s c.args.p _ c.args.j (c.alternatives-place-end.ensures s stands) _ (c.in-Err.ensures.found s stands);
  few = omega (arith, c.in-Err.ensures.few);
}

pub returns-in-Ok-find_one-clause-found : goal.returns-in-Ok-find_one-clause-found
returns-in-Ok-find_one-clause-found c = λ s stands.
    let allowed = is_allowed (program_of c.args.self.now) s in
    among_moves (program_of c.args.self.now) s c.args.p c.args.j c.in-Ok-find_one.event
    (piece_here allowed (one_take c.args.p) (filter allowed (takes_of s c.args.p)) c.args.j _ _ _ (c.loop-place.invariant.leads s stands) c.loop-place-test.true _ (c.in-Ok-find_one.ensures.found s stands))

pub loop-place-preserved : goal.loop-place-preserved
loop-place-preserved c = record {
  leads = λ s stands.
      let allowed = is_allowed (program_of c.args.self.now) s in
      piece_on allowed (one_take c.args.p) (filter allowed (takes_of s c.args.p)) c.args.j _ _ _ (c.loop-place.invariant.leads s stands) c.loop-place-test.true _ (c.in-Err-find_one.ensures.found s stands);
  few = omega (arith, c.loop-place.invariant.few, c.in-Err-find_one.ensures.few);
}

pub returns-clause-found : goal.returns-clause-found
returns-clause-found c = λ s stands.
    let allowed = is_allowed (program_of c.args.self.now) s in
    after_moves (program_of c.args.self.now) s c.args.p c.args.j _ _
    (pieces_end allowed (one_take c.args.p) (filter allowed (takes_of s c.args.p)) c.args.j _ _ _ (c.loop-place.invariant.leads s stands) c.loop-place-test.false) (c.find_one-2.ensures.found s stands)
