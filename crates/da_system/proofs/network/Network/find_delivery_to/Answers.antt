use Rattle.std.proofs.Common.{◌<◌, ◌≤◌, arith, refl}
use Rattle.std.specs.List.{filter}
use Rattle.da_system.specs.Choices.{deliveries_to, is_allowed}
use Rattle.da_system.specs.Network.{program_of}
use Rattle.da_system.proofs.ChoiceLemmas.{messages_start, no_messages, one_message}
use Rattle.da_system.proofs.FindLemmas.{piece_here, piece_on, pieces_end}
use Rattle.da_system.proofs.network.Network.find_delivery_to.Goals as goal

pub returns-then-in_flight-eq0-clause-found : goal.returns-then-in_flight-eq0-clause-found
returns-then-in_flight-eq0-clause-found c = λ s stands. no_messages c.args.self.now s stands c.args.p c.args.q c.args.j c.in_flight.result (c.in_flight.ensures s stands) c.if-in_flight-eq0.true

pub loop-place-init : goal.loop-place-init
loop-place-init c = record {
  leads = λ s stands. messages_start (is_allowed (program_of c.args.self.now) s) c.args.p c.args.q c.args.j 4 refl;
  few = omega arith;
}

pub returns-in-Ok-clause-found : goal.returns-in-Ok-clause-found
returns-in-Ok-clause-found c = λ s stands.
    let allowed = is_allowed (program_of c.args.self.now) s in
    let inside : c.loop-place.place < 4 = omega (arith, c.loop-place-test.true) in
    piece_here allowed (one_message c.args.p c.args.q) (filter allowed (deliveries_to c.args.p c.args.q)) c.args.j _ _ _ (c.loop-place.invariant.leads s stands) inside _ (c.in-Ok.ensures.found s stands)

pub loop-place-preserved : goal.loop-place-preserved
loop-place-preserved c = record {
  leads = λ s stands.
      let allowed = is_allowed (program_of c.args.self.now) s in
      let inside : c.loop-place.place < 4 = omega (arith, c.loop-place-test.true) in
      piece_on allowed (one_message c.args.p c.args.q) (filter allowed (deliveries_to c.args.p c.args.q)) c.args.j _ _ _ (c.loop-place.invariant.leads s stands) inside _ (c.in-Err.ensures.found s stands);
  few = omega (arith, c.loop-place.invariant.few, c.in-Err.ensures.few);
}

pub returns-clause-found : goal.returns-clause-found
returns-clause-found c = λ s stands.
    let allowed = is_allowed (program_of c.args.self.now) s in
    let past : 4 ≤ c.loop-place.place = omega (arith, c.loop-place-test.false) in
    pieces_end allowed (one_message c.args.p c.args.q) (filter allowed (deliveries_to c.args.p c.args.q)) c.args.j _ _ _ (c.loop-place.invariant.leads s stands) past
