use Rattle.std.proofs.Common.{◌<◌, ◌≤◌, ◌∙◌, arith, length, sym}
use Rattle.std.specs.List.{filter, flat_map}
use Rattle.da_system.specs.Choices.{deliveries_from, is_allowed, processes}
use Rattle.da_system.specs.Queues.{count_of}
use Rattle.da_system.specs.State.{program_of}
use Rattle.da_system.proofs.FindLemmas.{piece_here, piece_on, pieces_end, pieces_start}
use Rattle.da_system.proofs.system.System.find_delivery.Goals as goal

pub loop-place-init : goal.loop-place-init
loop-place-init c = record {
  leads = λ s stands. pieces_start (is_allowed (program_of c.args.self.now) s) (deliveries_from s) _ (length s.worlds) c.args.j (stands.runs.count ∙ sym stands.runs.sound.each);
  few = omega arith;
}

pub returns-in-Ok-clause-found : goal.returns-in-Ok-clause-found
returns-in-Ok-clause-found c = λ s stands.
    let allowed = is_allowed (program_of c.args.self.now) s in
    let inside : c.loop-place.place < count_of c.args.self.now.network.channels = omega (arith, c.loop-place-test.true, c.processes-place-end.ensures.value) in
    piece_here allowed (deliveries_from s) (filter allowed (flat_map (deliveries_from s) (processes s))) c.args.j _ _ _ (c.loop-place.invariant.leads s stands) inside _ (c.in-Ok.ensures.found s stands)

pub loop-place-preserved : goal.loop-place-preserved
loop-place-preserved c = record {
  leads = λ s stands.
      let allowed = is_allowed (program_of c.args.self.now) s in
      let inside : c.loop-place.place < count_of c.args.self.now.network.channels = omega (arith, c.loop-place-test.true, c.processes-place-end.ensures.value) in
      piece_on allowed (deliveries_from s) (filter allowed (flat_map (deliveries_from s) (processes s))) c.args.j _ _ _ (c.loop-place.invariant.leads s stands) inside _ (c.in-Err.ensures.found s stands);
  few = omega (arith, c.loop-place.invariant.few, c.in-Err.ensures.few);
}

pub returns-clause-found : goal.returns-clause-found
returns-clause-found c = λ s stands.
    let allowed = is_allowed (program_of c.args.self.now) s in
    let past : count_of c.args.self.now.network.channels ≤ c.loop-place.place = omega (arith, c.loop-place-test.false, c.processes-place-end.ensures.value) in
    pieces_end allowed (deliveries_from s) (filter allowed (flat_map (deliveries_from s) (processes s))) c.args.j _ _ _ (c.loop-place.invariant.leads s stands) past
