use Rattle.std.proofs.Common.{[], subst, sym}
use Rattle.da_lang.specs.Turns.{bind_all, do_all}
use Rattle.da_machine.proofs.Prefixes.{on_err}
use Rattle.da_core.specs.Arrivals.{HasTried}
use Rattle.da_core.specs.Known.{Becomes}
use Rattle.da_core.proofs.Arriving.{TriedPart, has_tried, ready, tried_part}
use Rattle.da_machine.proofs.Prefixes.{same_prefix}
use Rattle.da_core.proofs.deliveries.run_handler.Goals as goal

pub returns-in_err-bind-clause-part : goal.returns-in_err-bind-clause-part
returns-in_err-bind-clause-part c =
    on_err _ (TriedPart c.args.delivery.now c.args.handler.now c.args.turns c.args.known.now c.bind.new.known.actions) (λ p d may go. same_prefix _ _ _ c.in_err-bind.ensures.actions)

pub run_code-requires-clause-ready : goal.run_code-requires-clause-ready
run_code-requires-clause-ready c =
    let (p, d, may) = c.requires.can in
    let becomes = subst (λ slots. Becomes c.args.known.now c.bind.new.known (bind_all slots c.args.row.now)) c.as_slice.ensures c.in_ok-bind.ensures.bound in
    let class = c.args.delivery.now.class.now in
    let binds = becomes p class d may.knows in (
      p,
      class,
      bind_all c.args.handler.now.binds c.args.row.now d,
      do_all c.args.handler.now.body [],
      binds,
      ready c.args.delivery.now c.args.handler.now c.args.entry c.args.turns c.args.known.now p d may c.requires.there c.args.row.now (c.requires.matches p class d may.knows) c.bind.new.known binds c.in_ok-bind.ensures.actions
          _ c.new-machine.ensures.place c.new-machine.ensures.loops,
    )

pub returns-in_err-stop-clause-part : goal.returns-in_err-stop-clause-part
returns-in_err-stop-clause-part c =
    let becomes = subst (λ slots. Becomes c.args.known.now c.bind.new.known (bind_all slots c.args.row.now)) c.as_slice.ensures c.in_ok-bind.ensures.bound in
    let class = c.args.delivery.now.class.now in
    on_err _ (TriedPart c.args.delivery.now c.args.handler.now c.args.turns c.args.known.now c.run_code.new.s.actions) (λ p d may.
    (let binds = becomes p class d may.knows in
    tried_part c.args.delivery.now c.args.handler.now c.args.entry c.args.turns c.args.known.now p d may c.requires.there c.args.row.now (c.requires.matches p class d may.knows) c.bind.new.known binds c.in_ok-bind.ensures.actions
    c.run_code.new.s.actions
    (c.in_err-stop.ensures.part _ _ _ _ binds
    (ready c.args.delivery.now c.args.handler.now c.args.entry c.args.turns c.args.known.now p d may c.requires.there c.args.row.now (c.requires.matches p class d may.knows) c.bind.new.known binds c.in_ok-bind.ensures.actions
    _ c.new-machine.ensures.place c.new-machine.ensures.loops))))

pub returns-clause-tried : goal.returns-clause-tried
returns-clause-tried c =
    let becomes = subst (λ slots. Becomes c.args.known.now c.bind.new.known (bind_all slots c.args.row.now)) c.as_slice.ensures c.in_ok-bind.ensures.bound in
    let class = c.args.delivery.now.class.now in
    λ p d may.
    let binds = becomes p class d may.knows in
    subst (HasTried p c.args.delivery.now c.args.handler.now c.args.turns d c.args.known.now c.run_code.new.s) (sym c.handled_by.ensures)
    (has_tried c.args.delivery.now c.args.handler.now c.args.entry c.args.turns c.args.known.now p d may c.requires.there c.args.row.now (c.requires.matches p class d may.knows) c.bind.new.known binds c.in_ok-bind.ensures.actions
    c.run_code.new.s c.run_code.new.m c.in_ok-stop.stop
    (c.in_ok-stop.ensures.runs _ _ _ _ binds
    (ready c.args.delivery.now c.args.handler.now c.args.entry c.args.turns c.args.known.now p d may c.requires.there c.args.row.now (c.requires.matches p class d may.knows) c.bind.new.known binds c.in_ok-bind.ensures.actions
    _ c.new-machine.ensures.place c.new-machine.ensures.loops)))
