use Rattle.std.proofs.Common.{◌∙◌, sym}
use Rattle.da_system.specs.Queues.{message_of}
use Rattle.da_system.proofs.MessageLemmas.{kind_arrives, no_message_arrives, no_receiver, none_arrives}
use Rattle.da_system.proofs.StepLemmas.{not_enabled, takes_as}
use Rattle.da_system.proofs.network.Network.may_deliver.Goals as goal

pub returns-then-not-may_arrive : goal.returns-then-not-may_arrive
returns-then-not-may_arrive c = λ s stands.
    not_enabled (none_arrives c.args.self.now s stands c.args.p c.args.q c.args.i (kind_arrives c.args.self.now s stands c.may_arrive.result c.kind.result c.args.i c.kind.ensures c.may_arrive.ensures ∙ c.if-not-may_arrive.true))

pub returns-in_default : goal.returns-in_default
returns-in_default c = λ s stands. not_enabled (no_message_arrives c.args.self.now s stands c.args.p c.args.q c.args.i (sym (c.in_default.ensures.value s.channels stands.channels)))

pub returns-in-None : goal.returns-in-None
returns-in-None c = λ s stands.
    not_enabled (no_receiver c.args.self.now s stands c.args.p c.args.q c.args.i (message_of c.in-Some.message.now) (sym (c.in-Some.ensures.value s.channels stands.channels)) (sym c.in-None.ensures))

pub returns-in-Some-core : goal.returns-in-Some-core
returns-in-Some-core c = λ s stands.
    let message = message_of c.in-Some.message.now in
    let there = sym (c.in-Some.ensures.value s.channels stands.channels) in
    let may = kind_arrives c.args.self.now s stands c.may_arrive.result c.kind.result c.args.i c.kind.ensures c.may_arrive.ensures ∙ c.if-not-may_arrive.false in
    takes_as c.args.self.now s stands c.args.p c.args.q c.args.i message c.in-Some-core.core.now (sym c.in-Some-core.ensures) there may c.can_take.result (λ w at. c.can_take.ensures.allowed w at message.time)
