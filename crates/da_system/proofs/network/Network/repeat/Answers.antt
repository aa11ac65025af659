use Rattle.std.proofs.Common.{◌≡◌, ◌∙◌, ◌∷◌, ◌++◌, [], refl, sym}
use Rattle.std.specs.Prelude.{IfSome}
use Rattle.da_lang.specs.declared.event.Action.TheVariants.{Again}
use Rattle.da_lang.specs.World.{at_number}
use Rattle.da_system.specs.Channels.{MessageInFlight, channel, with_message}
use Rattle.da_system.specs.Queues.{Each, StandsFor, message_of}
use Rattle.da_system.proofs.MessageLemmas.{doubled_stands, kind_repeats, no_message_doubled, none_doubled}
use Rattle.da_system.proofs.Tested.{when_ok}
use Rattle.da_system.proofs.network.Network.repeat.Goals as goal

pub returns-then-not-may_repeat-clause-answers : goal.returns-then-not-may_repeat-clause-answers
returns-then-not-may_repeat-clause-answers c = (
  λ s stands. none_doubled c.args.self.now s stands c.args.p c.args.q c.args.i (kind_repeats c.args.self.now s stands c.may_repeat.result c.kind.result c.kind.ensures c.may_repeat.ensures ∙ c.if-not-may_repeat.true),
  λ s. (λ x. x, λ x. x),
  refl,
)

pub returns-in_default-clause-answers : goal.returns-in_default-clause-answers
returns-in_default-clause-answers c = (
  λ s stands. no_message_doubled c.args.self.now s stands c.args.p c.args.q c.args.i (sym (c.in_default.ensures.value s.channels stands.channels)),
  λ s. (λ x. x, λ x. x),
  refl,
)

pub returns-clause-answers : goal.returns-clause-answers
returns-clause-answers c = λ s stands.
    doubled_stands c.args.self.now s stands c.args.p c.args.q c.args.i (message_of c.in-Some.message.now) (sym (c.in-Some.ensures.value s.channels stands.channels))
    (kind_repeats c.args.self.now s stands c.may_repeat.result c.kind.result c.kind.ensures c.may_repeat.ensures ∙ c.if-not-may_repeat.false) _ c.args.out.now c.push.new.self refl refl refl c.repeat.ensures.count
    (when_ok c.repeat.result c.is_err-else-is_err.result c.is_err-else-is_err.ensures.value
    (Each c.args.self.now.channels (λ channels. IfSome (at_number (channel channels c.args.p c.args.q) c.args.i) (λ (message : MessageInFlight). StandsFor c.repeat.new.self (with_message channels c.args.p c.args.q message))))
    c.if-is_err-2.false c.repeat.ensures.stands s.channels stands.channels)
    (when_ok c.push.result c.is_err.result c.is_err.ensures.value (c.push.new.self ≡ c.args.out.now ++ Again c.args.p c.args.q c.in-Some.message.now.time ∷ []) c.if-is_err.false c.push.ensures.ok)
