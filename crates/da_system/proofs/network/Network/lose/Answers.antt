use Rattle.std.proofs.Common.{◌≡◌, ◌∙◌, ◌∷◌, ◌++◌, [], refl, sym}
use Rattle.da_lang.specs.declared.event.Action.TheVariants.{Lost}
use Rattle.da_system.specs.Queues.{message_of}
use Rattle.da_system.proofs.MessageLemmas.{kind_loses, lost_begun, lost_stands, no_message_lost, none_lost}
use Rattle.da_system.proofs.Tested.{when_err, when_ok}
use Rattle.da_system.proofs.network.Network.lose.Goals as goal

pub returns-then-not-may_lose-clause-answers : goal.returns-then-not-may_lose-clause-answers
returns-then-not-may_lose-clause-answers c = (
  λ s stands. none_lost c.args.self.now s stands c.args.p c.args.q c.args.i (kind_loses c.args.self.now s stands c.may_lose.result c.kind.result c.kind.ensures c.may_lose.ensures ∙ c.if-not-may_lose.true),
  λ s. (λ x. x, λ x. x),
  refl,
)

pub returns-in_default-clause-answers : goal.returns-in_default-clause-answers
returns-in_default-clause-answers c = (
  λ s stands. no_message_lost c.args.self.now s stands c.args.p c.args.q c.args.i (sym (c.in_default.ensures.value s.channels stands.channels)),
  λ s. (λ x. x, λ x. x),
  refl,
)

pub returns-then-is_err-clause-answers : goal.returns-then-is_err-clause-answers
returns-then-is_err-clause-answers c = (
  refl,
  λ s stands. lost_begun c.args.self.now s stands c.args.p c.args.q c.args.i (message_of c.in-Some.message.now) (sym (c.in-Some.ensures.value s.channels stands.channels))
      (kind_loses c.args.self.now s stands c.may_lose.result c.kind.result c.kind.ensures c.may_lose.ensures ∙ c.if-not-may_lose.false) c.args.out.now c.push.new.self
      (when_err c.push.result c.is_err.result c.is_err.ensures.value (c.push.new.self ≡ c.args.out.now) c.if-is_err.true c.push.ensures.err),
)

pub returns-clause-answers : goal.returns-clause-answers
returns-clause-answers c = λ s stands.
    lost_stands c.args.self.now s stands c.args.p c.args.q c.args.i (message_of c.in-Some.message.now) (sym (c.in-Some.ensures.value s.channels stands.channels))
    (kind_loses c.args.self.now s stands c.may_lose.result c.kind.result c.kind.ensures c.may_lose.ensures ∙ c.if-not-may_lose.false) _ c.args.out.now c.push.new.self refl refl refl c.remove.ensures.count
    (c.remove.ensures.stands s.channels stands.channels)
    (when_ok c.push.result c.is_err.result c.is_err.ensures.value (c.push.new.self ≡ c.args.out.now ++ Lost c.args.p c.args.q c.in-Some.message.now.time ∷ []) c.if-is_err.false c.push.ensures.ok)
