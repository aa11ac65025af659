use Rattle.std.proofs.Common.{◌≡◌, ◌∷◌, ◌++◌, [], ap, refl, sym}
use Rattle.std.specs.Prelude.{is_some}
use Rattle.da_lang.specs.declared.event.Action.TheVariants.{Kept}
use Rattle.da_system.proofs.StepLemmas.{begins_to_keep, few_numbers, keeps, none_told}
use Rattle.da_system.proofs.Tested.{when_err, when_ok}
use Rattle.da_system.proofs.network.Network.stat.Goals as goal

pub returns-in_default-clause-answers : goal.returns-in_default-clause-answers
returns-in_default-clause-answers c = (λ s stands. none_told c.args.self.now s stands c.args.p _ (sym c.in_default.ensures), λ s. (λ x. x, λ x. x), refl)

pub overflow_cast-kept : goal.overflow_cast-kept
overflow_cast-kept c =
    let (s, stands) = c.requires.ready c.requires.unspent in
    record { fits = few_numbers c.args.self.now s stands c.args.p (ap is_some (sym c.in-Some.ensures)) }

pub returns-then-is_err-clause-answers : goal.returns-then-is_err-clause-answers
returns-then-is_err-clause-answers c = (
  refl,
  λ s stands. begins_to_keep c.args.self.now s stands c.args.p c.in-Some.core.now (sym c.in-Some.ensures) c.kept.result c.kept.ensures c.args.out.now c.push.new.self
      (when_err c.push.result c.is_err.result c.is_err.ensures.value (c.push.new.self ≡ c.args.out.now) c.if-is_err.true c.push.ensures.err),
)

pub returns-clause-answers : goal.returns-clause-answers
returns-clause-answers c = λ s stands.
    keeps c.args.self.now s stands c.args.p c.in-Some.core.now (sym c.in-Some.ensures) c.kept.result c.kept.ensures c.args.out.now c.push.new.self
    (when_ok c.push.result c.is_err.result c.is_err.ensures.value (c.push.new.self ≡ c.args.out.now ++ Kept c.args.p c.kept.result ∷ []) c.if-is_err.false c.push.ensures.ok)
