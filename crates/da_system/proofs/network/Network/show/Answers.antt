use Rattle.std.proofs.Common.{◌≡◌, ◌++◌, refl, sym}
use Rattle.da_lang.specs.World.{class_of}
use Rattle.da_core.specs.StandsFor as process
use Rattle.da_core.specs.Told.{answers_of}
use Rattle.da_machine.specs.RunsTo.{AddsPrefix}
use Rattle.da_system.proofs.StepLemmas.{begins_to_show, may_tell, none_told, shows, unspent_there}
use Rattle.da_system.proofs.Tested.{when_err, when_ok}
use Rattle.da_system.proofs.network.Network.show.Goals as goal

pub returns-in_default-clause-answers : goal.returns-in_default-clause-answers
returns-in_default-clause-answers c = (λ s stands. none_told c.args.self.now s stands c.args.p _ (sym c.in_default.ensures), λ s. (λ x. x, λ x. x), refl)

pub answers-requires-clause-ready : goal.answers-requires-clause-ready
answers-requires-clause-ready c =
    let (s, stands) = c.requires.ready c.requires.unspent in
    may_tell c.args.self.now s stands c.args.p c.in-Some.core.now (sym c.in-Some.ensures)

pub answers-requires-clause-unspent : goal.answers-requires-clause-unspent
answers-requires-clause-unspent c =
    let (s, stands) = c.requires.ready c.requires.unspent in
    unspent_there c.args.self.now s stands c.args.p c.in-Some.core.now (sym c.in-Some.ensures)

pub returns-then-is_err-clause-answers : goal.returns-then-is_err-clause-answers
returns-then-is_err-clause-answers c = (
  refl,
  λ s stands. begins_to_show c.args.self.now s stands c.args.p c.in-Some.core.now (sym c.in-Some.ensures) c.args.out.now c.answers.new.out
      (when_err c.answers.result c.is_err.result c.is_err.ensures.value
      (process.Whichever c.in-Some.core.now (λ w. AddsPrefix c.args.out.now c.answers.new.out (answers_of w.data'.me (class_of (process.program_of c.in-Some.core.now) w.data'.me) w.data')))
      c.if-is_err.true c.answers.ensures.prefix),
)

pub returns-clause-answers : goal.returns-clause-answers
returns-clause-answers c = λ s stands.
    shows c.args.self.now s stands c.args.p c.in-Some.core.now (sym c.in-Some.ensures) c.args.out.now c.answers.new.out
    (when_ok c.answers.result c.is_err.result c.is_err.ensures.value
    (process.Whichever c.in-Some.core.now (λ w. c.answers.new.out ≡ c.args.out.now ++ answers_of w.data'.me (class_of (process.program_of c.in-Some.core.now) w.data'.me) w.data'))
    c.if-is_err.false c.answers.ensures.told)
