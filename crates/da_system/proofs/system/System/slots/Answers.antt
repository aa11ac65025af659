use Rattle.std.proofs.Common.{◌≡◌, ◌∙◌, ap, sym}
use Rattle.std.proofs.lemmas.Result.{IfOk-weaker}
use Rattle.da_lang.specs.World.{at_number}
use Rattle.da_core.specs.StandsFor as process
use Rattle.da_system.specs.Looking.{slots_at}
use Rattle.da_system.specs.State.{Whichever, program_of}
use Rattle.da_system.proofs.StandLemmas.{core_at, none_at}
use Rattle.da_system.proofs.system.System.slots.Goals as goal

pub returns-in-Some : goal.returns-in-Some
returns-in-Some c =
    IfOk-weaker c.slots.result (λ values. process.Whichever c.in-Some.core.now (λ w. values ≡ w.data'.slots)) (λ values. Whichever c.args.self.now (λ s. values ≡ slots_at (at_number s.worlds c.args.p)))
    (λ values each s stands.
    (let (w, at, its) = core_at (program_of c.args.self.now) c.args.self.now.network.cores.items s.worlds c.args.p _ stands.runs.cores (sym c.in-Some.ensures) in
    each w its.stands ∙ ap slots_at (sym at))) c.slots.ensures

pub returns-in-None : goal.returns-in-None
returns-in-None c = λ s stands. c.new.ensures ∙ ap slots_at (sym (none_at (program_of c.args.self.now) c.args.self.now.network.cores.items s.worlds c.args.p stands.runs.cores (sym c.in-None.ensures)))
