use Rattle.std.proofs.Common.{◌∙◌, ap, sym}
use Rattle.da_system.specs.Choices.{alternatives_at}
use Rattle.da_system.specs.Network.{program_of}
use Rattle.da_system.proofs.ChoiceLemmas.{alternatives_are}
use Rattle.da_system.proofs.StandLemmas.{core_at, none_at}
use Rattle.da_system.proofs.network.Network.alternatives.Goals as goal

pub returns-in-Some : goal.returns-in-Some
returns-in-Some c = λ s stands.
    let (w, at, its) = core_at (program_of c.args.self.now) c.args.self.now.cores.items s.worlds c.args.p _ stands.cores (sym c.in-Some.ensures) in
    c.alternatives_at.ensures ∙ alternatives_are _ _ _ (c.place.ensures.place w its.stands) ∙ ap alternatives_at (sym at)

pub returns-in-None : goal.returns-in-None
returns-in-None c = λ s stands. ap alternatives_at (sym (none_at (program_of c.args.self.now) c.args.self.now.cores.items s.worlds c.args.p stands.cores (sym c.in-None.ensures)))
