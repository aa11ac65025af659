use Rattle.std.specs.Option.{option_map}
use Rattle.std.specs.Prelude.{Option, Some}
use Rattle.std.proofs.Common.{◌∙◌, ap, sym}
use Rattle.da_lang.specs.World.{World}
use Rattle.da_system.specs.State.{program_of}
use Rattle.da_system.proofs.StandLemmas.{core_at, none_at}
use Rattle.da_system.proofs.system.System.place.Goals as goal

pub returns-in-Some : goal.returns-in-Some
returns-in-Some c = λ s stands.
    let (w, at, its) = core_at (program_of c.args.self.now) c.args.self.now.network.cores.items s.worlds c.args.p _ stands.runs.cores (sym c.in-Some.ensures) in
    ap (λ (o : Option World). option_map (λ (w : World). w.phase) o) at ∙ ap Some (c.place.ensures.phase w its.stands)

pub returns-in-None : goal.returns-in-None
returns-in-None c = λ s stands.
    ap (λ (o : Option World). option_map (λ (w : World). w.phase) o)
    (none_at (program_of c.args.self.now) c.args.self.now.network.cores.items s.worlds c.args.p stands.runs.cores (sym c.in-None.ensures))
