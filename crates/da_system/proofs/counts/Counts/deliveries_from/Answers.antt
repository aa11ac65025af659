use Rattle.std.proofs.Common.{◌∙◌, List, Option, ℕ, ap}
use Rattle.std.specs.Option.{option_map}
use Rattle.std.specs.Prelude.{Some, sum}
use Rattle.da_system.proofs.counts.Counts.deliveries_from.Goals as goal

pub returns-in-Some-clause-value : goal.returns-in-Some-clause-value
returns-in-Some-clause-value c = ap Some c.total.ensures.value ∙ ap (λ (o : Option (List ℕ)). option_map sum o) c.in-Some.ensures

pub returns-in-None-clause-value : goal.returns-in-None-clause-value
returns-in-None-clause-value c = ap (λ (o : Option (List ℕ)). option_map sum o) c.in-None.ensures
