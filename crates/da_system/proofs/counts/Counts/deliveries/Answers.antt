use Rattle.std.proofs.Common.{◌∙◌, List, Option, ℕ, ap, sym}
use Rattle.da_lang.specs.World.{at_number}
use Rattle.da_system.specs.Channels.{or_empty}
use Rattle.da_system.proofs.WorldLemmas.{numbered_none}
use Rattle.da_system.proofs.counts.Counts.deliveries.Goals as goal

pub returns-in-Some-clause-value : goal.returns-in-Some-clause-value
returns-in-Some-clause-value c = c.get.ensures.value ∙ ap (λ (o : Option (List ℕ)). at_number (or_empty o) c.args.q) c.in-Some.ensures

pub returns-in-None-clause-value : goal.returns-in-None-clause-value
returns-in-None-clause-value c = sym (numbered_none {A = ℕ} c.args.q) ∙ ap (λ (o : Option (List ℕ)). at_number (or_empty o) c.args.q) c.in-None.ensures
