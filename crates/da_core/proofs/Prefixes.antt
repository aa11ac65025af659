-- A prefix of the actions that are due, where no action was added.
use Rattle.std.proofs.Common.{List, refl}
use Rattle.da_lang.specs.declared.event.Action.{Action}
use Rattle.da_machine.specs.RunsTo.{AddsPrefix}
use Rattle.da_machine.proofs.Prefixes.{same_prefix}

pub no_prefix : (old due : List Action) → AddsPrefix old old due
no_prefix old due = same_prefix old old due refl
