-- Spawners: what a call adds to what they tell.
use Rattle.std.specs.Prelude.{◌≡◌, ℕ, List, [], ◌∷◌, ◌++◌, Option, Some}
use Rattle.std.specs.Option.{option_map}
use Rattle.da_outside.specs.declared.spawner.Ended.{Ended}
use Rattle.da_outside.specs.declared.spawner.SpawnEntry.{SpawnEntry}
use Rattle.da_outside.specs.declared.spawner.SpawnEntry.TheVariants.{Finish}

-- the content has these entries more
abbrev pub Tells : Option (List SpawnEntry) → Option (List SpawnEntry) → List SpawnEntry → Type 0
Tells old new entries = new ≡ option_map (λ told. told ++ entries) old

-- The child of a number ended with this status: what it wrote was appended, and both are told.
pub record HasFinished (child status : ℕ) (old new : List ℕ) (told_before told_after : Option (List SpawnEntry)) : Type 0 where
  pub output : List ℕ
  pub appended : new ≡ old ++ output
  pub told : Tells told_before told_after (Finish child (Some (record { status = status; output = output })) ∷ [])
