-- The rules of types up to a line are what a program demands up to it.
use Rattle.std.specs.Prelude.{◌≡◌, ℕ, List, Some}
use Rattle.da_lang.specs.declared.tree.Tree.{Tree}
use Rattle.da_lang.specs.declared.ty.Ty.{Ty}
use Rattle.da_lang.specs.Resolution.{resolved}
use Rattle.da_lang.specs.Typing.{type_breaks}
use Rattle.type_table.specs.Fits.{Meaning}
use Rattle.type_table.specs.Schemes.{stands}
use Rattle.type_demands.specs.declared.demand.Demand.{Demand}
use Rattle.type_demands.specs.Demands.{all_met}
use Rattle.untyped_laws.specs.Retyped.{put_program}
use Rattle.class_demands.specs.declared.demands.Head.{Head}
use Rattle.class_demands.specs.Prefix.{none_upto, needed, headed, always, demands_upto}
use Rattle.class_demands.specs.Programs.{program_demands}
use Rattle.class_demands.specs.Unknowns.{put, scheme_of}

-- whatever the unknown types are, the program with them breaks no rule up to a line exactly where its demands are met
abbrev pub ProgramsAreDemanded : Type 0
ProgramsAreDemanded = (m : Meaning) (t : Tree) (n : ℕ) → none_upto n (type_breaks (put_program (put m) (resolved t))) ≡ all_met m always (demands_upto n (program_demands (resolved t)))

-- of the slots in use all is met that their headers demand, exactly where the demands of these headers are met besides
abbrev pub HeadsAreNeeded : Type 0
HeadsAreNeeded = (m : Meaning) (hs : List Head) (demands : List Demand) → all_met m (headed m hs always) demands ≡ all_met m always (needed hs demands)

-- what stands for a declared type
abbrev pub SchemesStand : Type 0
SchemesStand = (m : Meaning) (x : Ty) → stands m (scheme_of x) ≡ Some (put m x)
