-- The processes that what code keeps stands for.
use Rattle.std.specs.Prelude.{◌≡◌}
use Rattle.da_lang.specs.declared.program.Class.{Class}
use Rattle.da_lang.specs.declared.program.Program.{Program}
use Rattle.da_lang.specs.World.{Data}
use Rattle.delta_rules.specs.Holding.{ids_of_answers}
use Rattle.delta_rules.specs.Keeping.{Keeps}
use Rattle.delta_rules.specs.Laid.{IsLaid}
use Rattle.query_plan.specs.Questions.{norm_class}
use Rattle.query_plan.specs.Seen.{IsStored}
use Rattle.row_pool.specs.Pool.{HoldsAll}
use Rattle.da_core.specs.declared.known.Known.{Known}

-- What code keeps stands for a process of a class of a program that knows d: it answers by the plan of the class, has the same
-- clock, and its answers, by the plan that is stored in the place of that one, are those over the whole histories of d. So it
-- stands for many processes, with different histories. Its answers alone hold values of its pool.
pub record Knows (known : Known) (p : Program) (class : Class) (d : Data) : Type 0 where
  pub plan : known.plan.now ≡ norm_class class
  pub clock : d.clock ≡ known.clock
  pub stored : IsStored known.plan.now.nodes known.stored.now
  pub keeps : Keeps known.answers known.pool known.stored.now.plan.nodes d
  pub laid : IsLaid known.answers known.pool known.stored.now.plan.nodes
  pub held : HoldsAll known.pool (ids_of_answers known.answers)

-- for some process
abbrev pub KnowsSome : Known → Type 0
KnowsSome known = (p : Program) × (class : Class) × (d : Data) × Knows known p class d

-- it holds of each process for which it stands
abbrev pub Each : Known → (Program → Class → Data → Type 0) → Type 0
Each known holds = (p : Program) (class : Class) (d : Data) → Knows known p class d → holds p class d

-- where it stood for a process, it stands for the same one after this step
abbrev pub Becomes : Known → Known → (Data → Data) → Type 0
Becomes old new step = Each old (λ p class d. Knows new p class (step d))
