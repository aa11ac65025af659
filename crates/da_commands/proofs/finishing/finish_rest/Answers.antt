use Rattle.std.proofs.Common.{◌≡◌, ◌++◌, [], ◌∷◌, List, Option, rules, subst}
use Rattle.da_outside.specs.declared.spawner.Child.{Child}
use Rattle.da_outside.specs.declared.spawner.Ended.{Ended}
use Rattle.da_outside.specs.declared.spawner.SpawnEntry.TheVariants.{Finish}
use Rattle.da_outside.specs.Spawner.{Tells}
use Rattle.da_commands.specs.LaunchSteps.{numbers}
use Rattle.da_commands.proofs.LaunchLemmas.{FinishedSoFar, none_so_far, one_so_far}
use Rattle.da_commands.proofs.finishing.finish_rest.Goals as goal

pub children-init : goal.children-init
children-init g c = record { so_far = ([], none_so_far (numbers c.args.list) (g.S.Spawner.told c.args.children.now)); later = (search rules) }

pub children-preserved : goal.children-preserved
children-preserved g c =
    let ends : List (Option Ended) = c.children.invariant.so_far.0 in
    let so_far : FinishedSoFar (numbers c.args.list) (numbers (c.in-Some.child ∷ c.next_of.new.list)) ends (g.S.Spawner.told c.args.children.now) (g.S.Spawner.told c.children.children) =
    subst (λ (l : List Child). FinishedSoFar (numbers c.args.list) (numbers l) ends (g.S.Spawner.told c.args.children.now) (g.S.Spawner.told c.children.children)) c.in-Some.ensures c.children.invariant.so_far.1 in
    let told : (end : Option Ended) × Tells (g.S.Spawner.told c.children.children) (g.S.Spawner.told c.finish_unwritten.new.children) (Finish c.in-Some.child.number end ∷ []) = (search rules) in
    record {
      so_far = (ends ++ told.0 ∷ [], one_so_far (numbers c.args.list) (numbers c.next_of.new.list) c.in-Some.child.number ends told.0 _ _ _ so_far told.1);
      later = (search rules);
    }
