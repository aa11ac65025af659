use Rattle.std.proofs.Common.{◌≡◌, refl, ◌+◌, ◌≤◌, [], ◌∷◌, List, rules, arith, ap, subst, sym, length}
use Rattle.std.specs.Prelude.{None, Some}
use Rattle.da_outside.specs.declared.spawner.Child.{Child}
use Rattle.da_outside.specs.declared.spawner.Ended.{Ended}
use Rattle.da_outside.specs.declared.spawner.SpawnEntry.TheVariants.{Finish}
use Rattle.da_outside.specs.Outside.{AppendsPrefix, HasCause}
use Rattle.da_outside.specs.Spawner.{Tells}
use Rattle.da_outside.proofs.OutsideLemmas.{no_cause}
use Rattle.da_commands.specs.declared.status.Status.TheVariants.{WriteFault}
use Rattle.da_commands.specs.LaunchSteps.{numbers}
use Rattle.da_commands.specs.Launching.{HasChildCause, child_text}
use Rattle.da_commands.proofs.LaunchLemmas.{Came, came_cut, came_end, came_ends, came_failed, came_first, came_memory, came_on, came_unlike, no_child_cause}
use Rattle.da_commands.proofs.finishing.finish_all.Goals as goal

pub children-init : goal.children-init
children-init g c = record { came = came_first (numbers c.args.list) (g.S.Spawner.told c.args.children.now) (g.K.Sink.taken c.args.out.now) (numbers c.args.list) refl; few = omega (arith, c.requires); out = refl; children = refl }

pub children-preserved : goal.children-preserved
children-preserved g c =
    let a = g.S.Spawner.told c.args.children.now in
    let x = g.K.Sink.taken c.args.out.now in
    let came : Came (numbers c.args.list) a x (numbers (c.in-Some.child ∷ c.next_of.new.list)) c.children.process c.children.status (g.S.Spawner.told c.children.children) (g.K.Sink.taken c.children.out) =
    subst (λ (l : List Child). Came (numbers c.args.list) a x (numbers l) c.children.process c.children.status (g.S.Spawner.told c.children.children) (g.K.Sink.taken c.children.out)) c.in-Some.ensures c.children.invariant.came in
    let size : length c.children.left ≡ length (c.in-Some.child ∷ c.next_of.new.list) = ap length c.in-Some.ensures in
    let (end, code_is, told, written) = c.in-Ok.ensures.finished in
    record {
      came = subst (λ s. Came (numbers c.args.list) a x (numbers c.next_of.new.list) (c.children.process + 1) s (g.S.Spawner.told c.finish_one.new.children) (g.K.Sink.taken c.finish_one.new.out)) (sym c.first_of-status.ensures)
          (came_on (numbers c.args.list) a x (numbers c.next_of.new.list) c.in-Some.child.number c.children.process c.children.status _ _ came (c.children.process + 1) c.in-Ok.code end _ _ refl code_is told written);
      few = omega (arith, size, c.children.invariant.few);
      out = (search rules);
      children = (search rules);
    }

pub returns-in-Err-Child-clause-finished : goal.returns-in-Err-Child-clause-finished
returns-in-Err-Child-clause-finished g c =
    let a = g.S.Spawner.told c.args.children.now in
    let x = g.K.Sink.taken c.args.out.now in
    let came : Came (numbers c.args.list) a x (numbers (c.in-Some.child ∷ c.next_of.new.list)) c.children.process c.children.status (g.S.Spawner.told c.children.children) (g.K.Sink.taken c.children.out) =
    subst (λ (l : List Child). Came (numbers c.args.list) a x (numbers l) c.children.process c.children.status (g.S.Spawner.told c.children.children) (g.K.Sink.taken c.children.out)) c.in-Some.ensures c.children.invariant.came in
    let failed : Tells (g.S.Spawner.told c.children.children) (g.S.Spawner.told c.finish_one.new.children) (Finish c.in-Some.child.number None ∷ []) × (g.K.Sink.taken c.finish_one.new.out ≡ g.K.Sink.taken c.children.out) =
    rw c.in-Err-Child.field-0-is at c.in-Err-Child.ensures.finished in
    came_failed (numbers c.args.list) a x (numbers c.next_of.new.list) c.in-Some.child.number c.children.process c.children.status _ _ came _ _ _ c.finish_rest.result failed.0 failed.1 c.finish_rest.ensures.finished

pub returns-in-Err-Write-clause-finished : goal.returns-in-Err-Write-clause-finished
returns-in-Err-Write-clause-finished g c =
    let a = g.S.Spawner.told c.args.children.now in
    let x = g.K.Sink.taken c.args.out.now in
    let came : Came (numbers c.args.list) a x (numbers (c.in-Some.child ∷ c.next_of.new.list)) c.children.process c.children.status (g.S.Spawner.told c.children.children) (g.K.Sink.taken c.children.out) =
    subst (λ (l : List Child). Came (numbers c.args.list) a x (numbers l) c.children.process c.children.status (g.S.Spawner.told c.children.children) (g.K.Sink.taken c.children.out)) c.in-Some.ensures c.children.invariant.came in
    let cut : (end : Ended) × Tells (g.S.Spawner.told c.children.children) (g.S.Spawner.told c.finish_one.new.children) (Finish c.in-Some.child.number (Some end) ∷ [])
    × AppendsPrefix (g.K.Sink.taken c.children.out) (g.K.Sink.taken c.finish_one.new.out) (child_text (c.children.process + 1) end) = rw c.in-Err-Write.field-0-is at c.in-Err-Write.ensures.finished in
    let (end, told, written) = cut in
    came_cut (numbers c.args.list) a x (numbers c.next_of.new.list) c.in-Some.child.number c.children.process c.children.status _ _ came (c.children.process + 1) end _ _ refl told written

pub returns-in-Err-Memory-clause-finished : goal.returns-in-Err-Memory-clause-finished
returns-in-Err-Memory-clause-finished g c =
    let a = g.S.Spawner.told c.args.children.now in
    let x = g.K.Sink.taken c.args.out.now in
    let came : Came (numbers c.args.list) a x (numbers (c.in-Some.child ∷ c.next_of.new.list)) c.children.process c.children.status (g.S.Spawner.told c.children.children) (g.K.Sink.taken c.children.out) =
    subst (λ (l : List Child). Came (numbers c.args.list) a x (numbers l) c.children.process c.children.status (g.S.Spawner.told c.children.children) (g.K.Sink.taken c.children.out)) c.in-Some.ensures c.children.invariant.came in
    came_memory (numbers c.args.list) a x (numbers c.next_of.new.list) c.in-Some.child.number c.children.process c.children.status _ _ came (c.children.process + 1) _ _ refl (rw c.in-Err-Memory.field-0-is at c.in-Err-Memory.ensures.finished)

pub returns-clause-finished : goal.returns-clause-finished
returns-clause-finished g c =
    let none : c.children.left ≡ [] = (search rules) in
    came_end (numbers c.args.list) _ _ (numbers c.children.left) c.children.process c.children.status _ _ c.children.invariant.came (ap numbers none)

pub returns-clause-ends : goal.returns-clause-ends
returns-clause-ends g c = came_ends (numbers c.args.list) _ _ (numbers c.children.left) c.children.process c.children.status _ _ c.children.invariant.came

pub returns-clause-write : goal.returns-clause-write
returns-clause-write g c =
    subst (λ n. HasCause (g.K.Sink.faults c.args.out.now) n (c.children.status ≡ WriteFault)) (sym c.children.invariant.out)
    (no_cause _ (came_unlike (numbers c.args.list) _ _ (numbers c.children.left) c.children.process c.children.status _ _ c.children.invariant.came).0)

pub returns-clause-children : goal.returns-clause-children
returns-clause-children g c =
    subst (λ n. HasChildCause (g.S.Spawner.faults c.args.children.now) n c.children.status) (sym c.children.invariant.children)
    (no_child_cause _ c.children.status (came_unlike (numbers c.args.list) _ _ (numbers c.children.left) c.children.process c.children.status _ _ c.children.invariant.came).1)
