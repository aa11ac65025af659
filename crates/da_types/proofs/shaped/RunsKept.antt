-- A run keeps what it found shaped, up to where it stops.
use Rattle.std.specs.Prelude.{refl, ℕ, zero, suc, ◌+◌, ◌-◌, List, [], ◌∷◌, ◌++◌}
use Rattle.std.proofs.Common.{sym, subst}
use Rattle.std.proofs.lemmas.List.Elements.{All-nil, All-append}
use Rattle.da_lang.specs.declared.event.Action.{Action}
use Rattle.da_lang.specs.declared.program.Class.{Class}
use Rattle.da_lang.specs.declared.program.Program.{Program}
use Rattle.da_lang.specs.Runs.{AtYield, Ran, stopped, go_after, max_turns, yields, run, run_to_yield}
use Rattle.da_lang.specs.Shaped.{ShapedData, ShapedTasks}
use Rattle.da_lang.specs.Turns.{turn}
use Rattle.da_lang.specs.World.{Data, Task}
use Rattle.da_lang.proofs.RunBounds.{by_truth, go_after_has}
use Rattle.std.proofs.lemmas.List.Elements.{All-head, All-tail}
use Rattle.da_lang.specs.Shaped.{IsTask}
use Rattle.da_types.specs.KeepsShaped.{LeavesShaped, MayTell}
use Rattle.da_types.proofs.shaped.Known.{IsWholeProgram}
use Rattle.da_types.proofs.shaped.TurnsKept.{turn_leaves}

module _ (p : Program) (c : Class) where
  -- what a run leaves
  abbrev pub RunLeaves : ℕ → Ran → Type 0
  RunLeaves me ran = LeavesShaped p c me ran.data' ran.todo ran.actions

  pub stays : (d : Data) (todo : List Task) → ShapedData p c d → ShapedTasks p c d.me todo → LeavesShaped p c d.me d todo []
  stays d todo s rest = record { same = refl; knows = s; tasks = rest; tells = All-nil (MayTell p d.me) }

  -- one after the other
  pub leaves_then : (me : ℕ) (d after : Data) (todo tasks : List Task) (first second : List Action) → LeavesShaped p c me d todo first → LeavesShaped p c d.me after tasks second → LeavesShaped p c me after tasks (first ++ second)
  leaves_then me d after todo tasks first second one other =
      let next = subst (λ z. LeavesShaped p c z after tasks second) one.same other in
      record { same = next.same; knows = next.knows; tasks = next.tasks; tells = All-append (MayTell p me) first second one.tells next.tells }

  -- what is left may be done in the same process
  pub tasks_now : (me : ℕ) (d : Data) (todo : List Task) (actions : List Action) → LeavesShaped p c me d todo actions → ShapedTasks p c d.me todo
  tasks_now me d todo actions one = subst (λ z. ShapedTasks p c z todo) (sym one.same) one.tasks

  pub run_leaves : IsWholeProgram p → (left n : ℕ) (d : Data) (todo : List Task) → ShapedData p c d → ShapedTasks p c d.me todo → RunLeaves d.me (run c left n d todo)
  unfolding run
  run_leaves f zero n d [] s rest = stays d [] s rest
  run_leaves f (suc left) n d [] s rest = stays d [] s rest
  run_leaves f zero n d (t ∷ todo) s rest = stays d (t ∷ todo) s rest
  run_leaves f (suc left) n d (t ∷ todo) s rest =
      let one = turn_leaves p c f t d todo s (All-head (IsTask p c d.me) t todo rest) (All-tail (IsTask p c d.me) t todo rest) in
      by_truth (RunLeaves d.me) (yields t) (stopped d (t ∷ todo) n AtYield) (go_after (turn c t d todo) (n + 1) (run c left (n + 1))) (λ is. stays d (t ∷ todo) s rest)
      (λ is. go_after_has (RunLeaves d.me) (turn c t d todo) (n + 1) (run c left (n + 1)) (λ kind line. one)
      (leaves_then d.me (turn c t d todo).data' (run c left (n + 1) (turn c t d todo).data' (turn c t d todo).todo).data' (turn c t d todo).todo (run c left (n + 1) (turn c t d todo).data' (turn c t d todo).todo).todo (turn c t d todo).actions (run c left (n + 1) (turn c t d todo).data' (turn c t d todo).todo).actions one
      (run_leaves f left (n + 1) (turn c t d todo).data' (turn c t d todo).todo one.knows (tasks_now d.me (turn c t d todo).data' (turn c t d todo).todo (turn c t d todo).actions one))))

  -- A RUN KEEPS WORLDS SHAPED
  pub run_to_yield_leaves : IsWholeProgram p → (n : ℕ) (d : Data) (todo : List Task) → ShapedData p c d → ShapedTasks p c d.me todo → RunLeaves d.me (run_to_yield c n d todo)
  run_to_yield_leaves f n d todo s rest = run_leaves f (max_turns - n) n d todo s rest
