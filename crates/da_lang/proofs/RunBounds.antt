-- A run ends, changes no more than statements can, and stops where it says.
use Rattle.std.specs.Prelude.{◌≡◌, refl, ℕ, zero, suc, ◌+◌, ◌-◌, ◌≤◌, Bool, true, false, cond, List, [], ◌∷◌, Option, Some, None}
use Rattle.std.proofs.Common.{arith}
use Rattle.da_lang.specs.declared.event.Action.{Action}
use Rattle.da_lang.specs.declared.event.FaultKind.{FaultKind}
use Rattle.da_lang.specs.declared.program.Class.{Class}
use Rattle.da_lang.specs.Changes.{Changes, none}
use Rattle.da_lang.specs.Runs.{Halt, AtYield, UsedUp, Faults, Ran, stopped, ran_after, behind_turn, go_after, max_turns, yields, run, run_to_yield}
use Rattle.da_lang.specs.Turns.{AfterTurn, turn}
use Rattle.da_lang.specs.World.{Data, Task}
use Rattle.da_lang.proofs.ChangeLaws.{changes_then}
use Rattle.da_lang.proofs.TurnLaws.{turn_changes}

-- what a choice has that both of its sides have
abbrev pub by_truth : {A : Type 0} → (P : A → Type 0) → (b : Bool) (x y : A) → (b ≡ true → P x) → (b ≡ false → P y) → P (cond b x y)
by_truth P true x y px py = px refl
by_truth P false x y px py = py refl

-- what holds after a turn: of its fault, or of the run from what it leaves
pub go_on_has : (P : Ran → Type 0) (d : Data) (todo : List Task) (actions : List Action) (n : ℕ) (go : Data → List Task → Ran)
    → ((kind : FaultKind) (line : ℕ) → P (record { data' = d; todo = todo; actions = actions; turns = n; halt = Faults kind line }))
    → P (ran_after actions (go d todo)) → (fault : Option (FaultKind × ℕ)) → P (behind_turn d todo actions n go fault)
go_on_has P d todo actions n go failed ran (Some fault) = failed fault.0 fault.1
go_on_has P d todo actions n go failed ran None = ran

pub go_after_has : (P : Ran → Type 0) (after : AfterTurn) (n : ℕ) (go : Data → List Task → Ran)
    → ((kind : FaultKind) (line : ℕ) → P (record { data' = after.data'; todo = after.todo; actions = after.actions; turns = n; halt = Faults kind line }))
    → P (ran_after after.actions (go after.data' after.todo)) → P (go_after after n go)
go_after_has P after n go failed ran = go_on_has P after.data' after.todo after.actions n go failed ran after.fault

-- a run changes no more than statements can
pub run_changes : (class : Class) (left n : ℕ) (d : Data) (todo : List Task) → Changes d (run class left n d todo).data'
unfolding run
run_changes class zero n d [] = none
run_changes class (suc left) n d [] = none
run_changes class zero n d (t ∷ todo) = none
run_changes class (suc left) n d (t ∷ todo) =
    by_truth (λ (ran : Ran). Changes d ran.data') (yields t) (stopped d (t ∷ todo) n AtYield) (go_after (turn class t d todo) (n + 1) (run class left (n + 1))) (λ is. none)
    (λ is. go_after_has (λ (ran : Ran). Changes d ran.data') (turn class t d todo) (n + 1) (run class left (n + 1)) (λ kind line. turn_changes class t d todo)
    (changes_then (turn_changes class t d todo) (run_changes class left (n + 1) (turn class t d todo).data' (turn class t d todo).todo)))

-- a run takes no more turns than it may
pub run_turns : (class : Class) (left n : ℕ) (d : Data) (todo : List Task) → (run class left n d todo).turns ≤ n + left
unfolding run
run_turns class zero n d [] = omega arith
run_turns class (suc left) n d [] = omega arith
run_turns class zero n d (t ∷ todo) = omega arith
run_turns class (suc left) n d (t ∷ todo) =
    by_truth (λ (ran : Ran). ran.turns ≤ n + suc left) (yields t) (stopped d (t ∷ todo) n AtYield) (go_after (turn class t d todo) (n + 1) (run class left (n + 1))) (λ is. omega arith)
    (λ is. go_after_has (λ (ran : Ran). ran.turns ≤ n + suc left) (turn class t d todo) (n + 1) (run class left (n + 1)) (λ kind line. omega arith)
    (let within : (run class left (n + 1) (turn class t d todo).data' (turn class t d todo).todo).turns ≤ n + 1 + left = run_turns class left (n + 1) (turn class t d todo).data' (turn class t d todo).todo in omega (arith, within)))

-- so no event takes more than the greatest number of turns
pub run_to_yield_turns : (class : Class) (n : ℕ) (d : Data) (todo : List Task) → n ≤ max_turns → (run_to_yield class n d todo).turns ≤ max_turns
run_to_yield_turns class n d todo within =
    let most : (run class (max_turns - n) n d todo).turns ≤ n + (max_turns - n) = run_turns class (max_turns - n) n d todo in
    omega (arith, most, within)

-- what a way to stop says of what is left to do
abbrev pub BeginsWithYield : List Task → Type 0
BeginsWithYield [] = ⊥
BeginsWithYield (t ∷ todo) = yields t ≡ true

abbrev pub IsStop : Halt → List Task → Type 0
IsStop AtYield todo = BeginsWithYield todo
IsStop UsedUp todo = todo ≡ []
IsStop (Faults kind line) todo = Unit {0}

pub run_stops : (class : Class) (left n : ℕ) (d : Data) (todo : List Task) → IsStop (run class left n d todo).halt (run class left n d todo).todo
unfolding run
run_stops class zero n d [] = refl
run_stops class (suc left) n d [] = refl
run_stops class zero n d (t ∷ todo) = by_truth (λ (halt : Halt). IsStop halt (t ∷ todo)) (yields t) _ _ (λ is. is) (λ is. tt)
run_stops class (suc left) n d (t ∷ todo) =
    by_truth (λ (ran : Ran). IsStop ran.halt ran.todo) (yields t) _ _ (λ is. is)
    (λ is. go_after_has (λ (ran : Ran). IsStop ran.halt ran.todo) (turn class t d todo) (n + 1) (run class left (n + 1)) (λ kind line. tt)
    (run_stops class left (n + 1) (turn class t d todo).data' (turn class t d todo).todo))
