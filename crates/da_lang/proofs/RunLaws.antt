-- What a run is: one equation for each way on.
use Rattle.std.specs.Prelude.{◌≡◌, refl, ℕ, zero, suc, ◌+◌, ◌-◌, ◌<◌, ◌≤◌, true, false, List, [], ◌∷◌, Some, None}
use Rattle.std.proofs.Common.{◌∙◌, ap, arith}
use Rattle.da_lang.specs.declared.event.Action.{Action}
use Rattle.da_lang.specs.declared.event.FaultKind.{FaultKind}
use Rattle.da_lang.specs.declared.event.FaultKind.TheVariants.{TooLong}
use Rattle.da_lang.specs.declared.program.Alt.{Alt}
use Rattle.da_lang.specs.declared.program.Class.{Class}
use Rattle.da_lang.specs.declared.program.Item.{Item}
use Rattle.da_lang.specs.declared.program.ItemKind.{ItemKind}
use Rattle.da_lang.specs.declared.program.ItemKind.TheOpen.{ItemKind-F}
use Rattle.da_lang.specs.declared.program.RBranch.{RBranch}
use Rattle.da_lang.specs.Runs.{AtYield, UsedUp, Faults, ran_after, go_after, kind_yields, max_turns, yields, stopped, run, run_to_yield}
use Rattle.da_lang.specs.Turns.{kind_of, kind_turn, line_of, line_of_task, turn}
use Rattle.da_lang.specs.World.{Data, Task, Do}

-- a statement of this kind is a yield point, and a turn that takes it is that of the kind
pub yields_kind : (i : Item) (layer : ItemKind-F ItemKind Alt Item RBranch) → kind_of i ≡ layer → yields (Do i) ≡ kind_yields layer
yields_kind i layer is = ap kind_yields is

pub turn_kind : (class : Class) (i : Item) (layer : ItemKind-F ItemKind Alt Item RBranch) (d : Data) (todo : List Task) → kind_of i ≡ layer → turn class (Do i) d todo ≡ kind_turn class (line_of i) d todo (Do i) layer
turn_kind class i layer d todo is = ap (kind_turn class (line_of i) d todo (Do i)) is

module _ (class : Class) where
  pub run_end : (left n : ℕ) (d : Data) → run class left n d [] ≡ stopped d [] n UsedUp
  unfolding run
  run_end left n d = refl

  pub run_yield : (left n : ℕ) (d : Data) (t : Task) (todo : List Task) → yields t ≡ true → run class left n d (t ∷ todo) ≡ stopped d (t ∷ todo) n AtYield
  unfolding run
  run_yield zero n d t todo y = rw y refl
  run_yield (suc left) n d t todo y = rw y refl

  pub run_late : (n : ℕ) (d : Data) (t : Task) (todo : List Task) → yields t ≡ false → run class zero n d (t ∷ todo) ≡ stopped d (t ∷ todo) n (Faults TooLong (line_of_task t))
  unfolding run
  run_late n d t todo y = rw y refl

  pub run_turn : (left n : ℕ) (d : Data) (t : Task) (todo : List Task) → yields t ≡ false → run class (suc left) n d (t ∷ todo) ≡ go_after (turn class t d todo) (n + 1) (run class left (n + 1))
  unfolding run
  run_turn left n d t todo y = rw y refl

  -- the same of the run of an event that has taken n turns
  pub run_to_yield_end : (n : ℕ) (d : Data) → run_to_yield class n d [] ≡ stopped d [] n UsedUp
  run_to_yield_end n d = run_end (max_turns - n) n d

  pub run_to_yield_yield : (n : ℕ) (d : Data) (t : Task) (todo : List Task) → yields t ≡ true → run_to_yield class n d (t ∷ todo) ≡ stopped d (t ∷ todo) n AtYield
  run_to_yield_yield n d t todo y = run_yield (max_turns - n) n d t todo y

  pub run_to_yield_late : (n : ℕ) (d : Data) (t : Task) (todo : List Task) → max_turns ≤ n → yields t ≡ false → run_to_yield class n d (t ∷ todo) ≡ stopped d (t ∷ todo) n (Faults TooLong (line_of_task t))
  run_to_yield_late n d t todo late y =
      let none : max_turns - n ≡ zero = omega (arith, late) in
      ap (λ left. run class left n d (t ∷ todo)) none ∙ run_late n d t todo y

  pub run_to_yield_turn : (n : ℕ) (d : Data) (t : Task) (todo : List Task) → n < max_turns → yields t ≡ false → run_to_yield class n d (t ∷ todo) ≡ go_after (turn class t d todo) (n + 1) (run_to_yield class (n + 1))
  run_to_yield_turn n d t todo early y =
      let some : max_turns - n ≡ suc (max_turns - (n + 1)) = omega (arith, early) in
      ap (λ left. run class left n d (t ∷ todo)) some ∙ run_turn (max_turns - (n + 1)) n d t todo y

  -- by what the turn gives
  pub run_goes : (n : ℕ) (d d2 : Data) (t : Task) (todo todo2 : List Task) (actions : List Action) → n < max_turns → yields t ≡ false → turn class t d todo ≡ record { data' = d2; todo = todo2; actions = actions; fault = None }
      → run_to_yield class n d (t ∷ todo) ≡ ran_after actions (run_to_yield class (n + 1) d2 todo2)
  run_goes n d d2 t todo todo2 actions early y gives = run_to_yield_turn n d t todo early y ∙ ap (λ after. go_after after (n + 1) (run_to_yield class (n + 1))) gives

  pub run_fails : (n : ℕ) (d d2 : Data) (t : Task) (todo todo2 : List Task) (actions : List Action) (kind : FaultKind) (line : ℕ) → n < max_turns → yields t ≡ false → turn class t d todo ≡ record { data' = d2; todo = todo2; actions = actions; fault = Some (kind, line) }
      → run_to_yield class n d (t ∷ todo) ≡ record { data' = d2; todo = todo2; actions = actions; turns = n + 1; halt = Faults kind line }
  run_fails n d d2 t todo todo2 actions kind line early y gives = run_to_yield_turn n d t todo early y ∙ ap (λ after. go_after after (n + 1) (run_to_yield class (n + 1))) gives
