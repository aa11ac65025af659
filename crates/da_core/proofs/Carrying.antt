-- The run of a move, from its first action to where the process stands.
use Rattle.std.proofs.Common.{◌≡◌, ℕ, ◌≤◌, List, [], ◌∷◌, ◌++◌, Option, sym, ap, ◌∙◌, subst, arith}
use Rattle.da_lang.specs.declared.event.Action.{Action}
use Rattle.da_lang.specs.declared.event.Action.TheVariants as action
use Rattle.da_lang.specs.declared.program.Class.{Class}
use Rattle.da_lang.specs.declared.program.Program.{Program}
use Rattle.da_lang.specs.Runs.{Ran, max_turns, run_to_yield}
use Rattle.da_lang.specs.Steps.{closing}
use Rattle.da_lang.specs.World.{Data, Task}
use Rattle.da_machine.specs.declared.machine.Machine.{Machine}
use Rattle.da_machine.specs.declared.machine.Stop.{Stop}
use Rattle.da_machine.specs.RunsTo.{AddsPrefix}
use Rattle.da_machine.specs.Stops.{CanRun, IsRun}
use Rattle.da_core.specs.declared.compiled.ClassCode.{ClassCode}
use Rattle.da_core.specs.declared.known.Known.{Known}
use Rattle.da_core.specs.declared.moves.Begin.{Begin}
use Rattle.da_core.specs.declared.place.Place.{Place}
use Rattle.da_core.specs.declared.waits.Alternative.{Alternative}
use Rattle.da_core.specs.Begins.{HasRun, HasStopped, MayRun, MayStop, alternative_at, bound_by, move_actions}
use Rattle.da_core.specs.Known.{Each, Knows, KnowsSome}
use Rattle.da_core.proofs.Entering.{alternative-me}
use Rattle.da_machine.proofs.Prefixes.{same_prefix}
use Rattle.da_core.proofs.KnownLaws.{me_is, with_actions}
use Rattle.da_core.proofs.Moving.{leaves}
use Rattle.da_core.proofs.Stopping.{has_run, may_stop, run_prefix, stop_prefix}

-- the label, the `await` or nothing was taken before
pub early_enough : (n : ℕ) → n ≤ 1 → n ≤ max_turns
unfolding max_turns
early_enough n early = omega (arith, early)

-- a prefix of the actions that are due was added, whatever the process is
abbrev pub Partly : ClassCode → Known → Machine → Begin → ℕ → List Action → Type 0
Partly code known m begin k new =
    (p : Program) (class : Class) (d : Data) (todo : List Task) → MayRun p class code known m k begin d todo
    → AddsPrefix known.actions new (move_actions d.me k (run_to_yield class begin.turns d todo))

-- the move was told, and then the row was bound
pub record HasBound (code : ClassCode) (known : Known) (m : Machine) (k : ℕ) (bound : Known) : Type 0 where
  pub knows : Each known (λ p class d. Knows bound p class (bound_by class (alternative_at code m.place k) d))
  pub told : bound.actions ≡ known.actions ++ action.Took known.answers.me k ∷ []

pub has_bound : (code : ClassCode) (known : Known) (m : Machine) (k : ℕ) (bound : Known) (alternative : Option Alternative) (pushed : List Action) → alternative ≡ alternative_at code m.place k
    → pushed ≡ known.actions ++ action.Took known.answers.me k ∷ [] → Each (record known { actions = pushed }) (λ p class d. Knows bound p class (bound_by class alternative d))
    → bound.actions ≡ pushed → HasBound code known m k bound
has_bound code known m k bound alternative pushed taken told binds stays = record {
  knows = λ p class d knows. subst (λ x. Knows bound p class (bound_by class x d)) taken (binds p class d (with_actions known p class d knows pushed));
  told = stays ∙ told;
}

module _ (p : Program) (class : Class) (code : ClassCode) (known : Known) (m : Machine) (k : ℕ) (begin : Begin) (d : Data) (todo : List Task) (may : MayRun p class code known m k begin d todo) where
  abbrev ran : Ran
  ran = run_to_yield class begin.turns d todo

  pub ready : CanRun p class code.code (record m { place = begin.entry; turns = begin.turns }) d todo
  ready = record { accepted = may.accepted; knows = may.knows; tasks = may.tasks; code_for = may.code_for }

  itself : d.me ≡ known.answers.me
  itself = ap (λ (x : Data). x.me) may.bound ∙ alternative-me p class (alternative_at code m.place k) may.before ∙ me_is known p class may.before may.stands

  -- what is kept when the move was told
  pub told_it : (pushed : List Action) → KnowsSome (record known { actions = pushed })
  told_it pushed = (p, class, may.before, with_actions known p class may.before may.stands pushed)

  -- where memory is refused before the run, only the move was told
  pub prefix_of_row : (new : List Action) → new ≡ known.actions ++ action.Took known.answers.me k ∷ [] → AddsPrefix known.actions new (move_actions d.me k ran)
  prefix_of_row new told =
      run_prefix known.actions new ran.actions (closing d.me ran.halt) (action.Took d.me k)
      (same_prefix (known.actions ++ action.Took d.me k ∷ []) new ran.actions (told ∙ ap (λ x. known.actions ++ action.Took x k ∷ []) (sym itself)))

  module _ (bound : Known) (so : HasBound code known m k bound) where
    pub knows_it : Knows bound p class d
    knows_it = subst (Knows bound p class) (sym may.bound) (so.knows p class may.before may.stands)

    so_told : bound.actions ≡ known.actions ++ action.Took d.me k ∷ []
    so_told = so.told ∙ ap (λ x. known.actions ++ action.Took x k ∷ []) (sym itself)

    pub prefix_of_run : (new : List Action) → AddsPrefix bound.actions new ran.actions → AddsPrefix known.actions new (move_actions d.me k ran)
    prefix_of_run new front = run_prefix known.actions new ran.actions (closing d.me ran.halt) (action.Took d.me k) (subst (λ xs. AddsPrefix xs new ran.actions) so_told front)

    module _ (after : Known) (m1 : Machine) (answer : Stop) (run : IsRun class code.code answer m1 (Knows after p class) bound.actions after.actions ran) where
      pub stops_there : MayStop code answer
      stops_there = may_stop class code may.waits answer m1 ran.todo ran.halt run.stops

      so_far : after.actions ≡ (known.actions ++ action.Took d.me k ∷ []) ++ ran.actions
      so_far = run.actions ∙ ap (λ xs. xs ++ ran.actions) so_told

      pub prefix_of_stop : (new : List Action) → new ≡ after.actions → AddsPrefix known.actions new (move_actions d.me k ran)
      prefix_of_stop new stays = stop_prefix known.actions after.actions new ran.actions (closing d.me ran.halt) (action.Took d.me k) so_far stays

      pub run_whole : (new : Known) (spot : Place) → HasStopped code after new answer spot → HasRun p class code d.me k ran known new m1 spot
      run_whole new spot stopped =
          has_run class code may.waits p d.me k ran.data' ran.todo ran.actions known after new m1 answer spot run.known
          (leaves p class code known m k begin d todo may).same so_far ran.turns ran.halt run.no_values run.stops stopped
