-- Where a run is stuck.
use Rattle.std.proofs.Common.{◌≡◌, sym, ◌∙◌, subst, ℕ, Bool, true, false, List}
use Rattle.std.specs.Prelude.{Result, Ok, Err, ◌↔◌, IfOk, IsTrue}
use Rattle.std.proofs.lemmas.Bool.{false≢true}
use Rattle.da_lang.specs.declared.event.Action.{Action}
use Rattle.da_lang.specs.declared.program.Program.{Program}
use Rattle.da_system.specs.declared.system.System.{System}
use Rattle.da_system.specs.State.{Whichever}
use Rattle.da_system.specs.SystemStep.{SystemState}
use Rattle.schedule_hunt.specs.ShownSteps.{HasUnended}
use Rattle.schedule_walk.specs.Rest.{IsAtRest}

module _ (b : Bool) (count n : ℕ) (actions : List Action) (both : IsTrue b ↔ HasUnended count actions) (same : count ≡ n) where
  -- all processes have ended
  pub not_stuck : b ≡ false → (program : Program) (s : SystemState) → IsTrue false ↔ IsAtRest program s × HasUnended n actions
  not_stuck is program s = (λ no. absurd (false≢true no), λ stuck. absurd (false≢true (sym is ∙ both.1 (subst (λ k. HasUnended k actions) (sym same) stuck.1))))

  -- one has not
  pub stuck_as : {E : Type 0} (system : System) (program : Program) (r : Result Bool E) → b ≡ true → IfOk r (λ rests. Whichever system (λ s. IsTrue rests ↔ IsAtRest program s))
      → IfOk r (λ stuck. Whichever system (λ s. IsTrue stuck ↔ IsAtRest program s × HasUnended n actions))
  stuck_as system program (Ok x) is told = λ s stands.
      let rests = told s stands in
      (λ yes'. (rests.0 yes', subst (λ k. HasUnended k actions) same (both.0 is)), λ stuck. rests.1 stuck.0)
  stuck_as system program (Err fault) is told = told
