-- What the answer to an event tells, by its kind.
use Rattle.std.proofs.Common.{◌≡◌, refl, sym, ◌∙◌, true, false, List}
use Rattle.std.specs.Prelude.{Option, Some, None, Result, Ok, Err, IsErrOf, OnOk}
use Rattle.std.proofs.lemmas.Bool.{false≢true}
use Rattle.da_lang.specs.declared.event.Action.{Action}
use Rattle.da_core.specs.declared.place.StepFault.{StepFault}
use Rattle.da_core.specs.declared.place.StepFault.TheVariants.{Forbidden, Memory, Spent}
use Rattle.da_system.specs.declared.system.System.{System}
use Rattle.da_system.specs.Network.{HasBegun}
use Rattle.da_system.specs.State.{Answers, HasStepped, IsReady, StandAlike, Stands, Whichever, is_spent}
use Rattle.da_system.specs.SystemStep.{AfterEvent, SystemState}

abbrev Answer : Type 0
Answer = Result (Unit {0}) StepFault

module _ (step : SystemState → Option AfterEvent) (system left : System) (old new : List Action) where
  pub ready_after : (r : Answer) → IsReady system → is_spent system ≡ false → Answers step system r left old new → IsReady left
  ready_after (Ok done) ready unspent answers =
      λ _. (let (s, stands) = ready unspent in let has = answers s stands in (has.after.state, has.stands))
  ready_after (Err Forbidden) ready unspent answers = λ _. (let (s, stands) = ready unspent in (s, (answers.1 s).0 stands))
  ready_after (Err Memory) ready unspent answers = λ none. absurd (false≢true (sym none ∙ answers.0))
  ready_after (Err Spent) ready unspent answers = absurd answers

  pub steps_after : (r : Answer) → Answers step system r left old new → OnOk r (Whichever system (λ s. HasStepped (step s) left old new))
  steps_after (Ok done) answers = answers
  steps_after (Err fault) answers = tt

  pub never_spent : (r : Answer) → Answers step system r left old new → IsErrOf r Spent → ⊥
  never_spent (Ok done) answers is = absurd (cc)
  never_spent (Err Forbidden) answers is = absurd (cc)
  never_spent (Err Memory) answers is = absurd (cc)
  never_spent (Err Spent) answers is = answers

  pub forbidden_after : (r : Answer) → Answers step system r left old new → IsErrOf r Forbidden → Whichever system (λ s. step s ≡ None) × StandAlike system left × (new ≡ old)
  forbidden_after (Ok done) answers is = absurd (cc)
  forbidden_after (Err Forbidden) answers is = answers
  forbidden_after (Err Memory) answers is = absurd (cc)
  forbidden_after (Err Spent) answers is = absurd answers

  pub memory_after : (r : Answer) → Answers step system r left old new → IsErrOf r Memory → (is_spent left ≡ true) × Whichever system (λ s. HasBegun (step s) old new)
  memory_after (Ok done) answers is = absurd (cc)
  memory_after (Err Forbidden) answers is = absurd (cc)
  memory_after (Err Memory) answers is = answers
  memory_after (Err Spent) answers is = absurd answers

  pub allowed_after : (r : Answer) → Answers step system r left old new → (s : SystemState) → Stands system s → step s ≡ None → IsErrOf r Forbidden
  allowed_after (Ok done) answers s stands none = absurd (let has = answers s stands in let clash : ◌≡◌ {A = Option AfterEvent} None (Some has.after) = sym none ∙ has.is in cc)
  allowed_after (Err Forbidden) answers s stands none = refl
  allowed_after (Err Memory) answers s stands none = absurd (let has = answers.1 s stands in let clash : ◌≡◌ {A = Option AfterEvent} None (Some has.after) = sym none ∙ has.is in cc)
  allowed_after (Err Spent) answers s stands none = absurd answers
