-- A trace fixes the steps of its process, and transitions along a trace go on step by step.
use Rattle.std.specs.Prelude.{◌≡◌, ◌⊎◌, List, [], ◌∷◌, ◌++◌, Some, refl}
use Rattle.std.proofs.Common.{◌∙◌, ap, sym, subst, inl, inr, append_assoc}
use Rattle.std.proofs.lemmas.List.{append_cancel_left}
use Rattle.da_lang.specs.declared.event.Action.{Action}
use Rattle.da_lang.specs.declared.program.Program.{Program}
use Rattle.da_lang.specs.Steps.{Step, Stepped, proc_step}
use Rattle.da_lang.specs.World.{World}
use Rattle.trace_join.specs.Cuts.{Follows, Leads, Transition, goes, stays}

pub record SameStep (step step' : Step) (r r' : Stepped) (left left' : List Action) : Type 0 where
  pub steps : step ≡ step'
  pub results : r ≡ r'
  pub lefts : left ≡ left'

pub follows_alike : {program : Program} {w : World} {trace : List Action} {step step' : Step} {r r' : Stepped} {left left' : List Action}
    → Follows program w trace step r left → Follows program w trace step' r' left' → SameStep step step' r r' left left'
follows_alike {program} {w} {trace} {step} {step'} {r} {r'} {left} {left'} one other =
    let steps : step ≡ step' = (let same : Some step ≡ Some step' = sym one.asks ∙ other.asks in cc) in
    let results : r ≡ r' = (let same : Some r ≡ Some r' = sym one.makes ∙ ap (proc_step program w) steps ∙ other.makes in cc) in
    record {
      steps = steps;
      results = results;
      lefts = append_cancel_left r'.actions left left' (ap (λ (x : Stepped). x.actions ++ left) (sym results) ∙ sym one.tells ∙ other.tells);
    }

-- transitions from where this step can be made are none, or begin with it
abbrev pub BeginsWithStep : Program → World → List Action → List Transition → World → List Action → Step → Stepped → List Action → Type 0
BeginsWithStep program w trace transitions w' trace' step r left =
    ((transitions ≡ []) × (w ≡ w') × (trace ≡ trace'))
    ⊎ ((others : List Transition) × (transitions ≡ record { step = step; actions = r.actions } ∷ others) × Leads program r.world left others w' trace')

pub first_transition : {program : Program} {w : World} {trace : List Action} {transitions : List Transition} {w' : World}
    {trace' : List Action} {step : Step} {r : Stepped} {left : List Action}
    → Leads program w trace transitions w' trace' → Follows program w trace step r left → BeginsWithStep program w trace transitions w' trace' step r left
first_transition (stays w trace) follows = inl (refl, refl, refl)
first_transition {program} {step = step} {r = r} {left = left} (goes w w' trace left2 trace' step2 r2 others follows2 leads) follows =
    let same : SameStep step2 step r2 r left2 left = follows_alike follows2 follows in
    inr (
      others,
      ap (λ (s : Step). record { step = s; actions = r2.actions } ∷ others) same.steps
          ∙ ap (λ (x : Stepped). record { step = step; actions = x.actions } ∷ others) same.results,
      subst (λ (l : List Action). Leads program r.world l others w' trace') same.lefts
          (subst (λ (x : Stepped). Leads program x.world left2 others w' trace') same.results leads),
    )

-- one transition more at the end
pub leads_on : {program : Program} {w w' : World} {trace trace' left : List Action} {transitions : List Transition} {step : Step} {r : Stepped}
    → Leads program w trace transitions w' trace' → Follows program w' trace' step r left
    → Leads program w trace (transitions ++ record { step = step; actions = r.actions } ∷ []) r.world left
leads_on {left = left} {step = step} {r = r} (stays w trace) follows = goes w r.world trace left left step r [] follows (stays r.world left)
leads_on (goes w w' trace left2 trace' step2 r2 others follows2 leads) follows = goes w _ trace left2 _ step2 r2 _ follows2 (leads_on leads follows)

-- what is left of a trace stands at its end
pub leads_within : {program : Program} {w w' : World} {trace trace' : List Action} {transitions : List Transition}
    → Leads program w trace transitions w' trace' → (front : List Action) × (trace ≡ front ++ trace')
leads_within (stays w trace) = ([], refl)
leads_within (goes w w' trace left trace' step r others follows leads) =
    let (front, is) = leads_within leads in
    (r.actions ++ front, follows.tells ∙ ap (λ (l : List Action). r.actions ++ l) is ∙ sym (append_assoc r.actions front trace'))
