-- Trace by trace it is found what is got more than once.
use Rattle.std.specs.Prelude.{◌≡◌, ◌⊎◌, ℕ, zero, suc, ◌+◌, ◌<◌, ◌≤◌, Bool, List, [], ◌∷◌, ◌++◌, length, Some, slice_get, refl}
use Rattle.std.proofs.Common.{sym, ap, ◌∙◌, subst, inl, inr, arith}
use Rattle.std.proofs.lemmas.Bool.{cases_eq}
use Rattle.std.proofs.lemmas.List.{length-append}
use Rattle.std.proofs.lemmas.Option.{slice_get_within}
use Rattle.da_lang.specs.declared.event.Action.{Action}
use Rattle.trace_join.specs.Repeats.{TellRepeats}
use Rattle.trace_join.specs.Searching.{AllRepeats}
use Rattle.trace_join.proofs.ListEnds.{one_there}
use Rattle.trace_join.proofs.Sublists.{none_there, numbered_longer}

get_last : {A : Type 0} (xs : List A) (x : A) → slice_get (xs ++ x ∷ []) (length xs) ≡ Some x
get_last [] x = refl
get_last (y ∷ xs) x = get_last xs x

-- of the first so many traces it was found
pub record RepeatsSoFar (traces : List (List Action)) (all : List (List Bool)) (count : ℕ) : Type 0 where
  pub each : length all ≡ count
  pub tell : (k : ℕ) (trace : List Action) → k < count → slice_get traces k ≡ Some trace → (of : List Bool) × (slice_get all k ≡ Some of) × TellRepeats trace of

pub repeats_first : (traces : List (List Action)) (all : List (List Bool)) → all ≡ [] → RepeatsSoFar traces all 0
repeats_first traces all none = record { each = ap length none; tell = λ k trace below at. absurd (omega (arith, below)) }

module _ (traces : List (List Action)) (all : List (List Bool)) (count : ℕ) (so_far : RepeatsSoFar traces all count) where
  pub repeats_on : (all' : List (List Bool)) (next : ℕ) (trace : List Action) (of : List Bool) → next ≡ count + 1 → all' ≡ all ++ of ∷ []
      → slice_get traces count ≡ Some trace
      → TellRepeats trace of → RepeatsSoFar traces all' next
  repeats_on all' next trace of is added at tell = record {
    each = (let whole : length all' ≡ length all + 1 = ap length added ∙ length-append all (of ∷ []) in omega (arith, whole, is, so_far.each));
    tell = λ k found below there. by_place k found below there (cases_eq k count);
  }
    where
      by_place : (k : ℕ) (found : List Action) → k < next → slice_get traces k ≡ Some found → (k ≡ count) ⊎ (k ≡ count → ⊥)
          → (o : List Bool) × (slice_get all' k ≡ Some o) × TellRepeats found o
      by_place k found below there (inl last) = (
        of,
        ap (λ (l : List (List Bool)). slice_get l k) added ∙ ap (slice_get (all ++ of ∷ [])) (last ∙ sym so_far.each) ∙ get_last all of,
        subst (λ (t : List Action). TellRepeats t of) (one_there traces (suc count) trace found at (ap (slice_get traces) (sym last) ∙ there)) tell,
      )
      by_place k found below there (inr other) =
          let (o, here, tells) = so_far.tell k found (omega (arith, below, is, other)) there in
          (o, ap (λ (l : List (List Bool)). slice_get l k) added ∙ numbered_longer all (suc k) o (of ∷ []) here, tells)

  pub repeats_all : length traces ≤ count → AllRepeats traces all
  repeats_all past zero trace at = none_there at
  repeats_all past (suc k) trace at = so_far.tell k trace (let inside : k < length traces = slice_get_within traces k trace at in omega
      (arith, inside, past)) at

-- where nothing is known nothing is told
pub tells_nothing : (trace : List Action) (repeats : List Bool) → repeats ≡ [] → TellRepeats trace repeats
tells_nothing [] repeats none = tt
tells_nothing (a ∷ behind) repeats none = (
  λ b there. none_there (ap (λ (l : List Bool). slice_get l (length behind)) (sym none)
      ∙ there),
  tells_nothing behind repeats none,
)
