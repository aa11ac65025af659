-- Trace by trace is cut.
use Rattle.std.specs.Prelude.{◌≡◌, ◌⊎◌, ℕ, zero, suc, ◌+◌, ◌<◌, ◌≤◌, List, [], ◌∷◌, ◌++◌, length, Some, slice_get, refl}
use Rattle.std.proofs.Common.{sym, ap, ◌∙◌, subst, inl, inr, arith, rules}
use Rattle.std.proofs.lemmas.List.{length-append}
use Rattle.std.proofs.lemmas.Option.{none-some, same_Some}
use Rattle.da_lang.specs.declared.event.Action.{Action}
use Rattle.da_lang.specs.declared.program.Program.{Program}
use Rattle.da_lang.specs.World.{opening}
use Rattle.trace_join.specs.declared.piece.Piece.{Piece}
use Rattle.trace_join.specs.Blocks.{AllCut}
use Rattle.trace_join.specs.Cuts.{IsCut}

-- A MEMBER AT THE END OF A LIST

get_before : {A : Type 0} (xs ys : List A) (place : ℕ) (x : A) → slice_get xs place ≡ Some x → slice_get (xs ++ ys) place ≡ Some x
get_before [] ys place x is = absurd (none-some x is)
get_before (y ∷ xs) ys zero x is = is
get_before (y ∷ xs) ys (suc place) x is = get_before xs ys place x is

get_last : {A : Type 0} (xs : List A) (x : A) → slice_get (xs ++ x ∷ []) (length xs) ≡ Some x
get_last [] x = refl
get_last (y ∷ xs) x = get_last xs x

-- WHAT WAS CUT SO FAR

-- the first so many traces were cut
pub record CutsSoFar (program : Program) (traces : List (List Action)) (cuts : List (List Piece)) (count : ℕ) : Type 0 where
  pub each : length cuts ≡ count
  pub cut : (place : ℕ) (trace : List Action) → place < count → slice_get traces place ≡ Some trace
      → (pieces : List Piece) × (slice_get cuts place ≡ Some pieces) × IsCut program (opening program (suc place)) trace pieces

pub cuts_first : (program : Program) (traces : List (List Action)) (cuts : List (List Piece)) → cuts ≡ [] → CutsSoFar program traces cuts 0
cuts_first program traces cuts none = record { each = ap length none; cut = λ place trace below is. absurd (omega (arith, below)) }

module _ (program : Program) (traces : List (List Action)) (cuts : List (List Piece)) (count : ℕ) (so_far : CutsSoFar program traces cuts count) where
  pub cuts_on : (longer : List (List Piece)) (next me : ℕ) (trace : List Action) (pieces : List Piece)
      → next ≡ suc count → me ≡ suc count → longer ≡ cuts ++ pieces ∷ []
      → slice_get traces count ≡ Some trace → IsCut program (opening program me) trace pieces → CutsSoFar program traces longer next
  cuts_on longer next me trace pieces counted numbered added there is = record {
    each = (let whole : length longer ≡ length cuts + 1 = ap length added ∙ length-append cuts (pieces ∷ []) in omega (arith, whole, counted, so_far.each));
    cut = λ place found below at. by_place place found at (below_or_last place count (omega (arith, below, counted)));
  }
    where
      below_or_last : (place count : ℕ) → place < suc count → (place < count) ⊎ (place ≡ count)
      below_or_last place count below = search (rules, below)

      by_place : (place : ℕ) (found : List Action) → slice_get traces place ≡ Some found → (place < count) ⊎ (place ≡ count)
          → (ps : List Piece) × (slice_get longer place ≡ Some ps) × IsCut program (opening program (suc place)) found ps
      by_place place found at (inl below) =
          let (ps, here, cut) = so_far.cut place found below at in
          (ps, ap (λ (l : List (List Piece)). slice_get l place) added ∙ get_before cuts (pieces ∷ []) place ps here, cut)
      by_place place found at (inr last) = (
        pieces,
        ap (λ (l : List (List Piece)). slice_get l place) added ∙ ap (slice_get (cuts ++ pieces ∷ [])) (last ∙ sym so_far.each) ∙ get_last cuts pieces,
        subst (λ (n : ℕ). IsCut program (opening program n) found pieces) (numbered ∙ ap suc (sym last))
            (subst (λ (t : List Action). IsCut program (opening program me) t pieces)
            (same_Some trace found (sym there ∙ ap (slice_get traces) (sym last) ∙ at)) is),
      )

  -- all were
  pub cuts_all : length traces ≤ count → AllCut program traces cuts
  cuts_all all zero trace at = absurd (none-some trace at)
  cuts_all all (suc place) trace at = so_far.cut place trace (omega (arith, all, within traces place trace at)) at
    where
      within : (ts : List (List Action)) (place : ℕ) (t : List Action) → slice_get ts place ≡ Some t → place < length ts
      within [] place t is = absurd (none-some t is)
      within (x ∷ ts) zero t is = omega arith
      within (x ∷ ts) (suc place) t is = let rest : place < length ts = within ts place t is in omega (arith, rest)
