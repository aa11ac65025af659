-- A trace is cut step by step.
use Rattle.std.specs.Prelude.{◌≡◌, List, [], ◌∷◌, ◌++◌, map, refl}
use Rattle.std.proofs.Common.{sym, ap, ◌∙◌, subst}
use Rattle.da_lang.specs.declared.event.Action.{Action}
use Rattle.da_lang.specs.declared.program.Program.{Program}
use Rattle.da_lang.specs.Steps.{Step, Stepped}
use Rattle.da_lang.specs.World.{World}
use Rattle.da_core.specs.declared.process.Core.{Core}
use Rattle.da_core.specs.StandsFor.{StandsFor, Whichever, program_of}
use Rattle.trace_join.specs.declared.piece.Piece.{Piece}
use Rattle.trace_join.specs.Cuts.{Follows, IsCut, Leads, Transition, goes, piece_of, stays}
use Rattle.trace_join.specs.Cutting.{GoesOn, Stops}

-- one more transition after the others
leads_then : {program : Program} {w w' : World} {trace left rest : List Action} {transitions : List Transition} {step : Step} {r : Stepped}
    → Leads program w trace transitions w' left → Follows program w' left step r rest
    → Leads program w trace (transitions ++ record { step = step; actions = r.actions } ∷ []) r.world rest
leads_then (stays w trace) follows = goes _ _ _ _ _ _ _ [] follows (stays _ _)
leads_then (goes w w' trace left trace' step r transitions first leads) follows =
    goes _ _ _ _ _ _ _ _ first (leads_then leads follows)

map_then : (transitions : List Transition) (t : Transition) → map piece_of (transitions ++ t ∷ []) ≡ map piece_of transitions ++ piece_of t ∷ []
map_then [] t = refl
map_then (x ∷ transitions) t = ap (λ (l : List Piece). piece_of x ∷ l) (map_then transitions t)

-- so far a trace was cut into these pieces, this is left of it, and the process in code stands after them
pub record CutSoFar (program : Program) (start : World) (trace : List Action) (pieces : List Piece) (left : List Action) (core : Core) : Type 0 where
  pub same : program_of core ≡ program
  pub transitions : List Transition
  pub world : World
  pub leads : Leads program start trace transitions world left
  pub are : pieces ≡ map piece_of transitions
  pub stands : StandsFor core world

pub cut_first : (program : Program) (start : World) (trace : List Action) (pieces : List Piece) (core : Core)
    → program_of core ≡ program → StandsFor core start → pieces ≡ []
    → CutSoFar program start trace pieces trace core
cut_first program start trace pieces core same stands none =
    record { same = same; transitions = []; world = start; leads = stays start trace; are = none; stands = stands }

module _ (program : Program) (start : World) (trace : List Action) (pieces : List Piece) (left : List Action) (core : Core)
    (so_far : CutSoFar program start trace pieces left core) where
  pub cut_on : (longer : List Piece) (rest : List Action) (piece : Piece) (new : Core)
      → longer ≡ pieces ++ piece ∷ [] → program_of new ≡ program_of core
      → Whichever core (λ w. GoesOn (program_of core) w left rest (StandsFor new) piece) → CutSoFar program start trace longer rest new
  cut_on longer rest piece new added same on = record {
    same = same ∙ so_far.same;
    transitions = so_far.transitions ++ next ∷ [];
    world = step.after.world;
    leads = leads_then so_far.leads (subst (λ (p : Program). Follows p so_far.world left step.step step.after rest) so_far.same step.follows);
    are =
        added ∙ ap (λ (p : Piece). pieces ++ p ∷ []) step.is
        ∙ ap (λ (l : List Piece). l ++ piece_of next ∷ []) so_far.are ∙ sym (map_then so_far.transitions next);
    stands = step.now_stands;
  }
    where
      step : GoesOn (program_of core) so_far.world left rest (StandsFor new) piece
      step = on so_far.world so_far.stands

      next : Transition
      next = record { step = step.step; actions = step.after.actions }

  pub cut_ends : Whichever core (λ w. Stops (program_of core) w left) → IsCut program start trace pieces
  cut_ends stops = record {
    transitions = so_far.transitions;
    last = so_far.world;
    left = left;
    leads = so_far.leads;
    same = so_far.are;
    ends = subst (λ (p : Program). Stops p so_far.world left) so_far.same (stops so_far.world so_far.stands);
  }
