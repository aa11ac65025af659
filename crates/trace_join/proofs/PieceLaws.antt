-- The pieces of a cut trace, one by one.
use Rattle.std.specs.Prelude.{◌≡◌, ◌⊎◌, suc, ◌+◌, ◌≤◌, List, [], ◌∷◌, ◌++◌, drop, length, map, take, refl}
use Rattle.std.proofs.Common.{ap, ◌∙◌, arith}
use Rattle.std.proofs.lemmas.List.{length-append}
use Rattle.da_lang.specs.declared.event.Action.{Action}
use Rattle.da_lang.specs.declared.program.Program.{Program}
use Rattle.da_lang.specs.Steps.{Step, Stepped}
use Rattle.da_lang.specs.World.{World}
use Rattle.trace_join.specs.declared.piece.Piece.{Piece}
use Rattle.trace_join.specs.Cuts.{AsksInVain, Follows, IsCut, IsOver, Leads, Transition, goes, is_timeout, piece_of, stays}

take-append : {A : Type 0} (xs ys : List A) → take (length xs) (xs ++ ys) ≡ xs
take-append [] ys = refl
take-append (x ∷ xs) ys = ap (λ (l : List _). x ∷ l) (take-append xs ys)

drop-append : {A : Type 0} (xs ys : List A) → drop (length xs) (xs ++ ys) ≡ ys
drop-append [] ys = refl
drop-append (x ∷ xs) ys = drop-append xs ys

-- the first piece is the step that the trace asks for, and the others are those of what is left after it
pub record FirstPiece (program : Program) (w : World) (trace : List Action) (piece : Piece) (pieces : List Piece) : Type 0 where
  pub step : Step
  pub r : Stepped
  pub left : List Action
  pub follows : Follows program w trace step r left
  pub fits : piece.size ≤ length trace
  pub told : take piece.size trace ≡ r.actions
  pub rest : drop piece.size trace ≡ left
  pub times_out : piece.times_out ≡ is_timeout step
  pub others : IsCut program r.world left pieces

module _ (program : Program) where
  of_leads : (w w' : World) (trace trace' : List Action) (transitions : List Transition) (piece : Piece) (pieces : List Piece)
      → Leads program w trace transitions w' trace'
      → piece ∷ pieces ≡ map piece_of transitions → IsOver program w' trace' ⊎ AsksInVain program trace' → FirstPiece program w trace piece pieces
  of_leads w w' trace trace' transitions piece pieces (stays _ _) same ends = absurd
      (let sizes : suc (length pieces) ≡ 0 = ap length same in omega (arith, sizes))
  of_leads w w' trace trace' transitions piece pieces (goes _ _ _ left _ step r more follows leads) same ends =
      let first : piece ≡ piece_of (record { step = step; actions = r.actions }) = cc in
      let others : pieces ≡ map piece_of more = cc in
      let size : piece.size ≡ length r.actions = ap (λ (x : Piece). x.size) first in
      let whole : length trace ≡ length r.actions + length left = ap length follows.tells ∙ length-append r.actions left in
      record {
        step = step;
        r = r;
        left = left;
        follows = follows;
        fits = omega (arith, size, whole);
        told = ap (λ n. take n trace) size ∙ ap (take (length r.actions)) follows.tells ∙ take-append r.actions left;
        rest = ap (λ n. drop n trace) size ∙ ap (drop (length r.actions)) follows.tells ∙ drop-append r.actions left;
        times_out = ap (λ (x : Piece). x.times_out) first;
        others = record { transitions = more; last = w'; left = trace'; leads = leads; same = others; ends = ends };
      }

  pub first_piece : (w : World) (trace : List Action) (piece : Piece) (pieces : List Piece) → IsCut program w trace (piece ∷ pieces)
      → FirstPiece program w trace piece pieces
  first_piece w trace piece pieces cut = of_leads w cut.last trace cut.left cut.transitions piece pieces cut.leads cut.same cut.ends

  over_leads : (w w' : World) (trace trace' : List Action) (transitions : List Transition) → Leads program w trace transitions w' trace'
      → [] ≡ map piece_of transitions
      → IsOver program w' trace' ⊎ AsksInVain program trace' → IsOver program w trace ⊎ AsksInVain program trace
  over_leads w w' trace trace' transitions (stays _ _) same ends = ends
  over_leads w w' trace trace' transitions (goes _ _ _ left _ step r more follows leads) same ends = absurd
      (let sizes : 0 ≡ suc (length (map piece_of more)) = ap length same in omega (arith, sizes))

  -- after the last piece the process cannot go on
  pub no_piece : (w : World) (trace : List Action) → IsCut program w trace [] → IsOver program w trace ⊎ AsksInVain program trace
  no_piece w trace cut = over_leads w cut.last trace cut.left cut.transitions cut.leads cut.same cut.ends
