-- Slots whose types are found by what stands for them, of any kind.
use Rattle.std.specs.Prelude.{◌≡◌, ℕ, zero, suc, List, [], ◌∷◌, map, Option, Some, None, slice_set}
use Rattle.da_lang.specs.declared.query.Query.{Query}
use Rattle.da_lang.specs.declared.tree.MessageDecl.{MessageDecl}
use Rattle.da_lang.specs.declared.ty.Ty.{Ty}
use Rattle.da_lang.specs.QueryTypes.{given}
use Rattle.da_lang.specs.Typing.{Slots, with_type}
use Rattle.da_lang.specs.World.{at_number}
use Rattle.untyped_laws.specs.Beside.{Beside}
use Rattle.untyped_laws.specs.Flow.{Step, step_binds, run_step, lacking}

-- the type of each of these slots in a row, where the row is there and goes so far
abbrev pub types_in : List ℕ → Option (List Ty) → List (Option Ty)
types_in [] row = []
types_in (b ∷ bs) None = None ∷ types_in bs None
types_in (b ∷ bs) (Some []) = None ∷ types_in bs (Some [])
types_in (b ∷ bs) (Some (ty ∷ types)) = Some ty ∷ types_in bs (Some types)

-- the types that are found by what stands for slots, which may be none
module _ (S : Type 0) (found : S → Option Ty) where
  abbrev pub mark_type : Option S → Option Ty
  mark_type None = None
  mark_type (Some x) = found x

  -- each slot has the type of what stands for it, and none where nothing does
  abbrev pub Follows : Slots → List (Option S) → Type 0
  Follows slots marks = Beside (λ ty mark. ty ≡ mark_type mark) slots marks

  abbrev pub type_of : List (Option S) → ℕ → Option Ty
  type_of marks slot = given (at_number marks slot) mark_type

  -- the same, where nothing stands yet for these slots alone, from this number on
  pub record Awaits (first : ℕ) (slots : Slots) (marks : List (Option S)) (later : List ℕ) : Type 0 where
    pub follows : Follows slots marks
    pub lacks : lacking first marks ≡ later

  -- something stands for a slot from now on
  abbrev pub with_mark : ℕ → S → List (Option S) → List (Option S)
  with_mark zero x marks = marks
  with_mark (suc place) x marks = slice_set marks place (Some x)

  abbrev pub with_marks : List (ℕ × S) → List (Option S) → List (Option S)
  with_marks [] marks = marks
  with_marks (p ∷ ps) marks = with_marks ps (with_mark p.0 p.1 marks)

  -- the slots take the types of these, one after the other
  abbrev pub with_found : List (ℕ × S) → Slots → Slots
  with_found [] slots = slots
  with_found (p ∷ ps) slots = with_found ps (with_type p.0 (found p.1) slots)

  -- what stands for the slots of a step, by what stands for the slots so far, and after all steps
  module _ (marking : Step → List (Option S) → List (ℕ × S)) where
    abbrev pub marked : List Step → List (Option S) → List (Option S)
    marked [] marks = marks
    marked (step ∷ steps) marks = marked steps (with_marks (marking step marks) marks)

    -- it stands for the slots that the step binds, and has the types that these take
    pub record Marks (messages : List MessageDecl) (queries : List Query) : Type 0 where
      pub binds : (step : Step) (marks : List (Option S)) → map (λ p. p.0) (marking step marks) ≡ step_binds step
      pub types : (step : Step) (slots : Slots) (marks : List (Option S)) → Follows slots marks → run_step messages queries step slots ≡ with_found (marking step marks) slots
