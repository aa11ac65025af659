-- The processes that are blocked, by what is left of their traces.
use Rattle.std.specs.Prelude.{◌≡◌, ℕ, ◌+◌, ◌-◌, ◌≤◌, nat_lt, if◌then◌else◌, List, [], ◌∷◌, length, Some}
use Rattle.da_lang.specs.declared.event.Action.{Action}
use Rattle.da_lang.specs.declared.program.Program.{Program}
use Rattle.da_lang.specs.World.{at_number, opening}
use Rattle.trace_join.specs.declared.piece.Piece.{Piece}
use Rattle.trace_join.specs.Cuts.{IsCut}

-- each trace is cut
abbrev pub AllCut : Program → List (List Action) → List (List Piece) → Type 0
AllCut program traces cuts = (p : ℕ) (trace : List Action) → at_number traces p ≡ Some trace
    → (pieces : List Piece) × (at_number cuts p ≡ Some pieces) × IsCut program (opening program p) trace pieces

-- of processes that are numbered from p on, those of whose trace something is left, each with the first line of it
abbrev pub blocks_left : ℕ → (traces lefts : List (List Action)) → List (ℕ × ℕ)
blocks_left p (trace ∷ traces) (left ∷ lefts) =
    if nat_lt 0 (length left) then (p, length trace - length left + 1) ∷ blocks_left (p + 1) traces lefts else blocks_left (p + 1) traces lefts
blocks_left p _ _ = []

-- the block of process p, where something is left
abbrev pub block_of : (p all rest : ℕ) → List (ℕ × ℕ)
block_of p all rest = if nat_lt 0 rest then (p, all - rest + 1) ∷ [] else []

-- no more is left of a trace than there is
abbrev pub NoLonger : (traces lefts : List (List Action)) → Type 0
NoLonger (trace ∷ traces) (left ∷ lefts) = (length left ≤ length trace) × NoLonger traces lefts
NoLonger _ _ = Unit {0}
