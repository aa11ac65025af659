-- Code that always comes to its next turn.
use Rattle.std.specs.Prelude.{◌≡◌, ℕ, ◌+◌, ◌-◌, ◌*◌, ◌<◌, ◌⊎◌, Bool, true, false, length, Option, Some, slice_get}
use Rattle.da_lang.specs.declared.code.Instr.{Instr}
use Rattle.da_lang.specs.declared.code.Instr.TheVariants as op
use Rattle.da_lang.specs.Runs.{max_turns}
use Rattle.da_machine.specs.declared.code.Code.{Code}

abbrev pub is_turn : Option Instr → Bool
is_turn (Some (op.Turn line)) = true
is_turn _ = false

-- a jump that stands at this place leads past it, or back to where a turn begins
abbrev pub LeadsOn : Code → ℕ → Instr → Type 0
LeadsOn code at (op.Jump to) = (at < to) ⊎ (is_turn (slice_get code.instrs to) ≡ true)
LeadsOn code at (op.JumpIf to) = at < to
LeadsOn code at (op.JumpUnless to) = at < to
LeadsOn code at (op.Next s done) = at < done
LeadsOn code at _ = Unit {0}

-- every jump of the code does
pub record IsForward (code : Code) : Type 0 where
  pub leads : (at : ℕ) (i : Instr) → slice_get code.instrs at ≡ Some i → LeadsOn code at i

-- how far it is at most from a place to the next turn
abbrev pub way : Code → ℕ → Bool → ℕ
way code at true = 0
way code at false = length code.instrs + 1 - at

-- the instructions that an event may still take: those of each turn that is left, and those before the next turn
abbrev pub instrs_left : Code → ℕ → ℕ → ℕ
instrs_left code turns at = (max_turns - turns) * (length code.instrs + 2) + way code at (is_turn (slice_get code.instrs at))
