use Rattle.std.proofs.Common.{◌≡◌, ◌<◌, ℕ, Some, slice_get, drop, length}
use Rattle.type_choice.specs.Choice.{AreInside}
use Rattle.type_choice.specs.Roots.{root_of}
use Rattle.type_choice.proofs.forcing.is_apart.Given as goal

abbrev pub invariant-loop-number : goal.invariant-loop-number
invariant-loop-number l =
    ((i k : ℕ) → i < l.number-index → slice_get l.numbers i ≡ Some k → root_of l.forms k ≡ l.end → ⊥) × AreInside (length l.forms) (drop l.number-index l.numbers)
