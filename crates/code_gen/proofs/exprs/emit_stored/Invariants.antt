use Rattle.std.proofs.Common.{ℕ, length}
use Rattle.code_gen.proofs.ExprCode.{Storing}
use Rattle.code_gen.proofs.exprs.emit_stored.Given as goal

abbrev pub invariant-stored : goal.invariant-stored
invariant-stored l = Storing ℕ (λ s. s) l.slots l.left l.initial.code l.code

abbrev pub decreases-stored : goal.decreases-stored
decreases-stored l = length l.left
