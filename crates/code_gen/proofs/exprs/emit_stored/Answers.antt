use Rattle.std.proofs.Common.{ℕ, refl}
use Rattle.code_gen.proofs.ExprCode.{storing_goes_on}
use Rattle.code_gen.proofs.exprs.emit_stored.Goals as goal

pub stored-preserved : goal.stored-preserved
stored-preserved c = storing_goes_on ℕ (λ s. s) c.args.slots.now c.stored.left.now _ _ _ _ _ c.in-len1-up.len_at_least refl c.stored.invariant c.in_ok-put.ensures
