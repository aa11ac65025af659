use Rattle.std.proofs.Common.{sym, subst, arith}
use Rattle.std.proofs.lemmas.Result.{IfOk-weaker}
use Rattle.da_lang.specs.declared.ty.Ty.TheVariants as ty_of
use Rattle.da_infer.specs.Unknowns.{IsNumbered}
use Rattle.da_infer.proofs.UnknownTypes.{numbered_zero, numbered_set, numbered_part}
use Rattle.da_infer.proofs.unknowns.+number_type.Goals as goal

pub returns-then-number-eq0 : goal.returns-then-number-eq0
returns-then-number-eq0 t c = subst (λ n. IsNumbered n ty_of.Int) (sym c.if-number-eq0.true) numbered_zero

pub returns-then-number-half : goal.returns-then-number-half
returns-then-number-half t c = IfOk-weaker _ _ _ (λ ty is. numbered_set _ c.args.number _ ty c.in_ok-inner.ensures is (omega arith)) c.set_of.ensures

pub returns-else-number-half : goal.returns-else-number-half
returns-else-number-half t c = IfOk-weaker _ _ _ (λ ty is. numbered_part _ c.args.number _ ty c.in_ok-inner.ensures is (omega arith)) c.one_part.ensures
