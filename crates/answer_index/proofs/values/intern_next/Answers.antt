use Rattle.std.proofs.Common.{[], ◌∷◌, ap}
use Rattle.answer_index.proofs.RowLaws.{gives_back}
use Rattle.answer_index.proofs.values.intern_next.Goals as goal

pub returns-in-Err-clause-err : goal.returns-in-Err-clause-err
returns-in-Err-clause-err c = gives_back _ _ _ _ _ _ c.in_ok-id.ensures.ok (ap (λ k. k ∷ []) c.in-Err.ensures.back) c.give_back.ensures
