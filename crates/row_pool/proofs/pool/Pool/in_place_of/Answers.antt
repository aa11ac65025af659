use Rattle.std.specs.Prelude.{◌∷◌, []}
use Rattle.std.proofs.Common.{ℕ, sym, subst}
use Rattle.row_pool.specs.Pool.{Holds, Trades}
use Rattle.row_pool.proofs.ExchangeLaws.{for_another, given_stays, holds_more}
use Rattle.row_pool.proofs.pool.Pool.in_place_of.Goals as goal

pub give_back-requires : goal.give_back-requires
give_back-requires c =
    subst (λ (k : ℕ). Holds c.intern_value.new.self (k ∷ [])) (sym c.same-left.ensures) (holds_more _ _ (c.args.id.now ∷ []) (c.in_ok-joined.joined ∷ []) c.in_ok-joined.ensures.ok c.requires)

pub returns-clause-value : goal.returns-clause-value
returns-clause-value c =
    given_stays c.args.self.now c.intern_value.new.self c.give_back.new.self c.args.id.now c.in_ok-joined.joined _ c.requires c.in_ok-joined.ensures.ok c.in_ok-joined.ensures.value
    (subst (λ (k : ℕ). Trades c.intern_value.new.self (k ∷ []) c.give_back.new.self []) c.same-left.ensures c.give_back.ensures)

pub returns-clause-ok : goal.returns-clause-ok
returns-clause-ok c =
    for_another c.args.self.now c.intern_value.new.self c.give_back.new.self c.args.id.now c.in_ok-joined.joined c.in_ok-joined.ensures.ok
    (subst (λ (k : ℕ). Trades c.intern_value.new.self (k ∷ []) c.give_back.new.self []) c.same-left.ensures c.give_back.ensures)
