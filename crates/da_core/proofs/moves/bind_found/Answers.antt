use Rattle.std.proofs.Common.{sym, subst, ◌∙◌}
use Rattle.std.specs.Option.{option_copied}
use Rattle.std.proofs.lemmas.Result.{on_ok_weaker}
use Rattle.da_core.specs.Begins.{bound_by}
use Rattle.da_core.specs.Known.{Each, Knows}
use Rattle.da_core.proofs.Binding.{found_bound, none_bound}
use Rattle.da_core.proofs.moves.bind_found.Goals as goal

pub returns-in-Some-least-clause-bound : goal.returns-in-Some-least-clause-bound
returns-in-Some-least-clause-bound c =
    on_ok_weaker c.bind.result (λ becomes.
    subst (λ x. Each c.args.known.now (λ p class d. Knows c.bind.new.known p class (bound_by class (option_copied x) d))) (sym c.in-Some.is)
    (found_bound c.args.known.now c.bind.new.known c.in-Some.alternative.now c.in-Some-found.q c.in-Some-least.row c.as_slice.result.now c.in-Some-found.is c.as_slice.ensures
    (λ p class d knows. sym c.in-Some-least.is ∙ c.in_ok-least.ensures p class d knows) becomes)) c.bind.ensures.bound

pub returns-in-None-clause-bound : goal.returns-in-None-clause-bound
returns-in-None-clause-bound c =
    subst (λ x. Each c.args.known.now (λ p class d. Knows c.args.known.now p class (bound_by class (option_copied x) d))) (sym c.in-Some.is)
    (none_bound c.args.known.now c.in-Some.alternative.now c.in-Some-found.q c.in-Some-found.is (λ p class d knows. sym c.in-None.is ∙ c.in_ok-least.ensures p class d knows))
