use Rattle.std.specs.Option.{option_copied}
use Rattle.std.proofs.Common.{ℕ, ◌≤◌, List, [], length, sym, ap, ◌∙◌, subst, arith}
use Rattle.row_pool.specs.Index.{or_none}
use Rattle.row_pool.proofs.index.is_last.Goals as goal

pub returns-in-Some : goal.returns-in-Some
returns-in-Some c = λ short. subst (λ (ks : List ℕ). length ks ≤ 1) (sym (ap or_none (sym c.get.ensures.value ∙ ap option_copied c.in-Some.is))) (c.is_short.ensures short)

pub returns-in-None : goal.returns-in-None
returns-in-None c = λ _.
    let few : length {A = ℕ} [] ≤ 1 = omega arith in
    subst (λ (ks : List ℕ). length ks ≤ 1) (sym (ap or_none (sym c.get.ensures.value ∙ ap option_copied c.in-None.is))) few
