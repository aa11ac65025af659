use Rattle.std.proofs.Common.{◌++◌, ◌∷◌, [], ap, sym, ◌∙◌, append_assoc, get_or, take, zip, arith, ℕ}
use Rattle.type_table.proofs.SolveLaws.{zip_more}
use Rattle.type_table.proofs.join.push_pairs.Goals as goal

pub loop-i-preserved : goal.loop-i-preserved
loop-i-preserved c =
    let first = c.args.first.now in
    let second = c.args.second.now in
    let i = c.loop-i.i in
    let pair : ℕ × ℕ = (get_or first i 0, get_or second i 0) in
    c.in_ok-push.ensures.ok ∙ ap (λ z. z ++ pair ∷ []) c.loop-i.invariant ∙ append_assoc c.args.todo.now (zip (take i first) (take i second)) (pair ∷ [])
    ∙ ap (λ z. c.args.todo.now ++ z) (sym (zip_more first second i c.loop-i-test.true (omega (arith, c.loop-i-test.true, c.requires))))
