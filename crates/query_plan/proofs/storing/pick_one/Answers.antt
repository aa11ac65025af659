use Rattle.std.proofs.Common.{◌++◌, ◌∷◌, [], ◌∙◌, ap, append-nil, sym}
use Rattle.query_plan.specs.Storing.{number_in, picked}
use Rattle.query_plan.proofs.storing.pick_one.Goals as goal

pub returns-then-not-stays : goal.returns-then-not-stays
returns-then-not-stays c =
    sym (append-nil c.args.picks.now) ∙ ap (λ b. c.args.picks.now ++ picked (number_in c.args.numbers.now) (b ∷ []) (c.args.node.now ∷ [])) (sym c.if-not-stays.true)

pub returns : goal.returns
returns c =
    c.in_ok-push.ensures.ok ∙ ap (λ n. c.args.picks.now ++ n ∷ []) c.in_ok-copy.ensures
    ∙ ap (λ b. c.args.picks.now ++ picked (number_in c.args.numbers.now) (b ∷ []) (c.args.node.now ∷ [])) (sym c.if-not-stays.false)
