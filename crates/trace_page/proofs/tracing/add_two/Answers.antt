use Rattle.std.proofs.Common.{◌∷◌, ◌∙◌, [], ap}
use Rattle.std.proofs.lemmas.Result.{on_ok_weaker}
use Rattle.trace_page.specs.Layout.{with_numbers}
use Rattle.trace_page.proofs.tracing.add_two.Goals as goal

pub returns : goal.returns
returns c = on_ok_weaker c.add_one-2.result (λ adds. adds ∙ ap (λ keys. with_numbers keys (c.args.q ∷ [])) c.in_ok-add_one.ensures) c.add_one-2.ensures
