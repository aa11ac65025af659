use Rattle.std.proofs.Common.{◌++◌, ◌∙◌, ap, append-nil, sym}
use Rattle.std.proofs.lemmas.Result.{on_ok_weaker}
use Rattle.std.specs.Prelude.{option_to_list}
use Rattle.run_page.proofs.remarks.add_number.Goals as goal

pub returns-in-Some : goal.returns-in-Some
returns-in-Some c = on_ok_weaker c.push.result (λ adds. adds ∙ ap (λ found. c.args.numbers.now ++ option_to_list found) c.in-Some.ensures) c.push.ensures.ok

pub returns-in-None : goal.returns-in-None
returns-in-None c = sym (append-nil c.args.numbers.now) ∙ ap (λ found. c.args.numbers.now ++ option_to_list found) c.in-None.ensures
