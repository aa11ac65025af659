use Rattle.std.proofs.lemmas.Result.{on_ok_weaker}
use Rattle.da_scope.specs.LabelsView.{number_in}
use Rattle.da_scope.proofs.LabelLaws.{number_kept, number_set}
use Rattle.da_scope.proofs.labels.put_number.Goals as goal

pub returns-in-Some : goal.returns-in-Some
returns-in-Some c = λ q. number_kept c.args.name.now q (number_in c.args.numbers.now) c.args.number _ c.number_at.result c.number_at.ensures c.in-Some.is

pub returns-in-None : goal.returns-in-None
returns-in-None c =
    on_ok_weaker c.set_number.result (λ set q. number_set c.args.name.now q (number_in c.args.numbers.now) c.args.number c.number_at.result _ c.number_at.ensures c.in-None.is (set q)) c.set_number.ensures
