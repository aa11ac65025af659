use Rattle.std.proofs.Common.{◌∙◌, ap}
use Rattle.da_scope.specs.LabelsView.{number_among}
use Rattle.da_scope.specs.NamesView.{texts}
use Rattle.da_scope.proofs.LabelsAt.{class-names}
use Rattle.da_scope.proofs.labels.numbers_of.Goals as goal

pub returns : goal.returns
returns c = λ q. c.in_ok-numbers.ensures q ∙ ap (λ ns. number_among ns q) (ap texts c.as_slice.ensures ∙ c.in_ok-names.ensures ∙ class-names c.args.class.now)
