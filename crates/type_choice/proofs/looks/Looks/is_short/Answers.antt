use Rattle.std.proofs.Common.{◌∙◌, ap}
use Rattle.type_table.specs.Values.{types_of}
use Rattle.type_choice.specs.Looks.{number_at}
use Rattle.type_choice.proofs.CountLaws.{short_is, read_number}
use Rattle.type_choice.proofs.looks.Looks.is_short.Goals as goal

pub returns : goal.returns
returns c = λ forms looks inside. short_is c.number_at.result (types_of forms c.args.number) (c.number_at.ensures ∙ ap (λ z. number_at z c.args.number) c.as_slice.ensures ∙ read_number _ c.args.number _ (looks.of_tokens c.args.number inside))
