use Rattle.std.proofs.Common.{◌∙◌, ap, get_or}
use Rattle.type_table.proofs.TableLaws.{read_at}
use Rattle.type_choice.proofs.ends.form_at.Goals as goal

pub returns : goal.returns
returns c = read_at c.args.forms.now c.args.number _ c.index-as_slice-number.result c.requires (c.index-as_slice-number.is ∙ ap (λ xs. get_or xs c.args.number c.index-as_slice-number.result) c.as_slice.ensures)
