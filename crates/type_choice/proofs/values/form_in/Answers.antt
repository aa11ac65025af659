use Rattle.type_table.proofs.TableLaws.{read_at}
use Rattle.type_choice.proofs.values.form_in.Goals as goal

pub returns : goal.returns
returns c = read_at c.args.forms.now c.args.number _ c.index-forms-number.result c.requires c.index-forms-number.is
