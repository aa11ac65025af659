use Rattle.std.proofs.Common.{◌∙◌, ap, rules, sym}
use Rattle.std.specs.List.{list_all}
use Rattle.std.proofs.lemmas.Result.{on_ok_weaker}
use Rattle.da_lang.specs.declared.query.Cond.TheViews.{the_lemmas}
use Rattle.query_plan.specs.PlainNodes.{is_plain_operand, is_plain_part}
use Rattle.row_terms.proofs.PlainForms.{first_plain, more_plain}
use Rattle.delta_rules.proofs.UseLaws.{chain_adds}
use Rattle.delta_rules.proofs.uses.+operands.Goals as goal

pub note_operand-note_operand-requires : goal.note_operand-note_operand-requires
note_operand-note_operand-requires t c =
    (search (rules, the_lemmas), ap is_plain_operand c.get.ensures ∙ first_plain c.in-Chain.first c.in-Chain.more (sym (ap is_plain_operand c.in-Chain.is) ∙ c.requires))

pub note_operand-note_more-requires : goal.note_operand-note_more-requires
note_operand-note_more-requires t c =
    (search (rules, the_lemmas), ap (list_all is_plain_part) c.as_slice.ensures ∙ more_plain c.in-Chain.first c.in-Chain.more (sym (ap is_plain_operand c.in-Chain.is) ∙ c.requires))

pub note_operand-returns-in_ok-note_operand-in-Chain : goal.note_operand-returns-in_ok-note_operand-in-Chain
note_operand-returns-in_ok-note_operand-in-Chain t c =
    on_ok_weaker c.note_more.result
    (chain_adds c.args.operand.now c.in-Chain.first c.get.result.now c.in-Chain.more c.as_slice.result.now _ _ _ c.in-Chain.is c.get.ensures c.as_slice.ensures c.in_ok-note_operand-in-Chain.ensures)
    c.note_more.ensures
