use Rattle.std.proofs.Common.{◌≡◌, ◌∙◌, SFits, ap, rules, sym, of_z, to_z}
use Rattle.std.proofs.lemmas.Int.{to_z-of_z}
use Rattle.std.specs.Int.{w128}
use Rattle.std.specs.List.{list_all}
use Rattle.da_values.specs.declared.val.Val.TheVariants as val
use Rattle.da_values.specs.Views.{int_of}
use Rattle.da_lang.specs.declared.query.Operand.{Operand}
use Rattle.da_lang.specs.declared.query.Cond.TheViews.{the_lemmas}
use Rattle.da_lang.specs.Queries.{operand_value}
use Rattle.row_terms.specs.Locals.{data_of}
use Rattle.query_plan.specs.PlainNodes.{is_plain_operand, is_plain_part}
use Rattle.row_terms.proofs.PlainForms.{chain_value, first_plain, more_plain, part_plain, sum_on}
use Rattle.row_terms.proofs.conditions.+operands.Goals as goal

pub operand_value-operand_value-requires : goal.operand_value-operand_value-requires
operand_value-operand_value-requires t c =
    (search (rules, the_lemmas), ap is_plain_operand c.get.ensures ∙ first_plain c.in-Chain.first c.in-Chain.more (sym (ap is_plain_operand c.in-Chain.is) ∙ c.requires))

pub operand_value-sum_with-requires : goal.operand_value-sum_with-requires
operand_value-sum_with-requires t c =
    (search (rules, the_lemmas), ap (list_all is_plain_part) c.as_slice.ensures ∙ more_plain c.in-Chain.first c.in-Chain.more (sym (ap is_plain_operand c.in-Chain.is) ∙ c.requires))

pub operand_value-returns-in_ok-sum-in-Chain : goal.operand_value-returns-in_ok-sum-in-Chain
operand_value-returns-in_ok-sum-in-Chain t c =
    let d = data_of c.args.locals.now in
    let row = c.args.row.now in
    let fits : SFits w128 c.in_ok-sum-in-Chain.sum = search rules in
    let number : to_z w128 (of_z w128 c.int_of.result) ≡ int_of (operand_value d c.in-Chain.first row) =
    to_z-of_z w128 c.int_of.result (record { sfits = c.int_of.type_inv }) ∙ c.int_of.ensures ∙ ap int_of c.in_ok-first-in-Chain.ensures ∙ ap (λ (x : Operand). int_of (operand_value d x row)) c.get.ensures in
    ap val.Int (to_z-of_z w128 c.in_ok-sum-in-Chain.sum fits)
    ∙ chain_value d row c.args.operand.now c.in-Chain.first c.in-Chain.more c.as_slice.result.now _ c.in_ok-sum-in-Chain.sum c.in-Chain.is c.as_slice.ensures number c.in_ok-sum-in-Chain.ensures

pub sum_with-operand_value-requires : goal.sum_with-operand_value-requires
sum_with-operand_value-requires t c =
    (search (rules, the_lemmas), ap is_plain_operand c.get.ensures ∙ part_plain c.args.more.now c.loop-signed.signed-index c.signed-item.result c.requires c.loop-signed-test.true c.signed-item.is)

pub sum_with-loop-signed-preserved : goal.sum_with-loop-signed-preserved
sum_with-loop-signed-preserved t c =
    let d = data_of c.args.locals.now in
    let row = c.args.row.now in
    let fits : SFits w128 c.in_ok-sum.sum = search rules in
    let number : to_z w128 (of_z w128 c.int_of.result) ≡ int_of (operand_value d c.signed-item.result.operand row) =
    to_z-of_z w128 c.int_of.result (record { sfits = c.int_of.type_inv }) ∙ c.int_of.ensures ∙ ap int_of c.in_ok-v.ensures ∙ ap (λ (x : Operand). int_of (operand_value d x row)) c.get.ensures in
    sum_on d row c.args.more.now c.loop-signed.signed-index c.signed-item.result _ _ _ _ c.loop-signed-test.true c.signed-item.is number (to_z-of_z w128 c.in_ok-sum.sum fits ∙ c.in_ok-sum.ensures) c.loop-signed.invariant
