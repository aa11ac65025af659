use Rattle.std.specs.Prelude.{◌≡◌, Bool, ◌&&◌, if◌then◌else◌, List, None, Option, option_map}
use Rattle.std.specs.List.{list_all}
use Rattle.std.proofs.Common.{◌∙◌, ap, sym}
use Rattle.da_lang.specs.declared.query.Operand.{Operand}
use Rattle.da_lang.specs.declared.query.SignedOperand.{SignedOperand, out-SignedOperand}
use Rattle.da_lang.specs.declared.ty.Ty.TheVariants as ty
use Rattle.da_lang.specs.QueryTypes.{Side, is_operand, operand_side, plain}
use Rattle.da_typing.specs.KnownView.{known_of}
use Rattle.da_typing.specs.SideView.{side_of}
use Rattle.da_typing.proofs.CondForms.{side-Chain}
use Rattle.da_typing.proofs.conditions.+conditions.Goals as goal

pub operand_side-returns-in_ok-holds-in-Chain : goal.operand_side-returns-in_ok-holds-in-Chain
operand_side-returns-in_ok-holds-in-Chain t c =
    let known = known_of c.args.known.now in
    let row = c.args.row.now in
    let first : option_map side_of c.in_ok-side-in-Chain.side ≡ operand_side known c.in-Chain.first row = c.in_ok-side-in-Chain.ensures ∙ ap (λ (x : Operand). operand_side known x row) c.get-in-Chain.ensures in
    let others : c.in_ok-holds-in-Chain.holds ≡ list_all (λ s. is_operand (operand_side known (out-SignedOperand s).operand row)) c.in-Chain.more = c.in_ok-holds-in-Chain.ensures ∙ ap (λ (more : List SignedOperand). list_all (λ s. is_operand (operand_side known (out-SignedOperand s).operand row)) more) c.as_slice.ensures in
    c.chain_side.ensures
    ∙ ap (λ (s : Option Side). if is_operand s && c.in_ok-holds-in-Chain.holds then plain ty.Int else None) first
    ∙ ap (λ (h : Bool). if is_operand (operand_side known c.in-Chain.first row) && h then plain ty.Int else None) others
    ∙ sym (ap (λ (x : Operand). operand_side known x row) c.in-Chain.is ∙ side-Chain known c.in-Chain.first c.in-Chain.more row)
