use Rattle.std.proofs.Common.{◌≡◌, ◌∙◌, ap, ap₂, sym, append-nil, List, ◌++◌, Option, option_map, flat_map}
use Rattle.da_lang.specs.declared.query.Cond.{Cond}
use Rattle.da_lang.specs.declared.query.Operand.{Operand}
use Rattle.da_lang.specs.declared.query.Operand.TheVariants as od
use Rattle.da_lang.specs.declared.query.SignedOperand.{SignedOperand, out-SignedOperand}
use Rattle.type_demands.specs.Conds.{SideSym, cond_sym, demands_if, operand_asks, operand_sym, side_sym}
use Rattle.type_demands.specs.Demands.{at_line}
use Rattle.type_demands.specs.KnownView.{context_of}
use Rattle.type_demands.specs.Terms.{term_sym}
use Rattle.type_demands.proofs.CondForms.{operand-further}
use Rattle.type_demands.proofs.Listed.{chain_listed}
use Rattle.type_demands.proofs.QueriesAt.{operand-Term}
use Rattle.type_demands.proofs.conditions.+conditions.Goals as goal

pub demands_where-returns-in-None : goal.demands_where-returns-in-None
demands_where-returns-in-None t c =
    let cond = cond_sym (context_of c.args.known.now) in
    sym (append-nil c.args.demands.now) ∙ sym (ap (λ (o : Option Cond). c.args.demands.now ++ at_line c.args.known.now.line (demands_if (option_map cond o) c.args.row.now)) c.in-None.is)

pub operand_demands-returns-in_ok-scheme-in-Term : goal.operand_demands-returns-in_ok-scheme-in-Term
operand_demands-returns-in_ok-scheme-in-Term t c =
    let context = context_of c.args.known.now in
    let row = c.args.row.now in
    let is : operand_sym context c.args.operand.now row ≡ side_sym (term_sym context c.in-Term.term row) = ap (λ (x : Operand). operand_sym context x row) c.in-Term.is ∙ operand-Term context c.in-Term.term row in
    (c.in_ok-scheme-in-Term.ensures.0 ∙ sym (ap (λ (x : SideSym). x.itself.scheme) is), sym (ap (λ (x : SideSym). x.sum) is), c.in_ok-scheme-in-Term.ensures.1 ∙ sym (ap (λ (x : SideSym). c.args.demands.now ++ at_line c.args.known.now.line x.itself.demands) is))

pub operand_demands-returns-in_ok-further_demands-in-Chain : goal.operand_demands-returns-in_ok-further_demands-in-Chain
operand_demands-returns-in_ok-further_demands-in-Chain t c =
    let context = context_of c.args.known.now in
    let row = c.args.row.now in
    let first = c.get-in-Chain.result.now in
    let more = c.as_slice.result.now in
    chain_listed c.args.known.now.line c.args.demands.now c.operand_demands.new.demands c.operand_asked.new.demands c.further_demands.new.demands (operand_sym context first row) c.in_ok-side-in-Chain.side
    (flat_map (λ (y : SignedOperand). operand_asks (operand_sym context (out-SignedOperand y).operand row)) more) (operand_sym context c.args.operand.now row)
    (ap (λ (x : Operand). operand_sym context x row) (c.in-Chain.is ∙ ap₂ (λ (x : Operand) (xs : List SignedOperand). od.Chain x xs) (sym c.get-in-Chain.ensures) (sym c.as_slice.ensures)) ∙ operand-further context row first more)
    c.in_ok-side-in-Chain.ensures.0 c.in_ok-side-in-Chain.ensures.1 c.in_ok-side-in-Chain.ensures.2 c.in_ok-operand_asked-in-Chain.ensures c.in_ok-further_demands-in-Chain.ensures
