use Rattle.std.proofs.Common.{rules, subst, sym}
use Rattle.std.specs.List.{All}
use Rattle.da_values.specs.TokenFacts.{IsOnLine}
use Rattle.da_front.proofs.ProgramLemmas.{is_deep, is_syntax, is_written}
use Rattle.da_front.proofs.program.read_tree.Goals as goal

pub returns-in-Err-Syntax-clause-refused : goal.returns-in-Err-Syntax-clause-refused
returns-in-Err-Syntax-clause-refused c =
    is_syntax _ _ _ _ c.in_ok-tokens.ensures.text c.in_ok-tokens.ensures.size c.in_ok-tokens.ensures.ok c.in-Err-Syntax.ensures.only c.in-Err-Syntax.ensures.answer
    (c.in-Err-Syntax.ensures.line (subst (λ x. All (IsOnLine x) c.in_ok-tokens.tokens.list) (sym c.in_ok-tokens.ensures.text) c.in_ok-tokens.ensures.lines)) _ c.in-Err-Syntax.field-0-is

pub returns-clause-refused : goal.returns-clause-refused
returns-clause-refused c =
    is_deep _ _ _ _ c.in_ok-tokens.ensures.text c.in_ok-tokens.ensures.size c.in_ok-tokens.ensures.ok c.in-Err-Deep.ensures.only c.in-Err-Deep.ensures.answer
    (c.in-Err-Deep.ensures.line (subst (λ x. All (IsOnLine x) c.in_ok-tokens.tokens.list) (sym c.in_ok-tokens.ensures.text) c.in_ok-tokens.ensures.lines)) _ c.in-Err-Deep.field-0-is

pub returns-in-Ok-clause-written : goal.returns-in-Ok-clause-written
returns-in-Ok-clause-written c = is_written c.args.text.now c.in-Ok.tree (search rules)
