use Rattle.std.proofs.Common.{subst, sym}
use Rattle.std.specs.List.{All}
use Rattle.da_values.specs.TokenFacts.{IsOnLine}
use Rattle.da_commands.proofs.InferLemmas.{has_loose, is_loose_deep, is_loose_syntax}
use Rattle.da_commands.proofs.inferring.read_loose.Goals as goal

pub returns-in-Ok-clause-ok : goal.returns-in-Ok-clause-ok
returns-in-Ok-clause-ok c = has_loose _ _ _ _ c.in_ok-tokens.ensures.size c.in_ok-tokens.ensures.text c.in_ok-tokens.ensures.ok c.in-Ok.ensures.spelled

pub returns-in-Err-Syntax-clause-refused : goal.returns-in-Err-Syntax-clause-refused
returns-in-Err-Syntax-clause-refused c =
    is_loose_syntax _ _ _ _ c.in_ok-tokens.ensures.text c.in_ok-tokens.ensures.size c.in_ok-tokens.ensures.ok c.in-Err-Syntax.ensures.only c.in-Err-Syntax.ensures.first
    (c.in-Err-Syntax.ensures.line (subst (λ x. All (IsOnLine x) c.in_ok-tokens.tokens.list) (sym c.in_ok-tokens.ensures.text) c.in_ok-tokens.ensures.lines)) _ c.in-Err-Syntax.field-0-is

pub returns-clause-refused : goal.returns-clause-refused
returns-clause-refused c =
    is_loose_deep _ _ _ _ c.in_ok-tokens.ensures.text c.in_ok-tokens.ensures.size c.in_ok-tokens.ensures.ok c.in-Err-Deep.ensures.only c.in-Err-Deep.ensures.first
    (c.in-Err-Deep.ensures.line (subst (λ x. All (IsOnLine x) c.in_ok-tokens.tokens.list) (sym c.in_ok-tokens.ensures.text) c.in_ok-tokens.ensures.lines)) _ c.in-Err-Deep.field-0-is
