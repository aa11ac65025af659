use Rattle.std.specs.List.{list_any}
use Rattle.std.proofs.Common.{sym}
use Rattle.std.proofs.lemmas.Result.{on_ok_weaker}
use Rattle.da_lang.specs.Naming.{names}
use Rattle.delta_rules.proofs.NamingAt.{term_parts}
use Rattle.delta_rules.proofs.UseLaws.{adds_as}
use Rattle.delta_rules.proofs.uses.+terms.Goals as goal

pub note_term-returns-in-Tuple : goal.note_term-returns-in-Tuple
note_term-returns-in-Tuple t c =
    on_ok_weaker c.note_terms.result
    (adds_as (λ s. names s c.args.term.now) (λ s. list_any (names s) c.as_slice.result.now) _ _ (λ s. sym (term_parts s c.args.term.now c.in-Tuple.parts c.as_slice.result.now c.in-Tuple.is c.as_slice.ensures)))
    c.note_terms.ensures
