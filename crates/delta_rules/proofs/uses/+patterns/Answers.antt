use Rattle.std.specs.List.{list_any}
use Rattle.std.proofs.Common.{sym}
use Rattle.std.proofs.lemmas.Result.{on_ok_weaker}
use Rattle.da_lang.specs.Naming.{pattern_names}
use Rattle.delta_rules.proofs.NamingAt.{pattern_parts}
use Rattle.delta_rules.proofs.UseLaws.{adds_as}
use Rattle.delta_rules.proofs.uses.+patterns.Goals as goal

pub note_pattern-returns-in-Tuple : goal.note_pattern-returns-in-Tuple
note_pattern-returns-in-Tuple t c =
    on_ok_weaker c.note_patterns.result
    (adds_as (λ s. pattern_names s c.args.pattern.now) (λ s. list_any (pattern_names s) c.as_slice.result.now) _ _ (λ s. sym (pattern_parts s c.args.pattern.now c.in-Tuple.parts c.as_slice.result.now c.in-Tuple.is c.as_slice.ensures)))
    c.note_patterns.ensures
