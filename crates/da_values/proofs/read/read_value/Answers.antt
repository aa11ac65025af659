use Rattle.std.specs.Prelude.{◌≡◌, ◌==◌, false, [], length}
use Rattle.std.proofs.Common.{subst}
use Rattle.std.proofs.lemmas.Bool.{false≢true}
use Rattle.da_values.proofs.ReadLaws.{whole_text}
use Rattle.da_values.proofs.read.read_value.Goals as goal

pub returns-else-is_empty-clause-unread : goal.returns-else-is_empty-clause-unread
returns-else-is_empty-clause-unread c is x text =
    let found = c.in_ok-value.ensures.only x [] (whole_text c.args.text.now x text) tt in
    false≢true (subst (λ rest. false ≡ (length rest == 0)) found.1 c.if-is_empty.ensures)

pub returns-else-is_empty-clause-only : goal.returns-else-is_empty-clause-only
returns-else-is_empty-clause-only c x text =
    let found = c.in_ok-value.ensures.only x [] (whole_text c.args.text.now x text) tt in
    absurd (false≢true (subst (λ rest. false ≡ (length rest == 0)) found.1 c.if-is_empty.ensures))
