use Rattle.std.specs.Prelude.{insert, remove}
use Rattle.std.proofs.Common.{ℕ, ◌<◌, ◌∙◌, List, length, ap, arith, sym, subst}
use Rattle.std.proofs.lemmas.List.Edits.{length-insert}
use Rattle.row_pool.proofs.PutLaws.{remove_insert}
use Rattle.row_pool.proofs.sets.put_both.Goals as goal

pub remove-requires : goal.remove-requires
remove-requires c =
    let longer : c.args.at < length (insert c.args.parts.now c.args.at c.args.part) = omega (arith, length-insert c.args.parts.now c.args.at c.args.part c.requires, c.requires) in
    subst (λ (ps : List ℕ). c.args.at < length ps) (sym c.in_ok-insert.ensures.ok) longer

pub returns-in-Err-clause-same_parts : goal.returns-in-Err-clause-same_parts
returns-in-Err-clause-same_parts c = c.remove.ensures.rest ∙ ap (λ (ps : List ℕ). remove ps c.args.at) c.in_ok-insert.ensures.ok ∙ remove_insert c.args.parts.now c.args.at c.args.part c.requires
