use Rattle.da_infer.proofs.SolveLaws.{marked_fills, marked_by, misnamed, too_large}
use Rattle.da_infer.proofs.solving.marked_program.Goals as goal

pub resolve-requires : goal.resolve-requires
resolve-requires c = record { written = c.fills_are_written.ensures c.args.loose.now c.requires.loose _ _ (marked_fills c.args.loose.now c.requires.loose c.args.places.now c.requires.places c.args.count c.requires.count _ _ _ c.in_ok-unknowns.ensures.unknowns c.in_ok-unknowns.ensures.declarable c.as_slice.ensures c.in_ok-tree.ensures) }

pub returns-in-Ok-clause-marked : goal.returns-in-Ok-clause-marked
returns-in-Ok-clause-marked c =
    marked_by c.args.loose.now c.requires.loose c.args.places.now c.requires.places c.args.count c.requires.count _ _ c.in_ok-unknowns.ensures.unknowns
    (marked_fills c.args.loose.now c.requires.loose c.args.places.now c.requires.places c.args.count c.requires.count _ _ _ c.in_ok-unknowns.ensures.unknowns c.in_ok-unknowns.ensures.declarable c.as_slice.ensures c.in_ok-tree.ensures) _ c.in-Ok.ensures.program

pub returns-in-Err-Refused-clause-refused : goal.returns-in-Err-Refused-clause-refused
returns-in-Err-Refused-clause-refused c = λ other. misnamed _ _ _ _ _ (marked_fills c.args.loose.now c.requires.loose c.args.places.now c.requires.places c.args.count c.requires.count _ _ _ c.in_ok-unknowns.ensures.unknowns c.in_ok-unknowns.ensures.declarable c.as_slice.ensures c.in_ok-tree.ensures) (rw c.in-Err-Refused.field-0-is at c.in-Err-Refused.ensures.refused)

pub returns-in-Err-Limit-clause-refused : goal.returns-in-Err-Limit-clause-refused
returns-in-Err-Limit-clause-refused c = λ other. too_large _ _ _ _ _ (marked_fills c.args.loose.now c.requires.loose c.args.places.now c.requires.places c.args.count c.requires.count _ _ _ c.in_ok-unknowns.ensures.unknowns c.in_ok-unknowns.ensures.declarable c.as_slice.ensures c.in_ok-tree.ensures) (rw c.in-Err-Limit.field-0-is at c.in-Err-Limit.ensures.refused)
