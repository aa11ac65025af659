use Rattle.da_infer.proofs.SolveLaws.{solved_types, solved_clash}
use Rattle.da_infer.proofs.solving.solved.Goals as goal

pub returns-in-Types-clause-inferred : goal.returns-in-Types-clause-inferred
returns-in-Types-clause-inferred c =
    solved_types c.args.loose.now c.requires.loose c.args.places.now c.requires.places c.args.count c.requires.count c.fills_are_demanded.ensures c.fills_agree.ensures c.fills_are_written.ensures
    c.args.program.now c.requires.marked _ c.in_ok-demands.ensures _ c.in_ok-known.ensures.least _ _ _ _ (rw c.in-Types.is at c.in_ok-found.ensures) c.as_slice.ensures c.first_types-first.ensures c.in_ok-tree-in-Types.ensures

pub returns-clause-refused : goal.returns-clause-refused
returns-clause-refused c = λ other.
    solved_clash c.args.loose.now c.requires.loose c.args.places.now c.requires.places c.args.count c.requires.count c.fills_are_demanded.ensures c.args.program.now c.requires.marked
    _ c.in_ok-demands.ensures _ c.in_ok-known.ensures.least _ (rw c.in-Clash.is at c.in_ok-found.ensures)
