use Rattle.type_fitting.proofs.SightLaws.{pairs_within, notes_inside, pairs_refuse, solve_found}
use Rattle.type_fitting.proofs.solving.solved.Goals as goal

pub unify_all-requires-clause-pairs : goal.unify_all-requires-clause-pairs
unify_all-requires-clause-pairs c = pairs_within c.args.table.now c.requires.sound c.as_slice-equations.result.now c.as_slice-equations.ensures

pub chosen-requires-clause-notes : goal.chosen-requires-clause-notes
chosen-requires-clause-notes c = notes_inside c.args.table.now c.requires.sound c.unify_all.new.forms c.as_slice-notes.result.now c.in_ok-unify_all.ensures.size c.as_slice-notes.ensures

pub returns-then-not-branch : goal.returns-then-not-branch
returns-then-not-branch c = pairs_refuse c.args.table.now c.as_slice-equations.result.now c.args.count c.as_slice-equations.ensures (c.in_ok-unify_all.ensures.clash c.if-not-branch.true)

pub returns : goal.returns
returns c = solve_found c.args.table.now c.unify_all.new.forms c.as_slice-equations.result.now c.as_slice-notes.result.now c.args.count _ c.as_slice-equations.ensures c.as_slice-notes.ensures (c.in_ok-unify_all.ensures.solved c.if-not-branch.false) c.in_ok-types.ensures
