use Rattle.std.proofs.Common.{◌∙◌, ◌≤◌, length, subst, sym, arith}
use Rattle.std.specs.List.{AllByRecursion}
use Rattle.type_table.specs.Fits.{Fits, IsTable}
use Rattle.type_table.specs.Values.{types_of}
use Rattle.type_fitting.specs.Notes.{IsInside}
use Rattle.type_fitting.proofs.SightLaws.{added_inside, received_inside, larger_inside, call_refuses, call_solves}
use Rattle.type_fitting.proofs.solving.chosen.Goals as goal

pub choose-requires-clause-adds : goal.choose-requires-clause-adds
choose-requires-clause-adds c = added_inside c.args.forms.now c.args.forms.now c.args.notes.now c.requires.notes c.as_slice.result.now c.as_slice-2.result.now (c.as_slice.ensures ∙ c.in_ok-adds.ensures) (c.as_slice-2.ensures ∙ c.in_ok-receives.ensures)

pub choose-requires-clause-receives : goal.choose-requires-clause-receives
choose-requires-clause-receives c = received_inside c.args.forms.now c.args.forms.now c.args.notes.now c.requires.notes c.as_slice.result.now c.as_slice-2.result.now (c.as_slice.ensures ∙ c.in_ok-adds.ensures) (c.as_slice-2.ensures ∙ c.in_ok-receives.ensures)

pub returns-then-not-branch : goal.returns-then-not-branch
returns-then-not-branch c = call_refuses c.args.forms.now c.choose.new.forms c.args.notes.now c.requires.notes c.as_slice.result.now c.as_slice-2.result.now (c.as_slice.ensures ∙ c.in_ok-adds.ensures) (c.as_slice-2.ensures ∙ c.in_ok-receives.ensures) c.args.count (c.in_ok-choose.ensures.none c.if-not-branch.true)

pub passed-requires-clause-table : goal.passed-requires-clause-table
passed-requires-clause-table c = subst IsTable (sym c.as_slice-3.ensures) c.in_ok-choose.ensures.table

pub passed-requires-clause-fits : goal.passed-requires-clause-fits
passed-requires-clause-fits c = subst (λ z. Fits (types_of z) z) (sym c.as_slice-3.ensures) (c.in_ok-choose.ensures.fits c.if-not-branch.false)

pub passed-requires-clause-notes : goal.passed-requires-clause-notes
passed-requires-clause-notes c = subst (λ z. AllByRecursion (IsInside (length z)) c.args.notes.now) (sym c.as_slice-3.ensures) (larger_inside c.args.forms.now c.choose.new.forms c.args.notes.now c.requires.notes c.as_slice.result.now c.as_slice-2.result.now (c.as_slice.ensures ∙ c.in_ok-adds.ensures) (c.as_slice-2.ensures ∙ c.in_ok-receives.ensures) c.in_ok-choose.ensures.grows)

pub passed-requires-clause-counts : goal.passed-requires-clause-counts
passed-requires-clause-counts c = subst (λ z. c.args.count ≤ length z) (sym c.as_slice-3.ensures) (omega (arith, c.requires.counts, c.in_ok-choose.ensures.grows))

pub returns : goal.returns
returns c = call_solves c.args.forms.now c.choose.new.forms c.args.notes.now c.requires.notes c.as_slice.result.now c.as_slice-2.result.now (c.as_slice.ensures ∙ c.in_ok-adds.ensures) (c.as_slice-2.ensures ∙ c.in_ok-receives.ensures) c.as_slice-3.result.now c.args.count _ c.as_slice-3.ensures c.requires.counts (c.in_ok-choose.ensures.chosen c.if-not-branch.false) c.in_ok-types.ensures
