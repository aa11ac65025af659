use Rattle.std.proofs.Common.{◌≡◌, true, length, refl, sym, subst}
use Rattle.type_demands.specs.declared.demand.Demand.TheVariants as d
use Rattle.type_fitting.specs.Fit.{Knows}
use Rattle.type_fitting.specs.Listed.{is_met}
use Rattle.type_fitting.proofs.MetLaws.{put_as}
use Rattle.type_fitting.proofs.PutLaws.{nothing_put}
use Rattle.type_fitting.proofs.numbers.put_demand.Goals as goal

pub returns-in-Never : goal.returns-in-Never
returns-in-Never c = put_as c.put_never.result c.args.table.now c.put_never.new.table (d.Never) c.args.demand.now c.in-Never.is c.put_never.ensures

pub put_same-requires-clause-asked : goal.put_same-requires-clause-asked
put_same-requires-clause-asked c = (subst (Knows (length c.args.table.now.forms)) c.in-Same.is c.requires.known).0

pub put_same-requires-clause-found : goal.put_same-requires-clause-found
put_same-requires-clause-found c = (subst (Knows (length c.args.table.now.forms)) c.in-Same.is c.requires.known).1

pub returns-in-Same : goal.returns-in-Same
returns-in-Same c = put_as c.put_same.result c.args.table.now c.put_same.new.table (d.Same c.in-Same.asked c.in-Same.found) c.args.demand.now c.in-Same.is c.put_same.ensures

pub put_int-requires-clause-known : goal.put_int-requires-clause-known
put_int-requires-clause-known c = subst (Knows (length c.args.table.now.forms)) c.in-Int.is c.requires.known

pub returns-in-Int : goal.returns-in-Int
returns-in-Int c = put_as c.put_int.result c.args.table.now c.put_int.new.table (d.Int c.in-Int.scheme) c.args.demand.now c.in-Int.is c.put_int.ensures

pub put_truth-requires-clause-known : goal.put_truth-requires-clause-known
put_truth-requires-clause-known c = subst (Knows (length c.args.table.now.forms)) c.in-Truth.is c.requires.known

pub returns-in-Truth : goal.returns-in-Truth
returns-in-Truth c = put_as c.put_truth.result c.args.table.now c.put_truth.new.table (d.Truth c.in-Truth.scheme) c.args.demand.now c.in-Truth.is c.put_truth.ensures

pub put_width-requires-clause-known : goal.put_width-requires-clause-known
put_width-requires-clause-known c = subst (Knows (length c.args.table.now.forms)) c.in-Width.is c.requires.known

pub returns-in-Width : goal.returns-in-Width
returns-in-Width c = put_as c.put_width.result c.args.table.now c.put_width.new.table (d.Width c.in-Width.scheme c.in-Width.count) c.args.demand.now c.in-Width.is c.put_width.ensures

pub put_elements-requires-clause-known : goal.put_elements-requires-clause-known
put_elements-requires-clause-known c = subst (Knows (length c.args.table.now.forms)) c.in-Elements.is c.requires.known

pub returns-in-Elements : goal.returns-in-Elements
returns-in-Elements c = put_as c.put_elements.result c.args.table.now c.put_elements.new.table (d.Elements c.in-Elements.scheme) c.args.demand.now c.in-Elements.is c.put_elements.ensures

pub put_note-requires-clause-known : goal.put_note-requires-clause-known
put_note-requires-clause-known c = subst (Knows (length c.args.table.now.forms)) c.in-Ordered.is c.requires.known

pub returns-in-Ordered : goal.returns-in-Ordered
returns-in-Ordered c = put_as c.put_note.result c.args.table.now c.put_note.new.table (d.Ordered c.in-Ordered.scheme) c.args.demand.now c.in-Ordered.is c.put_note.ensures

pub put_note-requires-in-Adds-clause-known : goal.put_note-requires-in-Adds-clause-known
put_note-requires-in-Adds-clause-known c = subst (Knows (length c.args.table.now.forms)) c.in-Adds.is c.requires.known

pub returns-in-Adds : goal.returns-in-Adds
returns-in-Adds c = put_as c.put_note-in-Adds.result c.args.table.now c.put_note-in-Adds.new.table (d.Adds c.in-Adds.scheme) c.args.demand.now c.in-Adds.is c.put_note-in-Adds.ensures

pub put_note-requires-in-Single-clause-known : goal.put_note-requires-in-Single-clause-known
put_note-requires-in-Single-clause-known c = subst (Knows (length c.args.table.now.forms)) c.in-Single.is c.requires.known

pub returns-in-Single : goal.returns-in-Single
returns-in-Single c = put_as c.put_note-in-Single.result c.args.table.now c.put_note-in-Single.new.table (d.Single c.in-Single.scheme) c.args.demand.now c.in-Single.is c.put_note-in-Single.ensures

pub put_note-requires-in-Receives-clause-known : goal.put_note-requires-in-Receives-clause-known
put_note-requires-in-Receives-clause-known c = subst (Knows (length c.args.table.now.forms)) c.in-Receives.is c.requires.known

pub returns-in-Receives : goal.returns-in-Receives
returns-in-Receives c = put_as c.put_note-in-Receives.result c.args.table.now c.put_note-in-Receives.new.table (d.Receives c.in-Receives.scheme) c.args.demand.now c.in-Receives.is c.put_note-in-Receives.ensures

pub put_note-requires-in-Flat-clause-known : goal.put_note-requires-in-Flat-clause-known
put_note-requires-in-Flat-clause-known c = subst (Knows (length c.args.table.now.forms)) c.in-Flat.is c.requires.known

pub returns-in-Flat : goal.returns-in-Flat
returns-in-Flat c = put_as c.put_note-in-Flat.result c.args.table.now c.put_note-in-Flat.new.table (d.Flat c.in-Flat.scheme) c.args.demand.now c.in-Flat.is c.put_note-in-Flat.ensures

pub returns-in-Uses : goal.returns-in-Uses
returns-in-Uses c = nothing_put c.args.table.now c.args.table.now c.requires.sound _ (λ m. subst (λ x. is_met x m ≡ true) (sym c.in-Uses.is) refl)
