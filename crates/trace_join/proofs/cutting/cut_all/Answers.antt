-- A process has a number of 16 bits, and one more trace is cut.
use Rattle.std.proofs.Common.{◌≡◌, ◌+◌, ◌<◌, ◌^◌, ◌∙◌, Some, ap, arith, refl, suc, sym}
use Rattle.std.proofs.lemmas.Option.{slice_get_read}
use Rattle.da_types.proofs.sound.AcceptedLaws.{is_sound}
use Rattle.da_core.specs.Compiled.{program_of}
use Rattle.trace_join.proofs.AllCutLaws.{cuts_all, cuts_on}
use Rattle.trace_join.proofs.cutting.cut_all.Goals as goal

pub overflow_cast-place : goal.overflow_cast-place
overflow_cast-place c =
    let few = (is_sound (program_of c.args.compiled.now) c.requires.compiled.accepted).few in
    let small : c.loop-place.place < 2 ^ 16 = omega (arith, c.loop-place-test.true, c.requires.each, few) in
    record { fits = small }

pub overflow_add-place : goal.overflow_add-place
overflow_add-place c =
    let few = (is_sound (program_of c.args.compiled.now) c.requires.compiled.accepted).few in
    let small : c.loop-place.place + 1 < 2 ^ 16 = omega (arith, c.loop-place-test.true, c.requires.each, few) in
    record { fits = small }

pub loop-place-preserved : goal.loop-place-preserved
loop-place-preserved c =
    let next : c.loop-place.place + 1 ≡ suc c.loop-place.place = omega arith in
    let there = slice_get_read c.args.traces.now _ c.loop-place.place c.index-traces-place.result refl c.loop-place-test.true c.index-traces-place.is in
    cuts_on (program_of c.args.compiled.now) c.args.traces.now c.loop-place.cuts c.loop-place.place c.loop-place.invariant
    c.push.new.self (c.loop-place.place + 1) (c.loop-place.place + 1) c.as_slice.result.now c.in_ok-pieces.pieces
    next next c.in_ok-push.ensures.ok (there ∙ ap Some (sym c.as_slice.ensures)) c.in_ok-pieces.ensures

pub returns-clause-cut : goal.returns-clause-cut
returns-clause-cut c =
    cuts_all (program_of c.args.compiled.now) c.args.traces.now c.loop-place.cuts c.loop-place.place c.loop-place.invariant
    (omega (arith, c.loop-place-test.false))
