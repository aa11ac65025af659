-- The next step is there and can be asked for, and after it the search is ready again.
use Rattle.std.proofs.Common.{◌≡◌, ◌+◌, ◌<◌, List, ap, arith, length, refl, subst}
use Rattle.std.proofs.lemmas.Option.{slice_get_within}
use Rattle.std.specs.Prelude.{false}
use Rattle.da_core.specs.Compiled.{program_of}
use Rattle.trace_join.specs.declared.track.Track.{Track}
use Rattle.trace_join.specs.Waiting.{AreWoken}
use Rattle.trace_join.proofs.MoveLaws.{fits_next, is_asked}
use Rattle.trace_join.proofs.ReadyLaws.{fewer_left, goes_length, place_asked, ready_goes, ready_over, ready_waits, track_there}
use Rattle.trace_join.proofs.search.Search.advance.Goals as goal

pub next_step-requires : goal.next_step-requires
next_step-requires c =
    fits_next c.args.self.now c.requires.ready c.args.place c.index-as_slice-place.result
    (track_there c.args.self.now c.requires.ready c.args.place c.index-as_slice-place.result c.as_slice.result.now c.requires.asked c.as_slice.ensures
    c.index-as_slice-place.is)

pub set-requires : goal.set-requires
set-requires c = slice_get_within c.args.self.now.waits c.args.place false c.requires.asked

pub returns-in_default-clause-ready : goal.returns-in_default-clause-ready
returns-in_default-clause-ready c =
    ready_over c.args.self.now c.args.self.now _ c.requires.ready c.args.place c.index-as_slice-place.result
    (track_there c.args.self.now c.requires.ready c.args.place c.index-as_slice-place.result c.as_slice.result.now c.requires.asked c.as_slice.ensures
    c.index-as_slice-place.is)
    c.in_default.ensures refl refl refl c.set.ensures refl refl

pub overflow_cast-me : goal.overflow_cast-me
overflow_cast-me c =
    let within : c.args.place < length c.args.self.now.tracks = place_asked c.args.self.now c.requires.ready c.args.place c.requires.asked in
    record { fits = omega (arith, within, c.requires.ready.few) }

pub overflow_add-me : goal.overflow_add-me
overflow_add-me c =
    let within : c.args.place < length c.args.self.now.tracks = place_asked c.args.self.now c.requires.ready c.args.place c.requires.asked in
    record { fits = omega (arith, within, c.requires.ready.few) }

pub make-requires-clause-me : goal.make-requires-clause-me
make-requires-clause-me c =
    let within : c.args.place < length c.args.self.now.tracks = place_asked c.args.self.now c.requires.ready c.args.place c.requires.asked in
    (omega arith, omega (arith, within, c.requires.ready.rows))

pub make-requires-clause-asked : goal.make-requires-clause-asked
make-requires-clause-asked c =
    is_asked c.args.self.now c.requires.ready c.args.place c.index-as_slice-place.result
    (track_there c.args.self.now c.requires.ready c.args.place c.index-as_slice-place.result c.as_slice.result.now c.requires.asked c.as_slice.ensures
    c.index-as_slice-place.is)
    c.in-Some.next c.in-Some.ensures

pub set-requires-then-not-branch : goal.set-requires-then-not-branch
set-requires-then-not-branch c =
    let within : c.args.place < length c.args.self.now.waits = slice_get_within c.args.self.now.waits c.args.place false c.requires.asked in
    let same : length c.make.new.self.waits ≡ length c.args.self.now.waits = ap length c.in_ok-make.ensures.still.3 in
    omega (arith, within, same)

pub returns-then-not-branch-clause-ready : goal.returns-then-not-branch-clause-ready
returns-then-not-branch-clause-ready c =
    ready_waits c.args.self.now c.make.new.self _ c.requires.ready c.args.place c.index-as_slice-place.result
    (track_there c.args.self.now c.requires.ready c.args.place c.index-as_slice-place.result c.as_slice.result.now c.requires.asked c.as_slice.ensures
    c.index-as_slice-place.is)
    c.in-Some.next c.in-Some.ensures c.in_ok-make.ensures.still
    (rw c.if-not-branch.true at c.in_ok-make.ensures.goes) refl refl refl c.set-then-not-branch.ensures refl refl

pub send-requires : goal.send-requires
send-requires c =
    let within : c.args.place < length c.args.self.now.tracks = place_asked c.args.self.now c.requires.ready c.args.place c.requires.asked in
    let size : length c.make.new.self.queues ≡ length c.args.self.now.queues =
    goes_length (program_of c.args.self.now.compiled.now).kind
    (c.args.place + 1) c.in-Some.next c.in_ok-make.field-0 c.args.self.now.queues c.make.new.self.queues c.args.self.now.schedule
    c.make.new.self.schedule c.in_ok-make.ensures.goes in
    (omega arith, omega (arith, within, c.requires.ready.rows, size))

pub set-requires-2 : goal.set-requires-2
set-requires-2 c =
    let within : c.args.place < length c.args.self.now.tracks = place_asked c.args.self.now c.requires.ready c.args.place c.requires.asked in
    let same : length c.make.new.self.tracks ≡ length c.args.self.now.tracks = ap length c.in_ok-make.ensures.still.2 in
    omega (arith, within, same)

pub returns-clause-ready : goal.returns-clause-ready
returns-clause-ready c =
    ready_goes c.args.self.now c.make.new.self _ c.requires.ready c.args.place c.index-as_slice-place.result
    (track_there c.args.self.now c.requires.ready c.args.place c.index-as_slice-place.result c.as_slice.result.now c.requires.asked c.as_slice.ensures
    c.index-as_slice-place.is)
    c.in-Some.next c.in-Some.ensures c.in_ok-make.ensures.still (rw c.if-not-branch.false at c.in_ok-make.ensures.goes) c.requires.asked
    c.in_ok-send.ensures.sends c.send.ensures.length
    (subst (λ (tracks : List Track). AreWoken
    (c.args.place + 1) c.in-Some.next.told.now tracks c.make.new.self.waits c.wake.new.waits) c.as_slice-2.ensures c.wake.ensures.woken)
    c.wake.ensures.length
    refl refl c.set-2.ensures refl

pub returns-clause-fewer : goal.returns-clause-fewer
returns-clause-fewer c = λ went.
    fewer_left c.args.self.now c.make.new.self
    (record c.make.new.self { tracks = c.set-2.new.self }) c.requires.ready c.args.place c.index-as_slice-place.result
    (track_there c.args.self.now c.requires.ready c.args.place c.index-as_slice-place.result c.as_slice.result.now c.requires.asked c.as_slice.ensures
    c.index-as_slice-place.is)
    c.in-Some.next c.in-Some.ensures c.in_ok-make.ensures.still c.set-2.ensures
