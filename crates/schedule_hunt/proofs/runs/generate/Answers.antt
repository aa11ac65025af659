use Rattle.std.proofs.Common.{◌≡◌, ◌∙◌, ap, arith, length, sym}
use Rattle.da_lang.specs.declared.program.Program.{Program}
use Rattle.da_core.specs.Compiled.{program_of}
use Rattle.da_types.proofs.sound.AcceptedLaws.{is_sound}
use Rattle.schedule_hunt.proofs.RunLemmas.{by_first, by_next, ends_early, ends_last, none_tried}
use Rattle.schedule_hunt.proofs.runs.generate.Goals as goal

pub returns-then-most-eq0 : goal.returns-then-most-eq0
returns-then-most-eq0 c = none_tried _ _ _ _ c.if-most-eq0.true c.in_ok-run.ensures.program c.in_ok-run.ensures.stands c.in_ok-run.ensures.none c.new-events.ensures

pub overflow_cast-processes : goal.overflow_cast-processes
overflow_cast-processes c = record { fits = omega (arith, c.len-processes.ensures, ap (λ (p : Program). length p.procs) c.program.ensures, (is_sound (program_of c.args.compiled.now) c.requires.accepted).few) }

pub loop-place-init : goal.loop-place-init
loop-place-init c =
    let counted : c.len-processes.result ≡ length (program_of c.args.compiled.now).procs = omega (arith, c.len-processes.ensures, ap (λ (p : Program). length p.procs) c.program.ensures) in
    by_first _ _ _ _ _ _ counted c.in_ok-picker.ensures c.in_ok-run.ensures.program c.in_ok-run.ensures.stands c.in_ok-run.ensures.none c.new-events.ensures

pub pick_next-requires : goal.pick_next-requires
pick_next-requires c =
    let came = c.loop-place.invariant in
    record {
      ready = λ unspent. (_, came.stands);
      unspent = came.stands.runs.unspent;
      count = omega (arith, c.len-processes.ensures, ap (λ (p : Program). length p.procs) (c.program.ensures ∙ sym came.same));
      room = omega (arith, came.turn, c.loop-place-test.true);
    }

pub returns-then-not-picked : goal.returns-then-not-picked
returns-then-not-picked c =
    let came = c.loop-place.invariant in
    ends_early _ _ _ _ _ _ came _ c.pick_next.new.picker ((rw c.if-not-picked.true at c.in_ok-picked.ensures.picked) came.now came.stands)

pub loop-place-preserved : goal.loop-place-preserved
loop-place-preserved c =
    let came = c.loop-place.invariant in
    by_next _ _ _ _ _ _ came _ _ c.loop-place-test.true ((rw c.if-not-picked.false at c.in_ok-picked.ensures.picked) came.now came.stands) c.in_ok-picked.ensures.program

pub returns : goal.returns
returns c = ends_last _ _ _ _ _ _ c.loop-place.invariant c.loop-place-test.false
