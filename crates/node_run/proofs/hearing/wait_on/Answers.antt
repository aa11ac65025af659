use Rattle.std.proofs.Common.{◌≡◌, refl}
use Rattle.std.specs.Prelude.{None}
use Rattle.da_core.specs.StandsFor.{program_of as core_program}
use Rattle.da_lang.specs.Steps.{TimeOut}
use Rattle.da_outside.specs.declared.link.LinkAnswer.TheVariants.{Nothing}
use Rattle.node_run.specs.NodeRun.{step_of}
use Rattle.node_run.proofs.HearingLaws.{has_stepped, idle_acted, late_own, none_allowed, none_early, own_acted, own_cut, refused, step_given}
use Rattle.node_run.proofs.hearing.wait_on.Goals as goal
use Rattle.node_run.proofs.hearing.wait_on.Goals.{then-running-lt-IDLE_TURNS_TO_TIMEOUT-via-then-running-lt-IDLE_TURNS_TO_TIMEOUT, then-running-lt-IDLE_TURNS_TO_TIMEOUT-via-else-running-lt-IDLE_TURNS_TO_TIMEOUT+then-not-can_timeout}

pub returns-then-running-lt-IDLE_TURNS_TO_TIMEOUT-clause-acted : goal.returns-then-running-lt-IDLE_TURNS_TO_TIMEOUT-clause-acted
returns-then-running-lt-IDLE_TURNS_TO_TIMEOUT-clause-acted g c = λ node stood.
    let running = c.args.running.now in
    let none : step_of (core_program running.core) node ≡ None = elim c.then-running-lt-IDLE_TURNS_TO_TIMEOUT.branch [
      | then-running-lt-IDLE_TURNS_TO_TIMEOUT-via-then-running-lt-IDLE_TURNS_TO_TIMEOUT w ↦ none_early running c.requires.listening.waits c.requires.quiet w.if-running-lt-IDLE_TURNS_TO_TIMEOUT.true node stood
      | then-running-lt-IDLE_TURNS_TO_TIMEOUT-via-else-running-lt-IDLE_TURNS_TO_TIMEOUT+then-not-can_timeout w ↦
          none_allowed running c.requires.listening.waits c.requires.quiet w.can_timeout.result w.if-not-can_timeout.true w.can_timeout.ensures.allowed node stood
    ] in
    idle_acted _ running node stood _ _ _ refl none

pub returns-in-Err-Memory-clause-cut : goal.returns-in-Err-Memory-clause-cut
returns-in-Err-Memory-clause-cut g c = λ node stood. refused _ c.args.running.now node stood _ _ c.requires.listening.waits Nothing

pub tell-requires : goal.tell-requires
tell-requires g c =
    let stepped = has_stepped c.args.running.now TimeOut c.make_timeout.new.self c.in-Ok.stopped c.new-actions.result c.make_timeout.new.out c.as_slice.result.now
    c.new-actions.ensures c.as_slice.ensures c.make_timeout.ensures.program c.in-Ok.ensures.moves in
    step_given c.args.running.now _ _ _ c.as_slice.result.now stepped (c.requires.listening.node, c.requires.listening.stands) tt _ c.requires.bound

pub returns-clause-acted : goal.returns-clause-acted
returns-clause-acted g c =
    let stepped = has_stepped c.args.running.now TimeOut c.make_timeout.new.self c.in-Ok.stopped c.new-actions.result c.make_timeout.new.out c.as_slice.result.now
    c.new-actions.ensures c.as_slice.ensures c.make_timeout.ensures.program c.in-Ok.ensures.moves in
    let own = late_own c.args.running.now c.requires.listening.waits c.requires.quiet c.can_timeout.result c.if-running-lt-IDLE_TURNS_TO_TIMEOUT.false c.if-not-can_timeout.false c.can_timeout.ensures.allowed in
    own_acted _ _ _ _ c.tell.result c.args.running.now _ _ TimeOut c.as_slice.result.now own stepped c.tell.ensures.given c.tell.ensures.written

pub returns-clause-cut : goal.returns-clause-cut
returns-clause-cut g c =
    let stepped = has_stepped c.args.running.now TimeOut c.make_timeout.new.self c.in-Ok.stopped c.new-actions.result c.make_timeout.new.out c.as_slice.result.now
    c.new-actions.ensures c.as_slice.ensures c.make_timeout.ensures.program c.in-Ok.ensures.moves in
    let own = late_own c.args.running.now c.requires.listening.waits c.requires.quiet c.can_timeout.result c.if-running-lt-IDLE_TURNS_TO_TIMEOUT.false c.if-not-can_timeout.false c.can_timeout.ensures.allowed in
    own_cut _ _ _ _ c.tell.result c.args.running.now _ _ TimeOut c.as_slice.result.now own stepped c.tell.ensures.cut
