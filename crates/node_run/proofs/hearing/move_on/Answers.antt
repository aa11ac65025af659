use Rattle.std.proofs.Common.{rules}
use Rattle.da_lang.specs.Steps.{move_step}
use Rattle.da_outside.specs.declared.link.LinkAnswer.TheVariants.{Nothing}
use Rattle.node_run.proofs.HearingLaws.{has_stepped, move_own, not_forbidden, own_acted, own_cut, refused, step_given}
use Rattle.node_run.proofs.MoveLaws.{move_may}
use Rattle.node_run.proofs.hearing.move_on.Goals as goal

pub unreachable-requires : goal.unreachable-requires
unreachable-requires g c =
    not_forbidden c.args.running.now c.requires.listening (move_step c.in-Some.k) (move_own c.args.running.now c.requires.listening.waits c.in-Some.k c.in-Some.ensures)
    (c.in-Err-Forbidden.ensures.forbidden (search rules))

pub returns-in-Err-Memory-clause-cut : goal.returns-in-Err-Memory-clause-cut
returns-in-Err-Memory-clause-cut g c = λ node stood. refused _ c.args.running.now node stood _ _ c.requires.listening.waits Nothing

pub tell-requires : goal.tell-requires
tell-requires g c =
    let stepped = has_stepped c.args.running.now (move_step c.in-Some.k) c.make_move.new.self c.in-Ok.stopped c.new-actions.result c.make_move.new.out c.as_slice.result.now
    c.new-actions.ensures c.as_slice.ensures c.make_move.ensures.program c.in-Ok.ensures.moves in
    step_given c.args.running.now _ _ _ c.as_slice.result.now stepped (c.requires.listening.node, c.requires.listening.stands) (move_may _ c.in-Some.k) _ c.requires.bound

pub returns-clause-acted : goal.returns-clause-acted
returns-clause-acted g c =
    let stepped = has_stepped c.args.running.now (move_step c.in-Some.k) c.make_move.new.self c.in-Ok.stopped c.new-actions.result c.make_move.new.out c.as_slice.result.now
    c.new-actions.ensures c.as_slice.ensures c.make_move.ensures.program c.in-Ok.ensures.moves in
    own_acted _ _ _ _ c.tell.result c.args.running.now _ _ (move_step c.in-Some.k) c.as_slice.result.now (move_own c.args.running.now c.requires.listening.waits c.in-Some.k c.in-Some.ensures) stepped
    c.tell.ensures.given c.tell.ensures.written

pub returns-clause-cut : goal.returns-clause-cut
returns-clause-cut g c =
    let stepped = has_stepped c.args.running.now (move_step c.in-Some.k) c.make_move.new.self c.in-Ok.stopped c.new-actions.result c.make_move.new.out c.as_slice.result.now
    c.new-actions.ensures c.as_slice.ensures c.make_move.ensures.program c.in-Ok.ensures.moves in
    own_cut _ _ _ _ c.tell.result c.args.running.now _ _ (move_step c.in-Some.k) c.as_slice.result.now (move_own c.args.running.now c.requires.listening.waits c.in-Some.k c.in-Some.ensures) stepped
    c.tell.ensures.cut
