-- Each step cuts one piece more.
use Rattle.da_lang.specs.World.{opening}
use Rattle.da_core.specs.Compiled.{program_of}
use Rattle.trace_join.proofs.CutLaws.{cut_ends, cut_first, cut_on}
use Rattle.trace_join.proofs.cutting.cut_trace.Goals as goal

pub loop-pieces-init : goal.loop-pieces-init
loop-pieces-init c =
    let program = program_of c.args.compiled.now in
    cut_first program (opening program c.args.me) c.args.trace.now c.new-pieces.result c.in_ok-core.core
    c.in_ok-core.ensures.program c.in_ok-core.ensures.stands c.new-pieces.ensures

pub loop-pieces-preserved : goal.loop-pieces-preserved
loop-pieces-preserved c =
    let program = program_of c.args.compiled.now in
    cut_on program (opening program c.args.me) c.args.trace.now c.loop-pieces.pieces c.loop-pieces.left.now c.loop-pieces.core c.loop-pieces.invariant
    c.push.new.self c.in-Some.next.rest.now c.in-Some.next.piece c.next_step.new.core
    c.in_ok-push.ensures.ok c.next_step.ensures.program (rw c.in-Some.is at c.in_ok-next.ensures.step)

pub returns : goal.returns
returns c =
    let program = program_of c.args.compiled.now in
    cut_ends program (opening program c.args.me) c.args.trace.now c.loop-pieces.pieces c.loop-pieces.left.now c.loop-pieces.core c.loop-pieces.invariant
    (rw c.in_default.is at c.in_ok-next.ensures.step)
