use Rattle.da_core.specs.Compiled.{program_of}
use Rattle.da_lang.specs.World.{opening}
use Rattle.node_run.proofs.HearingLaws.{first_cut, first_given, refused_beginning}
use Rattle.node_run.proofs.hearing.begin.Goals as goal

pub returns-in_default-clause-cut : goal.returns-in_default-clause-cut
returns-in_default-clause-cut g c = refused_beginning _ c.args.me c.requires.compiled.accepted c.requires.there _ _

pub returns-in-Err-Memory-clause-cut : goal.returns-in-Err-Memory-clause-cut
returns-in-Err-Memory-clause-cut g c = refused_beginning _ c.args.me c.requires.compiled.accepted c.requires.there _ _

pub tell-requires : goal.tell-requires
tell-requires g c =
    let program = program_of c.args.c.now in
    first_given program c.args.me c.in-Ok.core c.in-Ok.ensures.stands c.in-Ok.ensures.program c.make_move.new.self c.in-Ok-make_move.stopped c.new-actions.result c.make_move.new.out c.as_slice.result.now
    c.new-actions.ensures c.as_slice.ensures (c.in-Ok-make_move.ensures.moves (opening program c.args.me) c.in-Ok.ensures.stands) _ c.requires.bound

pub returns-clause-cut : goal.returns-clause-cut
returns-clause-cut g c =
    let program = program_of c.args.c.now in
    first_cut program c.args.me c.in-Ok.core c.in-Ok.ensures.stands c.in-Ok.ensures.program c.make_move.new.self c.in-Ok-make_move.stopped c.new-actions.result c.make_move.new.out c.as_slice.result.now
    c.new-actions.ensures c.as_slice.ensures (c.in-Ok-make_move.ensures.moves (opening program c.args.me) c.in-Ok.ensures.stands)
    _ (g.L.Link.told c.args.link.now) (g.L.Link.told c.tell.new.link) (g.K.Sink.taken c.args.sink.now) (g.K.Sink.taken c.tell.new.sink) c.in-Err.ensures.cut
