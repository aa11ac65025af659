use Rattle.std.proofs.Common.{[], subst, sym}
use Rattle.da_core.specs.Compiled.{program_of}
use Rattle.scout_commands.specs.Replies.{OfWatchTold, SearchReply, watch_of}
use Rattle.scout_commands.specs.Told.{Answers}
use Rattle.scout_commands.specs.Words.{HasNumbers}
use Rattle.scout_commands.proofs.ReplyLemmas.{search_replied, watch_asked}
use Rattle.scout_commands.proofs.searching.answer_search.Goals as goal

pub returns-in-Walk-clause-replies : goal.returns-in-Walk-clause-replies
returns-in-Walk-clause-replies g c = λ t accepts.
    subst (λ x. OfWatchTold (g.F.Files.told c.args.files.now) (watch_of x) (λ w. Answers (SearchReply t w x) c.answer_walk.result (g.K.Sink.taken c.args.out.now) (g.K.Sink.taken c.answer_walk.new.out)))
    (sym c.in-Walk.is) (c.answer_walk.ensures.replies t [] accepts)

pub answer_aim-requires : goal.answer_aim-requires
answer_aim-requires g c = record { compiled = c.requires.compiled; numbers = subst HasNumbers c.in-Hunt.is c.requires.numbers }

pub returns-in-Hunt-clause-replies : goal.returns-in-Hunt-clause-replies
returns-in-Hunt-clause-replies g c = λ t accepts.
    search_replied (g.F.Files.told c.args.files.now) t (program_of c.args.compiled.now) _ accepts c.answer_aim.result (g.K.Sink.taken c.args.out.now) (g.K.Sink.taken c.answer_aim.new.out)
    c.args.search.now _ _ c.in-Hunt.is (c.answer_aim.ensures.replies t accepts)

pub returns-in-Hunt-clause-read : goal.returns-in-Hunt-clause-read
returns-in-Hunt-clause-read g c = λ failed.
    let (w, asks, rose) = c.answer_aim.ensures.read failed in
    (w, watch_asked c.args.search.now _ _ _ w c.in-Hunt.is asks, rose)

pub returns-in-Walk-clause-read : goal.returns-in-Walk-clause-read
returns-in-Walk-clause-read g c = λ failed. absurd (c.answer_walk.ensures.read failed)
