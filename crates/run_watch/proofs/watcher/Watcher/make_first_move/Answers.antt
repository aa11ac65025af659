use Rattle.std.proofs.Common.{refl}
use Rattle.std.specs.Prelude.{None, Some}
use Rattle.run_watch.proofs.MoveLemmas.{first_of, moved_on}
use Rattle.run_watch.proofs.WatchLemmas.{core_there}
use Rattle.run_watch.proofs.watcher.Watcher.make_first_move.Goals as goal

pub returns-in_default-clause-moved : goal.returns-in_default-clause-moved
returns-in_default-clause-moved c = λ program w come. (first_of program w c.args.self.now None come c.requires.unworn (rw c.in_default.is at c.first_move-found.ensures), come, refl)

pub make_move-requires : goal.make_move-requires
make_move-requires c = λ unspent. core_there c.args.self.now c.requires.there c.requires.unworn

pub returns-in-Ok-clause-moved : goal.returns-in-Ok-clause-moved
returns-in-Ok-clause-moved c = λ program w come.
    moved_on program w c.args.self.now c.in-Some.k _ _ _ _ (first_of program w c.args.self.now (Some c.in-Some.k) come c.requires.unworn (rw c.in-Some.is at c.first_move-found.ensures)) come c.requires.unworn c.in-Ok.ensures.moves
    c.in-Ok.ensures.program
