-- What was fetched is what the step is made by.
use Rattle.std.specs.Prelude.{refl}
use Rattle.da_core.specs.Compiled.{program_of}
use Rattle.trace_join.proofs.GoLaws.{goes_so}
use Rattle.trace_join.proofs.search.Search.make.Goals as goal

pub returns-in_ok-found-in-Got-clause-goes : goal.returns-in_ok-found-in-Got-clause-goes
returns-in_ok-found-in-Got-clause-goes c =
    goes_so (program_of c.args.self.now.compiled.now).kind c.args.me c.args.next.now _ _ _ _ c.in-Got.is _ c.from.ensures refl refl refl
    c.args.self.now.queues c.fetch.new.self c.args.self.now.schedule c.fetch.new.events c.fetch.ensures.length c.fetch.ensures.others c.in_ok-found-in-Got.found
    (rw c.program.ensures at c.in_ok-found-in-Got.ensures.fetches) c.in_ok-found-in-Got.ensures.from
