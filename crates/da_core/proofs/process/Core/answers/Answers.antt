use Rattle.std.proofs.Common.{◌++◌, ◌∙◌, ap, subst}
use Rattle.std.proofs.lemmas.Result.{on_err_weaker, on_ok_weaker}
use Rattle.da_machine.specs.RunsTo.{AddsPrefix}
use Rattle.da_core.specs.StandsFor.{program_of}
use Rattle.da_core.proofs.Moving.{tells_answers}
use Rattle.da_core.proofs.process.Core.answers.Goals as goal

pub tell_answers-requires : goal.tell_answers-requires
tell_answers-requires c = let (w, s) = c.requires.ready c.requires.unspent in (program_of c.args.self.now, s.class, w.data', s.stands)

pub returns-clause-told : goal.returns-clause-told
returns-clause-told c =
    on_ok_weaker c.tell_answers.result (λ told w s. told (program_of c.args.self.now) s.class w.data' s.stands ∙ ap (λ due. c.args.out.now ++ due) (tells_answers c.args.self.now w s)) c.tell_answers.ensures.told

pub returns-clause-prefix : goal.returns-clause-prefix
returns-clause-prefix c =
    on_err_weaker c.tell_answers.result (λ front w s. subst (λ due. AddsPrefix c.args.out.now c.tell_answers.new.out due) (tells_answers c.args.self.now w s) (front (program_of c.args.self.now) s.class w.data' s.stands)) c.tell_answers.ensures.prefix
