use Rattle.std.proofs.Common.{◌≡◌, refl}
use Rattle.da_core.specs.Compiled.{program_of}
use Rattle.da_commands.specs.Lines.{refused_text}
use Rattle.da_commands.proofs.ReplyLemmas.{read_within, refuses_within}
use Rattle.da_front.proofs.VerdictLemmas.{not_refused}
use Rattle.scout_commands.specs.declared.status.Status.TheVariants.{Memory, ReadFault, Refused}
use Rattle.scout_commands.specs.Replies.{SearchReply, watch_of}
use Rattle.scout_commands.specs.Told.{Answers, nothing}
use Rattle.scout_commands.proofs.ReplyLemmas.{of_any_watch, said_answers}
use Rattle.scout_commands.proofs.searching.answer_text.Goals as goal

pub returns-in-Err-Refused-clause-replies : goal.returns-in-Err-Refused-clause-replies
returns-in-Err-Refused-clause-replies g c = λ t is.
    let kind = c.in-Err-Refused.kind in
    let line = c.in-Err-Refused.line in
    of_any_watch (g.F.Files.told c.args.files.now) (watch_of c.args.search.now)
    (λ w. Answers (SearchReply t w c.args.search.now) c.refuse.result (g.K.Sink.taken c.args.out.now) (g.K.Sink.taken c.refuse.new.out))
    (λ w. said_answers (SearchReply t w c.args.search.now) (Refused kind line) (refused_text kind line) _ _ _
    (SearchReply.declined c.args.search.now kind line (refuses_within _ t _ _ _ is c.in-Err-Refused.field-0-is c.in-Err-Refused.ensures.refused)) c.refuse.ensures.said)

pub returns-in-Err-Refused-clause-read : goal.returns-in-Err-Refused-clause-read
returns-in-Err-Refused-clause-read g c = λ failed. absurd (c.refuse.ensures.read failed)

pub returns-in-Err-Memory-clause-replies : goal.returns-in-Err-Memory-clause-replies
returns-in-Err-Memory-clause-replies g c = λ t is.
    of_any_watch (g.F.Files.told c.args.files.now) (watch_of c.args.search.now)
    (λ w. Answers (SearchReply t w c.args.search.now) Memory (g.K.Sink.taken c.args.out.now) (g.K.Sink.taken c.args.out.now)) (λ w. nothing tt refl)

pub returns-in-Err-Memory-clause-read : goal.returns-in-Err-Memory-clause-read
returns-in-Err-Memory-clause-read g c = λ failed. let clash : Memory ≡ ReadFault = failed in absurd (cc)

pub returns-in-Ok-clause-replies : goal.returns-in-Ok-clause-replies
returns-in-Ok-clause-replies g c = λ t is. c.answer_search.ensures.replies t (read_within c.args.text.now t (program_of c.in-Ok.compiled) is c.in-Ok.ensures.read)

pub returns-in-Ok-clause-refused : goal.returns-in-Ok-clause-refused
returns-in-Ok-clause-refused g c = λ t is failed. not_refused t (program_of c.in-Ok.compiled) (read_within _ t _ is c.in-Ok.ensures.read)
