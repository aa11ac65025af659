use Rattle.std.proofs.Common.{◌≡◌, ap, length, refl, List, ℕ, rules}
use Rattle.std.specs.Prelude.{Some, is_some}
use Rattle.da_core.specs.Compiled.{program_of}
use Rattle.da_commands.specs.Lines.{refused_text}
use Rattle.da_commands.proofs.ToldLemmas.{of_any, of_map}
use Rattle.da_front.specs.Verdict.{Accepts}
use Rattle.da_front.specs.WatchText.{AcceptsBeside, RefusesBeside}
use Rattle.scout_commands.specs.declared.options.Options.{Options}
use Rattle.scout_commands.specs.declared.status.Status.TheVariants.{Memory, ReadFault, WatchRefused}
use Rattle.scout_commands.specs.declared.words.Aim.{Aim}
use Rattle.scout_commands.specs.declared.words.Search.TheVariants.{Hunt}
use Rattle.scout_commands.specs.Replies.{SearchReply, watch_of_aim}
use Rattle.scout_commands.specs.Told.{Answers, nothing, unread}
use Rattle.scout_commands.proofs.ReplyLemmas.{said_answers, watched_of_text}
use Rattle.scout_commands.proofs.searching.answer_watched.Goals as goal

pub returns-in-Ok-clause-replies : goal.returns-in-Ok-clause-replies
returns-in-Ok-clause-replies g c =
    of_map (g.F.Files.told c.args.files.now c.args.name.now) (λ w. AcceptsBeside w (length (program_of c.args.compiled.now).procs) (program_of c.in-Ok.watch))
    (λ w. (t : List ℕ) (aim : Aim) (options : Options) → Accepts t (program_of c.args.compiled.now) → watch_of_aim aim ≡ Some c.args.name.now
    → Answers (SearchReply t w (Hunt c.args.trials aim options)) c.answer_hunt.result (g.K.Sink.taken c.args.out.now) (g.K.Sink.taken c.answer_hunt.new.out))
    (λ w beside t aim options accepts is.
    watched_of_text t w (program_of c.args.compiled.now) c.args.trials aim options _ c.args.name.now _ _ _ accepts c.answer_hunt.ensures.replies is beside c.in-Ok.ensures.watch) c.in-Ok.ensures.read

pub returns-in-Err-Refused-clause-replies : goal.returns-in-Err-Refused-clause-replies
returns-in-Err-Refused-clause-replies g c =
    let kind = c.in-Err-Refused.kind in
    let line = c.in-Err-Refused.line in
    of_map (g.F.Files.told c.args.files.now c.args.name.now) (λ w. RefusesBeside w (length (program_of c.args.compiled.now).procs) kind line)
    (λ w. (t : List ℕ) (aim : Aim) (options : Options) → Accepts t (program_of c.args.compiled.now) → watch_of_aim aim ≡ Some c.args.name.now
    → Answers (SearchReply t w (Hunt c.args.trials aim options)) c.refuse_watch.result (g.K.Sink.taken c.args.out.now) (g.K.Sink.taken c.refuse_watch.new.out))
    (λ w refuses t aim options accepts is.
    said_answers (SearchReply t w (Hunt c.args.trials aim options)) (WatchRefused kind line) (refused_text kind line) _ _ _
    (SearchReply.unwatched (Hunt c.args.trials aim options) (program_of c.args.compiled.now) kind line accepts (ap is_some is) refuses) (rw c.in-Err-Refused.field-0-is at c.refuse_watch.ensures.said)) (c.in-Err-Refused.ensures.refused kind line c.in-Err-Refused.field-0-is)

pub returns-in-Err-Unread-clause-replies : goal.returns-in-Err-Unread-clause-replies
returns-in-Err-Unread-clause-replies g c =
    of_any (g.F.Files.told c.args.files.now c.args.name.now)
    (λ w. (t : List ℕ) (aim : Aim) (options : Options) → Accepts t (program_of c.args.compiled.now) → watch_of_aim aim ≡ Some c.args.name.now
    → Answers (SearchReply t w (Hunt c.args.trials aim options)) ReadFault (g.K.Sink.taken c.args.out.now) (g.K.Sink.taken c.args.out.now))
    (λ w t aim options accepts is. unread refl refl)

pub returns-in-Err-Unread-clause-read : goal.returns-in-Err-Unread-clause-read
returns-in-Err-Unread-clause-read g c = λ failed. c.in-Err-Unread.ensures.unread (search rules)

pub returns-in-Err-Memory-clause-replies : goal.returns-in-Err-Memory-clause-replies
returns-in-Err-Memory-clause-replies g c =
    of_any (g.F.Files.told c.args.files.now c.args.name.now)
    (λ w. (t : List ℕ) (aim : Aim) (options : Options) → Accepts t (program_of c.args.compiled.now) → watch_of_aim aim ≡ Some c.args.name.now
    → Answers (SearchReply t w (Hunt c.args.trials aim options)) Memory (g.K.Sink.taken c.args.out.now) (g.K.Sink.taken c.args.out.now))
    (λ w t aim options accepts is. nothing tt refl)
