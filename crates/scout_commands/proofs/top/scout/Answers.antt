use Rattle.std.proofs.Common.{inl, inr, map, subst}
use Rattle.std.specs.String.{string_bytes}
use Rattle.scout_commands.specs.Replies.{drew, followed, other, searched, watched}
use Rattle.scout_commands.specs.Words.{IsAsked}
use Rattle.scout_commands.proofs.TopLemmas.{has_numbers, only_others}
use Rattle.scout_commands.proofs.top.scout.Goals as goal

pub search-requires : goal.search-requires
search-requires g c =
    has_numbers (map string_bytes c.args.words.now) c.in-Search.search c.in-Search.program.now (subst (IsAsked (map string_bytes c.args.words.now)) c.in-Search.is c.in-Ok.ensures)

pub returns-in-Search-clause-replies : goal.returns-in-Search-clause-replies
returns-in-Search-clause-replies g c = searched c.in-Search.search c.in-Search.program.now (subst (IsAsked _) c.in-Search.is c.in-Ok.ensures) c.search.ensures.replies

pub returns-in-Search-clause-only_words : goal.returns-in-Search-clause-only_words
returns-in-Search-clause-only_words g c =
    only_others (map string_bytes c.args.words.now) (g.F.Files.told c.args.files.now) c.search.result (g.K.Sink.taken c.args.out.now) (g.K.Sink.taken c.search.new.out)
    (searched c.in-Search.search c.in-Search.program.now (subst (IsAsked (map string_bytes c.args.words.now)) c.in-Search.is c.in-Ok.ensures) c.search.ensures.replies)

pub returns-in-Follow-clause-replies : goal.returns-in-Follow-clause-replies
returns-in-Follow-clause-replies g c = followed c.in-Follow.question c.in-Follow.names.program.now c.in-Follow.names.schedule.now (subst (IsAsked _) c.in-Follow.is c.in-Ok.ensures) c.follow.ensures.replies

pub returns-in-Draw-clause-replies : goal.returns-in-Draw-clause-replies
returns-in-Draw-clause-replies g c = drew c.in-Draw.trace.now (subst (IsAsked _) c.in-Draw.is c.in-Ok.ensures) c.draw_trace.ensures.replies

pub returns-in-Other-clause-replies : goal.returns-in-Other-clause-replies
returns-in-Other-clause-replies g c = other (subst (IsAsked _) c.in-Other.is c.in-Ok.ensures) c.say.ensures.said

pub returns-in-Watch-clause-replies : goal.returns-in-Watch-clause-replies
returns-in-Watch-clause-replies g c = watched c.in-Watch.watch.now c.in-Watch.names.program.now c.in-Watch.names.schedule.now (subst (IsAsked _) c.in-Watch.is c.in-Ok.ensures) c.run_beside.ensures.replies

pub returns-in-Watch-clause-only_words : goal.returns-in-Watch-clause-only_words
returns-in-Watch-clause-only_words g c =
    only_others (map string_bytes c.args.words.now) (g.F.Files.told c.args.files.now) c.run_beside.result (g.K.Sink.taken c.args.out.now) (g.K.Sink.taken c.run_beside.new.out)
    (watched c.in-Watch.watch.now c.in-Watch.names.program.now c.in-Watch.names.schedule.now (subst (IsAsked (map string_bytes c.args.words.now)) c.in-Watch.is c.in-Ok.ensures) c.run_beside.ensures.replies)

pub returns-in-Search-clause-read : goal.returns-in-Search-clause-read
returns-in-Search-clause-read g c = λ failed.
    inl (c.in-Search.search, c.in-Search.program.now, subst (IsAsked (map string_bytes c.args.words.now)) c.in-Search.is c.in-Ok.ensures, c.search.ensures.read failed)

pub returns-in-Watch-clause-read : goal.returns-in-Watch-clause-read
returns-in-Watch-clause-read g c = λ failed.
    inr (inr (inl (c.in-Watch.watch.now, c.in-Watch.names.program.now, c.in-Watch.names.schedule.now, subst (IsAsked (map string_bytes c.args.words.now)) c.in-Watch.is c.in-Ok.ensures, c.run_beside.ensures.read failed)))
