use Rattle.std.proofs.Common.{inr, ◌∙◌, subst, List, ℕ, map}
use Rattle.std.specs.Prelude.{Option}
use Rattle.std.specs.String.{string_bytes}
use Rattle.da_commands.specs.JoinReplies.{JoinReply}
use Rattle.da_commands.specs.Told.{HasReplied, OfAllTold}
use Rattle.da_front.specs.Verdict.{program_limit}
use Rattle.da_commands.proofs.JoinLemmas.{may_read_traces, none_joined, told_same}
use Rattle.da_commands.proofs.ReplyLemmas.{rose_later}
use Rattle.da_commands.proofs.ToldLemmas.{of_read}
use Rattle.da_commands.proofs.joining.join.Goals as goal

pub returns-in-Ok-clause-read : goal.returns-in-Ok-clause-read
returns-in-Ok-clause-read g c = λ failed.
    let (name, has, rose) = c.answer_program.ensures.read failed in
    inr (
      name,
      has,
      rose_later _ _ _ (c.in-Ok.ensures.later name) rose,
      may_read_traces _ _ c.args.traces.now c.in-Ok.ensures.whole (λ t is. c.answer_program.ensures.refused t (c.as_slice.ensures ∙ is) failed),
    )

pub returns-in-Ok-clause-replies : goal.returns-in-Ok-clause-replies
returns-in-Ok-clause-replies g c =
    of_read (g.F.Files.told c.args.files.now c.args.program.now)
    (λ t. OfAllTold (map (λ name. g.F.Files.told c.args.files.now (string_bytes name)) c.args.traces.now)
    (λ texts. HasReplied (JoinReply t texts) c.answer_program.result (g.K.Sink.taken c.args.out.now) (g.K.Sink.taken c.answer_program.new.out)))
    program_limit c.in-Ok.text c.in-Ok.ensures.whole
    (λ t is.
    subst (λ (tolds : List (Option (List ℕ))). OfAllTold tolds (λ texts. HasReplied (JoinReply t texts) c.answer_program.result (g.K.Sink.taken c.args.out.now) (g.K.Sink.taken c.answer_program.new.out)))
    (told_same (g.F.Files.told c.args.files.now) _ c.args.traces.now c.in-Ok.ensures.same) (c.answer_program.ensures.replies t (c.as_slice.ensures ∙ is)))

pub returns-in-Err-Failed-clause-replies : goal.returns-in-Err-Failed-clause-replies
returns-in-Err-Failed-clause-replies g c =
    none_joined (g.F.Files.told c.args.files.now c.args.program.now) (map (λ name. g.F.Files.told c.args.files.now (string_bytes name)) c.args.traces.now) (g.K.Sink.taken c.args.out.now)

pub returns-in-Err-Memory-clause-replies : goal.returns-in-Err-Memory-clause-replies
returns-in-Err-Memory-clause-replies g c =
    none_joined (g.F.Files.told c.args.files.now c.args.program.now) (map (λ name. g.F.Files.told c.args.files.now (string_bytes name)) c.args.traces.now) (g.K.Sink.taken c.args.out.now)
