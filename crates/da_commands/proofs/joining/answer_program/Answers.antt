use Rattle.std.proofs.Common.{◌≡◌, ◌∙◌, ℕ, ap, length, map, rules, sym}
use Rattle.std.specs.String.{string_bytes}
use Rattle.da_core.specs.Compiled.{program_of}
use Rattle.da_lang.specs.declared.program.Program.{Program}
use Rattle.sched_text.specs.TraceText.{trace_limit}
use Rattle.da_front.specs.declared.refusal.RefusedKind.{RefusedKind}
use Rattle.da_front.specs.declared.refusal.RefusedKind.TheVariants.{Traces}
use Rattle.da_commands.specs.declared.status.Status.TheVariants.{Refused}
use Rattle.da_commands.specs.Lines.{refused_text}
use Rattle.da_commands.specs.JoinReplies.{JoinReply, JoinedReply, answered, miscounted, refused}
use Rattle.da_commands.specs.Told.{HasReplied}
use Rattle.da_commands.proofs.JoinLemmas.{fronts_count, of_all_any, of_all_read, texts_count, told_count}
use Rattle.da_commands.proofs.NodeLemmas.{few_accepted}
use Rattle.da_commands.proofs.ReplyLemmas.{read_within, refuses_within}
use Rattle.da_commands.proofs.ToldLemmas.{replied_as, said_replied}
use Rattle.da_front.proofs.VerdictLemmas.{accepts_one, not_refused}
use Rattle.da_commands.proofs.joining.answer_program.Goals as goal

-- A REFUSAL

pub returns-in-Err-Refused-clause-replies : goal.returns-in-Err-Refused-clause-replies
returns-in-Err-Refused-clause-replies g c = λ t is.
    let kind = c.in-Err-Refused.kind in
    let line = c.in-Err-Refused.line in
    of_all_any (map (λ name. g.F.Files.told c.args.files.now (string_bytes name)) c.args.names.now) (λ texts. HasReplied (JoinReply t texts) c.refuse.result (g.K.Sink.taken c.args.out.now) (g.K.Sink.taken c.refuse.new.out))
    (λ texts same. said_replied (JoinReply t texts) _ _ (Refused kind line) (refused_text kind line) _ tt
    (refused kind line (refuses_within _ t _ _ _ is c.in-Err-Refused.field-0-is c.in-Err-Refused.ensures.refused)) c.refuse.ensures.said)

pub returns-then-names-len-clause-replies : goal.returns-then-names-len-clause-replies
returns-then-names-len-clause-replies g c = λ t is.
    let accepts = read_within _ t _ is c.in-Ok.ensures.read in
    let other : length c.args.names.now ≡ length (program_of c.in-Ok.compiled).procs → ⊥ = (search rules) in
    of_all_any (map (λ name. g.F.Files.told c.args.files.now (string_bytes name)) c.args.names.now) (λ texts. HasReplied (JoinReply t texts) c.refuse-then-names-len.result (g.K.Sink.taken c.args.out.now) (g.K.Sink.taken c.refuse-then-names-len.new.out))
    (λ texts same. said_replied (JoinReply t texts) _ _ (Refused Traces 0) (refused_text Traces 0) _ tt
    (miscounted (program_of c.in-Ok.compiled) accepts (λ count. other (sym (told_count (g.F.Files.told c.args.files.now) c.args.names.now) ∙ sym same ∙ count))) c.refuse-then-names-len.ensures.said)

-- THE TRACES ARE READ

pub answer_texts-requires-clause-count : goal.answer_texts-requires-clause-count
answer_texts-requires-clause-count g c =
    let count : length c.args.names.now ≡ length (program_of c.in-Ok.compiled).procs = (search rules) in
    ap length c.as_slice.ensures ∙ texts_count trace_limit (g.F.Files.told c.args.files.now) c.args.names.now c.in-Ok-read_texts.texts c.in-Ok-read_texts.ensures.whole ∙ count

pub answer_texts-requires-clause-few : goal.answer_texts-requires-clause-few
answer_texts-requires-clause-few g c = few_accepted _ _ c.in-Ok.ensures.read

pub returns-in-Ok-read_texts-clause-replies : goal.returns-in-Ok-read_texts-clause-replies
returns-in-Ok-read_texts-clause-replies g c = λ t is.
    let accepts = read_within _ t _ is c.in-Ok.ensures.read in
    let count : length c.args.names.now ≡ length (program_of c.in-Ok.compiled).procs = (search rules) in
    of_all_read (map (λ name. g.F.Files.told c.args.files.now (string_bytes name)) c.args.names.now) (λ texts. HasReplied (JoinReply t texts) c.answer_texts.result (g.K.Sink.taken c.args.out.now) (g.K.Sink.taken c.answer_texts.new.out))
    trace_limit c.in-Ok-read_texts.texts c.in-Ok-read_texts.ensures.whole
    (λ wholes are.
    let size : length wholes ≡ length (program_of c.in-Ok.compiled).procs =
    sym (fronts_count trace_limit wholes) ∙ ap length (sym are) ∙ texts_count trace_limit (g.F.Files.told c.args.files.now) c.args.names.now c.in-Ok-read_texts.texts c.in-Ok-read_texts.ensures.whole ∙ count in
    replied_as (JoinedReply (program_of c.in-Ok.compiled) wholes) (JoinReply t wholes) _ _ (answered (program_of c.in-Ok.compiled) accepts size) c.answer_texts.result (c.answer_texts.ensures.replies wholes (c.as_slice.ensures ∙ are)))

pub returns-in-Err-Failed-clause-refused : goal.returns-in-Err-Failed-clause-refused
returns-in-Err-Failed-clause-refused g c = λ t is failed.
    let accepts = read_within _ t _ is c.in-Ok.ensures.read in
    let count : length c.args.names.now ≡ length (program_of c.in-Ok.compiled).procs = (search rules) in
    (not_refused t (program_of c.in-Ok.compiled) accepts, λ other also. count ∙ ap (λ (p : Program). length p.procs) (sym (accepts_one t (program_of c.in-Ok.compiled) other accepts also)))
