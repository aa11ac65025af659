use Rattle.std.proofs.Common.{◌≡◌, ap, arith, length, subst}
use Rattle.da_lang.specs.declared.program.Program.{Program}
use Rattle.da_core.specs.Compiled.{program_of}
use Rattle.da_commands.specs.Told.{OfTold}
use Rattle.da_commands.proofs.ToldLemmas.{of_read}
use Rattle.da_front.specs.Verdict.{program_limit}
use Rattle.da_front.specs.WatchText.{AcceptsBeside, RefusesBeside}
use Rattle.da_types.proofs.sound.AcceptedLaws.{is_sound}
use Rattle.scout_commands.proofs.ReplyLemmas.{beside_within, no_watch_within, same_refusal}
use Rattle.scout_commands.proofs.watching.watch_from.Goals as goal

pub overflow_cast-count : goal.overflow_cast-count
overflow_cast-count g c = record { fits = omega (arith, c.len-count.ensures, ap (λ (p : Program). length p.procs) c.program.ensures, (is_sound (program_of c.args.compiled.now) c.requires.accepted).few) }

pub returns-in-Ok-read_watch-clause-watch : goal.returns-in-Ok-read_watch-clause-watch
returns-in-Ok-read_watch-clause-watch g c =
    record { compiled = c.in-Ok-read_watch.ensures.compiled; count = omega (arith, c.in-Ok-read_watch.ensures.read.more, c.len-count.ensures, ap (λ (p : Program). length p.procs) c.program.ensures) }

pub returns-in-Ok-read_watch-clause-read : goal.returns-in-Ok-read_watch-clause-read
returns-in-Ok-read_watch-clause-read g c =
    let size = length (program_of c.args.compiled.now).procs in
    let counted : c.len-count.result ≡ size = omega (arith, c.len-count.ensures, ap (λ (p : Program). length p.procs) c.program.ensures) in
    of_read (g.F.Files.told c.args.files.now c.args.name.now) (λ v. AcceptsBeside v size (program_of c.in-Ok-read_watch.watch)) program_limit c.in-Ok.text c.in-Ok.ensures.whole
    (λ v is. beside_within c.in-Ok.text v _ c.len-count.result size (program_of c.in-Ok-read_watch.watch) is c.as_slice.ensures counted c.in-Ok-read_watch.ensures.read)

pub returns-in-Err-Refused-clause-refused : goal.returns-in-Err-Refused-clause-refused
returns-in-Err-Refused-clause-refused g c = λ kind line is.
    let (same_kind, same_line) = same_refusal c.in-Err-Refused.kind kind c.in-Err-Refused.line line is in
    let told = g.F.Files.told c.args.files.now c.args.name.now in
    let size = length (program_of c.args.compiled.now).procs in
    let counted : c.len-count.result ≡ size = omega (arith, c.len-count.ensures, ap (λ (p : Program). length p.procs) c.program.ensures) in
    let refuses : OfTold told (λ v. RefusesBeside v size c.in-Err-Refused.kind c.in-Err-Refused.line) =
    of_read told (λ v. RefusesBeside v size c.in-Err-Refused.kind c.in-Err-Refused.line) program_limit c.in-Ok.text c.in-Ok.ensures.whole
    (λ v read. no_watch_within c.in-Ok.text v _ _ c.in-Err-Refused.kind c.in-Err-Refused.line c.len-count.result size read c.as_slice.ensures counted c.in-Err-Refused.field-0-is c.in-Err-Refused.ensures.refused) in
    subst (λ k. OfTold told (λ v. RefusesBeside v size k line)) same_kind (subst (λ n. OfTold told (λ v. RefusesBeside v size c.in-Err-Refused.kind n)) same_line refuses)
