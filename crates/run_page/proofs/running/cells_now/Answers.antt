use Rattle.std.proofs.Common.{◌≡◌, ℕ, List, ◌∙◌, ap, arith, length, sym}
use Rattle.std.proofs.lemmas.Result.{IfOk-weaker}
use Rattle.da_lang.specs.declared.program.Program.{Program}
use Rattle.da_system.specs.State.{Whichever, program_of}
use Rattle.da_types.proofs.sound.AcceptedLaws.{is_sound}
use Rattle.run_page.specs.Cells.{all_cells}
use Rattle.run_page.specs.RunRows.{names_at}
use Rattle.run_page.proofs.running.cells_now.Goals as goal

pub overflow_cast-count : goal.overflow_cast-count
overflow_cast-count c =
    let (s, stands) = c.requires.ready c.requires.unspent in
    record { fits = omega (arith, c.len-count.ensures, ap (λ (p : Program). length p.procs) (c.program-typed.ensures ∙ sym c.requires.program), (is_sound (program_of c.args.system.now) stands.runs.compiled.accepted).few) }

pub cells_with-requires : goal.cells_with-requires
cells_with-requires c = record { ready = c.requires.ready; unspent = c.requires.unspent; count = c.len-count.ensures ∙ ap (λ (p : Program). length p.procs) (c.program-typed.ensures ∙ sym c.requires.program) }

pub returns : goal.returns
returns c =
    IfOk-weaker c.cells_with.result (λ cells. Whichever c.args.system.now (λ s. cells ≡ all_cells (program_of c.args.system.now) (names_at c.args.asked.names.now) s c.as_slice.result.now))
    (λ cells. (lines : List ℕ) × Whichever c.args.system.now (λ s. cells ≡ all_cells (program_of c.args.system.now) (names_at c.args.asked.names.now) s lines)) (λ cells is. (c.as_slice.result.now, is)) c.cells_with.ensures
