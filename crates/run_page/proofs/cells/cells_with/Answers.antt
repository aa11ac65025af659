use Rattle.std.proofs.Common.{◌≤◌, ◌<◌, arith, length, refl}
use Rattle.da_system.specs.State.{program_of}
use Rattle.run_page.specs.RunRows.{names_at}
use Rattle.run_page.proofs.CellLemmas.{cells_all, cells_first, cells_next}
use Rattle.run_page.proofs.cells.cells_with.Goals as goal

pub loop-place-init : goal.loop-place-init
loop-place-init c = λ s stands. cells_first (program_of c.args.system.now) (names_at c.args.names.now) s c.args.lines.now c.new-cells.result c.new-cells.ensures

pub loop-place-preserved : goal.loop-place-preserved
loop-place-preserved c = λ s stands.
    let inside : c.loop-place.place < length s.worlds = omega (arith, c.loop-place-test.true, c.requires.count, stands.runs.sound.each) in
    cells_next (program_of c.args.system.now) (names_at c.args.names.now) s c.args.lines.now c.loop-place.place _ _ _ c.loop-place.cells c.push.new.self c.in_ok-own.own inside refl c.names_of.ensures c.line_at.ensures (c.loop-place.invariant s stands)
    (c.in_ok-own.ensures s stands) c.in_ok-push.ensures.ok

pub returns : goal.returns
returns c = λ s stands.
    let past : length s.worlds ≤ c.loop-place.place = omega (arith, c.loop-place-test.false, c.requires.count, stands.runs.sound.each) in
    cells_all (program_of c.args.system.now) (names_at c.args.names.now) s c.args.lines.now c.loop-place.place c.loop-place.cells past (c.loop-place.invariant s stands)
