use Rattle.std.proofs.Common.{refl}
use Rattle.code_gen.proofs.ClassLaws.{class_is_code}
use Rattle.code_gen.proofs.classes.class_code.Goals as goal

pub returns : goal.returns
returns c =
    class_is_code c.args.program.now c.args.number c.args.class.now _ _ _ _ _ _ _ _ _ _ _ _ _ _ _ c.as_slice-procs.ensures c.as_slice-2.ensures c.as_slice-3.ensures c.requires.few c.new.ensures c.new-2.ensures
    c.in_ok-leaves.ensures c.here-run.ensures c.as_slice.ensures c.fill_jumps.ensures c.in_ok-emit_block.ensures c.in_ok-put.ensures c.in_ok-handlers.ensures refl
