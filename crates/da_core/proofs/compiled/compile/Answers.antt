use Rattle.std.proofs.Common.{◌≡◌, ◌∙◌, Some, ap, arith, length}
use Rattle.std.proofs.lemmas.Option.{slice_get_within}
use Rattle.da_lang.specs.declared.program.Program.{Program}
use Rattle.da_lang.specs.Typing.{least_of}
use Rattle.da_core.proofs.Compiling.{came_as, member_there, one_large, one_more}
use Rattle.da_core.proofs.compiled.compile.Goals as goal
use Rattle.da_core.proofs.compiled.compile.Goals.{in-Ok+in_ok-push-in-Ok, in-Err-TooMany}

pub classes-preserved : goal.classes-preserved
classes-preserved c =
    let size : c.len-count.result ≡ length c.args.t.classes = c.len-count.ensures ∙ ap (λ (p : Program). length p.classes) c.program.ensures.same in
    let (class, there) = member_there c.args.t.classes c.classes.place (omega (arith, size, c.classes-test.true)) in
    elim c.match-class_code.branch [
      | in-Ok+in_ok-push-in-Ok w ↦ came_as _ _ _ _ _ _ (w.codes-is ∙ w.in_ok-push-in-Ok.ensures.ok) w.least-is
          (one_more _ _ _ _ c.classes.invariant class there w.in-Ok.code w.in-Ok.ensures.made (w.in-Ok.ensures.few class there))
      | in-Err-TooMany w ↦
          let arm = w.in-Err-TooMany in
          let told = arm.ensures.many arm.line arm.field-0-is class there in
          came_as _ _ _ _ _ _ w.codes-is (w.least-is ∙ ap Some (w.lesser.ensures ∙ ap (λ line. least_of line c.classes.least) arm.line-is))
          (one_large _ _ _ _ c.classes.invariant class there arm.line told.0 told.1)
    ]

pub returns-in-None-clause-compiled : goal.returns-in-None-clause-compiled
returns-in-None-clause-compiled c =
    let size : c.len-count.result ≡ length c.args.t.classes = c.len-count.ensures ∙ ap (λ (p : Program). length p.classes) c.program.ensures.same in
    let coded = c.classes.invariant.coded c.in-None.is in
    record {
      accepted = c.program.ensures.accepted;
      classes = λ place class there. coded.each place class there (omega (arith, size, c.classes-test.false, slice_get_within c.args.t.classes place class there));
    }
