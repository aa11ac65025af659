use Rattle.std.proofs.Common.{◌∙◌, ap, inl, inr}
use Rattle.std.specs.Prelude.{not}
use Rattle.da_lang.specs.declared.refusal.ScopeKind.TheVariants.{NoRun, Twice}
use Rattle.da_lang.specs.NameRules.{again}
use Rattle.da_lang.specs.Scopes.{at_lines}
use Rattle.da_names.specs.ClassRules.{bodies_in, member_refusals}
use Rattle.da_bodies.specs.Repeats.{declared_in}
use Rattle.da_bodies.specs.Telling.{telling}
use Rattle.da_bodies.proofs.AgainLaws.{told_if}
use Rattle.da_names.proofs.ClassSteps.{four_steps, no_run_told}
use Rattle.da_names.proofs.classes.check_members.Goals as goal
use Rattle.da_names.proofs.classes.check_members.Goals.{then-not-tell_after, else-not-tell_after}

pub returns : goal.returns
unfolding member_refusals
returns c =
    let bs = bodies_in c.args.bodies.now in
    let some = c.tell_after-2.result in
    let last = c.tell_after-2.new.least in
    no_run_told c.args.line bs last c.if-not-tell_after.least some c.tell_after-2.ensures.some
    (told_if NoRun c.args.line last c.if-not-tell_after.least (not some) (elim c.if-not-tell_after.branch [
      | then-not-tell_after w ↦ inl (ap not w.if-not-tell_after.true, w.least-is ∙ w.tell.ensures)
      | else-not-tell_after w ↦ inr (ap not w.if-not-tell_after.false, w.least-is)
    ]))
    ∙ four_steps c.args.least.now c.tell_again.new.least c.tell_after.new.least last _ _ _ _
    (c.in_ok-tell_again.ensures ∙ ap (λ names. telling c.args.least.now (at_lines Twice (again names))) (ap declared_in c.as_slice.ensures ∙ c.in_ok-methods.ensures))
    c.tell_after.ensures.told c.tell_after-2.ensures.told
