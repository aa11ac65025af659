use Rattle.std.proofs.Common.{◌≡◌, ◌∙◌, ap, subst}
use Rattle.query_plan.specs.declared.plan.Plan.{Plan}
use Rattle.query_plan.specs.PlanLive.{plan_live}
use Rattle.query_plan.specs.Questions.{norm_class}
use Rattle.query_plan.specs.Seen.{IsStored}
use Rattle.da_core.specs.Waits.{waits_of}
use Rattle.da_core.proofs.Compiling.{class_found, member_there, waits_found}
use Rattle.da_core.proofs.KnownLaws.{lower, plain, rooted}
use Rattle.da_core.proofs.compiled.code_with.Goals as goal
use Rattle.da_core.proofs.compiled.code_with.Goals.{in-Some+in_ok-waits-in-Some, in-None}

pub store-requires : goal.store-requires
store-requires c =
    let (class, there) = member_there c.args.t.now.classes c.args.place c.requires.there in
    let planned = c.requires.planned class there in
    record { plan = lower c.args.plan class planned; plain = plain c.args.plan class planned; root = rooted c.args.plan class planned }

pub returns : goal.returns
returns c = λ class there.
    let p = c.args.t.now in
    let lent = c.program.result.now in
    let same = c.program.ensures.same in
    let planned = c.requires.planned class there in
    let waits : c.match-get.waits ≡ waits_of class (norm_class class).flags = elim c.match-get.branch [
      | in-Some+in_ok-waits-in-Some w ↦ waits_found p lent c.args.place class same there w.in-Some.class.now w.in-Some.ensures.value c.args.plan planned w.as_slice.result.now w.as_slice.ensures
          c.match-get.waits (w.waits-is ∙ w.in_ok-waits-in-Some.ensures)
      | in-None w ↦ absurd (class_found p lent c.args.place class same there w.in-None.ensures.value)
    ] in
    record {
      code = c.in_ok-code.ensures class there;
      plan = planned;
      stored = subst (λ (x : Plan). IsStored x.nodes c.in_ok-stored.stored) planned c.in_ok-stored.ensures;
      waits = waits;
      opened = c.in_ok-opened.ensures class there;
      live = c.in_ok-live.ensures ∙ ap (λ (x : Plan). plan_live x.nodes) planned;
    }
