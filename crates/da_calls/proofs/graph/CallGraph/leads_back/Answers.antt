use Rattle.std.proofs.Common.{◌≡◌, Some, ◌∙◌}
use Rattle.std.specs.List.{slice_get}
use Rattle.da_lang.specs.ClassParts.{Body}
use Rattle.da_calls.specs.CallGraph.{methods_in}
use Rattle.da_calls.proofs.CallAnswers.{back_unknown, never_back}
use Rattle.da_calls.proofs.CallMethods.{slice_get-some}
use Rattle.da_calls.proofs.graph.CallGraph.leads_back.Goals as goal

pub returns-in-None : goal.returns-in-None
returns-in-None c = back_unknown _ _ _ _ c.in-None.ensures.method c.eq.ensures

pub returns-in-None-number : goal.returns-in-None-number
returns-in-None-number c =
    let there : (b : Body) × (slice_get (methods_in c.args.self.now) c.in-Some.first ≡ Some b) = slice_get-some (methods_in c.args.self.now) c.in-Some.first c.in-Some.ensures.within in
    never_back c.args.self.now.class.now c.args.holder.now c.args.name.now there.0 (c.in-Some.ensures.method ∙ there.1) c.in-None-number.ensures.method
