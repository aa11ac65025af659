use Rattle.da_core.proofs.Compiling.{code_there, plan_there}
use Rattle.da_core.proofs.compiled.Compiled.plan.Goals as goal

pub unreachable-requires : goal.unreachable-requires
unreachable-requires c = code_there c.args.self.now c.requires.compiled c.args.class c.requires.there c.in_default.ensures.value

pub returns : goal.returns
returns c = λ class there. plan_there c.args.self.now c.requires.compiled c.args.class class there c.in-Some.code.now c.in-Some.ensures.value
