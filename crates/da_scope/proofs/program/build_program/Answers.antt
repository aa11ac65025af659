use Rattle.da_scope.proofs.WithinLimits.{few_classes, few_made}
use Rattle.da_scope.proofs.program.build_program.Goals as goal

pub processes-requires-clause-made : goal.processes-requires-clause-made
processes-requires-clause-made c = few_made c.args.t.now c.requires

pub processes-requires-clause-classes : goal.processes-requires-clause-classes
processes-requires-clause-classes c = few_classes c.args.t.now c.requires
