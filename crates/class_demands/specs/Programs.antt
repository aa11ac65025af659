-- What the classes and the lines of `setup` of a program demand.
use Rattle.std.specs.Prelude.{List, [], ◌++◌, map, flat_map, Option, Some, None, slice_get}
use Rattle.da_lang.specs.declared.program.Class.{Class}
use Rattle.da_lang.specs.declared.program.ProcDecl.{ProcDecl}
use Rattle.da_lang.specs.declared.program.Program.{Program}
use Rattle.da_lang.specs.declared.program.SetupCall.{SetupCall}
use Rattle.type_demands.specs.declared.demand.LineDemand.{LineDemand}
use Rattle.type_demands.specs.declared.known.MessageScheme.{MessageScheme}
use Rattle.type_demands.specs.Demands.{at_line}
use Rattle.type_demands.specs.Syms.{Context}
use Rattle.untyped_laws.specs.Flow.{class_steps}
use Rattle.class_demands.specs.declared.demands.ClassDemands.{ClassDemands}
use Rattle.class_demands.specs.declared.demands.ProgramDemands.{ProgramDemands}
use Rattle.class_demands.specs.declared.demands.SetupDemands.{SetupDemands}
use Rattle.class_demands.specs.Heads.{context_in, after_steps, heads}
use Rattle.class_demands.specs.Statements.{item_demands, handler_demands, args_fit}
use Rattle.class_demands.specs.Unknowns.{declared_slot, declared_message}

module _ (messages : List MessageScheme) where
  -- what stands for the slots of a class, those included that take types on the way
  abbrev pub class_context : Class → Context
  class_context c = context_in messages (after_steps messages c.queries (class_steps c) (map declared_slot c.slots))

  abbrev pub class_lines : Class → List LineDemand
  class_lines c = flat_map (item_demands (class_context c) c.queries) (c.setup ++ c.run) ++ flat_map (handler_demands (class_context c) c.queries) c.handlers

  unfoldable pub class_demands : Class → ClassDemands
  class_demands c = record { heads = heads messages c.queries (class_steps c) (map declared_slot c.slots); demands = class_lines c }

  abbrev pub call_demands : Option Class → Option SetupCall → List LineDemand
  call_demands None call = []
  call_demands (Some c) None = []
  call_demands (Some c) (Some call) = at_line call.line (args_fit (class_context c) c.queries c.params call.args)

  unfoldable pub setup_demands : List Class → ProcDecl → SetupDemands
  setup_demands classes p = record { class = p.class; demands = call_demands (slice_get classes p.class) p.setup }

unfoldable pub program_demands : Program → ProgramDemands
program_demands p = record {
  classes = map (class_demands (map declared_message p.messages)) p.classes;
  setups = map (setup_demands (map declared_message p.messages) p.classes) p.procs;
}
