use Rattle.std.proofs.Common.{◌≡◌, ℕ, List, [], take, filter_map}
use Rattle.da_lang.specs.ExprNames.{Made}
use Rattle.da_lang.specs.NameRules.{first_class, made_name, main_refusals}
use Rattle.da_names.specs.MainView.{class_at}
use Rattle.da_bodies.specs.Telling.{telling}
use Rattle.da_bodies.specs.Told.{entered_each}
use Rattle.da_names.proofs.main_lines.check_main.Given as goal

abbrev pub invariant-loop-line : goal.invariant-loop-line
invariant-loop-line l = record {
  told : l.least ≡ telling l.initial.least (main_refusals l.tree [] (take l.line-index l.line-items));
  entered : l.names ≡ entered_each Made (filter_map made_name (take l.line-index l.line-items)) [];
  first : (q : List ℕ) → class_at l.classes q ≡ first_class (take l.line-index l.line-items) q;
}
