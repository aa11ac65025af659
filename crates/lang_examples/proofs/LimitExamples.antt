-- Trees that limits refuse, and a program within all of them.
use Rattle.std.specs.Prelude.{◌≡◌, refl, [], ◌∷◌, codes, Some, None}
use Rattle.da_lang.specs.declared.program.Class.{Class}
use Rattle.da_lang.specs.declared.program.Item.{roll-Item}
use Rattle.da_lang.specs.declared.program.ItemKind.TheVariants as it
use Rattle.da_lang.specs.declared.refusal.LimitKind.TheVariants as limit
use Rattle.da_lang.specs.declared.tree.ClassTree.{ClassTree}
use Rattle.da_lang.specs.declared.tree.MainLine.TheVariants as main_line
use Rattle.da_lang.specs.declared.tree.Stmt.TheVariants as stmt
use Rattle.da_lang.specs.BodyMeaning.{copies}
use Rattle.da_lang.specs.Calls.{leads_within}
use Rattle.da_lang.specs.Limits.{limit_fault, limit_refusals, most_classes, most_processes, most_items, most_blocks, most_variables, most_parts, most_generators}
use Rattle.da_lang.specs.Resolution.{resolved_class}
use Rattle.da_lang.proofs.Computing.{finding, resolving}
use Rattle.da_lang.proofs.CountsAt.{counting, measuring_depth}
use Rattle.lang_examples.proofs.NameExamples.{tree_of, run}
use Rattle.lang_examples.proofs.ResolutionExamples.{ping_tree, ping_class_resolved}
use Rattle.da_lang.proofs.typing.TypesAt.{widening}

-- a class whose `run` does nothing
abbrev idle_tree : ClassTree
idle_tree = record { name = codes "C"; members = run (stmt.Pass 6 ∷ []) ∷ []; line = 1 }

abbrev idle : Class
idle = record { name = codes "C"; slots = []; params = []; setup = []; run = roll-Item (record { line = 6; kind = it.Pass }) ∷ []; handlers = []; queries = []; line = 1 }

idle_resolved : resolved_class idle_tree ≡ idle
unfolding resolved_class copies
idle_resolved = simp resolving refl

-- 63 processes more than the one that `main` makes already are too many with one more
too_many_processes : limit_fault (tree_of (run (stmt.Pass 6 ∷ []) ∷ []) (main_line.New (codes "b") (codes "C") (Some 63) 21 ∷ main_line.New (codes "c") (codes "C") None 22 ∷ []))
    ≡ Some (record { kind = limit.Processes; line = 22 })
unfolding limit_refusals leads_within most_classes most_processes most_items most_blocks most_variables most_parts most_generators
too_many_processes = simp (idle_resolved, finding, counting, measuring_depth) refl

ping_within : limit_refusals ping_tree ≡ []
unfolding limit_refusals leads_within most_classes most_processes most_items most_blocks most_variables most_parts most_generators
ping_within = simp (ping_class_resolved, finding, counting, measuring_depth, widening) refl
