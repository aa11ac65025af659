-- What is answered of a tree that has no program.
use Rattle.std.specs.Prelude.{◌≡◌, List, [], Some}
use Rattle.da_lang.specs.declared.tree.Tree.{Tree}
use Rattle.da_lang.specs.Limits.{limit_fault}
use Rattle.da_lang.specs.NameRules.{name_fault, name_refusals}
use Rattle.da_scope.specs.declared.top.ScopeFault.{ScopeFault}
use Rattle.da_scope.specs.declared.top.ScopeFault.TheVariants.{Refused, Limit, Memory}

-- names refuse the tree so; or they do not, and it exceeds this limit; or memory was refused
abbrev pub IsRefusedAs : Tree → ScopeFault → Type 0
IsRefusedAs t (Refused kind line) = name_fault t ≡ Some (record { kind = kind; line = line })
IsRefusedAs t (Limit which line) = (name_refusals t ≡ []) × (limit_fault t ≡ Some (record { kind = which; line = line }))
IsRefusedAs t Memory = Unit {0}
