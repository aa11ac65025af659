-- What limits a tree exceeds, in the order in which it is looked for.
use Rattle.std.specs.Prelude.{ℕ, List, [], ◌∷◌, flat_map, Option}
use Rattle.da_lang.specs.declared.tree.ClassTree.{ClassTree}
use Rattle.da_lang.specs.declared.tree.MainLine.{MainLine}
use Rattle.da_lang.specs.declared.tree.MessageDecl.{MessageDecl}
use Rattle.da_lang.specs.Limits.{parts_in_main, parts_in_message}
use Rattle.da_bodies.specs.Telling.{LimitRefusal as Refusal}
use Rattle.da_limits.specs.LimitWalk.{class_told}
use Rattle.da_limits.specs.Loops.{NoneLeadsBack}

unfoldable pub classes_told : List ClassTree → Option Refusal → Option Refusal
classes_told [] found = found
classes_told (c ∷ cs) found = classes_told cs (class_told c found)

unfoldable pub message_lines : List MessageDecl → List ℕ
message_lines ms = flat_map parts_in_message ms

unfoldable pub main_lines : List MainLine → List ℕ
main_lines ls = flat_map parts_in_main ls

-- in each of these no call leads back
abbrev pub NoneLeadBack : List ClassTree → Type 0
NoneLeadBack [] = Unit {0}
NoneLeadBack (c ∷ cs) = NoneLeadsBack c × NoneLeadBack cs
