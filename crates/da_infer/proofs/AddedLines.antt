-- How many lines, parts and variables are added to a program.
use Rattle.std.specs.Prelude.{ℕ, suc, ◌+◌, List, [], ◌∷◌, length}
use Rattle.da_lang.specs.declared.tree.ClassTree.{ClassTree}
use Rattle.added_names.specs.Changes.{added_variables}
use Rattle.added_names.specs.Tags.{Tags}

-- how many variables are added to classes
abbrev pub are_in : List ClassTree → ℕ
are_in [] = 0
are_in (c ∷ cs) = length (added_variables c) + are_in cs

-- how many tags there are, and parts of them
abbrev pub parts_in_lines : Tags → ℕ
parts_in_lines [] = 0
parts_in_lines (x ∷ xs) = suc x.parts + parts_in_lines xs
