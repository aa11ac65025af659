-- The variables of patterns, each with a line.
use Rattle.std.specs.Prelude.{ℕ, List, map, flat_map, Option, option_to_list}
use Rattle.da_lang.specs.declared.tree.Expr.{Expr}
use Rattle.da_lang.specs.declared.tree.GenTree.{GenTree}
use Rattle.da_lang.specs.declared.tree.PatternTree.{PatternTree}
use Rattle.da_lang.specs.declared.tree.PeerTree.{PeerTree}
use Rattle.da_lang.specs.ClassParts.{Declared}
use Rattle.da_lang.specs.ExprNames.{found_names, pattern_part, peer_part, gen_part}

abbrev pub named_at : ℕ → List (List ℕ) → List Declared
named_at line names = map (λ name. (name, line)) names

unfoldable pub variables_at : ℕ → PatternTree → List Declared
variables_at line p = named_at line (pattern_part p).binds

unfoldable pub peer_variables_at : ℕ → Option PeerTree → List Declared
peer_variables_at line peer = named_at line (flat_map (λ p. (peer_part p).binds) (option_to_list peer))

unfoldable pub gen_variables_at : ℕ → GenTree → List Declared
gen_variables_at line g = named_at line (gen_part g).binds

-- those that a condition binds
unfoldable pub found_at : ℕ → Expr → List Declared
found_at line x = named_at line (found_names x)
