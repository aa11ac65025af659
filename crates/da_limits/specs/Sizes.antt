-- What is written in the statements of a body, each with its line, as far as limits ask for it.
use Rattle.std.specs.Prelude.{ℕ, List, map, flat_map}
use Rattle.da_lang.specs.declared.tree.Branch.{Branch}
use Rattle.da_lang.specs.declared.tree.Stmt.{Stmt}
use Rattle.da_lang.specs.Deeds.{Deed, deeds_of, deeds_of_branch}
use Rattle.da_lang.specs.Written.{of, writing}
use Rattle.da_limits.specs.declared.sizes.DeedSize.{DeedSize}
use Rattle.da_limits.specs.declared.written.Written.{Written}
use Rattle.da_limits.specs.Writings.{seen}

abbrev pub size_at : ℕ → Written → DeedSize
size_at line written = record { line = line; written = written }

abbrev pub deed_size : Deed → DeedSize
deed_size d = size_at d.line (seen (of (map writing d.says)))

unfoldable pub sizes_of : Stmt → List DeedSize
sizes_of s = map deed_size (deeds_of s)

unfoldable pub sizes_of_branch : Branch → List DeedSize
sizes_of_branch b = map deed_size (deeds_of_branch b)

unfoldable pub sizes : List Stmt → List DeedSize
sizes stmts = flat_map sizes_of stmts

unfoldable pub sizes_of_branches : List Branch → List DeedSize
sizes_of_branches branches = flat_map sizes_of_branch branches
