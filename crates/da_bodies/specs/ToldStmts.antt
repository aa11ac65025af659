-- The names in scope and the refusal that is reported, as statements are read on.
use Rattle.std.specs.Prelude.{List, flat_map, Option}
use Rattle.da_lang.specs.declared.tree.Branch.{Branch}
use Rattle.da_lang.specs.declared.tree.Stmt.{Stmt}
use Rattle.da_lang.specs.declared.tree.TimeoutTree.{TimeoutTree}
use Rattle.da_lang.specs.ExprNames.{Role, Local}
use Rattle.da_lang.specs.Scopes.{Scope}
use Rattle.da_lang.specs.StmtNames.{line_of, branch_of, timeout_of, refused_in_body}
use Rattle.da_bodies.specs.Telling.{Refusal, telling}
use Rattle.da_bodies.specs.Told.{entered_each}

unfoldable pub told_stmt : Scope Role → Option Refusal → Stmt → Option Refusal
told_stmt scope found s = telling found ((line_of s).refuses scope)

unfoldable pub told_branch : Scope Role → Option Refusal → Branch → Option Refusal
told_branch scope found b = telling found (branch_of b scope)

unfoldable pub told_timeout : Scope Role → Option Refusal → TimeoutTree → Option Refusal
told_timeout scope found t = telling found (timeout_of t scope)

unfoldable pub told_block : Scope Role → Option Refusal → List Stmt → Option Refusal
told_block scope found body = telling found (refused_in_body body scope)

-- the names in scope after statements of a block
unfoldable pub after_stmts : Scope Role → List Stmt → Scope Role
after_stmts scope body = entered_each Local (flat_map (λ s. (line_of s).binds) body) scope
