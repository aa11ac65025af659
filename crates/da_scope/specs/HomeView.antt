-- The bodies of a class that code asks for.
use Rattle.std.specs.Prelude.{Bool, List, Option, find}
use Rattle.da_lang.specs.declared.tree.ClassTree.{ClassTree}
use Rattle.da_lang.specs.declared.tree.Param.{Param}
use Rattle.da_lang.specs.declared.tree.Stmt.{Stmt}
use Rattle.da_lang.specs.ClassParts as class
use Rattle.da_lang.specs.ClassParts.{Place, bodies, is_setup, is_run}
use Rattle.da_scope.specs.declared.bodies.Body.{Body}
use Rattle.da_scope.specs.declared.bodies.Wanted.{Wanted}
use Rattle.da_scope.specs.declared.bodies.Wanted.TheVariants.{Setup, Run}

abbrev pub wants : Wanted → Place → Bool
wants Setup = is_setup
wants Run = is_run

-- the first body that is wanted
abbrev pub wanted_of : Wanted → ClassTree → Option class.Body
wanted_of wanted c = find (λ b. wants wanted b.place) (bodies c)

-- the parameters and the statements of a body, here and in code
abbrev pub parts : class.Body → List Param × List Stmt
parts b = (b.params, b.stmts)

abbrev pub parts_in : Body → List Param × List Stmt
parts_in b = (b.params.now, b.stmts.now)
