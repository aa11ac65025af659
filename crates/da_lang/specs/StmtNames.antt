-- Names in statements: what they bind for the statements after them, and where a name is unknown or taken.
use Rattle.std.specs.Prelude.{ℕ, List, [], ◌∷◌, ◌++◌, map, Option, Some, None, option_to_list, flat_map}
use Rattle.da_lang.specs.declared.refusal.ScopeKind.{ScopeKind}
use Rattle.da_lang.specs.declared.refusal.ScopeKind.TheVariants as refusal
use Rattle.da_lang.specs.declared.tree.Expr.{Expr}
use Rattle.da_lang.specs.declared.tree.Branch.{Branch}
use Rattle.da_lang.specs.declared.tree.Stmt.{Stmt}
use Rattle.da_lang.specs.declared.tree.Stmt.TheFolds.{fold-Stmt, fold-Branch, fold-TimeoutTree}
use Rattle.da_lang.specs.declared.tree.Stmt.TheOpen.{Stmt-F, Branch-F, TimeoutTree-F}
use Rattle.da_lang.specs.declared.tree.TimeoutTree.{TimeoutTree}
use Rattle.da_lang.specs.ExprNames.{Role, ClassVariable, Local, taken, refused_in, found_names}
use Rattle.da_lang.specs.Scopes.{Scope, Refused, look, entered, at_line}

-- the refusals in a part of a body, by the names in scope where it begins
abbrev pub Refusing : Type 0
Refusing = Scope Role → List (Refused ScopeKind)

-- a statement: the variables that are in scope after it, to the end of its block, and its refusals
pub record Line : Type 0 where
  pub binds : List (List ℕ)
  pub refuses : Refusing

abbrev pub block : List Line → Refusing
block [] scope = []
block (l ∷ ls) scope = l.refuses scope ++ block ls (entered Local l.binds scope)

abbrev pub block_if : Option (List Line) → Refusing
block_if None scope = []
block_if (Some ls) scope = block ls scope

-- parts of which none is in scope of another
abbrev pub beside : List Refusing → Refusing
beside parts scope = flat_map (λ part. part scope) parts

-- expressions at a line
abbrev pub says : ℕ → List Expr → Refusing
says line xs scope = at_line line (flat_map (refused_in scope) xs)

-- only a variable of the class is changed
abbrev pub changed : Option Role → List ScopeKind
changed None = refusal.Unknown ∷ []
changed (Some ClassVariable) = []
changed (Some _) = refusal.Unknown ∷ []

abbrev pub changes : ℕ → List ℕ → Expr → Refusing
changes line name x scope = at_line line (changed (look scope name)) ++ says line (x ∷ []) scope

abbrev pub no_binds : Refusing → Line
no_binds refuses = record { binds = []; refuses = refuses }

-- a header with a condition, and the block that it begins
abbrev pub guarded : ℕ → Expr → List Line → Refusing
guarded line x body scope = says line (x ∷ []) scope ++ block body (entered Local (found_names x) scope)

abbrev pub looped : ℕ → List ℕ → Expr → List Line → Refusing
looped line name x body scope =
    says line (x ∷ []) scope ++ at_line line (taken (look scope name)) ++ block body (entered Local (name ∷ []) scope)

abbrev pub stmt_names : Stmt-F Line Refusing Refusing → Line
stmt_names (Stmt-F.Assign name x line) = no_binds (changes line name x)
stmt_names (Stmt-F.Add name x line) = no_binds (changes line name x)
stmt_names (Stmt-F.Del name x line) = no_binds (changes line name x)
stmt_names (Stmt-F.Send x to line) = no_binds (says line (x ∷ to ∷ []))
stmt_names (Stmt-F.Output x line) = no_binds (says line (x ∷ []))
stmt_names (Stmt-F.Pass line) = no_binds (says line [])
stmt_names (Stmt-F.Label name line) = no_binds (says line [])
stmt_names (Stmt-F.Call name xs line) = no_binds (says line xs)
stmt_names (Stmt-F.If branches other line) = no_binds (beside (branches ++ block_if other ∷ []))
stmt_names (Stmt-F.While x body line) = no_binds (λ scope. says line (x ∷ []) scope ++ block body scope)
stmt_names (Stmt-F.For name x body line) = no_binds (looped line name x body)
stmt_names (Stmt-F.AwaitOne x line) = record { binds = found_names x; refuses = says line (x ∷ []) }
stmt_names (Stmt-F.Await branches timeout line) = no_binds (beside (branches ++ option_to_list timeout))

abbrev pub branch_names : Branch-F Line Refusing Refusing → Refusing
branch_names b = guarded b.line b.cond b.body

abbrev pub timeout_names : TimeoutTree-F Line Refusing Refusing → Refusing
timeout_names t = block t.body

unfoldable pub line_of : Stmt → Line
line_of = fold-Stmt Line Refusing Refusing stmt_names branch_names timeout_names

unfoldable pub branch_of : Branch → Refusing
branch_of = fold-Branch Line Refusing Refusing stmt_names branch_names timeout_names

unfoldable pub timeout_of : TimeoutTree → Refusing
timeout_of = fold-TimeoutTree Line Refusing Refusing stmt_names branch_names timeout_names

-- the refusals of a body
abbrev pub refused_in_body : List Stmt → Refusing
refused_in_body body = block (map line_of body)
