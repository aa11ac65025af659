-- What a statement refuses depends on what the names in scope stand for alone.
use Rattle.std.specs.Prelude.{◌≡◌, refl, ℕ, List, [], ◌∷◌, ◌++◌, map, flat_map, Option, Some, None, option_map, option_to_list}
use Rattle.std.specs.List.{AllByRecursion}
use Rattle.std.proofs.Common.{◌∙◌, sym, ap, subst}
use Rattle.da_lang.specs.declared.tree.Branch.{Branch}
use Rattle.da_lang.specs.declared.tree.Expr.{Expr}
use Rattle.da_lang.specs.declared.tree.Stmt.{Stmt}
use Rattle.da_lang.specs.declared.tree.TimeoutTree.{TimeoutTree}
use Rattle.da_lang.specs.ExprNames.{Role, Local, taken, refused_in, found_names}
use Rattle.da_lang.specs.Scopes.{Scope, look, entered, at_line}
use Rattle.da_lang.specs.StmtNames.{Refusing, Line, block, block_if, beside, says, changed, changes, guarded, looped, line_of, branch_of, timeout_of}
use Rattle.da_lang.proofs.CondInduction.{Where}
use Rattle.da_lang.proofs.StmtInduction.{StmtCases, stmt_induction}
use Rattle.da_lang.proofs.StmtNamesAt as at
use Rattle.da_bodies.proofs.PartLaws.{all_append, all_map, all_option, all_of, expr_plain}
use Rattle.da_bodies.proofs.SameLook.{SameLook, same_entered}

pub record Steady (r : Refusing) : Type 0 where
  pub at : (s t : Scope Role) → SameLook s t → r s ≡ r t

abbrev pub SteadyLine : Line → Type 0
SteadyLine l = Steady l.refuses

block_same : (ls : List Line) → AllByRecursion SteadyLine ls → (s t : Scope Role) → SameLook s t → block ls s ≡ block ls t
block_same [] h s t same = refl
block_same (l ∷ ls) h s t same =
    ap (λ rs. rs ++ block ls (entered Local l.binds s)) (h.0.at s t same)
    ∙ ap (λ rs. l.refuses t ++ rs) (block_same ls h.1 (entered Local l.binds s) (entered Local l.binds t) (same_entered Local l.binds s t same))

beside_same : (rs : List Refusing) → AllByRecursion Steady rs → (s t : Scope Role) → SameLook s t → beside rs s ≡ beside rs t
beside_same [] h s t same = refl
beside_same (r ∷ rs) h s t same = ap (λ xs. xs ++ beside rs s) (h.0.at s t same) ∙ ap (λ xs. r t ++ xs) (beside_same rs h.1 s t same)

kinds_same : (xs : List Expr) (s t : Scope Role) → SameLook s t → flat_map (refused_in s) xs ≡ flat_map (refused_in t) xs
kinds_same [] s t same = refl
kinds_same (x ∷ xs) s t same = ap (λ ks. ks ++ flat_map (refused_in s) xs) ((expr_plain x).kinds Local Local s t same) ∙ ap (λ ks. refused_in t x ++ ks) (kinds_same xs s t same)

says_steady : (line : ℕ) (xs : List Expr) → Steady (says line xs)
says_steady line xs = record { at = λ s t same. ap (at_line line) (kinds_same xs s t same) }

changes_steady : (line : ℕ) (name : List ℕ) (x : Expr) → Steady (changes line name x)
changes_steady line name x = record {
  at = λ s t same. ap (λ k. at_line line (changed k) ++ says line (x ∷ []) s) (same.at name) ∙ ap (λ rs. at_line line (changed (look t name)) ++ rs) ((says_steady line (x ∷ [])).at s t same);
}

guarded_steady : (line : ℕ) (x : Expr) (ls : List Line) → AllByRecursion SteadyLine ls → Steady (guarded line x ls)
guarded_steady line x ls h = record {
  at = λ s t same. ap (λ rs. rs ++ block ls (entered Local (found_names x) s)) ((says_steady line (x ∷ [])).at s t same)
      ∙ ap (λ rs. says line (x ∷ []) t ++ rs) (block_same ls h (entered Local (found_names x) s) (entered Local (found_names x) t) (same_entered Local (found_names x) s t same));
}

while_steady : (line : ℕ) (x : Expr) (ls : List Line) → AllByRecursion SteadyLine ls → Steady (λ scope. says line (x ∷ []) scope ++ block ls scope)
while_steady line x ls h = record {
  at = λ s t same. ap (λ rs. rs ++ block ls s) ((says_steady line (x ∷ [])).at s t same) ∙ ap (λ rs. says line (x ∷ []) t ++ rs) (block_same ls h s t same);
}

looped_steady : (line : ℕ) (name : List ℕ) (x : Expr) (ls : List Line) → AllByRecursion SteadyLine ls → Steady (looped line name x ls)
looped_steady line name x ls h = record {
  at = λ s t same. ap (λ rs. rs ++ at_line line (taken (look s name)) ++ block ls (entered Local (name ∷ []) s)) ((says_steady line (x ∷ [])).at s t same)
      ∙ ap (λ k. says line (x ∷ []) t ++ at_line line (taken k) ++ block ls (entered Local (name ∷ []) s)) (same.at name)
      ∙ ap (λ rs. says line (x ∷ []) t ++ at_line line (taken (look t name)) ++ rs) (block_same ls h (entered Local (name ∷ []) s) (entered Local (name ∷ []) t) (same_entered Local (name ∷ []) s t same));
}

all_lines : (body : List Stmt) → AllByRecursion (λ s. SteadyLine (line_of s)) body → AllByRecursion SteadyLine (map line_of body)
all_lines body h = all_map SteadyLine line_of body h

beside_steady : (rs : List Refusing) → AllByRecursion Steady rs → Steady (beside rs)
beside_steady rs h = record { at = beside_same rs h }

block_if_steady : (other : Option (List Stmt)) → Where (AllByRecursion (λ s. SteadyLine (line_of s))) other → Steady (block_if (option_map (map line_of) other))
block_if_steady None h = record { at = λ s t same. refl }
block_if_steady (Some body) h = record { at = block_same (map line_of body) (all_lines body h) }

if_steady : (branches : List Branch) (other : Option (List Stmt)) → AllByRecursion (λ b. Steady (branch_of b)) branches → Where (AllByRecursion (λ s. SteadyLine (line_of s))) other → Steady (beside (map branch_of branches ++ block_if (option_map (map line_of) other) ∷ []))
if_steady branches other h k = beside_steady _ (all_append Steady (map branch_of branches) (block_if (option_map (map line_of) other) ∷ []) (all_map Steady branch_of branches h) (block_if_steady other k, tt))

await_steady : (branches : List Branch) (over : Option TimeoutTree) → AllByRecursion (λ b. Steady (branch_of b)) branches → Where (λ t. Steady (timeout_of t)) over → Steady (beside (map branch_of branches ++ option_to_list (option_map timeout_of over)))
await_steady branches over h k = beside_steady _ (all_append Steady (map branch_of branches) (option_to_list (option_map timeout_of over)) (all_map Steady branch_of branches h) (all_option Steady timeout_of over k))

abbrev cases : StmtCases
cases = record {
  Of_stmt = λ s. SteadyLine (line_of s);
  Of_branch = λ b. Steady (branch_of b);
  Of_timeout = λ t. Steady (timeout_of t);
  assign = λ name x line. subst SteadyLine (sym (at.line_of-Assign name x line)) (changes_steady line name x);
  add = λ name x line. subst SteadyLine (sym (at.line_of-Add name x line)) (changes_steady line name x);
  delete = λ name x line. subst SteadyLine (sym (at.line_of-Del name x line)) (changes_steady line name x);
  send = λ x to line. subst SteadyLine (sym (at.line_of-Send x to line)) (says_steady line (x ∷ to ∷ []));
  output = λ x line. subst SteadyLine (sym (at.line_of-Output x line)) (says_steady line (x ∷ []));
  pass = λ line. subst SteadyLine (sym (at.line_of-Pass line)) (says_steady line []);
  label = λ name line. subst SteadyLine (sym (at.line_of-Label name line)) (says_steady line []);
  call = λ name xs line. subst SteadyLine (sym (at.line_of-Call name xs line)) (says_steady line xs);
  conditional = λ branches other line h k. subst SteadyLine (sym (at.line_of-If branches other line)) (if_steady branches other h k);
  loop = λ x body line h. subst SteadyLine (sym (at.line_of-While x body line)) (while_steady line x (map line_of body) (all_lines body h));
  each = λ name x body line h. subst SteadyLine (sym (at.line_of-For name x body line)) (looped_steady line name x (map line_of body) (all_lines body h));
  await_one = λ x line. subst SteadyLine (sym (at.line_of-AwaitOne x line)) (says_steady line (x ∷ []));
  await = λ branches over line h k. subst SteadyLine (sym (at.line_of-Await branches over line)) (await_steady branches over h k);
  branch = λ x body line h. subst Steady (sym (at.branch_of-of x body line)) (guarded_steady line x (map line_of body) (all_lines body h));
  timeout = λ body line h. subst Steady (sym (at.timeout_of-of body line)) (record { at = block_same (map line_of body) (all_lines body h) });
}

pub stmt_steady : (s : Stmt) → SteadyLine (line_of s)
stmt_steady = stmt_induction cases

pub body_same : (body : List Stmt) (s t : Scope Role) → SameLook s t → block (map line_of body) s ≡ block (map line_of body) t
body_same body = block_same (map line_of body) (all_lines body (all_of (λ s. SteadyLine (line_of s)) stmt_steady body))
