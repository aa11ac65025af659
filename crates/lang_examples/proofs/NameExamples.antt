-- A tree for each kind of refusal by names. Each has one class and makes one process of it.
use Rattle.std.specs.Prelude.{◌≡◌, refl, ℕ, pos, true, false, List, [], ◌∷◌, codes, Option, Some, None}
use Rattle.da_lang.specs.declared.refusal.ScopeKind.{ScopeKind}
use Rattle.da_lang.specs.declared.refusal.ScopeKind.TheVariants as refusal
use Rattle.da_lang.specs.declared.tree.Branch.{roll-Branch}
use Rattle.da_lang.specs.declared.tree.Expr.TheVariants as ex
use Rattle.da_lang.specs.declared.tree.Expr.TheVariants.{outs-Quant, outs-Name, outs-Int, outs-Truth}
use Rattle.da_lang.specs.declared.tree.GenTree.{roll-GenTree}
use Rattle.da_lang.specs.declared.tree.MainLine.{MainLine}
use Rattle.da_lang.specs.declared.tree.MainLine.TheVariants as main_line
use Rattle.da_lang.specs.declared.tree.Member.{Member}
use Rattle.da_lang.specs.declared.tree.Member.TheVariants as member
use Rattle.da_lang.specs.declared.tree.PatternTree.TheVariants as pattern
use Rattle.da_lang.specs.declared.tree.SourceTree.TheVariants as source
use Rattle.da_lang.specs.declared.tree.Stmt.{Stmt}
use Rattle.da_lang.specs.declared.tree.Stmt.TheVariants as stmt
use Rattle.da_lang.specs.declared.tree.TimeoutTree.{roll-TimeoutTree}
use Rattle.da_lang.specs.declared.tree.Tree.{Tree}
use Rattle.da_lang.specs.declared.ty.ChannelKind.TheVariants as kind
use Rattle.da_lang.specs.declared.ty.Ty.TheVariants as ty
use Rattle.da_lang.specs.Calls.{leads_within, yields_within}
use Rattle.da_lang.specs.NameRules.{name_fault, name_refusals}
use Rattle.da_lang.specs.Scopes.{Refused}
use Rattle.da_lang.proofs.Computing.{finding}

-- class C, on line 1, with these members, and `a = new(C)` on line 20
abbrev pub tree_of : List Member → List MainLine → Tree
tree_of members lines = record {
  kind = kind.UnorderedUnreliable;
  messages = [];
  classes = record { name = codes "C"; members = members; line = 1 } ∷ [];
  main = main_line.New (codes "a") (codes "C") None 20 ∷ lines;
}

abbrev told : ScopeKind → ℕ → Option (Refused ScopeKind)
told kind line = Some (record { kind = kind; line = line })

-- `def run():` on line 5 with these statements
abbrev pub run : List Stmt → Member
run stmts = member.Run stmts 5

-- a variable is assigned to itself
nothing_refused : name_fault (tree_of (member.Var (codes "x") ty.Int 2 ∷ run (stmt.Assign (codes "x") (ex.Name (codes "x")) 6 ∷ []) ∷ []) []) ≡ None
unfolding name_refusals leads_within yields_within
nothing_refused = simp finding refl

-- a `timeout` after an alternative
timeout : name_fault (tree_of (run (stmt.Await (roll-Branch (record { cond = ex.Truth true; body = stmt.Pass 7 ∷ []; line = 6 }) ∷ []) (Some (roll-TimeoutTree (record { body = stmt.Pass 9 ∷ []; line = 8 }))) 6 ∷ []) ∷ []) []) ≡ None
unfolding name_refusals leads_within yields_within
timeout = simp finding refl

-- a `receive` at a label of `run`; at none that is there; at one that is named twice
abbrev at_labels : List (List ℕ) → Tree
at_labels labels = tree_of (run (stmt.Label (codes "l") 6 ∷ []) ∷ member.Receive pattern.Wild None labels (stmt.Pass 8 ∷ []) 7 ∷ []) []

at_label : name_fault (at_labels (codes "l" ∷ [])) ≡ None
unfolding name_refusals leads_within yields_within
at_label = simp finding refl

at_no_label : name_fault (at_labels (codes "l" ∷ codes "m" ∷ [])) ≡ told refusal.Unknown 7
unfolding name_refusals leads_within yields_within
at_no_label = simp finding refl

at_label_twice : name_fault (at_labels (codes "l" ∷ codes "l" ∷ [])) ≡ told refusal.Twice 7
unfolding name_refusals leads_within yields_within
at_label_twice = simp finding refl

-- where a name is no label and another one is named twice, the first is reported
at_both : name_fault (at_labels (codes "l" ∷ codes "l" ∷ codes "m" ∷ [])) ≡ told refusal.Unknown 7
unfolding name_refusals leads_within yields_within
at_both = simp finding refl

-- a label of a method that nothing calls is one of the class, and a method's name is none
abbrev at_other : List ℕ → Tree
at_other label =
    tree_of (member.Receive pattern.Wild None (label ∷ []) (stmt.Pass 8 ∷ []) 7 ∷ member.Method (codes "f") [] (stmt.Label (codes "l") 10 ∷ []) 9 ∷ run (stmt.Pass 6 ∷ []) ∷ []) []

at_uncalled : name_fault (at_other (codes "l")) ≡ None
unfolding name_refusals leads_within yields_within
at_uncalled = simp finding refl

at_method : name_fault (at_other (codes "f")) ≡ told refusal.Unknown 7
unfolding name_refusals leads_within yields_within
at_method = simp finding refl

-- a name that is nowhere declared
unknown : name_fault (tree_of (run (stmt.Output (ex.Name (codes "x")) 6 ∷ []) ∷ []) []) ≡ told refusal.Unknown 6
unfolding name_refusals leads_within yields_within
unknown = simp finding refl

-- an assignment to the variable of a loop
unknown_target : name_fault (tree_of (member.Var (codes "y") (ty.Set ty.Int) 2 ∷ run (stmt.For (codes "x") (ex.Name (codes "y")) (stmt.Assign (codes "x") (ex.Name (codes "x")) 7 ∷ []) 6 ∷ []) ∷ []) []) ≡ told refusal.Unknown 7
unfolding name_refusals leads_within yields_within
unknown_target = simp finding refl

-- a call of no method
unknown_method : name_fault (tree_of (run (stmt.Call (codes "f") ([]) 6 ∷ []) ∷ []) []) ≡ told refusal.Unknown 6
unfolding name_refusals leads_within yields_within
unknown_method = simp finding refl

-- an aggregate of neither a comprehension nor a slot
unknown_argument : name_fault (tree_of (run (stmt.Output (ex.Count (ex.Int (pos 1))) 6 ∷ []) ∷ []) []) ≡ told refusal.Unknown 6
unfolding name_refusals leads_within yields_within
unknown_argument = simp finding refl

-- the variable of a handler in its own patterns
unknown_in_own_patterns : name_fault (tree_of (run (stmt.Pass 6 ∷ []) ∷ member.Receive (pattern.Tuple (pattern.Name (codes "x") ∷ pattern.Equal (ex.Name (codes "x")) ∷ [])) None [] (stmt.Pass 8 ∷ []) 7 ∷ []) []) ≡ told refusal.Unknown 7
unfolding name_refusals leads_within yields_within
unknown_in_own_patterns = simp finding refl

-- there a variable of the class with its name is meant
shadow_in_own_patterns : name_fault (tree_of (member.Var (codes "x") ty.Int 2 ∷ run (stmt.Pass 6 ∷ []) ∷ member.Receive (pattern.Tuple (pattern.Name (codes "x") ∷ pattern.Equal (ex.Name (codes "x")) ∷ [])) None [] (stmt.Pass 8 ∷ []) 7 ∷ []) []) ≡ told refusal.Shadow 7
unfolding name_refusals leads_within yields_within
shadow_in_own_patterns = simp finding refl

-- a variable of a handler's patterns twice
shadow_of_own : name_fault (tree_of (run (stmt.Pass 6 ∷ []) ∷ member.Receive (pattern.Tuple (pattern.Name (codes "x") ∷ pattern.Name (codes "x") ∷ [])) None [] (stmt.Pass 8 ∷ []) 7 ∷ []) []) ≡ told refusal.Shadow 7
unfolding name_refusals leads_within yields_within
shadow_of_own = simp finding refl

-- a variable declared again
twice : name_fault (tree_of (member.Var (codes "x") ty.Int 2 ∷ member.Var (codes "x") ty.Int 3 ∷ run (stmt.Pass 6 ∷ []) ∷ []) []) ≡ told refusal.Twice 3
unfolding name_refusals leads_within yields_within
twice = simp finding refl

-- a second line of `setup` for one name
twice_set_up : name_fault (tree_of (run (stmt.Pass 6 ∷ []) ∷ []) (main_line.Setup (codes "a") [] 21 ∷ main_line.Setup (codes "a") [] 22 ∷ [])) ≡ told refusal.Twice 22
unfolding name_refusals leads_within yields_within
twice_set_up = simp finding refl

-- a loop over the name of a variable of the class
shadow : name_fault (tree_of (member.Var (codes "x") (ty.Set ty.Int) 2 ∷ run (stmt.For (codes "x") (ex.Name (codes "x")) (stmt.Pass 7 ∷ []) 6 ∷ []) ∷ []) []) ≡ told refusal.Shadow 6
unfolding name_refusals leads_within yields_within
shadow = simp finding refl

-- a `some` over a name that a bare `await` has bound
shadow_of_found : name_fault (tree_of (member.Var (codes "y") (ty.Set ty.Int) 2 ∷ run (stmt.AwaitOne (ex.Quant false (roll-GenTree (record { message = pattern.Name (codes "x"); peer = None; source = source.Name (codes "y") }) ∷ []) None) 6 ∷ stmt.AwaitOne (ex.Quant false (roll-GenTree (record { message = pattern.Name (codes "x"); peer = None; source = source.Name (codes "y") }) ∷ []) None) 7 ∷ []) ∷ []) []) ≡ told refusal.Shadow 7
unfolding name_refusals leads_within yields_within
shadow_of_found = simp finding refl

-- two methods that call each other
recursive : name_fault (tree_of (run (stmt.Pass 6 ∷ []) ∷ member.Method (codes "f") ([]) (stmt.Call (codes "g") ([]) 8 ∷ []) 7 ∷ member.Method (codes "g") ([]) (stmt.Call (codes "f") ([]) 10 ∷ []) 9 ∷ []) []) ≡ told refusal.Recursive 8
unfolding name_refusals leads_within yields_within
recursive = simp finding refl

-- a handler that calls a method with a label
yield : name_fault (tree_of (run (stmt.Pass 6 ∷ []) ∷ member.Method (codes "f") ([]) (stmt.Label (codes "l") 8 ∷ []) 7 ∷ member.Receive pattern.Wild None [] (stmt.Call (codes "f") ([]) 10 ∷ []) 9 ∷ []) []) ≡ told refusal.Yield 10
unfolding name_refusals leads_within yields_within
yield = simp finding refl

-- `setup` that prints
setup : name_fault (tree_of (member.Setup [] (stmt.Output (ex.Int (pos 1)) 4 ∷ []) 3 ∷ run (stmt.Pass 6 ∷ []) ∷ []) []) ≡ told refusal.Setup 4
unfolding name_refusals leads_within yields_within
setup = simp finding refl

-- an argument of `main` that reads the clock
setup_in_main : name_fault (tree_of (member.Setup (record { name = codes "x"; ty = ty.Int } ∷ []) (stmt.Pass 4 ∷ []) 3 ∷ run (stmt.Pass 6 ∷ []) ∷ []) (main_line.Setup (codes "a") (ex.Clock ∷ []) 21 ∷ [])) ≡ told refusal.Setup 21
unfolding name_refusals leads_within yields_within
setup_in_main = simp finding refl

-- a class without `run`
no_run : name_fault (tree_of (member.Var (codes "x") ty.Int 2 ∷ []) []) ≡ told refusal.NoRun 1
unfolding name_refusals leads_within yields_within
no_run = refl

-- a call with an argument too many
arity : name_fault (tree_of (run (stmt.Call (codes "f") (ex.Int (pos 1) ∷ []) 6 ∷ []) ∷ member.Method (codes "f") ([]) (stmt.Pass 8 ∷ []) 7 ∷ []) []) ≡ told refusal.Arity 6
unfolding name_refusals leads_within yields_within
arity = simp finding refl

-- an argument for a class without `setup`
arity_in_main : name_fault (tree_of (run (stmt.Pass 6 ∷ []) ∷ []) (main_line.Setup (codes "a") (ex.Int (pos 1) ∷ []) 21 ∷ [])) ≡ told refusal.Arity 21
unfolding name_refusals leads_within yields_within
arity_in_main = simp finding refl

-- WHAT IS TOLD

-- two kinds on one line: a parameter twice that shadows a variable besides
lesser_kind : name_fault (tree_of (member.Var (codes "x") ty.Int 2 ∷ run (stmt.Pass 6 ∷ []) ∷ member.Method (codes "f") (record { name = codes "x"; ty = ty.Int } ∷ record { name = codes "x"; ty = ty.Int } ∷ []) (stmt.Pass 8 ∷ []) 7 ∷ []) []) ≡ told refusal.Twice 7
unfolding name_refusals leads_within yields_within
lesser_kind = simp finding refl

-- two lines: the first one, though the kind of the second one comes before its kind
lesser_line : name_fault (tree_of (run (stmt.Call (codes "f") (ex.Int (pos 1) ∷ []) 6 ∷ stmt.Output (ex.Name (codes "y")) 7 ∷ []) ∷ member.Method (codes "f") [] (stmt.Pass 9 ∷ []) 8 ∷ []) []) ≡ told refusal.Arity 6
unfolding name_refusals leads_within yields_within
lesser_line = simp finding refl

-- QUERIES

-- `some x in y, z in x`: a variable of a query is no source
unknown_source : name_fault (tree_of (member.Var (codes "y") (ty.Set ty.Int) 2 ∷ run (stmt.Output (ex.Quant false (roll-GenTree (record { message = pattern.Name (codes "x"); peer = None; source = source.Name (codes "y") }) ∷ roll-GenTree (record { message = pattern.Name (codes "z"); peer = None; source = source.Name (codes "x") }) ∷ []) None) 6 ∷ []) ∷ []) []) ≡ told refusal.Unknown 6
unfolding name_refusals leads_within yields_within
unknown_source = simp finding refl

-- `some (x, =x) in y`: in a query a variable is in scope after its place
equal_after_its_variable : name_fault (tree_of (member.Var (codes "y") (ty.Set (ty.Tuple (ty.Int ∷ ty.Int ∷ []))) 2 ∷ run (stmt.Output (ex.Quant false (roll-GenTree (record { message = pattern.Tuple (pattern.Name (codes "x") ∷ pattern.Equal (ex.Name (codes "x")) ∷ []); peer = None; source = source.Name (codes "y") }) ∷ []) None) 6 ∷ []) ∷ []) []) ≡ None
unfolding name_refusals leads_within yields_within
equal_after_its_variable = simp finding refl

-- `some (=x, x) in y`
equal_before_its_variable : name_fault (tree_of (member.Var (codes "y") (ty.Set (ty.Tuple (ty.Int ∷ ty.Int ∷ []))) 2 ∷ run (stmt.Output (ex.Quant false (roll-GenTree (record { message = pattern.Tuple (pattern.Equal (ex.Name (codes "x")) ∷ pattern.Name (codes "x") ∷ []); peer = None; source = source.Name (codes "y") }) ∷ []) None) 6 ∷ []) ∷ []) []) ≡ told refusal.Unknown 6
unfolding name_refusals leads_within yields_within
equal_before_its_variable = simp finding refl

-- A METHOD THAT IS NEVER CALLED

-- its names are looked at too
unknown_in_unused : name_fault (tree_of (run (stmt.Pass 6 ∷ []) ∷ member.Method (codes "f") [] (stmt.Output (ex.Name (codes "y")) 8 ∷ []) 7 ∷ []) []) ≡ told refusal.Unknown 8
unfolding name_refusals leads_within yields_within
unknown_in_unused = simp finding refl

-- DECLARED AGAIN

-- a label in another body of its class
twice_label : name_fault (tree_of (run (stmt.Label (codes "l") 6 ∷ []) ∷ member.Method (codes "f") [] (stmt.Label (codes "l") 8 ∷ []) 7 ∷ []) []) ≡ told refusal.Twice 8
unfolding name_refusals leads_within yields_within
twice_label = simp finding refl

-- a method
twice_method : name_fault (tree_of (run (stmt.Pass 6 ∷ []) ∷ member.Method (codes "f") [] (stmt.Pass 8 ∷ []) 7 ∷ member.Method (codes "f") [] (stmt.Pass 10 ∷ []) 9 ∷ []) []) ≡ told refusal.Twice 9
unfolding name_refusals leads_within yields_within
twice_method = simp finding refl

-- a class
twice_class : name_fault (record (tree_of [] []) { classes = record { name = codes "C"; members = run (stmt.Pass 6 ∷ []) ∷ []; line = 1 } ∷ record { name = codes "C"; members = run (stmt.Pass 12 ∷ []) ∷ []; line = 10 } ∷ [] }) ≡ told refusal.Twice 10
unfolding name_refusals leads_within yields_within
twice_class = simp finding refl

-- a tag
twice_tag : name_fault (record (tree_of (run (stmt.Pass 6 ∷ []) ∷ []) []) { messages = record { tag = codes "m"; parts = []; line = 1 } ∷ record { tag = codes "m"; parts = ty.Int ∷ []; line = 2 } ∷ [] }) ≡ told refusal.Twice 2
unfolding name_refusals leads_within yields_within
twice_tag = simp finding refl
