-- The steps of each form of statement.
use Rattle.std.specs.Prelude.{◌≡◌, refl, ℕ, List, [], ◌∷◌, ◌++◌, map, Option, Some, None, unwrap_or}
use Rattle.std.proofs.Common.{◌∙◌, ap, sym, append_assoc}
use Rattle.da_lang.specs.declared.program.Alt.{Alt, roll-Alt}
use Rattle.da_lang.specs.declared.program.BindArg.{BindArg}
use Rattle.da_lang.specs.declared.program.Item.{Item, roll-Item}
use Rattle.da_lang.specs.declared.program.ItemKind.{ItemKind, roll-ItemKind}
use Rattle.da_lang.specs.declared.program.ItemKind.TheVariants as it
use Rattle.da_lang.specs.declared.program.ItemKind.TheOpen.{ItemKind-F}
use Rattle.da_lang.specs.declared.program.ItemKind.TheFolds.{map-ItemKind, fold-roll-ItemKind, fold-roll-Alt, fold-roll-Item, fold-roll-RBranch}
use Rattle.da_lang.specs.declared.program.RBranch.{RBranch, roll-RBranch}
use Rattle.da_lang.specs.declared.program.RExpr.{RExpr}
use Rattle.da_lang.specs.declared.query.Cond.{Cond}
use Rattle.untyped_laws.specs.Flow.{Step, Loops, Finds, joined, kind_step, alt_step, item_step, branch_step, item_steps, kind_steps, alt_steps, branch_steps, body_steps}

pub joined_append : (xs ys : List (List Step)) → joined (xs ++ ys) ≡ joined xs ++ joined ys
joined_append [] ys = refl
joined_append (x ∷ xs) ys = ap (λ z. x ++ z) (joined_append xs ys) ∙ sym (append_assoc x (joined xs) (joined ys))

layer : (x : ItemKind-F ItemKind Alt Item RBranch) → kind_steps (roll-ItemKind x) ≡ kind_step (map-ItemKind ItemKind Alt Item RBranch (List Step) (List Step) (List Step) (List Step) kind_steps alt_steps item_steps branch_steps x)
unfolding kind_steps alt_steps item_steps branch_steps
layer x = fold-roll-ItemKind (List Step) (List Step) (List Step) (List Step) kind_step alt_step item_step branch_step x

pub steps-Assign : (slot : ℕ) (x : RExpr) → kind_steps (it.Assign slot x) ≡ []
steps-Assign slot x = ap kind_steps (sym (it.rolls-Assign slot x)) ∙ layer (ItemKind-F.Assign slot x)

pub steps-Add : (slot : ℕ) (x : RExpr) → kind_steps (it.Add slot x) ≡ []
steps-Add slot x = ap kind_steps (sym (it.rolls-Add slot x)) ∙ layer (ItemKind-F.Add slot x)

pub steps-Del : (slot : ℕ) (x : RExpr) → kind_steps (it.Del slot x) ≡ []
steps-Del slot x = ap kind_steps (sym (it.rolls-Del slot x)) ∙ layer (ItemKind-F.Del slot x)

pub steps-Send : (x to : RExpr) → kind_steps (it.Send x to) ≡ []
steps-Send x to = ap kind_steps (sym (it.rolls-Send x to)) ∙ layer (ItemKind-F.Send x to)

pub steps-Output : (x : RExpr) → kind_steps (it.Output x) ≡ []
steps-Output x = ap kind_steps (sym (it.rolls-Output x)) ∙ layer (ItemKind-F.Output x)

pub steps-If : (branches : List RBranch) (other : List Item) → kind_steps (it.If branches other) ≡ joined (map branch_steps branches) ++ body_steps other
steps-If branches other = ap kind_steps (sym (it.rolls-If branches other)) ∙ layer (ItemKind-F.If branches other) ∙ joined_append (map branch_steps branches) (map item_steps other)

pub steps-While : (x : RExpr) (body : List Item) → kind_steps (it.While x body) ≡ body_steps body
steps-While x body = ap kind_steps (sym (it.rolls-While x body)) ∙ layer (ItemKind-F.While x body)

pub steps-For : (slot : ℕ) (x : RExpr) (body : List Item) → kind_steps (it.For slot x body) ≡ Loops slot x ∷ body_steps body
steps-For slot x body = ap kind_steps (sym (it.rolls-For slot x body)) ∙ layer (ItemKind-F.For slot x body)

pub steps-Call : (args : List BindArg) (body : List Item) → kind_steps (it.Call args body) ≡ body_steps body
steps-Call args body = ap kind_steps (sym (it.rolls-Call args body)) ∙ layer (ItemKind-F.Call args body)

pub steps-Await : (alts : List Alt) (timeout : Option (List Item)) (label : Option ℕ) → kind_steps (it.Await alts timeout label) ≡ joined (map alt_steps alts) ++ body_steps (unwrap_or timeout [])
steps-Await alts None label = ap kind_steps (sym (it.rolls-Await alts None label)) ∙ layer (ItemKind-F.Await alts None label) ∙ joined_append (map alt_steps alts) []
steps-Await alts (Some body) label = ap kind_steps (sym (it.rolls-Await alts (Some body) label)) ∙ layer (ItemKind-F.Await alts (Some body) label) ∙ joined_append (map alt_steps alts) (map item_steps body)

pub steps-Label : (l : ℕ) → kind_steps (it.Label l) ≡ []
steps-Label l = ap kind_steps (sym (it.rolls-Label l)) ∙ layer (ItemKind-F.Label l)

pub steps-Pass : kind_steps it.Pass ≡ []
steps-Pass = ap kind_steps (sym it.rolls-Pass) ∙ layer ItemKind-F.Pass

pub item_steps-of : (line : ℕ) (kind : ItemKind) → item_steps (roll-Item (record { line = line; kind = kind })) ≡ kind_steps kind
unfolding kind_steps alt_steps item_steps branch_steps
item_steps-of line kind = fold-roll-Item (List Step) (List Step) (List Step) (List Step) kind_step alt_step item_step branch_step (record { line = line; kind = kind })

pub branch_steps-of : (cond : RExpr) (found : Option ℕ) (binds : List ℕ) (body : List Item) (line : ℕ) → branch_steps (roll-RBranch (record { cond = cond; found = found; binds = binds; body = body; line = line })) ≡ Finds binds found ∷ body_steps body
unfolding kind_steps alt_steps item_steps branch_steps
branch_steps-of cond found binds body line = fold-roll-RBranch (List Step) (List Step) (List Step) (List Step) kind_step alt_step item_step branch_step (record { cond = cond; found = found; binds = binds; body = body; line = line })

pub alt_steps-of : (cond : Cond) (found : Option ℕ) (binds : List ℕ) (body : List Item) (line : ℕ) → alt_steps (roll-Alt (record { cond = cond; found = found; binds = binds; body = body; line = line })) ≡ Finds binds found ∷ body_steps body
unfolding kind_steps alt_steps item_steps branch_steps
alt_steps-of cond found binds body line = fold-roll-Alt (List Step) (List Step) (List Step) (List Step) kind_step alt_step item_step branch_step (record { cond = cond; found = found; binds = binds; body = body; line = line })
