-- The terms of expressions, one layer at a time.
use Rattle.std.specs.Prelude.{ℕ, ℤ, Bool, List, [], ◌∷◌, map, Option}
use Rattle.std.proofs.Common.{◌≡◌, ◌∙◌, ap, refl}
use Rattle.da_values.specs.declared.value.Value.TheVariants as kept
use Rattle.da_lang.specs.declared.query.Term.{Term}
use Rattle.da_lang.specs.declared.query.Term.TheVariants as te
use Rattle.da_lang.specs.declared.tree.ChainTree.{ChainTree}
use Rattle.da_lang.specs.declared.tree.CmpOp.{CmpOp}
use Rattle.da_lang.specs.declared.tree.Expr.{Expr}
use Rattle.da_lang.specs.declared.tree.Expr.TheVariants as ex
use Rattle.da_lang.specs.declared.tree.GenTree.{GenTree}
use Rattle.da_lang.specs.ExprMeaning.{Meaning, Meant, meant, name_term}
use Rattle.da_lang.specs.Scopes.{Scope, look}
use Rattle.da_lang.proofs.MeantAt.{meant-Quant, meant-Or, meant-And, meant-Not, meant-Cmp, meant-Member, meant-Chain, meant-Int, meant-Text, meant-Truth, meant-Me, meant-Name, meant-Clock, meant-Range, meant-Tuple, meant-SetOf, meant-Comp, meant-Count, meant-Sum, meant-Min, meant-Max}

-- the terms of several expressions
terms_of : (xs : List Expr) (scope : Scope Meaning) → map (λ (m : Meant). m.term scope) (map meant xs) ≡ map (λ (x : Expr). (meant x).term scope) xs
terms_of [] scope = refl
terms_of (x ∷ xs) scope = ap (λ (ts : List Term). (meant x).term scope ∷ ts) (terms_of xs scope)

pub term-Quant : (each : Bool) (gens : List GenTree) (cond : Option Expr) (scope : Scope Meaning) → (meant (ex.Quant each gens cond)).term scope ≡ te.Foreign
term-Quant each gens cond scope = ap (λ (m : Meant). m.term scope) (meant-Quant each gens cond)

pub term-Or : (xs : List Expr) (scope : Scope Meaning) → (meant (ex.Or xs)).term scope ≡ te.Foreign
term-Or xs scope = ap (λ (m : Meant). m.term scope) (meant-Or xs)

pub term-And : (xs : List Expr) (scope : Scope Meaning) → (meant (ex.And xs)).term scope ≡ te.Foreign
term-And xs scope = ap (λ (m : Meant). m.term scope) (meant-And xs)

pub term-Not : (x : Expr) (scope : Scope Meaning) → (meant (ex.Not x)).term scope ≡ te.Foreign
term-Not x scope = ap (λ (m : Meant). m.term scope) (meant-Not x)

pub term-Cmp : (o : CmpOp) (x y : Expr) (scope : Scope Meaning) → (meant (ex.Cmp o x y)).term scope ≡ te.Foreign
term-Cmp o x y scope = ap (λ (m : Meant). m.term scope) (meant-Cmp o x y)

pub term-Member : (x y : Expr) (scope : Scope Meaning) → (meant (ex.Member x y)).term scope ≡ te.Foreign
term-Member x y scope = ap (λ (m : Meant). m.term scope) (meant-Member x y)

pub term-Chain : (x : Expr) (more : List ChainTree) (scope : Scope Meaning) → (meant (ex.Chain x more)).term scope ≡ te.Foreign
term-Chain x more scope = ap (λ (m : Meant). m.term scope) (meant-Chain x more)

pub term-Int : (number : ℤ) (scope : Scope Meaning) → (meant (ex.Int number)).term scope ≡ te.Const (kept.Int number)
term-Int number scope = ap (λ (m : Meant). m.term scope) (meant-Int number)

pub term-Text : (bytes : List ℕ) (scope : Scope Meaning) → (meant (ex.Text bytes)).term scope ≡ te.Const (kept.Text bytes)
term-Text bytes scope = ap (λ (m : Meant). m.term scope) (meant-Text bytes)

pub term-Truth : (truth : Bool) (scope : Scope Meaning) → (meant (ex.Truth truth)).term scope ≡ te.Const (kept.Bool truth)
term-Truth truth scope = ap (λ (m : Meant). m.term scope) (meant-Truth truth)

pub term-Me : (scope : Scope Meaning) → (meant ex.Me).term scope ≡ te.Me
term-Me scope = ap (λ (m : Meant). m.term scope) meant-Me

pub term-Name : (name : List ℕ) (scope : Scope Meaning) → (meant (ex.Name name)).term scope ≡ name_term (look scope name)
term-Name name scope = ap (λ (m : Meant). m.term scope) (meant-Name name)

pub term-Clock : (scope : Scope Meaning) → (meant ex.Clock).term scope ≡ te.Foreign
term-Clock scope = ap (λ (m : Meant). m.term scope) meant-Clock

pub term-Range : (x y : Expr) (scope : Scope Meaning) → (meant (ex.Range x y)).term scope ≡ te.Foreign
term-Range x y scope = ap (λ (m : Meant). m.term scope) (meant-Range x y)

pub term-Tuple : (xs : List Expr) (scope : Scope Meaning) → (meant (ex.Tuple xs)).term scope ≡ te.Tuple (map (λ y. (meant y).term scope) xs)
term-Tuple xs scope = ap (λ (m : Meant). m.term scope) (meant-Tuple xs) ∙ ap te.Tuple (terms_of xs scope)

pub term-SetOf : (xs : List Expr) (scope : Scope Meaning) → (meant (ex.SetOf xs)).term scope ≡ te.Foreign
term-SetOf xs scope = ap (λ (m : Meant). m.term scope) (meant-SetOf xs)

pub term-Comp : (x : Expr) (gens : List GenTree) (cond : Option Expr) (scope : Scope Meaning) → (meant (ex.Comp x gens cond)).term scope ≡ te.Foreign
term-Comp x gens cond scope = ap (λ (m : Meant). m.term scope) (meant-Comp x gens cond)

pub term-Count : (x : Expr) (scope : Scope Meaning) → (meant (ex.Count x)).term scope ≡ te.Foreign
term-Count x scope = ap (λ (m : Meant). m.term scope) (meant-Count x)

pub term-Sum : (x : Expr) (scope : Scope Meaning) → (meant (ex.Sum x)).term scope ≡ te.Foreign
term-Sum x scope = ap (λ (m : Meant). m.term scope) (meant-Sum x)

pub term-Min : (x y : Expr) (scope : Scope Meaning) → (meant (ex.Min x y)).term scope ≡ te.Foreign
term-Min x y scope = ap (λ (m : Meant). m.term scope) (meant-Min x y)

pub term-Max : (x y : Expr) (scope : Scope Meaning) → (meant (ex.Max x y)).term scope ≡ te.Foreign
term-Max x y scope = ap (λ (m : Meant). m.term scope) (meant-Max x y)

pub ruleset terms_at = (term-Quant, term-Or, term-And, term-Not, term-Cmp, term-Member, term-Chain, term-Int, term-Text, term-Truth, term-Me, term-Name, term-Clock, term-Range, term-Tuple, term-SetOf, term-Comp, term-Count, term-Sum, term-Min, term-Max)
