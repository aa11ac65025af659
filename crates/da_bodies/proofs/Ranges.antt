-- Which expressions may be the argument of an aggregate.
use Rattle.std.specs.Prelude.{◌≡◌, refl, ℕ, Bool, true, false, List, Option}
use Rattle.std.proofs.Common.{◌∙◌, sym, ap}
use Rattle.da_lang.specs.declared.tree.ChainTree.{ChainTree}
use Rattle.da_lang.specs.declared.tree.Expr.{Expr, out-Expr, roll-Expr, roll-out-Expr}
use Rattle.da_lang.specs.declared.tree.Expr.TheVariants as ex
use Rattle.da_lang.specs.declared.tree.Expr.TheOpen.{Expr-F}
use Rattle.da_lang.specs.declared.tree.GenTree.{GenTree}
use Rattle.da_lang.specs.declared.tree.PatternTree.{PatternTree}
use Rattle.da_lang.specs.declared.tree.PeerTree.{PeerTree}
use Rattle.da_lang.specs.ExprNames.{Role, Part, is_slot, names_of}
use Rattle.da_lang.specs.Scopes.{Scope, look}
use Rattle.da_lang.proofs.NamesAt as at

module _ (scope : Scope Role) where
  ranges_by : (x y : Expr) (p : Part) (b : Bool) → x ≡ y → names_of y ≡ p → p.ranges scope ≡ b → (names_of x).ranges scope ≡ b
  ranges_by x y p b is layer ranges = ap (λ z. (names_of z).ranges scope) is ∙ ap (λ (q : Part). q.ranges scope) layer ∙ ranges

  pub ranges-Name : (x : Expr) (name : List ℕ) → x ≡ ex.Name name → (names_of x).ranges scope ≡ is_slot (look scope name)
  ranges-Name x name is = ranges_by x (ex.Name name) _ (is_slot (look scope name)) is (at.names_of-Name name) refl

  pub ranges-Comp : (x : Expr) (term : Expr) (gens : List GenTree) (cond : Option Expr) → x ≡ ex.Comp term gens cond → (names_of x).ranges scope ≡ true
  ranges-Comp x term gens cond is = ranges_by x (ex.Comp term gens cond) _ true is (at.names_of-Comp term gens cond) refl

  abbrev NoName : Expr → Type 0
  NoName x = (name : List ℕ) → x ≡ ex.Name name → ⊥

  abbrev NoComp : Expr → Type 0
  NoComp x = (term : Expr) (gens : List GenTree) (cond : Option Expr) → x ≡ ex.Comp term gens cond → ⊥

  others : (x : Expr) (y : Expr-F Expr PatternTree PeerTree ChainTree GenTree) → x ≡ roll-Expr y → NoName x → NoComp x → (names_of x).ranges scope ≡ false
  others x (Expr-F.Quant each gens cond) is unnamed none = ranges_by x (ex.Quant each gens cond) _ false (is ∙ ex.rolls-Quant each gens cond) (at.names_of-Quant each gens cond) refl
  others x (Expr-F.Or xs) is unnamed none = ranges_by x (ex.Or xs) _ false (is ∙ ex.rolls-Or xs) (at.names_of-Or xs) refl
  others x (Expr-F.And xs) is unnamed none = ranges_by x (ex.And xs) _ false (is ∙ ex.rolls-And xs) (at.names_of-And xs) refl
  others x (Expr-F.Not y) is unnamed none = ranges_by x (ex.Not y) _ false (is ∙ ex.rolls-Not y) (at.names_of-Not y) refl
  others x (Expr-F.Cmp op y z) is unnamed none = ranges_by x (ex.Cmp op y z) _ false (is ∙ ex.rolls-Cmp op y z) (at.names_of-Cmp op y z) refl
  others x (Expr-F.Member y z) is unnamed none = ranges_by x (ex.Member y z) _ false (is ∙ ex.rolls-Member y z) (at.names_of-Member y z) refl
  others x (Expr-F.Chain y more) is unnamed none = ranges_by x (ex.Chain y more) _ false (is ∙ ex.rolls-Chain y more) (at.names_of-Chain y more) refl
  others x (Expr-F.«Expr::Int» number) is unnamed none = ranges_by x (ex.Int number) _ false (is ∙ ex.rolls-Int number) (at.names_of-Int number) refl
  others x (Expr-F.«Expr::Text» bytes) is unnamed none = ranges_by x (ex.Text bytes) _ false (is ∙ ex.rolls-Text bytes) (at.names_of-Text bytes) refl
  others x (Expr-F.«Expr::Truth» b) is unnamed none = ranges_by x (ex.Truth b) _ false (is ∙ ex.rolls-Truth b) (at.names_of-Truth b) refl
  others x Expr-F.«Expr::Me» is unnamed none = ranges_by x ex.Me _ false (is ∙ ex.rolls-Me) at.names_of-Me refl
  others x (Expr-F.«Expr::Name» name) is unnamed none = absurd (unnamed name (is ∙ ex.rolls-Name name))
  others x Expr-F.Clock is unnamed none = ranges_by x ex.Clock _ false (is ∙ ex.rolls-Clock) at.names_of-Clock refl
  others x (Expr-F.Range y z) is unnamed none = ranges_by x (ex.Range y z) _ false (is ∙ ex.rolls-Range y z) (at.names_of-Range y z) refl
  others x (Expr-F.«Expr::Tuple» xs) is unnamed none = ranges_by x (ex.Tuple xs) _ false (is ∙ ex.rolls-Tuple xs) (at.names_of-Tuple xs) refl
  others x (Expr-F.SetOf xs) is unnamed none = ranges_by x (ex.SetOf xs) _ false (is ∙ ex.rolls-SetOf xs) (at.names_of-SetOf xs) refl
  others x (Expr-F.Comp term gens cond) is unnamed none = absurd (none term gens cond (is ∙ ex.rolls-Comp term gens cond))
  others x (Expr-F.Count y) is unnamed none = ranges_by x (ex.Count y) _ false (is ∙ ex.rolls-Count y) (at.names_of-Count y) refl
  others x (Expr-F.Sum y) is unnamed none = ranges_by x (ex.Sum y) _ false (is ∙ ex.rolls-Sum y) (at.names_of-Sum y) refl
  others x (Expr-F.Min y z) is unnamed none = ranges_by x (ex.Min y z) _ false (is ∙ ex.rolls-Min y z) (at.names_of-Min y z) refl
  others x (Expr-F.Max y z) is unnamed none = ranges_by x (ex.Max y z) _ false (is ∙ ex.rolls-Max y z) (at.names_of-Max y z) refl

  pub ranges_others : (x : Expr) → ((name : List ℕ) → x ≡ ex.Name name → ⊥) → ((term : Expr) (gens : List GenTree) (cond : Option Expr) → x ≡ ex.Comp term gens cond → ⊥) → (names_of x).ranges scope ≡ false
  ranges_others x unnamed none = others x (out-Expr x) (sym (roll-out-Expr x)) unnamed none
