-- The variables that a condition binds.
use Rattle.std.specs.Prelude.{◌≡◌, refl, Bool, true, false, List, [], flat_map, Option}
use Rattle.std.proofs.Common.{◌∙◌, sym, ap}
use Rattle.da_lang.specs.declared.tree.ChainTree.{ChainTree}
use Rattle.da_lang.specs.declared.tree.Expr.{Expr, out-Expr, roll-Expr, roll-out-Expr}
use Rattle.da_lang.specs.declared.tree.Expr.TheVariants as ex
use Rattle.da_lang.specs.declared.tree.Expr.TheOpen.{Expr-F}
use Rattle.da_lang.specs.declared.tree.GenTree.{GenTree}
use Rattle.da_lang.specs.declared.tree.PatternTree.{PatternTree}
use Rattle.da_lang.specs.declared.tree.PeerTree.{PeerTree}
use Rattle.da_lang.specs.ExprNames.{found_in, found_names, gen_part}

found-Quant : (x : Expr) (each : Bool) (gens : List GenTree) (cond : Option Expr) → x ≡ ex.Quant each gens cond → found_names x ≡ found_in (Expr-F.Quant each gens cond)
found-Quant x each gens cond is = ap found_names is ∙ ap found_in (ex.outs-Quant each gens cond)

-- of a `some`
pub found_some : (x : Expr) (gens : List GenTree) (cond : Option Expr) → x ≡ ex.Quant false gens cond → found_names x ≡ flat_map (λ g. (gen_part g).binds) gens
found_some x gens cond is = found-Quant x false gens cond is

-- of an `each`
pub found_each : (x : Expr) (gens : List GenTree) (cond : Option Expr) → x ≡ ex.Quant true gens cond → found_names x ≡ []
found_each x gens cond is = found-Quant x true gens cond is

others : (x : Expr) (y : Expr-F Expr PatternTree PeerTree ChainTree GenTree) → x ≡ roll-Expr y → ((each : Bool) (gens : List GenTree) (cond : Option Expr) → x ≡ ex.Quant each gens cond → ⊥) → found_in y ≡ []
others x (Expr-F.Quant each gens cond) is none = absurd (none each gens cond (is ∙ ex.rolls-Quant each gens cond))
others x _ is none = refl

-- of no quantification
pub found_none : (x : Expr) → ((each : Bool) (gens : List GenTree) (cond : Option Expr) → x ≡ ex.Quant each gens cond → ⊥) → found_names x ≡ []
found_none x none = others x (out-Expr x) (sym (roll-out-Expr x)) none
