-- Which slots and queries an expression reads, one equation for each form.
use Rattle.std.proofs.Common.{◌≡◌, ℕ, List, [], ◌∷◌, map, sym, ap, ◌∙◌}
use Rattle.std.specs.Prelude.{Bool, true, is_some}
use Rattle.std.specs.List.{AllByRecursion, list_all}
use Rattle.std.proofs.lemmas.Bool.{and_parts}
use Rattle.da_lang.specs.declared.program.ChainPart.{ChainPart}
use Rattle.da_lang.specs.declared.program.Class.{Class}
use Rattle.da_lang.specs.declared.program.RExpr.{RExpr}
use Rattle.da_lang.specs.declared.program.RExpr.TheVariants as ex
use Rattle.da_lang.specs.declared.program.RExpr.TheViews.{out-RExpr, out-ChainPart}
use Rattle.da_lang.specs.declared.program.RExpr.TheOpen.{RExpr-F}
use Rattle.da_lang.specs.declared.program.RExpr.TheFolds.{fold_out-RExpr, fold_out-ChainPart, map-RExpr}
use Rattle.da_lang.specs.declared.tree.CmpOp.{CmpOp}
use Rattle.da_lang.specs.QueryTypes.{type_at}
use Rattle.da_lang.specs.World.{at_number}
use Rattle.da_machine.specs.Promises.{AllRead}
use Rattle.da_machine.specs.Reads.{reads, reads_part, reads_step, reads_part_step}

module _ (class : Class) where
  reads_layer : (e : RExpr) (layer : RExpr-F RExpr ChainPart) → out-RExpr e ≡ layer → reads class e ≡ reads_step class (map-RExpr RExpr ChainPart Bool Bool (reads class) (reads_part class) layer)
  reads_layer e layer is =
      fold_out-RExpr Bool Bool (reads_step class) (reads_part_step class) e
      ∙ ap (λ y. reads_step class (map-RExpr RExpr ChainPart Bool Bool (reads class) (reads_part class) y)) is

  pub reads_part-is : (c : ChainPart) → reads_part class c ≡ reads class (out-ChainPart c).operand
  reads_part-is c = fold_out-ChainPart Bool Bool (reads_step class) (reads_part_step class) c

  pub reads-Slot : (s : ℕ) → reads class (ex.Slot s) ≡ is_some (type_at class.slots s)
  reads-Slot s = reads_layer _ _ (ex.outs-Slot s)

  pub reads-Ask : (n : ℕ) → reads class (ex.Ask n) ≡ is_some (at_number class.queries n)
  reads-Ask n = reads_layer _ _ (ex.outs-Ask n)

  each_read : (es : List RExpr) → list_all (λ e. e) (map (reads class) es) ≡ true → AllRead class es
  each_read [] e = tt
  each_read (x ∷ xs) e = let both = and_parts (reads class x) (list_all (λ e. e) (map (reads class) xs)) e in (both.0, each_read xs both.1)

  each_part : (cs : List ChainPart) → list_all (λ e. e) (map (reads_part class) cs) ≡ true → AllByRecursion (λ c. reads_part class c ≡ true) cs
  each_part [] e = tt
  each_part (x ∷ xs) e = let both = and_parts (reads_part class x) (list_all (λ e. e) (map (reads_part class) xs)) e in (both.0, each_part xs both.1)

  pub of_range : (a b : RExpr) → reads class (ex.Range a b) ≡ true → (reads class a ≡ true) × (reads class b ≡ true)
  of_range a b e = and_parts (reads class a) (reads class b) (sym (reads_layer _ _ (ex.outs-Range a b)) ∙ e)

  pub of_cmp : (o : CmpOp) (a b : RExpr) → reads class (ex.Cmp o a b) ≡ true → (reads class a ≡ true) × (reads class b ≡ true)
  of_cmp o a b e = and_parts (reads class a) (reads class b) (sym (reads_layer _ _ (ex.outs-Cmp o a b)) ∙ e)

  pub of_member : (a b : RExpr) → reads class (ex.Member a b) ≡ true → (reads class a ≡ true) × (reads class b ≡ true)
  of_member a b e = and_parts (reads class a) (reads class b) (sym (reads_layer _ _ (ex.outs-Member a b)) ∙ e)

  pub of_not : (a : RExpr) → reads class (ex.Not a) ≡ true → reads class a ≡ true
  of_not a e = sym (reads_layer _ _ (ex.outs-Not a)) ∙ e

  pub of_tuple : (es : List RExpr) → reads class (ex.Tuple es) ≡ true → AllRead class es
  of_tuple es e = each_read es (sym (reads_layer _ _ (ex.outs-Tuple es)) ∙ e)

  pub of_set : (es : List RExpr) → reads class (ex.SetOf es) ≡ true → AllRead class es
  of_set es e = each_read es (sym (reads_layer _ _ (ex.outs-SetOf es)) ∙ e)

  pub of_or : (es : List RExpr) → reads class (ex.Or es) ≡ true → AllRead class es
  of_or es e = each_read es (sym (reads_layer _ _ (ex.outs-Or es)) ∙ e)

  pub of_and : (es : List RExpr) → reads class (ex.And es) ≡ true → AllRead class es
  of_and es e = each_read es (sym (reads_layer _ _ (ex.outs-And es)) ∙ e)

  pub of_chain : (a : RExpr) (cs : List ChainPart) → reads class (ex.Chain a cs) ≡ true → (reads class a ≡ true) × AllByRecursion (λ c. reads_part class c ≡ true) cs
  of_chain a cs e =
      let both = and_parts (reads class a) (list_all (λ e. e) (map (reads_part class) cs)) (sym (reads_layer _ _ (ex.outs-Chain a cs)) ∙ e) in
      (both.0, each_part cs both.1)
