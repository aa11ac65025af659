-- The value of an expression, one equation for each form.
use Rattle.std.specs.Prelude.{◌≡◌, refl, ℕ, pos, not, List, [], ◌∷◌, map, Ok}
use Rattle.std.proofs.Common.{◌∙◌, ap}
use Rattle.da_values.specs.declared.val.Val.TheVariants as val
use Rattle.da_values.specs.declared.value.Value.{Value}
use Rattle.da_values.specs.Order.{val_cmp}
use Rattle.da_values.specs.Sets.{canon, set_has, set_image}
use Rattle.da_values.specs.Value.{val_of}
use Rattle.da_values.specs.Views.{int_of, truth_of, elements_of}
use Rattle.da_lang.specs.declared.program.ChainPart.{ChainPart, roll-ChainPart}
use Rattle.da_lang.specs.declared.program.RExpr.{RExpr}
use Rattle.da_lang.specs.declared.program.RExpr.TheVariants as ex
use Rattle.da_lang.specs.declared.program.RExpr.TheVariants.{outs-Const, outs-Procs, outs-Me, outs-Slot, outs-Clock, outs-Ask, outs-Range, outs-Tuple, outs-SetOf, outs-Or, outs-And, outs-Not, outs-Cmp, outs-Member, outs-Chain}
use Rattle.da_lang.specs.declared.program.RExpr.TheViews.{out-RExpr, out-ChainPart}
use Rattle.da_lang.specs.declared.program.RExpr.TheOpen.{RExpr-F}
use Rattle.da_lang.specs.declared.program.RExpr.TheFolds.{fold-ChainPart, fold_out-RExpr, fold_out-ChainPart, fold-roll-ChainPart, map-RExpr}
use Rattle.da_lang.specs.declared.query.Query.{Query}
use Rattle.da_lang.specs.declared.tree.ArithOp.{ArithOp}
use Rattle.da_lang.specs.declared.tree.CmpOp.{CmpOp}
use Rattle.da_lang.specs.Arithmetic.{Outcome, range}
use Rattle.da_lang.specs.Evaluation.{Meaning, PartMeaning, after, after_all, in_order, outcomes, all_true, some_true, asked, chained, expr_step, part_step, eval, eval_all}
use Rattle.da_lang.specs.Queries.{compares, query_value}
use Rattle.da_lang.specs.World.{Data, slot_of}

abbrev pub part_of : List Query → ChainPart → PartMeaning
part_of queries = fold-ChainPart Meaning PartMeaning (expr_step queries) part_step

pub part_of-is : (queries : List Query) (p : ChainPart) → part_of queries p ≡ record { op = (out-ChainPart p).op; operand = eval queries (out-ChainPart p).operand }
part_of-is queries p = fold_out-ChainPart Meaning PartMeaning (expr_step queries) part_step p

pub part_of-made : (queries : List Query) (op : ArithOp) (e : RExpr) → part_of queries (roll-ChainPart (record { op = op; operand = e })) ≡ record { op = op; operand = eval queries e }
part_of-made queries op e = fold-roll-ChainPart Meaning PartMeaning (expr_step queries) part_step (record { op = op; operand = e })

module _ (queries : List Query) (d : Data) where
  abbrev pub layer_value : RExpr-F RExpr ChainPart → Outcome
  layer_value layer = expr_step queries (map-RExpr RExpr ChainPart Meaning PartMeaning (eval queries) (part_of queries) layer) d

  -- the value is that of the outermost layer
  pub eval_at : (e : RExpr) (layer : RExpr-F RExpr ChainPart) → out-RExpr e ≡ layer → eval queries e d ≡ layer_value layer
  eval_at e layer is =
      ap (λ (meaning : Meaning). meaning d) (fold_out-RExpr Meaning PartMeaning (expr_step queries) part_step e) ∙ ap layer_value is

  pub outcomes-eval : (es : List RExpr) → outcomes (map (eval queries) es) d ≡ map (λ e. eval queries e d) es
  outcomes-eval [] = refl
  outcomes-eval (e ∷ es) = ap (λ others. eval queries e d ∷ others) (outcomes-eval es)

  pub eval-Const : (v : Value) → eval queries (ex.Const v) d ≡ Ok (val_of v)
  eval-Const v = eval_at _ _ (outs-Const v)

  pub eval-Procs : (ps : List ℕ) → eval queries (ex.Procs ps) d ≡ Ok (val.Set (set_image val_cmp val.Proc ps))
  eval-Procs ps = eval_at _ _ (outs-Procs ps)

  pub eval-Me : eval queries ex.Me d ≡ Ok (val.Proc d.me)
  eval-Me = eval_at _ _ outs-Me

  pub eval-Slot : (s : ℕ) → eval queries (ex.Slot s) d ≡ Ok (slot_of d s)
  eval-Slot s = eval_at _ _ (outs-Slot s)

  pub eval-Clock : eval queries ex.Clock d ≡ Ok (val.Int (pos d.clock))
  eval-Clock = eval_at _ _ outs-Clock

  pub eval-Ask : (n : ℕ) → eval queries (ex.Ask n) d ≡ asked (query_value queries n d)
  eval-Ask n = eval_at _ _ (outs-Ask n)

  pub eval-Range : (a b : RExpr) → eval queries (ex.Range a b) d ≡ after (eval queries a d) (λ v. after (eval queries b d) (λ w. range (int_of v) (int_of w)))
  eval-Range a b = eval_at _ _ (outs-Range a b)

  pub eval-Tuple : (es : List RExpr) → eval queries (ex.Tuple es) d ≡ after_all (eval_all queries es d) (λ vs. Ok (val.Tuple vs))
  eval-Tuple es = eval_at _ _ (outs-Tuple es) ∙ ap (λ found. after_all (in_order found) (λ vs. Ok (val.Tuple vs))) (outcomes-eval es)

  pub eval-SetOf : (es : List RExpr) → eval queries (ex.SetOf es) d ≡ after_all (eval_all queries es d) (λ vs. Ok (val.Set (canon val_cmp vs)))
  eval-SetOf es = eval_at _ _ (outs-SetOf es) ∙ ap (λ found. after_all (in_order found) (λ vs. Ok (val.Set (canon val_cmp vs)))) (outcomes-eval es)

  pub eval-Or : (es : List RExpr) → eval queries (ex.Or es) d ≡ some_true (map (λ e. eval queries e d) es)
  eval-Or es = eval_at _ _ (outs-Or es) ∙ ap some_true (outcomes-eval es)

  pub eval-And : (es : List RExpr) → eval queries (ex.And es) d ≡ all_true (map (λ e. eval queries e d) es)
  eval-And es = eval_at _ _ (outs-And es) ∙ ap all_true (outcomes-eval es)

  pub eval-Not : (e : RExpr) → eval queries (ex.Not e) d ≡ after (eval queries e d) (λ v. Ok (val.Bool (not (truth_of v))))
  eval-Not e = eval_at _ _ (outs-Not e)

  pub eval-Cmp : (o : CmpOp) (a b : RExpr) → eval queries (ex.Cmp o a b) d ≡ after (eval queries a d) (λ v. after (eval queries b d) (λ w. Ok (val.Bool (compares o (val_cmp v w)))))
  eval-Cmp o a b = eval_at _ _ (outs-Cmp o a b)

  pub eval-Member : (a b : RExpr) → eval queries (ex.Member a b) d ≡ after (eval queries a d) (λ v. after (eval queries b d) (λ w. Ok (val.Bool (set_has val_cmp (elements_of w) v))))
  eval-Member a b = eval_at _ _ (outs-Member a b)

  pub eval-Chain : (a : RExpr) (ps : List ChainPart) → eval queries (ex.Chain a ps) d ≡ after (eval queries a d) (λ v. chained v (map (part_of queries) ps) d)
  eval-Chain a ps = eval_at _ _ (outs-Chain a ps)

pub ruleset evaluating = (eval-Const, eval-Procs, eval-Me, eval-Slot, eval-Clock, eval-Ask, eval-Range, eval-Tuple, eval-SetOf, eval-Or, eval-And, eval-Not, eval-Cmp, eval-Member, eval-Chain, part_of-made)
