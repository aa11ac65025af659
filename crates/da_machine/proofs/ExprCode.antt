-- The code of an expression puts its value on the stack.
use Rattle.std.proofs.Common.{◌≡◌, ℕ, suc, ◌+◌, ◌-◌, List, [], ◌∷◌, ◌++◌, length, map, Option, Some, None, Ok, Err, refl, sym, ap, ◌∙◌, subst, arith, if◌then◌else◌, length-append}
use Rattle.std.specs.Prelude.{Bool, true, false, is_some}
use Rattle.std.specs.List.{AllByRecursion}
use mathlib.Core.List.{append-nil}
use Rattle.std.proofs.lemmas.Bool.{false≢true}
use Rattle.da_values.specs.declared.val.Val.{Val}
use Rattle.da_values.specs.declared.val.Val.TheVariants as val
use Rattle.da_values.specs.declared.value.Value.TheVariants as kept
use Rattle.da_values.specs.Views.{int_of, truth_of}
use Rattle.da_lang.specs.declared.code.Instr.TheVariants as op
use Rattle.da_lang.specs.declared.program.ChainPart.{ChainPart}
use Rattle.da_lang.specs.declared.program.Class.{Class}
use Rattle.da_lang.specs.declared.program.Program.{Program}
use Rattle.da_lang.specs.declared.program.RExpr.{RExpr}
use Rattle.da_lang.specs.declared.program.RExpr.TheViews.{out-ChainPart}
use Rattle.da_lang.specs.declared.query.Query.{Query}
use Rattle.da_lang.specs.Arithmetic.{Outcome, arithmetic, range}
use Rattle.da_lang.specs.Evaluation.{Outcomes, all_true, some_true, asked, chained, in_order, with_first, eval, eval_all}
use Rattle.da_lang.specs.Queries.{query_value}
use Rattle.da_lang.specs.QueryTypes.{type_at}
use Rattle.da_lang.specs.World.{Data, at_number}
use Rattle.da_lang.proofs.EvaluationLaws.{part_of, part_of-is, eval-Const, eval-Procs, eval-Me, eval-Slot, eval-Clock, eval-Ask, eval-Range, eval-Tuple, eval-SetOf, eval-Or, eval-And, eval-Not, eval-Cmp, eval-Member, eval-Chain}
use Rattle.da_machine.specs.declared.code.Code.{Code}
use Rattle.da_machine.specs.declared.machine.Machine.{Machine}
use Rattle.da_machine.specs.Acts.{lower, upper, moved}
use Rattle.da_machine.specs.CodeFor.{Has, ExprAt, ExprsAt, TestsAt, PartsAt}
use Rattle.da_machine.specs.Conditions.{IsKnown}
use Rattle.da_machine.specs.Promises.{AllRead}
use Rattle.da_machine.specs.Reads.{reads, reads_part}
use Rattle.da_machine.proofs.Leading.{Leads, Gives, GivesAll, rests, joined, gives_later, gives_after, gives_after_all, all_after, one, pushes}
use Rattle.da_machine.proofs.ReadLaws.{reads_part-is, reads-Slot, reads-Ask, of_range, of_cmp, of_member, of_not, of_tuple, of_set, of_or, of_and, of_chain}
use Rattle.da_machine.proofs.Stacks.{top_last, below_last, cut_at}

some_there : {A : Type 0} (found : Option A) → is_some found ≡ true → (x : A) × (found ≡ Some x)
some_there None e = absurd (false≢true e)
some_there (Some x) e = (x, refl)

-- the last values are those that were put last
pub uppers : (st vs : List Val) (n : ℕ) → length vs ≡ n → (upper n (st ++ vs) ≡ vs) × (lower n (st ++ vs) ≡ st)
uppers st vs n long =
    let place : length st ≡ length (st ++ vs) - n = (let whole = length-append st vs in omega (arith, whole, long)) in
    let cut = cut_at st vs (st ++ vs) (length (st ++ vs) - n) refl place in
    (sym cut.1, sym cut.0)

-- the first outcome and the values of the others
abbrev in_first : Outcome → Outcomes → Outcomes
in_first (Err kind) os = Err kind
in_first (Ok v) os = with_first v os

module _ (queries : List Query) (d : Data) where
  first_long : (v : Val) (os : Outcomes) (n : ℕ) (vs : List Val) → ((ws : List Val) → os ≡ Ok ws → length ws ≡ n) → with_first v os ≡ Ok vs → length vs ≡ suc n
  first_long v (Err kind) n vs long e = absurd (cc)
  first_long v (Ok ws) n vs long e = let same : v ∷ ws ≡ vs = cc in ap length (sym same) ∙ ap suc (long ws refl)

  first_is : (o : Outcome) (os : List Outcome) → in_order (o ∷ os) ≡ in_first o (in_order os)
  first_is (Err kind) os = refl
  first_is (Ok v) os = refl

  one_long : (o : Outcome) (os : Outcomes) (n : ℕ) (vs : List Val) → ((ws : List Val) → os ≡ Ok ws → length ws ≡ n) → in_first o os ≡ Ok vs → length vs ≡ suc n
  one_long (Err kind) os n vs long e = absurd (cc)
  one_long (Ok v) os n vs long e = first_long v os n vs long e

  -- there are as many values as expressions
  pub all_long : (es : List RExpr) (vs : List Val) → eval_all queries es d ≡ Ok vs → length vs ≡ length es
  all_long [] vs e = let same : [] ≡ vs = cc in ap length (sym same)
  all_long (x ∷ xs) vs e = one_long (eval queries x d) (eval_all queries xs d) (length xs) vs (λ ws is. all_long xs ws is) (sym (first_is (eval queries x d) (map (λ e. eval queries e d) xs)) ∙ e)

module _ (p : Program) (class : Class) (code : Code) (d : Data) (known : IsKnown p class d) (m : Machine) where
  abbrev queries : List Query
  queries = class.queries

  -- the value is upon the stack at the place
  abbrev Given : ℕ → List Val → ℕ → List Val → Outcome → Type 0
  Given at st0 end st o = Gives p class code (moved m at st0) m d end st o

  -- the test of a value lets the others follow, or decides
  and_test : (v : Val) (t : Bool) (at decided end : ℕ) (st : List Val) (o : Outcome) → truth_of v ≡ t → Has code at (op.JumpUnless decided)
      → Given (at + 1) st end st o → Given decided st end st (Ok (val.Bool false)) → Given at (st ++ v ∷ []) end st (if t then o else Ok (val.Bool false))
  and_test v true at decided end st o is jump others decides =
      gives_later p class code _ (moved m (at + 1) st) d m end st o (one p class code d known _ (moved m (at + 1) st) d [] _ jump tt (rw (top_last st v, below_last st v, is) refl)) others
  and_test v false at decided end st o is jump others decides =
      gives_later p class code _ (moved m decided st) d m end st (Ok (val.Bool false)) (one p class code d known _ (moved m decided st) d [] _ jump tt (rw (top_last st v, below_last st v, is) refl)) decides

  or_test : (v : Val) (t : Bool) (at decided end : ℕ) (st : List Val) (o : Outcome) → truth_of v ≡ t → Has code at (op.JumpIf decided)
      → Given (at + 1) st end st o → Given decided st end st (Ok (val.Bool true)) → Given at (st ++ v ∷ []) end st (if t then Ok (val.Bool true) else o)
  or_test v false at decided end st o is jump others decides =
      gives_later p class code _ (moved m (at + 1) st) d m end st o (one p class code d known _ (moved m (at + 1) st) d [] _ jump tt (rw (top_last st v, below_last st v, is) refl)) others
  or_test v true at decided end st o is jump others decides =
      gives_later p class code _ (moved m decided st) d m end st (Ok (val.Bool true)) (one p class code d known _ (moved m decided st) d [] _ jump tt (rw (top_last st v, below_last st v, is) refl)) decides

  and_step : (at to decided out : ℕ) (st : List Val) (o : Outcome) (os : List Outcome) → Has code to (op.JumpUnless decided) → Given at st to st o
      → Given (to + 1) st out st (all_true os) → Given decided st out st (Ok (val.Bool false)) → Given at st out st (all_true (o ∷ os))
  and_step at to decided out st (Err kind) os jump gives others decides = gives
  and_step at to decided out st (Ok v) os jump gives others decides =
      gives_later p class code _ (moved m to (st ++ v ∷ [])) d m out st (if truth_of v then all_true os else Ok (val.Bool false)) gives (and_test v (truth_of v) to decided out st (all_true os) refl jump others decides)

  or_step : (at to decided out : ℕ) (st : List Val) (o : Outcome) (os : List Outcome) → Has code to (op.JumpIf decided) → Given at st to st o
      → Given (to + 1) st out st (some_true os) → Given decided st out st (Ok (val.Bool true)) → Given at st out st (some_true (o ∷ os))
  or_step at to decided out st (Err kind) os jump gives others decides = gives
  or_step at to decided out st (Ok v) os jump gives others decides =
      gives_later p class code _ (moved m to (st ++ v ∷ [])) d m out st (if truth_of v then Ok (val.Bool true) else some_true os) gives (or_test v (truth_of v) to decided out st (some_true os) refl jump others decides)

  -- after the tests: the answer that no test decided, and the one that some test did
  undecided : (b : Bool) (end : ℕ) (st : List Val) → Has code end (op.Push (kept.Bool b)) → Has code (end + 1) (op.Jump (end + 3)) → Given end st (end + 3) st (Ok (val.Bool b))
  undecided b end st push jump =
      joined p class code _ (moved m (end + 1) (st ++ val.Bool b ∷ [])) _ d d d [] (one p class code d known _ _ d [] _ push tt refl) (one p class code d known _ _ d [] _ jump tt refl)

  decided_by : (b : Bool) (end : ℕ) (st : List Val) → Has code (end + 2) (op.Push (kept.Bool b)) → Given (end + 2) st (end + 3) st (Ok (val.Bool b))
  decided_by b end st push =
      let place : end + 2 + 1 ≡ end + 3 = omega arith in
      subst (λ to. Given (end + 2) st to st (Ok (val.Bool b))) place (one p class code d known _ _ d [] _ push tt refl)

  mutual
    pub expr_gives : (at : ℕ) (e : RExpr) (end : ℕ) → ExprAt code at e end → reads class e ≡ true → (st : List Val) → Given at st end st (eval queries e d)
    expr_gives _ _ _ (ExprAt.constant {at} {v} has) read st = rw (eval-Const queries d v) (one p class code d known (moved m at st) _ d [] _ has tt refl)
    expr_gives _ _ _ (ExprAt.processes {at} {v} {ps} has is) read st =
        rw (eval-Procs queries d ps) (subst (λ x. Given at st (at + 1) st (Ok x)) is (one p class code d known (moved m at st) _ d [] _ has tt refl))
    expr_gives _ _ _ (ExprAt.itself {at} has) read st = rw (eval-Me queries d) (one p class code d known (moved m at st) _ d [] _ has tt refl)
    expr_gives _ _ _ (ExprAt.slot {at} {s} has) read st =
        rw (eval-Slot queries d s) (one p class code d known (moved m at st) _ d [] _ has (some_there (type_at class.slots s) (sym (reads-Slot class s) ∙ read)) refl)
    expr_gives _ _ _ (ExprAt.clock {at} has) read st = rw (eval-Clock queries d) (one p class code d known (moved m at st) _ d [] _ has tt refl)
    expr_gives _ _ _ (ExprAt.question {at} {n} has) read st =
        rw (eval-Ask queries d n) (pushes p class code d known m at st st (asked (query_value queries n d)) _ has (some_there (at_number class.queries n) (sym (reads-Ask class n) ∙ read)) refl)
    expr_gives _ _ _ (ExprAt.range {at} {to} {end} {a} {b} x y has) read st =
        let both = of_range class a b read in
        rw (eval-Range queries d a b) (gives_after p class code _ m d to (end + 1) st st (eval queries a d) _ (expr_gives at a to x both.0 st)
        (λ v is. gives_after p class code _ m d end (end + 1) (st ++ v ∷ []) st (eval queries b d) _ (expr_gives to b end y both.1 (st ++ v ∷ []))
        (λ w is2. pushes p class code d known m end ((st ++ v ∷ []) ++ w ∷ []) st (range (int_of v) (int_of w)) _ has tt (rw (top_last (st ++ v ∷ []) w, below_last (st ++ v ∷ []) w, top_last st v, below_last st v) refl))))
    expr_gives _ _ _ (ExprAt.tuple {at} {end} {es} x has) read st =
        rw (eval-Tuple queries d es) (gives_after_all p class code _ m d end (end + 1) st (eval_all queries es d) _ (exprs_give at es end x (of_tuple class es read) st)
        (λ vs is. (let cut = uppers st vs (length es) (all_long queries d es vs is) in one p class code d known _ _ d [] _ has tt (rw (cut.0, cut.1) refl))))
    expr_gives _ _ _ (ExprAt.set {at} {end} {es} x has) read st =
        rw (eval-SetOf queries d es) (gives_after_all p class code _ m d end (end + 1) st (eval_all queries es d) _ (exprs_give at es end x (of_set class es read) st)
        (λ vs is. (let cut = uppers st vs (length es) (all_long queries d es vs is) in one p class code d known _ _ d [] _ has tt (rw (cut.0, cut.1) refl))))
    expr_gives _ _ _ (ExprAt.disjunction {at} {end} {es} x push jump push2) read st =
        rw (eval-Or queries d es) (or_gives (end + 2) at es end x (of_or class es read) st (end + 3) (undecided false end st push jump) (decided_by true end st push2))
    expr_gives _ _ _ (ExprAt.conjunction {at} {end} {es} x push jump push2) read st =
        rw (eval-And queries d es) (and_gives (end + 2) at es end x (of_and class es read) st (end + 3) (undecided true end st push jump) (decided_by false end st push2))
    expr_gives _ _ _ (ExprAt.negation {at} {end} {e} x has) read st =
        rw (eval-Not queries d e) (gives_after p class code _ m d end (end + 1) st st (eval queries e d) _ (expr_gives at e end x (of_not class e read) st)
        (λ v is. one p class code d known _ _ d [] _ has tt (rw (top_last st v, below_last st v) refl)))
    expr_gives _ _ _ (ExprAt.comparison {at} {to} {end} {o} {a} {b} x y has) read st =
        let both = of_cmp class o a b read in
        rw (eval-Cmp queries d o a b) (gives_after p class code _ m d to (end + 1) st st (eval queries a d) _ (expr_gives at a to x both.0 st)
        (λ v is. gives_after p class code _ m d end (end + 1) (st ++ v ∷ []) st (eval queries b d) _ (expr_gives to b end y both.1 (st ++ v ∷ []))
        (λ w is2. one p class code d known _ _ d [] _ has tt (rw (top_last (st ++ v ∷ []) w, below_last (st ++ v ∷ []) w, top_last st v, below_last st v) refl))))
    expr_gives _ _ _ (ExprAt.membership {at} {to} {end} {a} {b} x y has) read st =
        let both = of_member class a b read in
        rw (eval-Member queries d a b) (gives_after p class code _ m d to (end + 1) st st (eval queries a d) _ (expr_gives at a to x both.0 st)
        (λ v is. gives_after p class code _ m d end (end + 1) (st ++ v ∷ []) st (eval queries b d) _ (expr_gives to b end y both.1 (st ++ v ∷ []))
        (λ w is2. one p class code d known _ _ d [] _ has tt (rw (top_last (st ++ v ∷ []) w, below_last (st ++ v ∷ []) w, top_last st v, below_last st v) refl))))
    expr_gives _ _ _ (ExprAt.chain {at} {to} {end} {a} {parts} x y) read st =
        let both = of_chain class a parts read in
        rw (eval-Chain queries d a parts) (gives_after p class code _ m d to end st st (eval queries a d) _ (expr_gives at a to x both.0 st)
        (λ v is. parts_give to parts end y both.1 v st))

    pub exprs_give : (at : ℕ) (es : List RExpr) (end : ℕ) → ExprsAt code at es end → AllRead class es → (st : List Val) → GivesAll p class code (moved m at st) m d end st (eval_all queries es d)
    exprs_give _ _ _ (ExprsAt.none {at}) read st = subst (λ all. Leads p class code (moved m at st) d (moved m at all) d []) (sym (append-nil st)) (rests p class code (moved m at st) d)
    exprs_give _ _ _ (ExprsAt.one {at} {to} {end} {e} {es} x xs) read st =
        all_after p class code _ m d to end st (eval queries e d) (map (λ e. eval queries e d) es) (expr_gives at e to x read.0 st) (λ v. exprs_give to es end xs read.1 (st ++ v ∷ []))

    and_gives : (decided at : ℕ) (es : List RExpr) (end : ℕ) → TestsAt code false decided at es end → AllRead class es → (st : List Val) (out : ℕ)
        → Given end st out st (Ok (val.Bool true)) → Given decided st out st (Ok (val.Bool false)) → Given at st out st (all_true (map (λ e. eval queries e d) es))
    and_gives _ _ _ _ (TestsAt.passed {decided} {at}) read st out all one_not = all
    and_gives _ _ _ _ (TestsAt.test {decided} {at} {to} {end} {e} {es} x jump xs) read st out all one_not =
        and_step at to decided out st (eval queries e d) (map (λ e. eval queries e d) es) jump (expr_gives at e to x read.0 st) (and_gives decided (to + 1) es end xs read.1 st out all one_not) one_not

    or_gives : (decided at : ℕ) (es : List RExpr) (end : ℕ) → TestsAt code true decided at es end → AllRead class es → (st : List Val) (out : ℕ)
        → Given end st out st (Ok (val.Bool false)) → Given decided st out st (Ok (val.Bool true)) → Given at st out st (some_true (map (λ e. eval queries e d) es))
    or_gives _ _ _ _ (TestsAt.passed {decided} {at}) read st out none some_is = none
    or_gives _ _ _ _ (TestsAt.test {decided} {at} {to} {end} {e} {es} x jump xs) read st out none some_is =
        or_step at to decided out st (eval queries e d) (map (λ e. eval queries e d) es) jump (expr_gives at e to x read.0 st) (or_gives decided (to + 1) es end xs read.1 st out none some_is) some_is

    parts_give : (at : ℕ) (cs : List ChainPart) (end : ℕ) → PartsAt code at cs end → AllByRecursion (λ c. reads_part class c ≡ true) cs → (v : Val) (st : List Val) → Given at (st ++ v ∷ []) end st (chained v (map (part_of queries) cs) d)
    parts_give _ _ _ (PartsAt.last {at}) read v st = rests p class code (moved m at (st ++ v ∷ [])) d
    parts_give _ _ _ (PartsAt.part {at} {to} {end} {c} {cs} x has y) read v st =
        rw (part_of-is queries c) (gives_after p class code _ m d to end (st ++ v ∷ []) st (eval queries (out-ChainPart c).operand d) _ (expr_gives at _ to x (sym (reads_part-is class c) ∙ read.0) (st ++ v ∷ []))
        (λ w is. gives_after p class code _ m d (to + 1) end st st (arithmetic (out-ChainPart c).op v w) _ (pushes p class code d known m to ((st ++ v ∷ []) ++ w ∷ []) st (arithmetic (out-ChainPart c).op v w) _ has tt (rw (top_last (st ++ v ∷ []) w, below_last (st ++ v ∷ []) w, top_last st v, below_last st v) refl))
        (λ u is2. parts_give (to + 1) cs end y read.1 u st)))
