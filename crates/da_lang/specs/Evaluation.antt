-- The value of an expression outside queries, or its fault.
use Rattle.std.specs.Prelude.{pos, true, false, not, if◌then◌else◌, List, [], ◌∷◌, map, Result, Ok, Err}
use Rattle.da_values.specs.declared.val.Val.{Val, out-Val}
use Rattle.da_values.specs.declared.val.Val.TheVariants as val
use Rattle.da_values.specs.declared.val.Val.TheOpen.{Val-F, Int}
use Rattle.da_values.specs.Order.{val_cmp}
use Rattle.da_values.specs.Sets.{canon, set_has, set_image}
use Rattle.da_values.specs.Value.{val_of}
use Rattle.da_values.specs.Views.{int_of, truth_of, elements_of}
use Rattle.da_lang.specs.declared.event.FaultKind.{FaultKind}
use Rattle.da_lang.specs.declared.program.RExpr.{RExpr}
use Rattle.da_lang.specs.declared.program.RExpr.TheOpen.{RExpr-F, ChainPart-F, Const, Procs, Me, Slot, Clock, Ask, Range, Tuple, SetOf, Or, And, Not, Cmp, Member, Chain}
use Rattle.da_lang.specs.declared.program.RExpr.TheFolds.{fold-RExpr}
use Rattle.da_lang.specs.declared.query.Query.{Query}
use Rattle.da_lang.specs.declared.tree.ArithOp.{ArithOp}
use Rattle.da_lang.specs.Arithmetic.{Outcome, fitted, arithmetic, range}
use Rattle.da_lang.specs.Queries.{compares, query_value}
use Rattle.da_lang.specs.World.{Data, slot_of}

-- goes on with the value; a fault stays
abbrev pub after : Outcome → (Val → Outcome) → Outcome
after (Err kind) go = Err kind
after (Ok v) go = go v

-- the values of all, or the first fault
abbrev pub Outcomes : Type 0
Outcomes = Result (List Val) FaultKind

abbrev pub with_first : Val → Outcomes → Outcomes
with_first v (Err kind) = Err kind
with_first v (Ok vs) = Ok (v ∷ vs)

abbrev pub in_order : List Outcome → Outcomes
in_order [] = Ok []
in_order (Err kind ∷ outcomes) = Err kind
in_order (Ok v ∷ outcomes) = with_first v (in_order outcomes)

abbrev pub after_all : Outcomes → (List Val → Outcome) → Outcome
after_all (Err kind) go = Err kind
after_all (Ok vs) go = go vs

-- of `and`: false at the first false one, or the fault that comes before it
abbrev pub all_true : List Outcome → Outcome
all_true [] = Ok (val.Bool true)
all_true (Err kind ∷ outcomes) = Err kind
all_true (Ok v ∷ outcomes) = if truth_of v then all_true outcomes else Ok (val.Bool false)

-- of `or`: true at the first true one, or the fault that comes before it
abbrev pub some_true : List Outcome → Outcome
some_true [] = Ok (val.Bool false)
some_true (Err kind ∷ outcomes) = Err kind
some_true (Ok v ∷ outcomes) = if truth_of v then Ok (val.Bool true) else some_true outcomes

-- the value of a query, whose number has to fit
abbrev pub asked_layer : Val-F Val → Val → Outcome
asked_layer (Int z) v = fitted z
asked_layer _ v = Ok v

abbrev pub asked : Val → Outcome
asked v = asked_layer (out-Val v) v

abbrev pub Meaning : Type 0
Meaning = Data → Outcome

pub record PartMeaning : Type 0 where
  pub op : ArithOp
  pub operand : Meaning

-- a chain is worked out from the left: each operand is evaluated after the operation before it
abbrev pub chained : Val → List PartMeaning → Meaning
chained v [] d = Ok v
chained v (p ∷ ps) d = after (p.operand d) (λ w. after (arithmetic p.op v w) (λ u. chained u ps d))

-- what each of them gives
abbrev pub outcomes : List Meaning → Data → List Outcome
outcomes fs d = map (λ (f : Meaning). f d) fs

abbrev pub expr_step : List Query → RExpr-F Meaning PartMeaning → Meaning
expr_step queries (Const v) d = Ok (val_of v)
expr_step queries (Procs ps) d = Ok (val.Set (set_image val_cmp val.Proc ps))
expr_step queries Me d = Ok (val.Proc d.me)
expr_step queries (Slot s) d = Ok (slot_of d s)
expr_step queries Clock d = Ok (val.Int (pos d.clock))
expr_step queries (Ask n) d = asked (query_value queries n d)
expr_step queries (Range f g) d = after (f d) (λ a. after (g d) (λ b. range (int_of a) (int_of b)))
expr_step queries (Tuple fs) d = after_all (in_order (outcomes fs d)) (λ vs. Ok (val.Tuple vs))
expr_step queries (SetOf fs) d = after_all (in_order (outcomes fs d)) (λ vs. Ok (val.Set (canon val_cmp vs)))
expr_step queries (Or fs) d = some_true (outcomes fs d)
expr_step queries (And fs) d = all_true (outcomes fs d)
expr_step queries (Not f) d = after (f d) (λ v. Ok (val.Bool (not (truth_of v))))
expr_step queries (Cmp op f g) d = after (f d) (λ v. after (g d) (λ w. Ok (val.Bool (compares op (val_cmp v w)))))
expr_step queries (Member f g) d = after (f d) (λ v. after (g d) (λ w. Ok (val.Bool (set_has val_cmp (elements_of w) v))))
expr_step queries (Chain f ps) d = after (f d) (λ v. chained v ps d)

abbrev pub part_step : ChainPart-F Meaning PartMeaning → PartMeaning
part_step p = record { op = p.op; operand = p.operand }

-- the value of an expression in a class with these queries
abbrev pub eval : List Query → RExpr → Meaning
eval queries = fold-RExpr Meaning PartMeaning (expr_step queries) part_step

-- the values of expressions, in order
abbrev pub eval_all : List Query → List RExpr → Data → Outcomes
eval_all queries es d = in_order (map (λ e. eval queries e d) es)
