-- Each form of expression, and each fault, in process 3 at the time 5. Its slots are 7, {1, 2}, {2, 4}, true, and the
-- set of 1 and the greatest integer.
use Rattle.std.specs.Prelude.{◌≡◌, refl, ℕ, ◌<◌, ◌≤◌, ℤ, pos, negsuc, Bool, true, false, List, [], ◌∷◌, Some, None, Ok, Err, codes}
use Rattle.std.specs.Int.{int_gap}
use Rattle.std.proofs.Common.{ap, arith}
use Rattle.std.proofs.lemmas.Bool.{le-leb, lt-leb}
use Rattle.da_values.specs.declared.val.Val.{Val}
use Rattle.da_values.specs.declared.val.Val.TheVariants as val
use Rattle.da_values.specs.declared.value.Value.TheVariants as literal
use Rattle.da_lang.specs.declared.event.FaultKind.TheVariants.{Overflow, Divide, Range}
use Rattle.da_lang.specs.declared.program.ChainPart.{ChainPart, roll-ChainPart}
use Rattle.da_lang.specs.declared.program.RExpr.{RExpr}
use Rattle.da_lang.specs.declared.program.RExpr.TheVariants as ex
use Rattle.da_lang.specs.declared.query.Agg.{roll-Agg}
use Rattle.da_lang.specs.declared.query.AggOp.{AggOp}
use Rattle.da_lang.specs.declared.query.AggOp.TheVariants.{Count, Sum, Max}
use Rattle.da_lang.specs.declared.query.Pattern.TheVariants.{Any, Bind}
use Rattle.da_lang.specs.declared.query.Query.{Query}
use Rattle.da_lang.specs.declared.query.Query.TheVariants as query
use Rattle.da_lang.specs.declared.query.Source.TheVariants as source
use Rattle.da_lang.specs.declared.query.Term.TheVariants as term
use Rattle.da_lang.specs.declared.tree.ArithOp.{ArithOp}
use Rattle.da_lang.specs.declared.tree.ArithOp.TheVariants.{Plus, Minus, Times, Div, Mod}
use Rattle.da_lang.specs.declared.tree.CmpOp.TheVariants.{Eq, Ne, Lt, Le, Gt, Ge}
use Rattle.da_lang.specs.Arithmetic.{Outcome, max_range, numbers_from, range as ranges, range_if}
use Rattle.da_lang.specs.Evaluation.{eval}
use Rattle.da_lang.proofs.EvaluationLaws.{evaluating}
use Rattle.da_lang.specs.World.{Data}
use Rattle.da_lang.proofs.QueryLaws.{asking}

abbrev num : ℕ → Val
num n = val.Int (pos n)

abbrev greatest : ℕ
greatest = 9223372036854775807

abbrev here : Data
here = record { me = 3; slots = num 7 ∷ val.Set (num 1 ∷ num 2 ∷ []) ∷ val.Set (num 2 ∷ num 4 ∷ []) ∷ val.Bool true ∷ val.Set (num 1 ∷ num greatest ∷ []) ∷ []; sent = []; received = []; clock = 5 }

-- `op(x: x in s)` of a slot, with the default 0
abbrev over : AggOp → ℕ → Query
over op s = query.Agg (roll-Agg (record { op = op; gens = record { source = source.Slot s; message = Bind; peer = Any } ∷ []; cond = None; term = term.Part 1; other = Some (term.Const (literal.Int (pos 0))) }))

-- `some x in s`, a count, a sum that fits, and one that does not
abbrev queries : List Query
queries = query.Quant false (record { source = source.Slot 2; message = Bind; peer = Any } ∷ []) None ∷ over Count 2 ∷ over Sum 3 ∷ over Sum 5 ∷ over Max 5 ∷ []

abbrev gives : RExpr → Outcome
gives e = eval queries e here

abbrev int : ℤ → RExpr
int z = ex.Const (literal.Int z)

abbrev truth : Bool → RExpr
truth b = ex.Const (literal.Bool b)

abbrev part : ArithOp → RExpr → ChainPart
part op e = roll-ChainPart (record { op = op; operand = e })

abbrev chain : RExpr → ArithOp → RExpr → RExpr
chain a op b = ex.Chain a (part op b ∷ [])

abbrev zero_divisor : RExpr
zero_divisor = chain (int (pos 1)) Div (int (pos 0))

abbrev too_large : RExpr
too_large = chain (int (pos greatest)) Plus (int (pos 1))

-- VALUES OF THE PROCESS

literal_is : gives (ex.Const (literal.Text (codes "ab"))) ≡ Ok (val.Text (codes "ab"))
literal_is = simp evaluating

processes : gives (ex.Procs (2 ∷ 1 ∷ [])) ≡ Ok (val.Set (val.Proc 1 ∷ val.Proc 2 ∷ []))
processes = simp (evaluating, asking)

itself : gives ex.Me ≡ Ok (val.Proc 3)
itself = simp evaluating

slot : gives (ex.Slot 1) ≡ Ok (num 7)
slot = simp evaluating

clock : gives ex.Clock ≡ Ok (num 5)
clock = simp evaluating

-- NUMBERS

sum : gives (chain (int (pos 2)) Plus (int (pos 3))) ≡ Ok (num 5)
sum = simp (evaluating, asking)

difference : gives (chain (int (pos 2)) Minus (int (pos 3))) ≡ Ok (val.Int (negsuc 0))
difference = simp (evaluating, asking)

product : gives (chain (int (negsuc 1)) Times (int (pos 3))) ≡ Ok (val.Int (negsuc 5))
product = simp (evaluating, asking)

-- `-7 // 2` is -4, `7 // -2` is -4, and `-7 // -2` is 3
quotient : gives (chain (int (negsuc 6)) Div (int (pos 2))) ≡ Ok (val.Int (negsuc 3))
quotient = simp (evaluating, asking)

quotient_by_negative : gives (chain (int (pos 7)) Div (int (negsuc 1))) ≡ Ok (val.Int (negsuc 3))
quotient_by_negative = simp (evaluating, asking)

quotient_of_negatives : gives (chain (int (negsuc 6)) Div (int (negsuc 1))) ≡ Ok (num 3)
quotient_of_negatives = simp (evaluating, asking)

-- `-7 % 2` is 1, and `7 % -2` is -1
remainder : gives (chain (int (negsuc 6)) Mod (int (pos 2))) ≡ Ok (num 1)
remainder = simp (evaluating, asking)

remainder_by_negative : gives (chain (int (pos 7)) Mod (int (negsuc 1))) ≡ Ok (val.Int (negsuc 0))
remainder_by_negative = simp (evaluating, asking)

-- `10 - 3 - 2`, from the left
from_the_left : gives (ex.Chain (int (pos 10)) (part Minus (int (pos 3)) ∷ part Minus (int (pos 2)) ∷ [])) ≡ Ok (num 5)
from_the_left = simp (evaluating, asking)

-- FAULTS OF NUMBERS

sum_overflows : gives too_large ≡ Err Overflow
sum_overflows = simp (evaluating, asking)

difference_overflows : gives (chain (int (negsuc greatest)) Minus (int (pos 1))) ≡ Err Overflow
difference_overflows = simp (evaluating, asking)

product_overflows : gives (chain (int (pos greatest)) Times (int (pos 2))) ≡ Err Overflow
product_overflows = simp (evaluating, asking)

-- the least integer by -1
quotient_overflows : gives (chain (int (negsuc greatest)) Div (int (negsuc 0))) ≡ Err Overflow
quotient_overflows = simp (evaluating, asking)

remainder_never_does : gives (chain (int (negsuc greatest)) Mod (int (negsuc 0))) ≡ Ok (num 0)
remainder_never_does = simp (evaluating, asking)

quotient_divides : gives zero_divisor ≡ Err Divide
quotient_divides = simp (evaluating, asking)

remainder_divides : gives (chain (int (pos 1)) Mod (int (pos 0))) ≡ Err Divide
remainder_divides = simp (evaluating, asking)

-- an operation comes before the operands after it
fault_from_the_left : gives (ex.Chain (int (pos greatest)) (part Plus (int (pos 1)) ∷ part Plus zero_divisor ∷ [])) ≡ Err Overflow
fault_from_the_left = simp (evaluating, asking)

-- SETS

union : gives (chain (ex.Slot 2) Plus (ex.Slot 3)) ≡ Ok (val.Set (num 1 ∷ num 2 ∷ num 4 ∷ []))
union = simp (evaluating, asking)

set_difference : gives (chain (ex.Slot 2) Minus (ex.Slot 3)) ≡ Ok (val.Set (num 1 ∷ []))
set_difference = simp (evaluating, asking)

intersection : gives (chain (ex.Slot 2) Times (ex.Slot 3)) ≡ Ok (val.Set (num 2 ∷ []))
intersection = simp (evaluating, asking)

set_of : gives (ex.SetOf (int (pos 2) ∷ int (pos 1) ∷ int (pos 2) ∷ [])) ≡ Ok (val.Set (num 1 ∷ num 2 ∷ []))
set_of = simp (evaluating, asking)

tuple_of : gives (ex.Tuple (ex.Slot 1 ∷ ex.Me ∷ [])) ≡ Ok (val.Tuple (num 7 ∷ val.Proc 3 ∷ []))
tuple_of = simp evaluating

first_fault : gives (ex.Tuple (ex.Slot 1 ∷ zero_divisor ∷ too_large ∷ [])) ≡ Err Divide
first_fault = simp (evaluating, asking)

member : gives (ex.Member (int (pos 2)) (ex.Slot 2)) ≡ Ok (val.Bool true)
member = simp (evaluating, asking)

no_member : gives (ex.Member (int (pos 4)) (ex.Slot 2)) ≡ Ok (val.Bool false)
no_member = simp (evaluating, asking)

range : gives (ex.Range (int (negsuc 0)) (int (pos 2))) ≡ Ok (val.Set (val.Int (negsuc 0) ∷ num 0 ∷ num 1 ∷ []))
unfolding max_range
range = simp (evaluating, asking)

empty_range : gives (ex.Range (int (pos 3)) (int (pos 3))) ≡ Ok (val.Set [])
unfolding max_range
empty_range = simp (evaluating, asking)

backward_range : gives (ex.Range (int (pos 3)) (int (pos 0))) ≡ Ok (val.Set [])
unfolding max_range
backward_range = simp (evaluating, asking)

long_range : gives (ex.Range (int (pos 0)) (int (pos 100001))) ≡ Err Range
unfolding max_range
long_range = simp (evaluating, asking)

-- by how many numbers lie between: 100000 are the most
gives_range : (a b : ℤ) (n : ℕ) → int_gap a b ≡ n → n ≤ max_range → ranges a b ≡ Ok (val.Set (numbers_from a n))
gives_range a b n gap few = rw gap (ap (λ fits. range_if fits a n) (le-leb n max_range few))

gives_no_range : (a b : ℤ) (n : ℕ) → int_gap a b ≡ n → max_range < n → ranges a b ≡ Err Range
gives_no_range a b n gap many = rw gap (ap (λ fits. range_if fits a n) (lt-leb n max_range many))

longest_range : ranges (pos 5) (pos 100005) ≡ Ok (val.Set (numbers_from (pos 5) 100000))
unfolding max_range
longest_range = gives_range (pos 5) (pos 100005) 100000 refl (omega arith)

one_number_more : ranges (pos 5) (pos 100006) ≡ Err Range
unfolding max_range
one_number_more = gives_no_range (pos 5) (pos 100006) 100001 refl (omega arith)

-- TRUTH

negation : gives (ex.Not (ex.Slot 4)) ≡ Ok (val.Bool false)
negation = simp (evaluating, asking)

all_of : gives (ex.And (truth true ∷ ex.Slot 4 ∷ [])) ≡ Ok (val.Bool true)
all_of = simp (evaluating, asking)

-- after what decides nothing is evaluated
false_decides : gives (ex.And (truth false ∷ zero_divisor ∷ [])) ≡ Ok (val.Bool false)
false_decides = simp (evaluating, asking)

true_does_not : gives (ex.And (truth true ∷ zero_divisor ∷ [])) ≡ Err Divide
true_does_not = simp (evaluating, asking)

one_of : gives (ex.Or (truth false ∷ truth false ∷ [])) ≡ Ok (val.Bool false)
one_of = simp (evaluating, asking)

true_decides : gives (ex.Or (truth true ∷ zero_divisor ∷ [])) ≡ Ok (val.Bool true)
true_decides = simp (evaluating, asking)

false_does_not : gives (ex.Or (truth false ∷ zero_divisor ∷ [])) ≡ Err Divide
false_does_not = simp (evaluating, asking)

equal : gives (ex.Cmp Eq (ex.Slot 1) (int (pos 7))) ≡ Ok (val.Bool true)
equal = simp (evaluating, asking)

unequal : gives (ex.Cmp Ne (ex.Slot 1) (int (pos 7))) ≡ Ok (val.Bool false)
unequal = simp (evaluating, asking)

less : gives (ex.Cmp Lt (int (negsuc 0)) (int (pos 0))) ≡ Ok (val.Bool true)
less = simp (evaluating, asking)

at_most : gives (ex.Cmp Le (int (pos 1)) (int (pos 0))) ≡ Ok (val.Bool false)
at_most = simp (evaluating, asking)

greater : gives (ex.Cmp Gt (int (pos 1)) (int (pos 0))) ≡ Ok (val.Bool true)
greater = simp (evaluating, asking)

at_least : gives (ex.Cmp Ge (int (pos 0)) (int (pos 0))) ≡ Ok (val.Bool true)
at_least = simp (evaluating, asking)

-- QUERIES

some_element : gives (ex.Ask 1) ≡ Ok (val.Bool true)
some_element = simp (evaluating, asking)

count : gives (ex.Ask 2) ≡ Ok (num 2)
count = simp (evaluating, asking)

sum_of_set : gives (ex.Ask 3) ≡ Ok (num 6)
sum_of_set = simp (evaluating, asking)

sum_of_set_overflows : gives (ex.Ask 4) ≡ Err Overflow
sum_of_set_overflows = simp (evaluating, asking)

greatest_element : gives (ex.Ask 5) ≡ Ok (num greatest)
greatest_element = simp (evaluating, asking)
