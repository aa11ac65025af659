-- The queries of four programs, each at two worlds.
use Rattle.std.specs.Prelude.{◌≡◌, ℕ, pos, negsuc, true, false, List, [], ◌∷◌, Some, None, codes, refl}
use Rattle.da_values.specs.declared.val.Val.{Val}
use Rattle.da_values.specs.declared.val.Val.TheVariants as val
use Rattle.da_values.specs.declared.value.Value.TheVariants as literal
use Rattle.da_lang.specs.declared.query.Agg.{roll-Agg}
use Rattle.da_lang.specs.declared.query.AggOp.TheVariants.{Count, Sum, Min, Max}
use Rattle.da_lang.specs.declared.query.Cond.{Cond}
use Rattle.da_lang.specs.declared.query.Cond.TheVariants as cond
use Rattle.da_lang.specs.declared.query.Operand.{Operand}
use Rattle.da_lang.specs.declared.query.Operand.TheVariants as operand
use Rattle.da_lang.specs.declared.query.Pattern.{Pattern}
use Rattle.da_lang.specs.declared.query.Pattern.TheVariants.{Any, Bind, Const, Me, Equal, Tuple}
use Rattle.da_lang.specs.declared.query.Query.{Query}
use Rattle.da_lang.specs.declared.query.Query.TheVariants as query
use Rattle.da_lang.specs.declared.query.RGen.{RGen}
use Rattle.da_lang.specs.declared.query.SignedOperand.{roll-SignedOperand}
use Rattle.da_lang.specs.declared.query.Source.TheVariants as source
use Rattle.da_lang.specs.declared.query.Term.{Term}
use Rattle.da_lang.specs.declared.query.Term.TheVariants as term
use Rattle.da_lang.specs.declared.tree.CmpOp.TheVariants.{Gt, Eq, Lt}
use Rattle.da_lang.specs.Queries.{holds, value_of_query, shown_of_query, least_of_query}
use Rattle.da_lang.specs.World.{Entry, Data}
use Rattle.da_lang.proofs.QueryLaws.{asking}

abbrev pub num : ℕ → Val
num n = val.Int (pos n)

abbrev pub tagged : List ℕ → List Val → Val
tagged tag parts = val.Tuple (val.Text tag ∷ parts)

-- a process that knows its slots and what it received
abbrev pub knows : ℕ → List Val → List Entry → Data
knows me slots received = record { me = me; slots = slots; sent = []; received = received; clock = 0 }

-- EMPTY: a condition, and three aggregates over slot 1

abbrev pub within : Pattern → ℕ → RGen
within p s = record { source = source.Slot s; message = p; peer = Any }

abbrev over_3 : Cond
over_3 = cond.Cmp Gt (operand.Term (term.Part 1)) (operand.Term (term.Const (literal.Int (pos 3))))

abbrev pub all_over_3 : Query
all_over_3 = query.Quant true (within Bind 1 ∷ []) (Some over_3)

abbrev pub empty : Data
empty = knows 1 (val.Set [] ∷ []) []

abbrev pub two_and_five : Data
two_and_five = knows 1 (val.Set (num 2 ∷ num 5 ∷ []) ∷ []) []

all_of_none : value_of_query empty all_over_3 ≡ val.Bool true
all_of_none = simp asking

not_all : value_of_query two_and_five all_over_3 ≡ val.Bool false
not_all = simp asking

not_all_shown : shown_of_query two_and_five all_over_3 ≡ (num 2 ∷ []) ∷ []
not_all_shown = simp asking

abbrev count_of_1 : Query
count_of_1 = query.Agg (roll-Agg (record { op = Count; gens = within Bind 1 ∷ []; cond = None; term = term.Part 1; other = None }))

abbrev max_of_1 : Query
max_of_1 = query.Agg (roll-Agg (record { op = Max; gens = within Bind 1 ∷ []; cond = None; term = term.Part 1; other = Some (term.Const (literal.Int (negsuc 6))) }))

abbrev sum_of_1 : Query
sum_of_1 = query.Agg (roll-Agg (record { op = Sum; gens = within Bind 1 ∷ []; cond = None; term = term.Part 1; other = None }))

count_of_none : value_of_query empty count_of_1 ≡ num 0
count_of_none = simp asking

count_of_two : value_of_query two_and_five count_of_1 ≡ num 2
count_of_two = simp asking

max_of_none : value_of_query empty max_of_1 ≡ val.Int (negsuc 6)
max_of_none = simp asking

max_of_two : value_of_query two_and_five max_of_1 ≡ num 5
max_of_two = simp asking

max_shown : shown_of_query two_and_five max_of_1 ≡ (num 5 ∷ []) ∷ []
max_shown = simp asking

sum_of_none : value_of_query empty sum_of_1 ≡ num 0
sum_of_none = simp asking

sum_of_two : value_of_query two_and_five sum_of_1 ≡ num 7
sum_of_two = simp asking

-- SUPPORT: `some p in s | some (k, =p) in q`, with q in slot 1 and s in slot 2

abbrev supported : Query
supported = query.Quant false (within Bind 2 ∷ []) (Some (cond.Quant false (within (Tuple (Bind ∷ Equal (term.Part 1) ∷ [])) 1 ∷ []) None))

abbrev pairs : List Val → Data
pairs q = knows 1 (val.Set q ∷ val.Set (val.Proc 1 ∷ []) ∷ []) []

abbrev pub pair : ℕ → ℕ → Val
pair n p = val.Tuple (num n ∷ val.Proc p ∷ [])

found_twice : least_of_query (pairs (pair 1 1 ∷ pair 2 1 ∷ [])) supported ≡ Some (val.Proc 1 ∷ [])
found_twice = simp asking

-- the variable of the inner `some` is none of the row, so there is one row
found_twice_shown : shown_of_query (pairs (pair 1 1 ∷ pair 2 1 ∷ [])) supported ≡ (val.Proc 1 ∷ []) ∷ []
found_twice_shown = simp asking

not_found : value_of_query (pairs (pair 2 2 ∷ [])) supported ≡ val.Bool false
not_found = simp asking

not_found_least : least_of_query (pairs []) supported ≡ None
not_found_least = simp asking

-- PING: `some ('pong', n) in received | n > 5`

abbrev pub ponged : Query
ponged = query.Quant false (record { source = source.Received; message = Tuple (Const (literal.Text (codes "pong")) ∷ Bind ∷ []); peer = Any } ∷ []) (Some (cond.Cmp Gt (operand.Term (term.Part 1)) (operand.Term (term.Const (literal.Int (pos 5))))))

abbrev got : List ℕ → List Val → ℕ → Entry
got tag parts p = record { message = tagged tag parts; peer = p; time = 1 }

abbrev pub before_pong : Data
before_pong = knows 1 [] (got (codes "ping") (num 5 ∷ []) 2 ∷ [])

-- the message with 6 arrived twice, which gives no second row
abbrev pub after_pong : Data
after_pong = knows 1 [] (got (codes "pong") (num 9 ∷ []) 2 ∷ got (codes "pong") (num 6 ∷ []) 2 ∷ got (codes "ping") (num 5 ∷ []) 2 ∷ got (codes "pong") (num 6 ∷ []) 2 ∷ got (codes "pong") (num 5 ∷ []) 2 ∷ [])

no_pong : value_of_query before_pong ponged ≡ val.Bool false
no_pong = simp asking

pong : value_of_query after_pong ponged ≡ val.Bool true
pong = simp asking

pongs : shown_of_query after_pong ponged ≡ (num 6 ∷ []) ∷ (num 9 ∷ []) ∷ []
pongs = simp asking

least_pong : least_of_query after_pong ponged ≡ Some (num 6 ∷ [])
least_pong = simp asking

-- LAMPORT: s in slot 1, q in slot 2, c in slot 3

abbrev own : Term
own = term.Tuple (term.Slot 3 ∷ term.Me ∷ [])

abbrev asked : Term
asked = term.Tuple (term.Part 1 ∷ term.Part 2 ∷ [])

abbrev pub first_in_line : Query
first_in_line = query.Quant true (within (Tuple (Bind ∷ Bind ∷ [])) 2 ∷ []) (Some (cond.Or (cond.Cmp Eq (operand.Term asked) (operand.Term own) ∷ cond.Cmp Lt (operand.Term own) (operand.Term asked) ∷ [])))

abbrev pub acked : Cond
acked = cond.Quant false (record { source = source.Received; message = Tuple (Const (literal.Text (codes "ack")) ∷ Bind ∷ Equal (term.Part 1) ∷ []); peer = Any } ∷ []) (Some (cond.Cmp Gt (operand.Term (term.Part 2)) (operand.Term (term.Slot 3))))

abbrev pub acked_by_all : Query
acked_by_all = query.Quant true (within Bind 1 ∷ []) (Some acked)

abbrev pub lamport : List Val → List Entry → Data
lamport q received = knows 2 (val.Set (val.Proc 1 ∷ val.Proc 3 ∷ []) ∷ val.Set q ∷ num 4 ∷ []) received

abbrev pub ack : ℕ → ℕ → Entry
ack n p = got (codes "ack") (num n ∷ val.Proc p ∷ []) p

-- its own request at 4, one of process 3 at the same time, and one of process 1 before it
first_of_two : value_of_query (lamport (pair 4 2 ∷ pair 4 3 ∷ []) []) first_in_line ≡ val.Bool true
first_of_two = simp asking

second_of_two : value_of_query (lamport (pair 4 1 ∷ pair 4 2 ∷ []) []) first_in_line ≡ val.Bool false
second_of_two = simp asking

earlier_shown : shown_of_query (lamport (pair 3 3 ∷ pair 4 1 ∷ pair 4 2 ∷ pair 5 1 ∷ []) []) first_in_line ≡ (num 3 ∷ val.Proc 3 ∷ []) ∷ (num 4 ∷ val.Proc 1 ∷ []) ∷ []
earlier_shown = simp asking

one_ack_is_late : value_of_query (lamport [] (ack 5 1 ∷ ack 4 3 ∷ [])) acked_by_all ≡ val.Bool false
one_ack_is_late = simp asking

one_ack_is_late_shown : shown_of_query (lamport [] (ack 5 1 ∷ ack 4 3 ∷ [])) acked_by_all ≡ (val.Proc 3 ∷ []) ∷ []
one_ack_is_late_shown = simp asking

both_acks : value_of_query (lamport [] (ack 5 1 ∷ ack 4 3 ∷ ack 7 3 ∷ [])) acked_by_all ≡ val.Bool true
both_acks = simp asking

-- Each further form, in process 2 whose slot 1 is the set {2, 5}, which sent the message (9,) to 1 and to 3.

abbrev sender : Data
sender = record {
  me = 2;
  slots = val.Set (num 2 ∷ num 5 ∷ []) ∷ [];
  received = [];
  clock = 4;
  sent = record { message = val.Tuple (num 9 ∷ []); peer = 1; time = 3 } ∷ record { message = val.Tuple (num 9 ∷ []); peer = 3; time = 4 } ∷ [];
}

abbrev sent_to : Pattern → RGen
sent_to p = record { source = source.Sent; message = Tuple (Bind ∷ []); peer = p }

recipients : shown_of_query sender (query.Quant false (sent_to Bind ∷ []) None) ≡ (num 9 ∷ val.Proc 1 ∷ []) ∷ (num 9 ∷ val.Proc 3 ∷ []) ∷ []
recipients = simp asking

to_itself : value_of_query sender (query.Quant false (sent_to Me ∷ []) None) ≡ val.Bool false
to_itself = simp asking

-- two generators: the second sees the variables of the first
two_generators : shown_of_query sender (query.Quant false (within Bind 1 ∷ within Bind 1 ∷ []) (Some (cond.Not (cond.Cmp Eq (operand.Term (term.Part 1)) (operand.Term (term.Part 2)))))) ≡ (num 2 ∷ num 5 ∷ []) ∷ (num 5 ∷ num 2 ∷ []) ∷ []
two_generators = simp asking

same_twice : shown_of_query sender (query.Quant false (within Bind 1 ∷ within (Equal (term.Part 1)) 1 ∷ []) None) ≡ (num 2 ∷ []) ∷ (num 5 ∷ []) ∷ []
same_twice = simp asking

comprehension : value_of_query sender (query.Comp (term.Tuple (term.Part 1 ∷ term.Me ∷ [])) (within Bind 1 ∷ []) None) ≡ val.Set (pair 2 2 ∷ pair 5 2 ∷ [])
comprehension = simp asking

comprehension_shown : shown_of_query sender (query.Comp (term.Part 1) (within Bind 1 ∷ []) (Some (cond.Cmp Gt (operand.Term (term.Part 1)) (operand.Term (term.Const (literal.Int (pos 2))))))) ≡ (num 5 ∷ []) ∷ []
comprehension_shown = simp asking

-- the messages are two, the rows of the message alone are one, and so is the set
count_of_messages : value_of_query sender (query.Agg (roll-Agg (record { op = Count; gens = sent_to Any ∷ []; cond = None; term = term.Part 1; other = None }))) ≡ num 1
count_of_messages = simp asking

each_without_condition : value_of_query sender (query.Quant true (within Bind 1 ∷ []) None) ≡ val.Bool true
each_without_condition = simp asking

each_without_condition_shown : shown_of_query sender (query.Quant true (within Bind 1 ∷ []) None) ≡ []
each_without_condition_shown = simp asking

least_of_each : least_of_query sender (query.Quant true (within Bind 1 ∷ []) (Some over_3)) ≡ None
least_of_each = refl

abbrev count : Cond → Operand
count b = operand.Agg (roll-Agg (record { op = Count; gens = within Bind 1 ∷ []; cond = Some b; term = term.Part 1; other = None }))

-- an aggregate in a comparison, and a chain with numbers beyond 64 bits
abbrev huge : Operand
huge = operand.Term (term.Const (literal.Int (pos 9223372036854775807)))

counted : holds sender (cond.Cmp Eq (count over_3) (operand.Term (term.Const (literal.Int (pos 1))))) [] ≡ true
counted = simp asking

exact : holds sender (cond.Cmp Gt (operand.Chain huge (roll-SignedOperand (record { minus = false; operand = count over_3 }) ∷ [])) huge) [] ≡ true
exact = simp asking

taken_away : holds sender (cond.Cmp Eq (operand.Chain huge (roll-SignedOperand (record { minus = false; operand = huge }) ∷ roll-SignedOperand (record { minus = true; operand = huge }) ∷ [])) huge) [] ≡ true
taken_away = simp asking

both_and_either : holds sender (cond.And (cond.Truth (term.Const (literal.Bool true)) ∷ cond.Or (cond.Truth (term.Const (literal.Bool false)) ∷ cond.Not (cond.Truth (term.Const (literal.Bool false))) ∷ []) ∷ [])) [] ≡ true
both_and_either = simp asking

foreign_condition : holds sender (cond.Truth term.Foreign) [] ≡ false
foreign_condition = simp asking

abbrev least_of_1 : Query
least_of_1 = query.Agg (roll-Agg (record { op = Min; gens = within Bind 1 ∷ []; cond = None; term = term.Part 1; other = Some (term.Const (literal.Int (pos 1))) }))

min_of_two : value_of_query sender least_of_1 ≡ num 2
min_of_two = simp asking

min_of_none : value_of_query empty least_of_1 ≡ num 1
min_of_none = simp asking
