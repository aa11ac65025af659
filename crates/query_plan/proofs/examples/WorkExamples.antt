-- How many rows an update may read.
use Rattle.std.specs.Prelude.{◌≡◌, ℕ, pos, List, [], ◌∷◌, None, codes}
use Rattle.da_values.specs.declared.val.Val.{Val}
use Rattle.da_values.specs.declared.val.Val.TheVariants as val
use Rattle.da_values.specs.declared.value.Value.TheVariants as literal
use Rattle.da_lang.specs.declared.query.AggOp.TheVariants.{Count}
use Rattle.da_lang.specs.declared.query.Cond.{Cond}
use Rattle.da_lang.specs.declared.query.Cond.TheVariants as cond
use Rattle.da_lang.specs.declared.query.Node.{Node}
use Rattle.da_lang.specs.declared.query.Node.TheVariants as node
use Rattle.da_lang.specs.declared.query.Operand.TheVariants as operand
use Rattle.da_lang.specs.declared.query.Pattern.{Pattern}
use Rattle.da_lang.specs.declared.query.Pattern.TheVariants.{Any, Bind, Const, Equal, Tuple}
use Rattle.da_lang.specs.declared.query.RGen.{RGen}
use Rattle.da_lang.specs.declared.query.Source.TheVariants as source
use Rattle.da_lang.specs.declared.query.Term.{Term}
use Rattle.da_lang.specs.declared.query.Term.TheVariants as term
use Rattle.da_lang.specs.declared.tree.CmpOp.TheVariants.{Gt}
use Rattle.da_lang.specs.World.{Data, Entry}
use Rattle.da_lang.proofs.CaughtLaws.{origins-Any, origins-Bind, origins-Const, origins-Me, origins-Equal, origins-Tuple}
use Rattle.da_lang.proofs.LiveLaws.{varies-Const, varies-Me, varies-Slot, varies-Part, varies-Tuple, varies-Foreign, live-Any, live-Bind, live-Const, live-Me, live-Equal, live-Tuple}
use Rattle.da_lang.proofs.QueryLaws.{asking}
use Rattle.query_plan.specs.Updates.{Receives, Joins, Leaves, Assigns}
use Rattle.query_plan.specs.Work.{work}
use Rattle.query_plan.proofs.AgreeingLaws.{given-Const, given-Me, given-Slot, given-Part, given-Tuple, given-Foreign, alone-Const, alone-Me, alone-Slot, alone-Part, alone-Tuple, alone-Foreign}
use Rattle.query_plan.proofs.PlanTermsAt.{naming}

ruleset working = (asking, naming, varies-Const, varies-Me, varies-Slot, varies-Part, varies-Tuple, varies-Foreign, live-Any, live-Bind, live-Const, live-Me, live-Equal, live-Tuple, origins-Any, origins-Bind, origins-Const, origins-Me, origins-Equal, origins-Tuple, given-Const, given-Me, given-Slot, given-Part, given-Tuple, given-Foreign, alone-Const, alone-Me, alone-Slot, alone-Part, alone-Tuple, alone-Foreign)

abbrev num : ℕ → Val
num n = val.Int (pos n)

abbrev tagged : List ℕ → ℕ → Val
tagged tag n = val.Tuple (val.Text tag ∷ num n ∷ [])

-- a message with a tag and an integer, by the pattern of which the integer is a new variable
abbrev of_tag : List ℕ → Pattern
of_tag tag = Tuple (Const (literal.Text tag) ∷ Bind ∷ [])

abbrev over : List ℕ → Pattern → RGen
over tag peer = record { source = source.Received; message = of_tag tag; peer = peer }

abbrev entry : List ℕ → ℕ → ℕ → Entry
entry tag n p = record { message = tagged tag n; peer = p; time = 1 }

abbrev above : ℕ → Term → Cond
above k t = cond.Cmp Gt (operand.Term (term.Part k)) (operand.Term t)

-- `some ('pong', n) in received | n > 5`

abbrev pongs : List Entry → Data
pongs received = record { me = 1; slots = []; sent = []; received = received; clock = 0 }

abbrev pong_plan : List Node
pong_plan = node.Root ∷ node.Gen 0 (over (codes "pong") Any) ∷ node.Filter 1 (above 1 (term.Const (literal.Int (pos 5)))) ∷ node.Semi 0 2 ∷ []

-- three nodes with 1, a row that comes, and one of the parent or a change that is read
first_pong : work (Receives (tagged (codes "pong") 6) 2 3) (pongs []) pong_plan ≡ 9
first_pong = simp working

-- one that the condition refuses: the last node has no change to read
small_pong : work (Receives (tagged (codes "pong") 4) 2 3) (pongs []) pong_plan ≡ 5
small_pong = simp working

-- another one that it takes: the row of the last node is there already
second_pong : work (Receives (tagged (codes "pong") 6) 2 3) (pongs (entry (codes "pong") 7 2 ∷ [])) pong_plan ≡ 8
second_pong = simp working

-- the same message again
equal_pong : work (Receives (tagged (codes "pong") 6) 2 3) (pongs (entry (codes "pong") 6 2 ∷ [])) pong_plan ≡ 0
equal_pong = simp working

-- one that no live pattern takes
ping : work (Receives (tagged (codes "ping") 5) 2 3) (pongs (entry (codes "pong") 6 2 ∷ [])) pong_plan ≡ 0
ping = simp working

-- `each p in ps | some ('ack', t) from =p in received | t > limit`; slot 1 is ps, and slot 2 is limit

abbrev acked : List Entry → Data
acked received = record { me = 1; slots = val.Set (val.Proc 2 ∷ val.Proc 3 ∷ []) ∷ num 5 ∷ []; sent = []; received = received; clock = 0 }

abbrev ack_plan : List Node
ack_plan =
    node.Root
    ∷ node.Gen 0 (record { source = source.Slot 1; message = Bind; peer = Any })
    ∷ node.Gen 1 (over (codes "ack") (Equal (term.Part 1)))
    ∷ node.Filter 2 (above 2 (term.Slot 2))
    ∷ node.Semi 1 3
    ∷ node.Anti 1 4
    ∷ node.Anti 0 5
    ∷ []

-- An ack of one of the two processes: of the two rows of node 1 one agrees with it. 3, 3, 3 and 3, and 2 for the last node,
-- whose row does not come, since one process is left.
one_ack : work (Receives (tagged (codes "ack") 7) 2 3) (acked []) ack_plan ≡ 14
one_ack = simp working

-- The limit is 8 now: node 3 reads the two rows of node 2, and one of its own leaves. 4, 3, 3 and 3.
other_limit : work (Assigns 2 (num 8)) (acked (entry (codes "ack") 7 2 ∷ entry (codes "ack") 9 3 ∷ [])) ack_plan ≡ 13
other_limit = simp working

-- The process that has not answered leaves the set, and the condition holds: 3, 2, 2, 3 and 3.
left_alone : work (Leaves 1 (val.Proc 3)) (acked (entry (codes "ack") 7 2 ∷ [])) ack_plan ≡ 13
left_alone = simp working

-- A process joins whose ack is there already: node 2 reads its live row. 3, 4, 3, 4 and 3; the last node is not touched.
late : work (Joins 1 (val.Proc 4)) (acked (entry (codes "ack") 7 2 ∷ entry (codes "ack") 9 3 ∷ entry (codes "ack") 8 4 ∷ [])) ack_plan ≡ 17
late = simp working

-- `count({p: ('ack', _) from p in received}) > 1`, where the pattern binds the integer too

abbrev count_plan : List Node
count_plan =
    node.Root
    ∷ node.Gen 0 (over (codes "ack") Bind)
    ∷ node.AggBind 0 1 Count (term.Part 2) None
    ∷ node.Filter 2 (above 1 (term.Const (literal.Int (pos 1))))
    ∷ node.Semi 0 3
    ∷ []

-- The number becomes 2: of node 2 one row leaves and one comes, and the two rows of its group are read, and 1. 3, 7, 4 and 3.
one_more : work (Receives (tagged (codes "ack") 7) 3 3) (pongs (entry (codes "ack") 7 2 ∷ [])) count_plan ≡ 17
one_more = simp working

-- `some ('ack', t) from =leader in received`; slot 1 is leader

abbrev leader_plan : List Node
leader_plan = node.Root ∷ node.Gen 0 (over (codes "ack") (Equal (term.Slot 1))) ∷ node.Semi 0 1 ∷ []

abbrev led : Data
led = record {
  me = 1;
  slots = val.Proc 2 ∷ [];
  sent = [];
  received = entry (codes "ack") 7 2 ∷ entry (codes "ack") 8 2 ∷ entry (codes "ack") 9 3 ∷ [];
  clock = 0;
}

-- Another leader: two rows of node 1 leave and one comes. Beside these it reads the row of its parent, its own two old rows,
-- and one live row. 8 and 4.
other_leader : work (Assigns 1 (val.Proc 3)) led leader_plan ≡ 12
other_leader = simp working
