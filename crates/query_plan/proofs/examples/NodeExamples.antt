-- The rows of a node of each kind.
use Rattle.std.specs.Prelude.{◌≡◌, ℕ, pos, List, [], ◌∷◌, Some, None, codes, refl}
use Rattle.da_values.specs.declared.val.Val.{Val}
use Rattle.da_values.specs.declared.val.Val.TheVariants as val
use Rattle.da_values.specs.declared.value.Value.TheVariants as literal
use Rattle.da_lang.specs.declared.query.AggOp.TheVariants.{Count, Sum, Min}
use Rattle.da_lang.specs.declared.query.Cond.TheVariants as cond
use Rattle.da_lang.specs.declared.query.Node.{Node}
use Rattle.da_lang.specs.declared.query.Node.TheVariants as node
use Rattle.da_lang.specs.declared.query.Operand.TheVariants as operand
use Rattle.da_lang.specs.declared.query.Pattern.TheVariants.{Any, Bind, Const, Tuple}
use Rattle.da_lang.specs.declared.query.RGen.{RGen}
use Rattle.da_lang.specs.declared.query.Source.TheVariants as source
use Rattle.da_lang.specs.declared.query.Term.{Term}
use Rattle.da_lang.specs.declared.query.Term.TheVariants as term
use Rattle.da_lang.specs.declared.tree.CmpOp.TheVariants.{Eq}
use Rattle.da_lang.specs.World.{Data}
use Rattle.da_lang.proofs.QueryLaws.{asking}
use Rattle.query_plan.specs.Nodes.{node_rows, width_of}
use Rattle.query_plan.proofs.WidthLaws.{binding}

abbrev num : ℕ → Val
num n = val.Int (pos n)

abbrev element : ℕ → RGen
element s = record { source = source.Slot s; message = Bind; peer = Any }

abbrev part : ℕ → Term
part k = term.Part k

-- slot 1 holds 1 and 2, slot 2 holds 2 and 3; process 3 sent ('a', 7), and process 2 sent ('a', 7) and ('b', 8)
abbrev message : List ℕ → ℕ → Val
message tag n = val.Tuple (val.Text tag ∷ num n ∷ [])

abbrev world : Data
world = record {
  me = 1;
  slots = val.Set (num 1 ∷ num 2 ∷ []) ∷ val.Set (num 2 ∷ num 3 ∷ []) ∷ [];
  sent = [];
  received =
      record { message = message (codes "a") 7; peer = 3; time = 1 }
      ∷ record { message = message (codes "b") 8; peer = 2; time = 1 }
      ∷ record { message = message (codes "a") 7; peer = 2; time = 2 }
      ∷ [];
  clock = 2;
}

abbrev nodes : List Node
nodes =
    node.Root
    ∷ node.Gen 0 (element 1)
    ∷ node.Gen 1 (element 2)
    ∷ node.Filter 2 (cond.Cmp Eq (operand.Term (part 1)) (operand.Term (part 2)))
    ∷ node.Semi 1 3
    ∷ node.Anti 1 3
    ∷ node.Union 5 4
    ∷ node.AggBind 1 3 Count (part 2) None
    ∷ node.AggBind 0 1 Sum (part 1) None
    ∷ node.AggBind 1 3 Min (part 2) (Some (part 1))
    ∷ node.Gen 0 (record { source = source.Received; message = Tuple (Const (literal.Text (codes "a")) ∷ Bind ∷ []); peer = Bind })
    ∷ []

of_root : node_rows world nodes 0 ≡ [] ∷ []
of_root = refl

of_gen : node_rows world nodes 1 ≡ (num 1 ∷ []) ∷ (num 2 ∷ []) ∷ []
of_gen = simp asking

of_second_gen : node_rows world nodes 2 ≡ (num 1 ∷ num 2 ∷ []) ∷ (num 1 ∷ num 3 ∷ []) ∷ (num 2 ∷ num 2 ∷ []) ∷ (num 2 ∷ num 3 ∷ []) ∷ []
of_second_gen = simp asking

of_filter : node_rows world nodes 3 ≡ (num 2 ∷ num 2 ∷ []) ∷ []
of_filter = simp asking

of_semi : node_rows world nodes 4 ≡ (num 2 ∷ []) ∷ []
of_semi = simp asking

of_anti : node_rows world nodes 5 ≡ (num 1 ∷ []) ∷ []
of_anti = simp asking

of_union : node_rows world nodes 6 ≡ (num 1 ∷ []) ∷ (num 2 ∷ []) ∷ []
of_union = simp asking

of_count : node_rows world nodes 7 ≡ (num 1 ∷ num 0 ∷ []) ∷ (num 2 ∷ num 1 ∷ []) ∷ []
of_count = simp asking

of_sum : node_rows world nodes 8 ≡ (num 3 ∷ []) ∷ []
of_sum = simp asking

-- the other value is that of the row
of_min : node_rows world nodes 9 ≡ (num 1 ∷ num 1 ∷ []) ∷ (num 2 ∷ num 2 ∷ []) ∷ []
of_min = simp asking

of_history : node_rows world nodes 10 ≡ (num 7 ∷ val.Proc 2 ∷ []) ∷ (num 7 ∷ val.Proc 3 ∷ []) ∷ []
of_history = simp asking

-- there is no further node
of_none : node_rows world nodes 11 ≡ []
of_none = refl

wide : width_of nodes 9 ≡ 2
wide = simp binding
