-- A number of a node, by which most nodes are told apart before they are compared.
use Rattle.std.specs.Prelude.{ℕ, ◌+◌, ◌*◌, ◌%◌, ◌^◌, List, [], ◌∷◌, get_or}
use Rattle.da_lang.specs.declared.query.Node.{Node}
use Rattle.query_plan.specs.PlanText.{node_text}

-- of a text, byte after byte
abbrev pub print_step : ℕ → ℕ → ℕ
print_step print byte = (31 * print + byte) % 2 ^ 32

abbrev pub print_from : ℕ → List ℕ → ℕ
print_from print [] = print
print_from print (byte ∷ bytes) = print_from (print_step print byte) bytes

-- that of a node is that of its text, where no widths are known
abbrev pub node_print : Node → ℕ
node_print n = print_from 0 (node_text (λ i. get_or {A = ℕ} [] i 0) n)
